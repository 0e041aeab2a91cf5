-- The lines of a session that were done, as a script.
use Rattle.std.proofs.Common.{◌≡◌, ◌≢◌, ◌==◌, ◌≤◌, ℕ, ◌+◌, Bool, true, false, cond, List, [], ◌∷◌, ◌++◌, length, refl, sym, ap, ◌∙◌, subst, arith, append-nil, append_assoc, length-append, Option}
use Rattle.std.proofs.Common.{Some, None, Result, Ok, Err, drop, nat_lt, All, if◌then◌else◌, Global}
use Rattle.std.specs.Io.KnownBytes.{Appends}
use Rattle.std.specs.List.{join_with_byte}
use Rattle.std.proofs.lemmas.Bool.{false≢true}
use Rattle.std.proofs.lemmas.Bool.Decides.{nat_tests}
use Rattle.std.proofs.lemmas.List.Elements.{All-cons, All-head, All-nil, All-tail}
use Rattle.hv_asm.specs.Line.{line_of}
use Rattle.hv_asm.specs.declared.fault.AsmFault.{AsmFault}
use Rattle.hv_history.specs.Kept.{IsRun}
use Rattle.hv_history.specs.declared.entry.Entry.{Entry}
use Rattle.hv_phases.proofs.PhasedHistories.{in_order_phased}
use Rattle.hv_phases.specs.Lines.{AreInOrder}
use Rattle.hv_run.specs.Written.{HasWritten}
use Rattle.hv_script.specs.Line.{◌>>=◌}
use Rattle.hv_script.specs.Script.{SoFar, at_line, read_line, read_lines, said_by, script_of}
use Rattle.hv_script.specs.Words.{lines_of, words_of}
use Rattle.hv_script.specs.declared.boot.Boot.{Boot as BootLine}
use Rattle.hv_script.specs.declared.fault.FaultKind.{FaultKind}
use Rattle.hv_script.specs.declared.fault.FaultKind.TheVariants.{Long, Count}
use Rattle.hv_script.specs.declared.fault.ScriptFault.{ScriptFault}
use Rattle.hv_script.specs.declared.line.Line.{Line}
use Rattle.hv_script.specs.declared.script.TheConstants.{MOST_BYTES}
use Rattle.hv_text.specs.Audit.{audit_text, entries_text}
use Rattle.hv_serve.proofs.Lines.{IsOne, split_joined}
use Rattle.hv_phases.proofs.PhasedHistories.{order-append, order_run}
use Rattle.hv_serve.proofs.Texts.{audited, drop_front, entries-append}
use Rattle.hv_serve.specs.Law.{IsServed, done_in, is_done, plain_in, script_in, told_in}
use Rattle.hv_serve.proofs.Named.{plain_one}
use Rattle.hv_serve.specs.Meant.{Asks, Explains, Helps, Meant, Peeks, Reads, if_meant, meaning, meant, meant_as, meant_by, plain_of, request_by, request_line}
use Rattle.hv_serve.specs.Peek.{peek_of}
use Rattle.hv_serve.specs.Session.{AreTurns, Becomes, HasCome, HasDone, IsBooted, IsTurn, Served, Turn, answer_of, answers_in, end_text, history_of, kept_of, new_text, read_of}
use Rattle.hv_serve.specs.declared.form.Form.TheVariants.{Text}
use Rattle.hv_serve.specs.declared.outcome.Outcome.{Outcome}
use Rattle.hv_serve.specs.declared.outcome.Outcome.TheVariants.{Done, Table, Peek, Explain, Help, Fault, Named, Boot, Host}
use Rattle.hv_serve.specs.declared.peek.Peek.{Peek as Looking}
use Rattle.hv_serve.specs.declared.request.Request.{Request}
use Rattle.hv_serve.specs.declared.request.Request.TheVariants as request

-- a line that is read is read as one of a script
same_reads : {X : Type 0} (a b : Option (SoFar Global)) → ◌≡◌ {A = Result Meant X} (Ok (Reads a)) (Ok (Reads b)) → a ≡ b
same_reads a b same = cc

no_help : (t : Bool) (after : Option (SoFar Global)) → cond t (Ok Helps) (Err Count) ≢ Ok (Reads after)
no_help true after = λ same. cc
no_help false after = λ same. cc

-- and what asks for something isn't
no_request : (request : Request) (before after : Option (SoFar Global)) (words : List (List ℕ)) → request_line request before words ≢ Ok (Reads after)
no_request request.Table None after words = λ same. cc
no_request request.Peek None after words = λ same. cc
no_request request.Explain None after words = λ same. cc
no_request request.Help None after words = no_help (length words == 1) after
no_request request.Help (Some so_far) after words = no_help (length words == 1) after
no_request request.Table (Some so_far) after words = at (length words == 1)
  where
    at : (t : Bool) → cond t (Ok Asks) (Err Count) ≢ Ok (Reads after)
    at true = λ same. cc
    at false = λ same. cc
no_request request.Peek (Some so_far) after words = at (peek_of words)
  where
    at : (r : Result Looking FaultKind) → r >>= (λ peek. Ok (Peeks peek)) ≢ Ok (Reads after)
    at (Ok peek) = λ same. cc
    at (Err kind) = λ same. cc
no_request request.Explain (Some so_far) after words = at (length words == 1)
  where
    at : (t : Bool) → cond t (Ok Explains) (Err Count) ≢ Ok (Reads after)
    at true = λ same. cc
    at false = λ same. cc

by_reading : (read : Result (Option (SoFar Global)) FaultKind) (after : Option (SoFar Global)) → read >>= (λ after. Ok (Reads after)) ≡ Ok (Reads after) → read ≡ Ok after
by_reading (Ok value) after same = ap Ok (same_reads value after same)
by_reading (Err kind) after same = absurd (cc)

by_request : (request : Option Request) (before after : Option (SoFar Global)) (line : List ℕ) → meaning request before line ≡ Ok (Reads after) → read_line before line ≡ Ok after
by_request (Some request) before after line same = absurd (no_request request before after (words_of line) same)
by_request None before after line same = by_reading (read_line before line) after same

by_length : (t : Bool) (request : Option Request) (before after : Option (SoFar Global)) (line : List ℕ) → cond t (Err Long) (meaning request before line) ≡ Ok (Reads after)
    → read_line before line ≡ Ok after
by_length true request before after line same = absurd (cc)
by_length false request before after line same = by_request request before after line same

pub reads_line : (before after : Option (SoFar Global)) (line : List ℕ) → meant before line ≡ Ok (Reads after) → read_line before line ≡ Ok after
unfolding meant
reads_line before after line same = by_length (nat_lt MOST_BYTES (length line)) (request_by line) before after line same

-- as is the line that a line by names means
reads_named : (t : Bool) (before after : Option (SoFar Global)) (line : List ℕ) (plain : Result (List ℕ) AsmFault) → cond t (Err Long) (meant_as before plain) ≡ Ok (Reads after)
    → read_line before (if_meant line plain) ≡ Ok after
reads_named true before after line plain same = absurd (cc)
reads_named false before after line (Ok plain) same = reads_line before after plain same
reads_named false before after line (Err fault) same = absurd (cc)

reads_plain : (names : Bool) (before after : Option (SoFar Global)) (line : List ℕ) → meant_by names before line ≡ Ok (Reads after) → read_line before (plain_of names line) ≡ Ok after
reads_plain false before after line same = reads_line before after line same
reads_plain true before after line same = reads_named (nat_lt MOST_BYTES (length line)) before after line (line_of line) same

-- the machine is a run, if there is one
abbrev pub IsRunOf : Option Served → Type 0
IsRunOf None = Unit {0}
IsRunOf (Some now) = IsRun now.kept

pub done-nothing : (now : Served) → IsRun now.kept → HasDone now now
done-nothing now run = record {
  lines = [];
  own = [];
  read = sym (append-nil now.read.lines);
  history = sym (append-nil now.kept.history);
  order = refl;
  boot = refl;
  config = refl;
  limit = refl;
  run = run;
}

done-then : (a b c : Served) → HasDone a b → HasDone b c → HasDone a c
done-then a b c p q =
    let at : length b.kept.history + 1 ≡ (length a.kept.history + 1) + length p.own = omega (arith, ap length p.history, length-append a.kept.history p.own) in
    record {
      lines = p.lines ++ q.lines;
      own = p.own ++ q.own;
      read = q.read ∙ ap (λ (l : List (Line Global)). l ++ q.lines) p.read ∙ append_assoc a.read.lines p.lines q.lines;
      history = q.history ∙ ap (λ (l : List (Entry Global)). l ++ q.own) p.history ∙ append_assoc a.kept.history p.own q.own;
      order = order-append (length a.kept.history + 1) p.lines q.lines p.own q.own p.order (subst (λ (k : ℕ). AreInOrder k q.lines q.own) at q.order);
      boot = q.boot ∙ p.boot;
      config = q.config ∙ p.config;
      limit = q.limit ∙ p.limit;
      run = q.run;
    }

-- a machine that is booted from what was read, to which happened what the lines ask for, in their order
record IsSerial (now : Served) : Type 0 where
  config : now.kept.config ≡ now.read.boot.config
  limit : now.kept.limit ≡ now.read.boot.limit
  order : AreInOrder 1 now.read.lines now.kept.history
  run : IsRun now.kept

begun : (b c : Served) → IsBooted b → HasDone b c → IsSerial c
begun b c booted done =
    let lines : c.read.lines ≡ done.lines = done.read ∙ ap (λ (l : List (Line Global)). l ++ done.lines) booted.lines in
    let own : c.kept.history ≡ done.own = done.history ∙ ap (λ (l : List (Entry Global)). l ++ done.own) booted.history in
    let at : length b.kept.history + 1 ≡ 1 = omega (arith, ap length booted.history) in
    record {
      config = done.config ∙ booted.config ∙ ap (λ (boot : BootLine). boot.config) (sym done.boot);
      limit = done.limit ∙ booted.limit ∙ ap (λ (boot : BootLine). boot.limit) (sym done.boot);
      order = subst (λ (es : List (Entry Global)). AreInOrder 1 c.read.lines es) (sym own)
          (subst (λ (ls : List (Line Global)). AreInOrder 1 ls done.own) (sym lines) (subst (λ (k : ℕ). AreInOrder k done.lines done.own) at done.order));
      run = done.run;
    }

abbrev Reached : Option Served → Option Served → Type 0
Reached None None = Unit {0}
Reached None (Some now) = IsSerial now
Reached (Some old) None = ⊥
Reached (Some old) (Some new) = HasDone old new

reached-nothing : (now : Option Served) → IsRunOf now → Reached now now
reached-nothing None run = tt
reached-nothing (Some now) run = done-nothing now run

come-then : (a b c : Option Served) → HasCome a b → Reached b c → Reached a c
come-then None None c come reached = reached
come-then None (Some b) None come reached = absurd reached
come-then None (Some b) (Some c) come reached = begun b c come reached
come-then (Some a) None c come reached = absurd come
come-then (Some a) (Some b) None come reached = absurd reached
come-then (Some a) (Some b) (Some c) come reached = done-then a b c come reached

pub run_of_come : (a b : Option Served) → HasCome a b → IsRunOf b
run_of_come None None come = tt
run_of_come None (Some b) come = come.run
run_of_come (Some a) None come = absurd come
run_of_come (Some a) (Some b) come = come.run

pub grown_by : (a b : Option Served) → HasCome a b → (own : List (Entry Global)) × (history_of (kept_of b) ≡ history_of (kept_of a) ++ own)
grown_by None None come = ([], refl)
grown_by None (Some b) come = ([], come.history)
grown_by (Some a) None come = absurd come
grown_by (Some a) (Some b) come = (come.own, come.history)

-- only a line that is done is counted so
is_that : (outcome : Outcome) → is_done outcome ≡ true → outcome ≡ Done
is_that Done is = refl
is_that Table is = absurd (false≢true is)
is_that (Peek peek) is = absurd (false≢true is)
is_that Explain is = absurd (false≢true is)
is_that Help is = absurd (false≢true is)
is_that (Fault kind) is = absurd (false≢true is)
is_that (Named fault) is = absurd (false≢true is)
is_that (Boot why) is = absurd (false≢true is)
is_that (Host why) is = absurd (false≢true is)

-- any other changes nothing
unchanged : (before mid : Option Served) (says : Result Meant FaultKind) (outcome : Outcome) → Becomes before says outcome mid → IsServed outcome → is_done outcome ≡ false → mid ≡ before
unchanged before mid says Done becomes served is = absurd (false≢true (sym is))
unchanged before mid says Table becomes served is = becomes.1
unchanged before mid says (Peek peek) becomes served is = becomes.1
unchanged before mid says Explain becomes served is = becomes.1
unchanged before mid says Help becomes served is = becomes.1
unchanged before mid says (Fault kind) becomes served is = becomes.1
unchanged before mid says (Named fault) becomes served is = becomes.1
unchanged before mid says (Boot why) becomes served is = becomes.1
unchanged before mid says (Host why) becomes served is = absurd served

-- the lines of these turns, one after the other, are read as a script's, and did what they ask for
record Comes (names : Bool) (before : Option Served) (done : List Turn) (after : Option Served) : Type 0 where
  read : (number : ℕ) → read_lines number (read_of before) (plain_in names done) ≡ Ok (read_of after)
  reached : Reached before after
  own : List (Entry Global)
  grown : history_of (kept_of after) ≡ history_of (kept_of before) ++ own
  told : answers_in done ≡ entries_text (length (history_of (kept_of before)) + 1) own

comes-nothing : (names : Bool) (now : Option Served) → IsRunOf now → Comes names now [] now
comes-nothing names now run = record {
  read = λ n. refl;
  reached = reached-nothing now run;
  own = [];
  grown = sym (append-nil (history_of (kept_of now)));
  told = refl;
}

shape : (t : Bool) (turn : Turn) (rest : List Turn) → is_done turn.outcome ≡ t → (if is_done turn.outcome then turn ∷ rest else rest) ≡ (if t then turn ∷ rest else rest)
shape t turn rest same = ap (λ (b : Bool). if b then turn ∷ rest else rest) same

-- the answer of a line that is done is the audit's lines of what it adds
answer_is : (number : ℕ) (before mid : Option Served) (turn : Turn) (own : List (Entry Global)) → turn.answer ≡ answer_of Text number (length (history_of (kept_of before))) turn.outcome
    (kept_of mid) turn.objects turn.words
    →
    turn.outcome ≡ Done
    → history_of (kept_of mid) ≡ history_of (kept_of before) ++ own → turn.answer ≡ entries_text (length (history_of (kept_of before)) + 1) own
answer_is number before mid turn own answer done grown =
    let k = length (history_of (kept_of before)) in
    answer ∙ ap (λ (o : Outcome). answer_of Text number k o (kept_of mid) turn.objects turn.words) done ∙ append-nil (new_text k (kept_of mid))
    ∙ ap (entries_text (k + 1)) (ap (drop k) grown ∙ drop_front (history_of (kept_of before)) own)

comes-then : (names : Bool) (number : ℕ) (before mid after : Option Served) (turn : Turn) (rest : List Turn) → IsTurn Text names number before turn mid → turn.outcome ≡ Done
    → Comes names mid rest after → Comes names before (turn ∷ rest) after
comes-then names number before mid after turn rest is done more =
    let becomes : Becomes before (meant_by names (read_of before) turn.line) Done mid = subst (λ (o : Outcome). Becomes before (meant_by names (read_of before) turn.line) o mid) done
    is.becomes in
    let grown = grown_by before mid becomes.1 in
    let first : turn.answer ≡ entries_text (length (history_of (kept_of before)) + 1) grown.0 = answer_is number before mid turn grown.0 is.answer done grown.1 in
    let at : length (history_of (kept_of mid)) + 1 ≡ (length (history_of (kept_of before)) + 1) + length grown.0 = omega (arith, ap length grown.1, length-append (history_of (kept_of before)) grown.0)
    in
    record {
      read = λ n. ap (λ (r : Result (Option (SoFar Global)) FaultKind). at_line n r >>= (λ after. read_lines (n + 1) after (plain_in names rest)))
          (reads_plain names (read_of before) (read_of mid) turn.line becomes.0)
          ∙ more.read (n + 1);
      reached = come-then before mid after becomes.1 more.reached;
      own = grown.0 ++ more.own;
      grown = more.grown ∙ ap (λ (l : List (Entry Global)). l ++ more.own) grown.1 ∙ append_assoc (history_of (kept_of before)) grown.0 more.own;
      told = ap (λ (t : List ℕ). t ++ answers_in rest) first
          ∙ ap (λ (t : List ℕ). entries_text (length (history_of (kept_of before)) + 1) grown.0 ++ t) (more.told ∙ ap (λ (k : ℕ). entries_text k more.own) at)
          ∙ sym (entries-append (length (history_of (kept_of before)) + 1) grown.0 more.own);
    }

abbrev WasServed : Turn → Type 0
WasServed turn = IsServed turn.outcome

comes : (names : Bool) (number : ℕ) (before : Option Served) (turns : List Turn) (after : Option Served) → IsRunOf before → AreTurns Text names number before turns after → All WasServed turns
    → Comes names before (done_in turns) after
comes names number before [] after run none all = subst (Comes names before []) (sym none) (comes-nothing names before run)
comes names number before (turn ∷ turns) after run some all =
    choose (is_done turn.outcome) refl (λ ran. comes names (number + 1) some.0 turns after ran some.2 (All-tail WasServed turn turns all))
  where
    choose : (t : Bool) → is_done turn.outcome ≡ t → (IsRunOf some.0 → Comes names some.0 (done_in turns) after) → Comes names before (done_in (turn ∷ turns)) after
    choose true same later =
        let done = is_that turn.outcome same in
        let becomes : Becomes before (meant_by names (read_of before) turn.line) Done some.0 = subst (λ (o : Outcome). Becomes before (meant_by names (read_of before) turn.line) o some.0)
        done some.1.becomes in
        subst (λ (d : List Turn). Comes names before d after) (sym (shape true turn (done_in turns) same))
        (comes-then names number before some.0 after turn (done_in turns) some.1 done (later (run_of_come before some.0 becomes.1)))
    choose false same later =
        let still : some.0 ≡ before = unchanged before some.0 (meant_by names (read_of before) turn.line) turn.outcome some.1.becomes (All-head WasServed turn turns all) same in
        subst (λ (d : List Turn). Comes names before d after) (sym (shape false turn (done_in turns) same))
        (subst (λ (b : Option Served). Comes names b (done_in turns) after) still (later (subst IsRunOf (sym still) run)))

all_if : (names t : Bool) (turn : Turn) (rest : List Turn) → IsOne turn.line → All IsOne (plain_in names rest) → All IsOne (plain_in names (if t then turn ∷ rest else rest))
all_if names true turn rest one ones = All-cons IsOne (plain_of names turn.line) (plain_in names rest) (plain_one names turn.line one) ones
all_if names false turn rest one ones = ones

ones : (names : Bool) (number : ℕ) (before : Option Served) (turns : List Turn) (after : Option Served) → AreTurns Text names number before turns after → All IsOne (plain_in names (done_in turns))
ones names number before [] after none = All-nil IsOne
ones names number before (turn ∷ turns) after some =
    all_if names (is_done turn.outcome) turn (done_in turns) some.1.one (ones names (number + 1) some.0 turns after some.2)

-- a script that boots has lines, which are cut out of it
cut_out : (lines : List (List ℕ)) (read : SoFar Global) → All IsOne lines → read_lines 1 None lines ≡ Ok (Some read) → lines_of (join_with_byte 10 lines) ≡ lines
cut_out [] read all same = absurd (cc)
cut_out (line ∷ lines) read all same = split_joined line lines all

not_long : (n : ℕ) → n ≤ MOST_BYTES → nat_lt MOST_BYTES n ≡ false
not_long n most = grind (arith, nat_tests)

scripted : (text : List ℕ) (lines : List (List ℕ)) (read : SoFar Global) → length text ≤ MOST_BYTES → lines_of text ≡ lines → read_lines 1 None lines ≡ Ok (Some read)
    → script_of text ≡ Ok (record { config = read.boot.config; limit = read.boot.limit; lines = read.lines })
unfolding script_of
scripted text lines read most cut same =
    ap (λ (t : Bool). if t then Err (record { line = 0; kind = Long }) else (read_lines 1 None (lines_of text) >>= (λ (r : Option (SoFar Global)). said_by r))) (not_long (length text) most)
    ∙ ap (λ (ls : List (List ℕ)). read_lines 1 None ls >>= (λ (r : Option (SoFar Global)). said_by r)) cut
    ∙ ap (λ (r : Result (Option (SoFar Global)) ScriptFault). r >>= (λ (r : Option (SoFar Global)). said_by r)) same

-- the lines that were done are a script, and what they were answered is its audit
pub serial : (names : Bool) (turns : List Turn) (now : Served) → AreTurns Text names 1 None turns (Some now) → All WasServed turns → length (script_in names turns) ≤ MOST_BYTES
    → (old new : Option (List ℕ)) → Appends old new (told_in turns ++ end_text (length now.kept.history)) → HasWritten (script_in names turns) true false old new
serial names turns now are served most old new told =
    let all = comes names 1 None turns (Some now) tt are served in
    let lines = plain_in names (done_in turns) in
    let read = all.read 1 in
    let is = all.reached in
    let cut = cut_out lines now.read (ones names 1 None turns (Some now) are) read in
    let text : told_in turns ++ end_text (length now.kept.history) ≡ audit_text now.kept.history ++ [] =
    ap (λ (t : List ℕ). t ++ end_text (length now.kept.history)) (all.told ∙ ap (entries_text 1) (sym all.grown)) ∙ audited now.kept.history ∙ sym (append-nil (audit_text now.kept.history)) in
    record {
      said = record { config = now.read.boot.config; limit = now.read.boot.limit; lines = now.read.lines };
      is = scripted (script_in names turns) lines now.read most cut read;
      kept = now.kept;
      run = is.run;
      config = is.config;
      limit = is.limit;
      lines = order_run 1 now.read.lines now.kept.history is.order;
      phases = in_order_phased now.read.lines now.kept.history is.order;
      order = λ _. is.order;
      told = subst (Appends old new) text told;
    }

abbrev WasDone : Turn → Type 0
WasDone turn = is_done turn.outcome ≡ true

all_done : (turns : List Turn) → All WasDone turns → done_in turns ≡ turns
all_done [] all = refl
all_done (turn ∷ turns) all =
    shape true turn (done_in turns) (All-head WasDone turn turns all) ∙ ap (λ (l : List Turn). turn ∷ l) (all_done turns (All-tail WasDone turn turns all))

served_if : (outcome : Outcome) → is_done outcome ≡ true → IsServed outcome
served_if Done is = tt
served_if Table is = tt
served_if (Peek peek) is = tt
served_if Explain is = tt
served_if Help is = tt
served_if (Fault kind) is = tt
served_if (Named fault) is = tt
served_if (Boot why) is = tt
served_if (Host why) is = absurd (false≢true is)

all_served : (turns : List Turn) → All WasDone turns → All WasServed turns
all_served [] all = All-nil WasServed
all_served (turn ∷ turns) all =
    All-cons WasServed turn turns (served_if turn.outcome (All-head WasDone turn turns all)) (all_served turns (All-tail WasDone turn turns all))

-- all that was written is, where all lines were done
pub whole : (names : Bool) (text : List ℕ) (turns : List Turn) (now : Served) → AreTurns Text names 1 None turns (Some now) → All WasDone turns → length text ≤ MOST_BYTES
    → text ≡ join_with_byte 10 (plain_in names turns)
    → (old new : Option (List ℕ)) → Appends old new (answers_in turns ++ end_text (length now.kept.history)) → HasWritten text true false old new
whole names text turns now are all most is old new told =
    let same = all_done turns all in
    let script : script_in names turns ≡ text = ap (λ (d : List Turn). join_with_byte 10 (plain_in names d)) same ∙ sym is in
    let answers : answers_in turns ++ end_text (length now.kept.history) ≡ told_in turns ++ end_text (length now.kept.history) =
    ap (λ (d : List Turn). answers_in d ++ end_text (length now.kept.history)) (sym same) in
    subst (λ (t : List ℕ). HasWritten t true false old new) script
    (serial names turns now are (all_served turns all) (subst (λ (t : List ℕ). length t ≤ MOST_BYTES) (sym script) most) old new (subst (Appends old new) answers told))
