-- A session as it goes from line to line.
use Rattle.std.proofs.Common.{◌≡◌, ◌==◌, ℕ, ◌+◌, List, [], ◌∷◌, ◌++◌, length, refl, sym, ap, ◌∙◌, subst, arith, append-nil, append_assoc, length-append, Bool, true, false, if◌then◌else◌, Option, None}
use Rattle.std.proofs.Common.{Some, IfSome, inl, inr}
use Rattle.std.specs.Io.KnownBytes.{Appends, Consumes, IsAtEnd, Keeps}
use Rattle.std.specs.List.{join_with_byte}
use Rattle.std.proofs.KnownBytes.{Appends-kept, Appends-nil, Appends-trans, Consumes-nil, Consumes-trans, Consumes-whole}
use Rattle.hv_serve.specs.Bench.{kept_in}
use Rattle.hv_run.specs.Failure.{exit_of}
use Rattle.hv_run.specs.Written.{HasPart}
use Rattle.hv_run.specs.declared.failure.Exit.{Exit}
use Rattle.hv_run.specs.declared.failure.Exit.TheVariants.{Host}
use Rattle.hv_run.specs.declared.failure.Failure.{Failure}
use Rattle.hv_serve.specs.Input.{HasEnded}
use Rattle.hv_serve.specs.Session.{AreTurns, HasServed, HasServedPart, IsTurn, Served, Turn, answered, answers_in, end_text, greeting, history_of, kept_of, lines_in, told_by}
use Rattle.hv_serve.specs.Json.{end_object, greeting_text}
use Rattle.hv_serve.specs.Turned.{HasFailed, HasTurned, IsServing, closed, closing, is_silent}
use Rattle.hv_serve.specs.declared.bench.Bench.{Bench}
use Rattle.hv_serve.specs.declared.form.Form.{Form}
use Rattle.hv_serve.specs.declared.form.Form.TheVariants.{Text, Json}
use Rattle.hv_serve.proofs.LineOutcomes.{same_kept}
use Rattle.hv_run.proofs.Parts.{part_after, part_before, part_whole}
use Rattle.hv_serve.proofs.WrittenParts.{three}

turns-push : (form : Form) (names : Bool) (number : ℕ) (before : Option Served) (turns : List Turn) (mid : Option Served) (turn : Turn) (after : Option Served)
    → AreTurns form names number before turns mid
    → IsTurn form names (number + length turns)
    mid turn after
    → AreTurns form names number before (turns ++ turn ∷ []) after
turns-push form names number before [] mid turn after none is =
    let at : number + 0 ≡ number = omega arith in
    (after, subst (λ (m : Option Served). IsTurn form names number m turn after) none (subst (λ (n : ℕ). IsTurn form names n mid turn after) at is), refl)
turns-push form names number before (t ∷ turns) mid turn after some is =
    let at : number + length (t ∷ turns) ≡ (number + 1) + length turns = omega arith in
    (some.0, some.1, turns-push form names (number + 1) some.0 turns mid turn after some.2 (subst (λ (n : ℕ). IsTurn form names n mid turn after) at is))

answers-push : (turns : List Turn) (turn : Turn) → answers_in (turns ++ turn ∷ []) ≡ answers_in turns ++ turn.answer
answers-push [] turn = append-nil turn.answer
answers-push (t ∷ turns) turn = ap (λ (l : List ℕ). t.answer ++ l) (answers-push turns turn) ∙ sym (append_assoc t.answer (answers_in turns) turn.answer)

closed-push : (turns : List Turn) (turn : Turn) → closed (turns ++ turn ∷ []) ≡ closed turns ++ (turn.line ++ 10 ∷ [])
closed-push [] turn = append-nil (turn.line ++ 10 ∷ [])
closed-push (t ∷ turns) turn =
    ap (λ (l : List ℕ). (t.line ++ 10 ∷ []) ++ l) (closed-push turns turn) ∙ sym (append_assoc (t.line ++ 10 ∷ []) (closed turns) (turn.line ++ 10 ∷ []))

-- the lines with their line feeds, and behind them what the last one of a text has
joined_rest : (turns : List Turn) (rest : List ℕ) → join_with_byte 10 (lines_in turns ++ rest ∷ []) ≡ closed turns ++ rest
joined_rest [] rest = refl
joined_rest (t ∷ []) rest = sym (append_assoc t.line (10 ∷ []) rest) ∙ ap (λ (l : List ℕ). l ++ rest) (sym (append-nil (t.line ++ 10 ∷ [])))
joined_rest (t ∷ s ∷ turns) rest =
    sym (append_assoc t.line (10 ∷ []) (join_with_byte 10 (lines_in (s ∷ turns) ++ rest ∷ [])))
    ∙ ap (λ (l : List ℕ). (t.line ++ 10 ∷ []) ++ l) (joined_rest (s ∷ turns) rest)
    ∙ sym (append_assoc (t.line ++ 10 ∷ []) (closed (s ∷ turns)) rest)

lines-push : (turns : List Turn) (turn : Turn) → lines_in (turns ++ turn ∷ []) ≡ lines_in turns ++ turn.line ∷ []
lines-push [] turn = refl
lines-push (t ∷ turns) turn = ap (λ (ls : List (List ℕ)). t.line ∷ ls) (lines-push turns turn)

joined : (turns : List Turn) (turn : Turn) → join_with_byte 10 (lines_in (turns ++ turn ∷ [])) ≡ closed turns ++ turn.line
joined turns turn = ap (join_with_byte 10) (lines-push turns turn) ∙ joined_rest turns turn.line

-- what is left of an input, and that it is one more line of it, or some
abbrev rest_of : Option (List ℕ) → List ℕ
rest_of None = []
rest_of (Some rest) = rest

begins_by : (turns : List Turn) (input mid : Option (List ℕ)) → Consumes input mid (closed turns)
    → IfSome input (λ text. text ≡ join_with_byte 10 (lines_in turns ++ rest_of mid ∷ []))
begins_by turns None mid taken = tt
begins_by turns (Some text) None taken = absurd taken
begins_by turns (Some text) (Some rest) taken = taken ∙ sym (joined_rest turns rest)

-- all of it was read
begins_all : (turns : List Turn) (turn : Turn) (input mid rest : Option (List ℕ)) → Consumes input mid (closed turns) → Consumes mid rest turn.line → IsAtEnd rest
    → IfSome input (λ text. text ≡ join_with_byte 10 (lines_in (turns ++ turn ∷ [])))
begins_all turns turn input mid rest taken line ended =
    let all : Consumes input rest (join_with_byte 10 (lines_in (turns ++ turn ∷ []))) =
    subst (Consumes input rest) (sym (joined turns turn)) (Consumes-trans input mid rest (closed turns) turn.line taken line) in
    Consumes-whole input rest (join_with_byte 10 (lines_in (turns ++ turn ∷ []))) (λ text. text ≡ join_with_byte 10 (lines_in (turns ++ turn ∷ []))) all ended refl

-- and no line follows
begins_none : (turns : List Turn) (input : Option (List ℕ)) → IfSome input (λ text. text ≡ join_with_byte 10 (lines_in turns))
    → IfSome input (λ text. text ≡ join_with_byte 10 (lines_in turns ++ []))
begins_none turns input is = subst (λ (ls : List (List ℕ)). IfSome input (λ text. text ≡ join_with_byte 10 ls)) (sym (append-nil (lines_in turns))) is

-- the answers in JSON, where the last line has none if it is empty
answered-push : (turns : List Turn) (turn : Turn) → answers_in (answered (turns ++ turn ∷ [])) ≡ answers_in turns ++ (if is_silent Json true turn.line then [] else turn.answer)
answered-push [] turn = pick (length turn.line == 0)
  where
    pick : (t : Bool) → answers_in (if t then [] else turn ∷ []) ≡ (if t then [] else turn.answer)
    pick true = refl
    pick false = append-nil turn.answer
answered-push (t ∷ []) turn =
    let last : List ℕ = if is_silent Json true turn.line then [] else turn.answer in
    ap (λ (l : List ℕ). t.answer ++ l) (answered-push [] turn) ∙ sym (append_assoc t.answer [] last)
answered-push (t ∷ s ∷ turns) turn =
    let last : List ℕ = if is_silent Json true turn.line then [] else turn.answer in
    ap (λ (l : List ℕ). t.answer ++ l) (answered-push (s ∷ turns) turn) ∙ sym (append_assoc t.answer (answers_in (s ∷ turns)) last)

-- what all lines are told
all_told : (form : Form) (turns : List Turn) (turn : Turn) (count : ℕ)
    → told_by form (turns ++ turn ∷ []) count ≡ greeting form ++ (answers_in turns ++ (if is_silent form true turn.line then [] else turn.answer)) ++ closing form count
all_told Text turns turn count = ap (λ (l : List ℕ). l ++ end_text count) (answers-push turns turn)
all_told Json turns turn count = ap (λ (l : List ℕ). greeting_text ++ l ++ end_object count) (answered-push turns turn)

-- a line that isn't the last one has an answer
spoken : (form : Form) (line : List ℕ) → is_silent form false line ≡ false
spoken Text line = refl
spoken Json line = refl

-- no line was read yet
pub serving_none : (form : Form) (names : Bool) (input old : Option (List ℕ)) → IsServing form names 1 None input input old old
serving_none form names input old = record {
  turns = [];
  now = None;
  stands = tt;
  served = refl;
  count = refl;
  taken = Consumes-nil input;
  told = Appends-nil old;
}

-- before the first line
pub served_none : (form : Form) (names : Bool) (exit : Exit) (input old new : Option (List ℕ)) → HasPart (greeting form) old new → HasServedPart form names exit input old new
served_none form names exit input old new part = record {
  turns = [];
  more = rest_of input ∷ [];
  now = None;
  served = refl;
  begins = begins_by [] input input (Consumes-nil input);
  unread = λ script none. cc;
  told = subst (λ (text : List ℕ). HasPart text old new) (sym (append-nil (greeting form))) part;
}

module _ (form : Form) (names : Bool) (number : ℕ) (before : Option Bench) (input mid old between : Option (List ℕ)) (is : IsServing form names number before input mid old between) where
  served_next : (turn : Turn) (after : Option Served) → IsTurn form names number is.now turn after → AreTurns form names 1 None (is.turns ++ turn ∷ []) after
  served_next turn after next =
      let count = is.count in
      let at : number ≡ 1 + length is.turns = omega arith in
      turns-push form names 1 None is.turns is.now turn after is.served (subst (λ (n : ℕ). IsTurn form names n is.now turn after) at next)

  module _ (rest new : Option (List ℕ)) (bench : Option Bench) where
    -- a line more, behind which another stands
    pub serving_next : HasTurned form names number is.now false bench mid rest between new → IsServing form names (number + 1) bench input rest old new
    serving_next turned =
        let count = is.count in
        let turn = turned.turn in
        let answer : Appends between new turn.answer = subst (λ (t : Bool). Appends between new (if t then [] else turn.answer)) (spoken form turn.line) turned.told in
        record {
          turns = is.turns ++ turn ∷ [];
          now = turned.after;
          stands = turned.stands;
          served = served_next turn turned.after turned.is;
          count = omega (arith, length-append is.turns (turn ∷ []));
          taken = subst (Consumes input rest) (sym (closed-push is.turns turn)) (Consumes-trans input mid rest (closed is.turns) (turn.line ++ 10 ∷ []) is.taken turned.ended);
          told = subst (Appends old new) (sym (answers-push is.turns turn)) (Appends-trans old between new (answers_in is.turns) turn.answer is.told answer);
        }

    -- the last line, and then the count
    pub served_all : (start ended : Option (List ℕ)) → Appends start old (greeting form) → HasTurned form names number is.now true bench mid rest between new
        → Appends new ended (closing form (length (history_of (kept_in bench)))) → HasServed form names input start ended
    served_all start ended greets turned end =
        let turn = turned.turn in
        let turns = is.turns ++ turn ∷ [] in
        let same : kept_in bench ≡ kept_of turned.after = same_kept bench turned.after turned.stands in
        let last : List ℕ = if is_silent form true turn.line then [] else turn.answer in
        let count = length (history_of (kept_of turned.after)) in
        record {
          turns = turns;
          now = turned.after;
          served = served_next turn turned.after turned.is;
          whole = begins_all is.turns turn input mid rest is.taken turned.ended.0 turned.ended.1;
          told = subst (Appends start ended) (sym (all_told form is.turns turn count))
              (three start old new ended (greeting form) (answers_in is.turns ++ last) (closing form count) greets
              (Appends-trans old between new (answers_in is.turns) last is.told turned.told)
              (subst (λ k. Appends new ended (closing form (length (history_of k)))) same end));
        }

    -- the last line, and then a part of the count
    pub served_end : (exit : Exit) (start ended : Option (List ℕ)) → exit ≡ Host → Appends start old (greeting form) → HasTurned form names number is.now true bench mid rest between new
        → HasPart (closing form (length (history_of (kept_in bench)))) new ended → HasServedPart form names exit input start ended
    served_end exit start ended host greets turned end =
        let turn = turned.turn in
        let turns = is.turns ++ turn ∷ [] in
        let same : kept_in bench ≡ kept_of turned.after = same_kept bench turned.after turned.stands in
        let last : List ℕ = if is_silent form true turn.line then [] else turn.answer in
        let count = length (history_of (kept_of turned.after)) in
        let told : Appends old new (answers_in is.turns ++ last) = Appends-trans old between new (answers_in is.turns) last is.told turned.told in
        record {
          turns = turns;
          more = [];
          now = turned.after;
          served = served_next turn turned.after turned.is;
          begins = begins_none turns input (begins_all is.turns turn input mid rest is.taken turned.ended.0 turned.ended.1);
          unread = λ script. absurd (cc);
          told = subst (λ (text : List ℕ). HasPart text start ended) (sym (all_told form is.turns turn count))
              (part_after (greeting form ++ (answers_in is.turns ++ last)) (closing form count) start new ended
              (Appends-trans start old new (greeting form) (answers_in is.turns ++ last) greets told)
              (subst (λ k. HasPart (closing form (length (history_of k))) new ended) same end));
        }

  -- no more was written, and more lines may follow
  pub served_so_far : (exit : Exit) (start new : Option (List ℕ)) → Appends start old (greeting form) → Keeps between new → HasServedPart form names exit input start new
  served_so_far exit start new greets same = record {
    turns = is.turns;
    more = rest_of mid ∷ [];
    now = is.now;
    served = is.served;
    begins = begins_by is.turns input mid is.taken;
    unread = λ script none. cc;
    told = part_whole (greeting form ++ answers_in is.turns) start new
        (Appends-trans start old new (greeting form) (answers_in is.turns) greets (Appends-kept old between new (answers_in is.turns) is.told same));
  }

  -- a part of the answer to the next line, behind which another stands, or none
  served_cut : (exit : Exit) (start new : Option (List ℕ)) → exit ≡ Host → Appends start old (greeting form) → (turn : Turn) (after : Option Served)
      → IsTurn form names number is.now turn after → (last : Bool) (rest : Option (List ℕ))
      → HasEnded last turn.line mid rest → HasPart (if is_silent form last turn.line then [] else turn.answer) between new → HasServedPart form names exit input start new
  served_cut exit start new host greets turn after next false rest ended part =
      let answer : HasPart turn.answer between new = subst (λ (t : Bool). HasPart (if t then [] else turn.answer) between new) (spoken form turn.line) part in
      let told : HasPart (answers_in is.turns ++ turn.answer) old new = part_after (answers_in is.turns) turn.answer old between new is.told answer in
      let turns = is.turns ++ turn ∷ [] in
      record {
        turns = turns;
        more = rest_of rest ∷ [];
        now = after;
        served = served_next turn after next;
        begins = begins_by turns input rest
            (subst (Consumes input rest) (sym (closed-push is.turns turn)) (Consumes-trans input mid rest (closed is.turns) (turn.line ++ 10 ∷ []) is.taken ended));
        unread = λ script none. cc;
        told = part_after (greeting form) (answers_in turns) start old new greets (subst (λ (text : List ℕ). HasPart text old new) (sym (answers-push is.turns turn)) told);
      }
  served_cut exit start new host greets turn after next true rest ended part =
      let last : List ℕ = if is_silent form true turn.line then [] else turn.answer in
      let told : HasPart (answers_in is.turns ++ last) old new = part_after (answers_in is.turns) last old between new is.told part in
      let turns = is.turns ++ turn ∷ [] in
      let count = length (history_of (kept_of after)) in
      record {
        turns = turns;
        more = [];
        now = after;
        served = served_next turn after next;
        begins = begins_none turns input (begins_all is.turns turn input mid rest is.taken ended.0 ended.1);
        unread = λ script. absurd (cc);
        told = subst (λ (text : List ℕ). HasPart text start new) (sym (all_told form is.turns turn count))
            (part_before (greeting form ++ (answers_in is.turns ++ last)) (closing form count) start new (part_after (greeting form) (answers_in is.turns ++ last) start old new greets told));
      }

  -- serving ended within the next line
  pub served_failed : (failure : Failure) (start new : Option (List ℕ)) → Appends start old (greeting form) → HasFailed form names number is.now failure mid between new
      → HasServedPart form names (exit_of failure) input start new
  served_failed failure start new greets (inl same) = served_so_far (exit_of failure) start new greets same
  served_failed failure start new greets (inr (host, part)) = served_cut (exit_of failure) start new host greets part.turn part.after part.is part.last part.rest part.ended part.told
