-- How a line is taken, from its bytes to its answer.
use Rattle.std.proofs.Common.{◌≡◌, ◌≢◌, ◌==◌, ◌≤◌, ℕ, Bool, false, List, [], length, if◌then◌else◌, refl, sym, ap, ◌∙◌, subst, arith, Option, Some, None, Result, Ok, Err, MatchResult}
use Rattle.std.proofs.Common.{Global}
use Rattle.std.specs.Io.KnownBytes.{Appends}
use Rattle.hv_script.specs.Cursor.{line_of, words_read}
use Rattle.hv_script.specs.Line.{◌>>=◌}
use Rattle.hv_script.specs.Script.{first_line, later_line, read_words}
use Rattle.hv_script.specs.declared.fault.FaultKind.{FaultKind}
use Rattle.hv_script.specs.declared.fault.FaultKind.TheVariants.{Memory}
use Rattle.hv_script.specs.declared.script.TheConstants.{MOST_BYTES}
use Rattle.hv_history.specs.Kept.{Kept}
use Rattle.hv_run.specs.Written.{HasPart}
use Rattle.hv_words.specs.Words.{IsPlain}
use Rattle.hv_serve.proofs.LineOutcomes.{same_kept, told_becomes}
use Rattle.hv_serve.proofs.BenchSteps.{took_asked}
use Rattle.hv_serve.proofs.Lines.{IsOne}
use Rattle.hv_serve.proofs.LineWords.{by_first, cut_says, line_shorter, line_whole, long_says}
use Rattle.hv_serve.specs.Bench.{AsksFor, HasAnsweredPart, HasBecome, HasTaken, IsBench, IsToldAs, StandsFor, kept_in, reads, words_say}
use Rattle.hv_serve.specs.Input.{AreKept, HasEnded, HasLine}
use Rattle.hv_serve.specs.Meant.{Meant, meant, meant_as, meant_by, request_line, request_of}
use Rattle.hv_serve.specs.Session.{AreTraced, IsTurn, Served, Turn, answer_of, history_of, kept_of, read_of}
use Rattle.hv_serve.specs.Turned.{HasTurned, HasTurnedPart, is_silent}
use Rattle.hv_serve.specs.declared.bench.Bench.{Bench}
use Rattle.hv_serve.specs.declared.form.Form.{Form}
use Rattle.hv_serve.specs.declared.form.Form.TheVariants.{Json}
use Rattle.hv_serve.specs.declared.input.LineEnd.{LineEnd}
use Rattle.hv_serve.specs.declared.outcome.Outcome.{Outcome}
use Rattle.hv_serve.specs.declared.request.Request.{Request}

-- a line that is cut says what its words say
pub cut_faulty : (bench : Option Bench) (before : Option Served) (text : List ℕ) (kind : FaultKind) → StandsFor bench before → length text ≤ MOST_BYTES
    → (kind ≢ Memory → words_read (line_of text) ≡ Err kind) → HasTaken before (meant (read_of before) (line_of text)) bench (Err kind)
cut_faulty bench before text kind stands most is =
    (stands, λ apart. cut_says (read_of before) (line_of text) (omega (arith, line_shorter text)) ∙ ap (λ r. r >>= (λ words. words_say (read_of before) words)) (is apart))

pub cut_taken : (bench : Option Bench) (before : Option Served) (text : List ℕ) (words : List (List ℕ)) (result : Result Outcome FaultKind) → length text ≤ MOST_BYTES
    → words_read (line_of text) ≡ Ok words → HasTaken before (words_say (read_of before) words) bench result → HasTaken before (meant (read_of before) (line_of text)) bench result
cut_taken bench before text words result most is taken =
    let says : meant (read_of before) (line_of text) ≡ words_say (read_of before) words =
    cut_says (read_of before) (line_of text) (omega (arith, line_shorter text)) ∙ ap (λ r. r >>= (λ words. words_say (read_of before) words)) is in
    subst (λ (s : Result Meant FaultKind). HasTaken before s bench result) (sym says) taken

-- the first line, and a later one
pub took_first : (old new : Option Bench) (before : Option Served) (words : List (List ℕ)) (result : Result Outcome FaultKind) → StandsFor old before → old ≡ None
    → HasTaken None (reads (first_line words)) new result → HasTaken before (reads (read_words (read_of before) words)) new result
took_first old new None words result stands none taken = taken
took_first old new (Some served) words result stands none taken = absurd (subst (λ (b : Option Bench). StandsFor b (Some served)) none stands)

pub took_later : (bench : Option Bench) (old new : Bench) (before : Option Served) (words : List (List ℕ)) (result : Result Outcome FaultKind) → StandsFor bench before → bench ≡ Some old
    → ((served : Served) → IsBench old served → HasTaken (Some served) (reads (later_line served.read words)) (Some new) result)
    → HasTaken before (reads (read_words (read_of before) words)) (Some new) result
took_later bench old new None words result stands is taken = absurd (subst (λ (b : Option Bench). StandsFor b None) is stands)
took_later bench old new (Some served) words result stands is taken = taken served (subst (λ (b : Option Bench). StandsFor b (Some served)) is stands)

-- a line of a script
pub took_script : (old new : Option Bench) (before : Option Served) (words : List (List ℕ)) (result : Result Outcome FaultKind) → StandsFor old before → (length words == 0) ≡ false
    → request_of words ≡ None
    → ((before : Option Served) → StandsFor old before → HasTaken before (reads (read_words (read_of before) words)) new result)
    → HasTaken before (words_say (read_of before) words) new result
took_script old new before words result stands some none taken =
    subst (λ (s : Result Meant FaultKind). HasTaken before s new result) (sym (by_first (read_of before) words None some none)) (taken before stands)

-- a line that asks for something
pub took_request : (bench : Option Bench) (before : Option Served) (words : List (List ℕ)) (request : Request) (result : Result Outcome FaultKind) → StandsFor bench before
    → (length words == 0) ≡ false → request_of words ≡ Some request
    → MatchResult result (λ outcome. AsksFor outcome (request_line request (read_of before) words)) (λ kind. request_line request (read_of before) words ≡ Err kind)
    → HasTaken before (words_say (read_of before) words) bench result
took_request bench before words request result stands some is told =
    subst (λ (s : Result Meant FaultKind). HasTaken before s bench result) (sym (by_first (read_of before) words (Some request) some is))
    (took_asked bench before (request_line request (read_of before) words) result stands told)

-- a line that was kept, and one that was lost
pub kept_line : (old new : Option Bench) (before : Option Served) (bytes line : List ℕ) (result : Result Outcome FaultKind) → StandsFor old before → IsOne bytes → AreKept bytes line None
    → ((before : Option Served) → StandsFor old before → length line ≤ MOST_BYTES → HasTaken before (meant (read_of before) (line_of line)) new result)
    → HasTaken before (meant (read_of before) bytes) new result
kept_line old new before bytes line result stands one kept taken =
    let most : length line ≤ MOST_BYTES = subst (λ (l : List ℕ). length l ≤ MOST_BYTES) (sym kept.0) kept.1 in
    let same : line_of line ≡ bytes = ap line_of kept.0 ∙ line_whole bytes one in
    subst (λ (l : List ℕ). HasTaken before (meant (read_of before) l) new result) same (taken before stands most)

pub lost_line : (bench : Option Bench) (before : Option Served) (bytes kept : List ℕ) (kind : FaultKind) → StandsFor bench before → AreKept bytes kept (Some kind)
    → HasTaken before (meant (read_of before) bytes) bench (Err kind)
lost_line bench before bytes kept kind stands lost =
    (stands, λ apart. long_says (read_of before) bytes (lost.1 apart).1 ∙ ap Err (sym (lost.1 apart).0))

-- the line of a number, read and done, and what is told of its answer, unless it has none
pub record IsTurned (form : Form) (names : Bool) (number : ℕ) (before : Option Served) (last : Bool) (bench : Option Bench) (input rest : Option (List ℕ)) (Told : List ℕ → Type 0) : Type 0 where
  pub turn : Turn
  pub after : Option Served
  pub stands : StandsFor bench after
  pub is : IsTurn form names number before turn after
  pub ended : HasEnded last turn.line input rest
  pub told : Told (if is_silent form last turn.line then [] else turn.answer)

is_turned : (Told : List ℕ → Type 0) (form : Form) (names : Bool) (number count : ℕ) (before : Option Served) (old new : Option Bench) (line : List ℕ) (end : LineEnd)
    (input rest : Option (List ℕ)) (outcome told : Outcome) (objects words : List ℕ) (silent : Bool)
    → StandsFor old before → (came : HasLine line end input rest) → silent ≡ is_silent form end.last came.bytes → HasBecome before (meant_by names (read_of before) came.bytes) outcome new
    → count ≡ length (history_of (kept_in old)) → IsToldAs outcome told → (form ≡ Json → AreTraced count (kept_in new) objects) → IsPlain words
    → Told (if silent then [] else answer_of form number count told (kept_in new) objects words)
    → IsTurned form names number before end.last new input rest Told
is_turned Told form names number count before old new line end input rest outcome told objects words silent stands came is has counted told_as traced plain went =
    let become = told_becomes before (meant_by names (read_of before) came.bytes) new outcome told has told_as in
    let counts : count ≡ length (history_of (kept_of before)) = counted ∙ ap (λ k. length (history_of k)) (same_kept old before stands) in
    let now : List ℕ = answer_of form number (length (history_of (kept_of before))) told (kept_of become.after) objects words in
    let answer : answer_of form number count told (kept_in new) objects words ≡ now =
    ap (λ (n : ℕ). answer_of form number n told (kept_in new) objects words) counts
    ∙ ap (λ (k : Option (Kept Global)). answer_of form number (length (history_of (kept_of before))) told k objects words) (same_kept new become.after become.stands) in
    let traced_too : form ≡ Json → AreTraced (length (history_of (kept_of before))) (kept_of become.after) objects =
    λ json. subst (λ (n : ℕ). AreTraced n (kept_of become.after) objects) counts
    (subst (λ (k : Option (Kept Global)). AreTraced count k objects) (same_kept new become.after become.stands) (traced json)) in
    record {
      turn = record { line = came.bytes; outcome = told; answer = now; objects = objects; words = words };
      after = become.after;
      stands = become.stands;
      is = record { one = came.one; becomes = become.becomes; plain = plain; traced = traced_too; answer = refl };
      ended = came.ended;
      told = subst (λ (s : Bool). Told (if s then [] else now)) is (subst (λ (a : List ℕ). Told (if silent then [] else a)) answer went);
    }

-- the line was answered
pub turned : (form : Form) (names : Bool) (number count : ℕ) (before : Option Served) (old new : Option Bench) (line : List ℕ) (end : LineEnd)
    (input rest from to : Option (List ℕ)) (outcome told : Outcome)
    (objects words : List ℕ) (silent : Bool)
    → StandsFor old before → (came : HasLine line end input rest) → silent ≡ is_silent form end.last came.bytes → HasBecome before (meant_by names (read_of before) came.bytes) outcome new
    → count ≡ length (history_of (kept_in old)) → IsToldAs outcome told → (form ≡ Json → AreTraced count (kept_in new) objects) → IsPlain words
    → Appends from to (if silent then [] else answer_of form number count told (kept_in new) objects words)
    → HasTurned form names number before end.last new input rest from to
turned form names number count before old new line end input rest from to outcome told objects words silent stands came is has counted told_as traced plain went =
    let turn = is_turned (Appends from to) form names number count before old new line end input rest outcome told objects words silent stands came is has counted told_as traced plain went in
    record { turn = turn.turn; after = turn.after; stands = turn.stands; is = turn.is; ended = turn.ended; told = turn.told }

-- a first part of the answer went out
pub turned_part : (form : Form) (names : Bool) (number count : ℕ) (before : Option Served) (old new : Option Bench) (line : List ℕ) (end : LineEnd)
    (input rest from to : Option (List ℕ)) (outcome : Outcome)
    → StandsFor old before → (came : HasLine line end input rest) → false ≡ is_silent form end.last came.bytes → HasBecome before (meant_by names (read_of before) came.bytes) outcome new
    → count ≡ length (history_of (kept_in old)) → HasAnsweredPart form number count outcome (kept_in new) from to
    → HasTurnedPart form names number before input from to
turned_part form names number count before old new line end input rest from to outcome stands came is has counted part =
    let turn = is_turned (λ (text : List ℕ). HasPart text from to) form names number count before old new line end input rest outcome part.told part.objects part.words false stands came is has counted
    part.told_as part.traced part.plain part.wrote in
    record { turn = turn.turn; after = turn.after; is = turn.is; last = end.last; rest = rest; ended = turn.ended; told = turn.told }
