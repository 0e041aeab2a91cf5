-- Lines by names, and the lines that they mean.
use Rattle.std.proofs.Common.{◌≡◌, ◌≢◌, ◌==◌, ◌≤◌, ◌<◌, ℕ, zero, suc, ◌+◌, ◌/◌, ◌%◌, Bool, true, false, not, cond, List, [], ◌∷◌, ◌++◌, length, get_or, refl, sym, ap, ◌∙◌, subst, arith, codes}
use Rattle.std.proofs.Common.{decimal, Option, None, Some, Result, Ok, Err, nat_lt, slice_index, All, inl, Global}
use Rattle.std.specs.Fmt.{digits}
use Rattle.std.specs.List.{list_all}
use Rattle.std.proofs.lemmas.Bool.Decides.{nat_tests}
use Rattle.hex.specs.Hex.{encode_lower, encode_with, lower_digits}
use Rattle.hv_asm.specs.Line.{is_by_names, line_of, numbers_of}
use Rattle.hv_asm.specs.Made.{IsMade, IsPushed}
use Rattle.hv_asm.specs.declared.fault.AsmFault.{AsmFault}
use Rattle.hv_asm.specs.declared.fault.AsmFault.TheVariants.{Script, UnknownField, MissingField, FieldTwice, NoFastForm}
use Rattle.hv_policy.specs.declared.event.Action.{Action}
use Rattle.hv_policy.specs.declared.event.Action.TheVariants as action
use Rattle.hv_policy.specs.declared.event.Caller.{Caller}
use Rattle.hv_script.specs.Cursor.{line_of as first_line}
use Rattle.hv_script.specs.Line.{◌>>=◌}
use Rattle.hv_script.specs.Recorded.{hex_text, input_text, line_text, spaced, words_by}
use Rattle.hv_script.specs.Words.{has_good_bytes, words_of}
use Rattle.hv_script.specs.declared.fault.FaultKind.{FaultKind}
use Rattle.hv_script.specs.declared.fault.FaultKind.TheVariants.{Long, Byte, NoBoot, BootTwice, Processor, Word, Count, Number, Hex, TooMany, Memory}
use Rattle.hv_script.specs.declared.script.TheConstants.{MOST_BYTES}
use Rattle.hv_serve.proofs.LineWords.{line_whole, long_says}
use Rattle.hv_serve.proofs.Lines.{IsOne}
use Rattle.hv_serve.proofs.Objects.{Fits, all_apart, both, decimal_fits, first_of, hex_fits, in_line, join, second_of}
use Rattle.hv_serve.specs.Bench.{HasBecome, HasTaken, StandsFor}
use Rattle.hv_serve.specs.Input.{AreKept}
use Rattle.hv_serve.specs.Meant.{Meant, Misnames, if_meant, meant, meant_as, meant_by, plain_of}
use Rattle.hv_serve.specs.Outcome.{outcome_by_names}
use Rattle.hv_serve.specs.Session.{Becomes, Served, read_of}
use Rattle.hv_serve.specs.declared.bench.Bench.{Bench}
use Rattle.hv_serve.specs.declared.outcome.Outcome.{Outcome}

-- the line of an event has no line feed
get_fits : (text : List ℕ) (i : ℕ) → Fits text → in_line (get_or text i 0) ≡ true
get_fits [] i fits = refl
get_fits (byte ∷ text) zero fits = first_of (in_line byte) (list_all in_line text) fits
get_fits (byte ∷ text) (suc i) fits = get_fits text i (second_of (in_line byte) (list_all in_line text) fits)

pairs_fit : (bytes : List ℕ) → Fits (encode_lower bytes)
unfolding encode_with
pairs_fit [] = refl
pairs_fit (byte ∷ bytes) =
    both (in_line (slice_index lower_digits (byte / 16))) (list_all in_line (slice_index lower_digits (byte % 16) ∷ encode_lower bytes)) (get_fits lower_digits (byte / 16) refl)
    (both (in_line (slice_index lower_digits (byte % 16))) (list_all in_line (encode_lower bytes)) (get_fits lower_digits (byte % 16) refl) (pairs_fit bytes))

input_fits : (bytes : List ℕ) → Fits (input_text bytes)
input_fits [] = refl
input_fits (byte ∷ bytes) = pairs_fit (byte ∷ bytes)

abbrev AllFit : List (List ℕ) → Type 0
AllFit [] = Unit {0}
AllFit (word ∷ words) = Fits word × AllFit words

spaced_fit : (words : List (List ℕ)) → AllFit words → Fits (spaced words)
spaced_fit [] fit = refl
spaced_fit (word ∷ words) fit = join (codes " " ++ word) (spaced words) (join (codes " ") word refl fit.0) (spaced_fit words fit.1)

hex_word : (n : ℕ) → Fits (hex_text n)
hex_word n = join (codes "0x") (digits 16 false n) refl (hex_fits n)

words_fit : {A : Type 0} (what : Action A) → AllFit (words_by what)
words_fit (action.Hypercall frame) = (refl, (hex_word frame.rcx, (hex_word frame.rdx, (hex_word frame.r8, (input_fits frame.input, tt)))))
words_fit (action.ReadMsr msr) = (refl, (hex_word msr, tt))
words_fit (action.WriteMsr msr value) = (refl, (hex_word msr, (hex_word value, tt)))
words_fit (action.ReadSlot sint) = (refl, (decimal_fits sint, tt))
words_fit (action.ClearSlot sint) = (refl, (decimal_fits sint, tt))
words_fit (action.ReadFlags sint) = (refl, (decimal_fits sint, tt))
words_fit (action.ClearFlag sint flag) = (refl, (decimal_fits sint, (decimal_fits flag, tt)))
words_fit action.TakeInterrupt = (refl, tt)

event_one : (by : Caller) (what : Action Global) → IsOne (line_text by what)
event_one by what =
    let part : List ℕ = decimal by.part ++ codes "." in
    let vp : List ℕ = part ++ decimal by.vp in
    all_apart (line_text by what)
    (join vp (spaced (words_by what)) (join part (decimal by.vp) (join (decimal by.part) (codes ".") (decimal_fits by.part) refl) (decimal_fits by.vp))
    (spaced_fit (words_by what) (words_fit what)))

-- nor has the line that a line means
by_event : (line plain : List ℕ) (event : Result (Caller × Action Global) AsmFault) → event >>= (λ event. Ok (line_text event.0 event.1)) ≡ Ok plain → IsOne plain
by_event line plain (Ok event) same =
    let is : line_text event.0 event.1 ≡ plain = cc in
    subst IsOne is (event_one event.0 event.1)
by_event line plain (Err fault) same = absurd (cc)

by_tests : (named good : Bool) (line plain : List ℕ) → IsOne line
    → cond named (cond good (numbers_of {A = Global} (words_of line) >>= (λ event. Ok (line_text event.0 event.1))) (Err (Script Byte))) (Ok line) ≡ Ok plain → IsOne plain
by_tests true true line plain one same = by_event line plain (numbers_of (words_of line)) same
by_tests true false line plain one same = absurd (cc)
by_tests false good line plain one same =
    let is : line ≡ plain = cc in
    subst IsOne is one

pub one_plain : (line plain : List ℕ) → IsOne line → line_of line ≡ Ok plain → IsOne plain
unfolding line_of
one_plain line plain one same = by_tests (is_by_names (words_of line)) (has_good_bytes line) line plain one same

by_plain : (line : List ℕ) (plain : Result (List ℕ) AsmFault) → IsOne line → line_of line ≡ plain → IsOne (if_meant line plain)
by_plain line (Ok plain) one same = one_plain line plain one same
by_plain line (Err fault) one same = one

pub plain_one : (names : Bool) (line : List ℕ) → IsOne line → IsOne (plain_of names line)
plain_one false line one = one
plain_one true line one = by_plain line (line_of line) one refl

-- what was added to a text without bytes
added : (start plain : List ℕ) (meant : Result (List ℕ) AsmFault) → start ≡ [] → meant >>= (λ more. Ok (start ++ more)) ≡ Ok plain → meant ≡ Ok plain
added start plain (Ok more) none same =
    let is : start ++ more ≡ plain = cc in
    ap Ok (sym (ap (λ (s : List ℕ). s ++ more) none) ∙ is)
added start plain (Err fault) none same = absurd (cc)

failed : (start : List ℕ) (fault : AsmFault) (meant : Result (List ℕ) AsmFault) → meant >>= (λ more. Ok (start ++ more)) ≡ Err fault → meant ≡ Err fault
failed start fault (Ok more) same = absurd (cc)
failed start fault (Err other) same = cc

-- a line by names was done as the line that it means
pub did_plain : (bench : Option Bench) (before : Option Served) (text start plain : List ℕ) (outcome : Outcome) → IsOne text → start ≡ []
    → line_of text >>= (λ more. Ok (start ++ more)) ≡ Ok plain
    → (IsOne plain → HasBecome before (meant (read_of before) plain) outcome bench) → HasBecome before (meant_as (read_of before) (line_of text)) outcome bench
did_plain bench before text start plain outcome one none pushed became =
    let same : line_of text ≡ Ok plain = added start plain (line_of text) none pushed in
    subst (λ (m : Result (List ℕ) AsmFault). HasBecome before (meant_as (read_of before) m) outcome bench) (sym same) (became (one_plain text plain one same))

-- or it has a fault
misnamed_becomes : (before : Option Served) (says : Result Meant FaultKind) (fault : AsmFault) → (fault ≢ Script Memory → says ≡ Ok (Misnames fault))
    → Becomes before says (outcome_by_names fault) before
misnamed_becomes before says (Script Long) is = (is (λ same. cc), refl)
misnamed_becomes before says (Script Byte) is = (is (λ same. cc), refl)
misnamed_becomes before says (Script NoBoot) is = (is (λ same. cc), refl)
misnamed_becomes before says (Script BootTwice) is = (is (λ same. cc), refl)
misnamed_becomes before says (Script Processor) is = (is (λ same. cc), refl)
misnamed_becomes before says (Script Word) is = (is (λ same. cc), refl)
misnamed_becomes before says (Script Count) is = (is (λ same. cc), refl)
misnamed_becomes before says (Script Number) is = (is (λ same. cc), refl)
misnamed_becomes before says (Script Hex) is = (is (λ same. cc), refl)
misnamed_becomes before says (Script TooMany) is = (is (λ same. cc), refl)
misnamed_becomes before says (Script Memory) is = inl (refl, refl)
misnamed_becomes before says UnknownField is = (is (λ same. cc), refl)
misnamed_becomes before says MissingField is = (is (λ same. cc), refl)
misnamed_becomes before says FieldTwice is = (is (λ same. cc), refl)
misnamed_becomes before says NoFastForm is = (is (λ same. cc), refl)

pub did_nothing : (bench : Option Bench) (before : Option Served) (text start : List ℕ) (fault : AsmFault) (outcome : Outcome) → StandsFor bench before
    → (fault ≢ Script Memory → line_of text >>= (λ more. Ok (start ++ more)) ≡ Err fault) → outcome ≡ outcome_by_names fault
    → HasBecome before (meant_as (read_of before) (line_of text)) outcome bench
did_nothing bench before text start fault outcome stands pushed same =
    subst (λ (o : Outcome). HasBecome before (meant_as (read_of before) (line_of text)) o bench) (sym same)
    (record {
      after = before;
      stands = stands;
      becomes = misnamed_becomes before (meant_as (read_of before) (line_of text)) fault (λ apart. ap (meant_as (read_of before)) (failed start fault (line_of text) (pushed apart)));
    })

-- a line without a line feed is done whole
pub did_whole : (bench : Option Bench) (before : Option Served) (text : List ℕ) (result : Result Outcome FaultKind) → IsOne text
    → HasTaken before (meant (read_of before) (first_line text)) bench result → HasTaken before (meant (read_of before) text) bench result
did_whole bench before text result one taken = subst (λ (l : List ℕ). HasTaken before (meant (read_of before) l) bench result) (line_whole text one) taken

pub too_long : (bench : Option Bench) (before : Option Served) (text : List ℕ) → StandsFor bench before → MOST_BYTES < length text → HasTaken before (meant (read_of before) text) bench (Err Long)
too_long bench before text stands more = (stands, λ apart. long_says (read_of before) text more)

-- a line that was kept may be by names, and one that was lost was too long
kept_says : (t : Bool) (before : Option Served) (line : List ℕ) (outcome : Outcome) (bench : Option Bench) → t ≡ false → HasBecome before (meant_as (read_of before) (line_of line)) outcome bench
    → HasBecome before (cond t (Err Long) (meant_as (read_of before) (line_of line))) outcome bench
kept_says true before line outcome bench is became = absurd (cc)
kept_says false before line outcome bench is became = became

not_long : (n : ℕ) → n ≤ MOST_BYTES → nat_lt MOST_BYTES n ≡ false
not_long n most = grind (arith, nat_tests)

is_long : (n : ℕ) → MOST_BYTES < n → nat_lt MOST_BYTES n ≡ true
is_long n more = grind (arith, nat_tests)

pub kept_named : (bench : Option Bench) (before : Option Served) (bytes line : List ℕ) (outcome : Outcome) → IsOne bytes → AreKept bytes line None
    → (IsOne line → HasBecome before (meant_as (read_of before) (line_of line)) outcome bench) → HasBecome before (meant_by true (read_of before) bytes) outcome bench
kept_named bench before bytes line outcome one kept became =
    let own : IsOne line = subst IsOne (sym kept.0) one in
    let same : HasBecome before (meant_as (read_of before) (line_of bytes)) outcome bench =
    subst (λ (l : List ℕ). HasBecome before (meant_as (read_of before) (line_of l)) outcome bench) kept.0 (became own) in
    kept_says (nat_lt MOST_BYTES (length bytes)) before bytes outcome bench (not_long (length bytes) kept.1) same

long_named : (names : Bool) (before : Option Served) (bytes : List ℕ) → MOST_BYTES < length bytes → meant_by names (read_of before) bytes ≡ Err Long
long_named false before bytes more = long_says (read_of before) bytes more
long_named true before bytes more = ap (λ (t : Bool). cond t (Err Long) (meant_as (read_of before) (line_of bytes))) (is_long (length bytes) more)

pub lost_named : (names : Bool) (bench : Option Bench) (before : Option Served) (bytes kept : List ℕ) (kind : FaultKind) → StandsFor bench before → AreKept bytes kept (Some kind)
    → HasTaken before (meant_by names (read_of before) bytes) bench (Err kind)
lost_named names bench before bytes kept kind stands lost =
    (stands, λ apart. long_named names before bytes (lost.1 apart).1 ∙ ap Err (sym (lost.1 apart).0))
