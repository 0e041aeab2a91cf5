-- The lines of a script that was read stand by rising phases, and the numbers of their processors fit.
use Rattle.std.proofs.Common.{◌≡◌, ℕ, ◌+◌, ◌<◌, ◌≤◌, ◌^◌, List, [], ◌∷◌, ◌++◌, refl, ap, subst, arith, Bool, true, false, cond, Option, None, Some, Result, Ok, Err, All, nat_lt}
use Rattle.std.proofs.Common.{ok_or, Global}
use Rattle.std.proofs.lemmas.Bool.Decides.{nat_tests}
use Rattle.std.proofs.lemmas.List.Elements.{All-head, All-nil, All-push, All-tail, All-weaker}
use Rattle.hv_policy.specs.declared.event.Action.{Action}
use Rattle.hv_policy.specs.declared.event.Caller.{Caller}
use Rattle.hv_script.specs.Line.{◌>>=◌, action_of, boot_of, processor_of}
use Rattle.hv_script.specs.Number.{decimal_in}
use Rattle.hv_script.specs.Script.{Said, SoFar, at_line, first_line, later_line, phase_line, processor_line, read_line, read_lines, read_words, said_by, script_of, taken, with_line}
use Rattle.hv_script.specs.Words.{has_good_bytes, is_skipped, lines_of, word_at, words_of}
use Rattle.hv_script.specs.declared.fault.FaultKind.{FaultKind}
use Rattle.hv_script.specs.declared.fault.FaultKind.TheVariants.{Byte}
use Rattle.hv_script.specs.declared.fault.ScriptFault.{ScriptFault}
use Rattle.hv_script.specs.declared.line.Line.{Line}
use Rattle.hv_phases.specs.Read.{AreRead, AreSorted, IsNamed}

-- what comes of two steps, both of which went well
bound : {T S E : Type 0} (r : Result T E) (next : T → Result S E) (s : S) → (r >>= next) ≡ Ok s → (t : T) × (r ≡ Ok t) × (next t ≡ Ok s)
bound (Ok t) next s is = (t, refl, is)
bound (Err e) next s is = absurd (cc)

kept_ok : {T E : Type 0} (b : Bool) (r : Result T E) (e : E) (t : T) → cond b r (Err e) ≡ Ok t → r ≡ Ok t
kept_ok true r e t is = is
kept_ok false r e t is = absurd (cc)

other_ok : {T E : Type 0} (b : Bool) (r : Result T E) (e : E) (t : T) → cond b (Err e) r ≡ Ok t → r ≡ Ok t
other_ok true r e t is = absurd (cc)
other_ok false r e t is = is

some_of : {T E : Type 0} (o : Option T) (e : E) (t : T) → ok_or o e ≡ Ok t → o ≡ Some t
some_of None e t is = absurd (cc)
some_of (Some x) e t is = let same : x ≡ t = cc in ap Some same

-- a number that was read fits
fits_at : (digits fits : Bool) (n v most : ℕ) → (fits ≡ true → v < most) → cond digits (cond fits (Some v) None) None ≡ Some n → n < most
fits_at true true n v most less is = let same : v ≡ n = cc in subst (λ k. k < most) same (less refl)
fits_at true false n v most less is = absurd (cc)
fits_at false fits n v most less is = absurd (cc)

below : (v most : ℕ) → nat_lt v most ≡ true → v < most
below v most is = grind (arith, nat_tests)

decimal_fits : (bits : ℕ) (word : List ℕ) (n : ℕ) → decimal_in bits word ≡ Some n → n < 2 ^ bits
unfolding decimal_in
decimal_fits bits word n is = fits_at _ _ n _ (2 ^ bits) (below _ _) is

processor_named : (word : List ℕ) (by : Caller) → processor_of word ≡ Ok by → (by.part < 2 ^ 64) × (by.vp < 2 ^ 32)
unfolding processor_of
processor_named word by is =
    let part = bound _ _ by is in
    let vp = bound _ _ by part.2 in
    let same = vp.2 in
    let low : part.0 < 2 ^ 64 = decimal_fits 64 _ part.0 (some_of _ _ part.0 part.1) in
    let high : vp.0 < 2 ^ 32 = decimal_fits 32 _ vp.0 (some_of _ _ vp.0 vp.1) in
    let made : record { part = part.0; vp = vp.0 } ≡ by = cc in
    (subst (λ (c : Caller). c.part < 2 ^ 64) made low, subst (λ (c : Caller). c.vp < 2 ^ 32) made high)

-- what was read so far is sorted, and no line is of a later phase than the one that is on
record IsGood (s : SoFar Global) : Type 0 where
  sorted : AreSorted s.lines
  named : All IsNamed s.lines
  until : All (λ line. line.phase ≤ s.phase) s.lines

abbrev AreGood : Option (SoFar Global) → Type 0
AreGood None = Unit {0}
AreGood (Some s) = IsGood s

good_along : (s t : SoFar Global) → s ≡ t → IsGood s → IsGood t
good_along s t same good = subst IsGood same good

ok_same : {T E : Type 0} (s t : T) → (let r : Result T E = Ok s in r) ≡ Ok t → s ≡ t
ok_same s t is = cc

first_good : (words : List (List ℕ)) (s : SoFar Global) → first_line words ≡ Ok s → IsGood s
first_good words s is =
    let boot = bound (boot_of words) _ s (kept_ok _ _ _ s is) in
    good_along (record { boot = boot.0; phase = 0; lines = [] }) s (ok_same {E = FaultKind} (record { boot = boot.0; phase = 0; lines = [] }) s boot.2)
    (record { sorted = tt; named = All-nil IsNamed; until = All-nil (λ (line : Line Global). line.phase ≤ 0) })

phase_good : (words : List (List ℕ)) (s t : SoFar Global) → phase_line s words ≡ Ok t → IsGood s → IsGood t
phase_good words s t is good =
    good_along (record s { phase = s.phase + 1 }) t (ok_same {E = FaultKind} (record s { phase = s.phase + 1 }) t (kept_ok _ _ _ t is))
    (record {
      sorted = good.sorted;
      named = good.named;
      until = All-weaker (λ (line : Line Global). line.phase ≤ s.phase) (λ (line : Line Global). line.phase ≤ s.phase + 1) (λ line less. omega (arith, less)) s.lines good.until;
    })

sorted_push : (lines : List (Line Global)) (line : Line Global) → AreSorted lines → All (λ l. l.phase ≤ line.phase) lines → AreSorted (lines ++ line ∷ [])
sorted_push [] line sorted until = (All-nil (λ (n : Line Global). line.phase ≤ n.phase), tt)
sorted_push (l ∷ lines) line sorted until = (
  All-push (λ (n : Line Global). l.phase ≤ n.phase) lines line sorted.0 (All-head (λ (x : Line Global). x.phase ≤ line.phase) l lines until),
  sorted_push lines line sorted.1 (All-tail (λ (x : Line Global). x.phase ≤ line.phase) l lines until),
)

taken_good : (by : Caller) (action : Action Global) (s t : SoFar Global) → taken s by action ≡ Ok t → (by.part < 2 ^ 64) × (by.vp < 2 ^ 32) → IsGood s → IsGood t
taken_good by action s t is named good =
    let line : Line Global = record { phase = s.phase; by = by; action = action } in
    good_along (with_line s by action) t (ok_same {E = FaultKind} (with_line s by action) t (kept_ok _ _ _ t is))
    (record {
      sorted = sorted_push s.lines line good.sorted good.until;
      named = All-push IsNamed s.lines line good.named named;
      until = All-push (λ (l : Line Global). l.phase ≤ s.phase) s.lines line good.until (omega arith);
    })

processor_good : (words : List (List ℕ)) (s t : SoFar Global) → processor_line s words ≡ Ok t → IsGood s → IsGood t
unfolding processor_line
processor_good words s t is good =
    let by = bound (processor_of (word_at words 0)) _ t is in
    let action = bound (action_of words) _ t by.2 in
    taken_good by.0 action.0 s t action.2 (processor_named (word_at words 0) by.0 by.1) good

later_good : (words : List (List ℕ)) (s t : SoFar Global) → later_line s words ≡ Ok t → IsGood s → IsGood t
unfolding later_line
later_good words s t is good = by _ (other_ok _ _ _ t is)
  where
    by : (b : Bool) → cond b (phase_line s words) (processor_line s words) ≡ Ok t → IsGood t
    by true is = phase_good words s t is good
    by false is = processor_good words s t is good

words_good : (before : Option (SoFar Global)) (words : List (List ℕ)) (t : SoFar Global) → read_words before words ≡ Ok t → AreGood before → IsGood t
words_good None words t is good = first_good words t is
words_good (Some s) words t is good = later_good words s t is good

line_bound : (before after : Option (SoFar Global)) (words : List (List ℕ)) (b : Bool) → cond b (read_words before words >>= (λ s. Ok (Some s))) (Err Byte) ≡ Ok after → AreGood before → AreGood after
line_bound before after words b is good =
    let s = bound (read_words before words) (λ s. Ok (Some s)) after (kept_ok b _ _ after is) in
    subst AreGood (ok_same {E = FaultKind} (Some s.0) after s.2) (words_good before words s.0 s.1 good)

line_by : (before after : Option (SoFar Global)) (words : List (List ℕ)) (skipped b : Bool)
    → cond skipped (Ok before) (cond b (read_words before words >>= (λ s. Ok (Some s))) (Err Byte)) ≡ Ok after → AreGood before → AreGood after
line_by before after words true b is good = subst AreGood (ok_same {E = FaultKind} before after is) good
line_by before after words false b is good = line_bound before after words b is good

line_good : (before after : Option (SoFar Global)) (line : List ℕ) → read_line before line ≡ Ok after → AreGood before → AreGood after
unfolding read_line
line_good before after line is good = line_by before after (words_of line) (is_skipped (words_of line)) (has_good_bytes line) is good

at_ok : {T : Type 0} (number : ℕ) (r : Result T FaultKind) (t : T) → at_line number r ≡ Ok t → r ≡ Ok t
at_ok number (Ok x) t is = let same : x ≡ t = cc in ap Ok same
at_ok number (Err kind) t is = absurd (cc)

lines_good : (number : ℕ) (before after : Option (SoFar Global)) (lines : List (List ℕ)) → read_lines number before lines ≡ Ok after → AreGood before → AreGood after
lines_good number before after [] is good = subst AreGood (ok_same {E = ScriptFault} before after is) good
lines_good number before after (line ∷ lines) is good =
    let first = bound (at_line number (read_line before line)) _ after is in
    lines_good (number + 1) first.0 after lines first.2 (line_good before first.0 line (at_ok number (read_line before line) first.0 first.1) good)

said_good : (read : Option (SoFar Global)) (said : Said Global) → said_by read ≡ Ok said → AreGood read → AreRead said.lines
said_good None said is good = absurd (cc)
said_good (Some s) said is good =
    let same : s.lines ≡ said.lines = ap (λ (x : Said Global). x.lines) (ok_same {E = ScriptFault} (record { config = s.boot.config; limit = s.boot.limit; lines = s.lines }) said is) in
    record { sorted = subst AreSorted same good.sorted; named = subst (All IsNamed) same good.named }

-- so it is with every script
pub script_read : (text : List ℕ) (said : Said Global) → script_of text ≡ Ok said → AreRead said.lines
unfolding script_of
script_read text said is =
    let read = bound (read_lines 1 None (lines_of text)) _ said (other_ok _ _ _ said is) in
    said_good read.0 said read.2 (lines_good 1 None read.0 (lines_of text) read.1 tt)
