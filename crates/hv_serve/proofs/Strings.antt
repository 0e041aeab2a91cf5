-- The strings of events, and their bytes.
use Rattle.std.proofs.Common.{◌≡◌, ◌==◌, ◌≤◌, ◌<◌, ◌-◌, ℕ, zero, suc, ◌+◌, Bool, false, if◌then◌else◌, List, [], ◌∷◌, ◌++◌, length, map, refl, sym, ap, ◌∙◌, arith, append-nil, append_assoc, codes}
use Rattle.std.proofs.Common.{drop, take, length-drop}
use Rattle.std.proofs.Common.{Some, get_or, slice_get, take_all, Global}
use Rattle.std.proofs.lemmas.Bool.Decides.{nat_tests}
use Rattle.hv_history.specs.declared.entry.Entry.{Entry}
use Rattle.hv_text.specs.Audit.{entry_text}
use Rattle.hv_serve.specs.Json.{all_escaped, escaped, events_value, more_events, separated, string_of}
use Rattle.hv_serve.proofs.Texts.{get_drop}

-- the string of an event, after a comma unless it is the first
abbrev pub event_value : Bool → ℕ → Entry Global → List ℕ
event_value first number entry = (if first then [] else codes ",") ++ string_of (entry_text number entry)

more_one : (es : List (Entry Global)) (n k : ℕ) (entry : Entry Global) → slice_get es k ≡ Some entry
    → more_events n (take (k + 1) es) ≡ more_events n (take k es) ++ (codes "," ++ string_of (entry_text (n + k) entry))
more_one [] n k entry is = absurd (cc)
more_one (e ∷ es) n zero entry is =
    let same : e ≡ entry = cc in
    let at : n ≡ n + 0 = omega arith in
    append-nil (codes "," ++ string_of (entry_text n e)) ∙ ap (λ (x : Entry Global). codes "," ++ string_of (entry_text n x)) same
    ∙ ap (λ (m : ℕ). codes "," ++ string_of (entry_text m entry)) at
more_one (e ∷ es) n (suc k) entry is =
    let one : suc k + 1 ≡ suc (k + 1) = omega arith in
    let at : (n + 1) + k ≡ n + suc k = omega arith in
    let first : List ℕ = codes "," ++ string_of (entry_text n e) in
    ap (λ (m : ℕ). more_events n (take m (e ∷ es))) one
    ∙ ap (λ (t : List ℕ). first ++ t) (more_one es (n + 1) k entry is ∙ ap (λ (m : ℕ). more_events (n + 1) (take k es) ++ (codes "," ++ string_of (entry_text m entry))) at)
    ∙ sym (append_assoc first (more_events (n + 1) (take k es)) (codes "," ++ string_of (entry_text (n + suc k) entry)))

events_one : (es : List (Entry Global)) (n k : ℕ) (entry : Entry Global) → slice_get es k ≡ Some entry
    → events_value n (take (k + 1) es) ≡ events_value n (take k es) ++ event_value (k == 0) (n + k) entry
events_one [] n k entry is = absurd (cc)
events_one (e ∷ es) n zero entry is =
    let same : e ≡ entry = cc in
    let at : n ≡ n + 0 = omega arith in
    append-nil (string_of (entry_text n e)) ∙ ap (λ (x : Entry Global). string_of (entry_text n x)) same ∙ ap (λ (m : ℕ). string_of (entry_text m entry)) at
events_one (e ∷ es) n (suc k) entry is =
    let one : suc k + 1 ≡ suc (k + 1) = omega arith in
    let at : (n + 1) + k ≡ n + suc k = omega arith in
    let later : (suc k == 0) ≡ false = grind (arith, nat_tests) in
    let first : List ℕ = string_of (entry_text n e) in
    ap (λ (m : ℕ). events_value n (take m (e ∷ es))) one
    ∙ ap (λ (t : List ℕ). first ++ t) (more_one es (n + 1) k entry is ∙ ap (λ (m : ℕ). more_events (n + 1) (take k es) ++ (codes "," ++ string_of (entry_text m entry))) at)
    ∙ sym (append_assoc first (more_events (n + 1) (take k es)) (codes "," ++ string_of (entry_text (n + suc k) entry)))
    ∙ ap (λ (t : Bool). (first ++ more_events (n + 1) (take k es)) ++ event_value t (n + suc k) entry) (sym later)

first_is : (before at : ℕ) → before ≤ at → ((at - before) == 0) ≡ (at == before)
first_is before at order = grind (arith, nat_tests)

-- one event more after `before`
pub next_event : (es : List (Entry Global)) (before at : ℕ) (entry : Entry Global) → before ≤ at → slice_get es at ≡ Some entry
    → events_value (before + 1) (take ((at + 1) - before) (drop before es)) ≡ events_value (before + 1) (take (at - before) (drop before es)) ++ event_value (at == before) (at + 1) entry
next_event es before at entry order is =
    let k = at - before in
    let more : (at + 1) - before ≡ k + 1 = omega (arith, order) in
    let place : before + k ≡ at = omega (arith, order) in
    let number : (before + 1) + k ≡ at + 1 = omega (arith, order) in
    let told : List ℕ = events_value (before + 1) (take k (drop before es)) in
    ap (λ (m : ℕ). events_value (before + 1) (take m (drop before es))) more
    ∙ events_one (drop before es) (before + 1) k entry (get_drop before es k ∙ ap (slice_get es) place ∙ is)
    ∙ ap (λ (m : ℕ). told ++ event_value (k == 0) m entry) number
    ∙ ap (λ (t : Bool). told ++ event_value t (at + 1) entry) (first_is before at order)

-- none yet, and all
pub no_event : (es : List (Entry Global)) (before : ℕ) → events_value (before + 1) (take (before - before) (drop before es)) ≡ []
no_event es before =
    let none : before - before ≡ 0 = omega arith in
    ap (λ (m : ℕ). events_value (before + 1) (take m (drop before es))) none

pub all_events : (es : List (Entry Global)) (before at : ℕ) → before ≤ at → length es ≤ at → events_value (before + 1) (take (at - before) (drop before es)) ≡ events_value (before + 1)
    (drop before es)
all_events es before at order past = ap (events_value (before + 1)) (take_all (at - before) (drop before es) (omega (arith, order, past, length-drop before es)))

-- one byte more
pub escaped_more : (text : List ℕ) (k : ℕ) → k < length text → all_escaped (take (k + 1) text) ≡ all_escaped (take k text) ++ escaped (get_or text k 0)
escaped_more [] k less = absurd (omega arith)
escaped_more (b ∷ text) zero less = append-nil (escaped b)
escaped_more (b ∷ text) (suc k) less =
    let one : suc k + 1 ≡ suc (k + 1) = omega arith in
    ap (λ (m : ℕ). all_escaped (take m (b ∷ text))) one
    ∙ ap (λ (l : List ℕ). escaped b ++ l) (escaped_more text k (omega arith))
    ∙ sym (append_assoc (escaped b) (all_escaped (take k text)) (escaped (get_or text k 0)))

-- one byte more of an array's elements
pub separated_more : (text : List ℕ) (k : ℕ) → k < length text → map separated (take (k + 1) text) ≡ map separated (take k text) ++ separated (get_or text k 0) ∷ []
separated_more [] k less = absurd (omega arith)
separated_more (b ∷ text) zero less = refl
separated_more (b ∷ text) (suc k) less =
    let one : suc k + 1 ≡ suc (k + 1) = omega arith in
    ap (λ (m : ℕ). map separated (take m (b ∷ text))) one ∙ ap (λ (l : List ℕ). separated b ∷ l) (separated_more text k (omega arith))
