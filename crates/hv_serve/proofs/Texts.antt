-- The audit's lines of entries, one after the other.
use Rattle.std.proofs.Common.{◌≡◌, ◌≤◌, ◌-◌, ℕ, zero, suc, ◌+◌, List, [], ◌∷◌, ◌++◌, length, refl, sym, ap, ◌∙◌, arith, append-nil, append_assoc, codes, decimal, drop, take, length-drop, Some}
use Rattle.std.proofs.Common.{slice_get, take_all, Global}
use Rattle.hv_history.specs.declared.entry.Entry.{Entry}
use Rattle.hv_text.specs.Audit.{audit_text, entries_text, entry_text}
use Rattle.hv_serve.specs.Session.{end_text}

pub entries-append : (n : ℕ) (es fs : List (Entry Global)) → entries_text n (es ++ fs) ≡ entries_text n es ++ entries_text (n + length es) fs
entries-append n [] fs = ap (λ (k : ℕ). entries_text k fs) (omega arith)
entries-append n (e ∷ es) fs =
    ap (λ (t : List ℕ). (entry_text n e ++ codes "\n") ++ t) (entries-append (n + 1) es fs ∙ ap (λ (k : ℕ). entries_text (n + 1) es ++ entries_text k fs) (omega arith))
    ∙ sym (append_assoc (entry_text n e ++ codes "\n") (entries_text (n + 1) es) (entries_text (n + length (e ∷ es)) fs))

-- what stands behind the first of two lists
pub drop_front : {X : Type 0} (xs ys : List X) → drop (length xs) (xs ++ ys) ≡ ys
drop_front [] ys = refl
drop_front (x ∷ xs) ys = drop_front xs ys

ended : (a b c d : List ℕ) → a ++ (b ++ c ++ d) ≡ a ++ b ++ c ++ d
ended a b c d = sym (append_assoc a (b ++ c) d) ∙ ap (λ (l : List ℕ). l ++ d) (sym (append_assoc a b c))

-- the lines of all entries, and how many there are
pub audited : (es : List (Entry Global)) → entries_text 1 es ++ end_text (length es) ≡ audit_text es
unfolding audit_text end_text
audited es = ended (entries_text 1 es) (codes "events ") (decimal (length es)) (codes "\n")

pub get_drop : {X : Type 0} (b : ℕ) (es : List X) (k : ℕ) → slice_get (drop b es) k ≡ slice_get es (b + k)
get_drop zero es k = ap (slice_get es) (omega arith)
get_drop (suc b) [] k = refl
get_drop (suc b) (e ∷ es) k =
    let at : suc (b + k) ≡ suc b + k = omega arith in
    get_drop b es k ∙ ap (λ (n : ℕ). slice_get (e ∷ es) n) at

lines_more : (es : List (Entry Global)) (n k : ℕ) (entry : Entry Global) → slice_get es k ≡ Some entry
    → entries_text n (take (k + 1) es) ≡ entries_text n (take k es) ++ (entry_text (n + k) entry ++ codes "\n")
lines_more [] n k entry is = absurd (cc)
lines_more (e ∷ es) n zero entry is =
    let same : e ≡ entry = cc in
    let at : n ≡ n + 0 = omega arith in
    append-nil (entry_text n e ++ codes "\n") ∙ ap (λ (x : Entry Global). entry_text n x ++ codes "\n") same ∙ ap (λ (m : ℕ). entry_text m entry ++ codes "\n") at
lines_more (e ∷ es) n (suc k) entry is =
    let one : suc k + 1 ≡ suc (k + 1) = omega arith in
    let at : (n + 1) + k ≡ n + suc k = omega arith in
    ap (λ (m : ℕ). entries_text n (take m (e ∷ es))) one
    ∙ ap (λ (t : List ℕ). (entry_text n e ++ codes "\n") ++ t) (lines_more es (n + 1) k entry is ∙ ap (λ (m : ℕ). entries_text (n + 1) (take k es) ++ (entry_text m entry ++ codes "\n")) at)
    ∙ sym (append_assoc (entry_text n e ++ codes "\n") (entries_text (n + 1) (take k es)) (entry_text (n + suc k) entry ++ codes "\n"))

-- one entry more behind so many
pub next_text : (es : List (Entry Global)) (before at : ℕ) (entry : Entry Global) → before ≤ at → slice_get es at ≡ Some entry
    → entries_text (before + 1) (take ((at + 1) - before) (drop before es)) ≡ entries_text (before + 1) (take (at - before) (drop before es)) ++ (entry_text (at + 1) entry ++ codes "\n")
next_text es before at entry order is =
    let k = at - before in
    let more : (at + 1) - before ≡ k + 1 = omega (arith, order) in
    let place : before + k ≡ at = omega (arith, order) in
    let number : (before + 1) + k ≡ at + 1 = omega (arith, order) in
    ap (λ (m : ℕ). entries_text (before + 1) (take m (drop before es))) more
    ∙ lines_more (drop before es) (before + 1) k entry (get_drop before es k ∙ ap (slice_get es) place ∙ is)
    ∙ ap (λ (m : ℕ). entries_text (before + 1) (take k (drop before es)) ++ (entry_text m entry ++ codes "\n")) number

-- none yet, and all
pub no_text : (es : List (Entry Global)) (before : ℕ) → entries_text (before + 1) (take (before - before) (drop before es)) ≡ []
no_text es before =
    let none : before - before ≡ 0 = omega arith in
    ap (λ (m : ℕ). entries_text (before + 1) (take m (drop before es))) none

pub all_text : (es : List (Entry Global)) (before at : ℕ) → before ≤ at → length es ≤ at → entries_text (before + 1) (take (at - before) (drop before es)) ≡ entries_text (before + 1) (drop before es)
all_text es before at order past = ap (entries_text (before + 1)) (take_all (at - before) (drop before es) (omega (arith, order, past, length-drop before es)))
