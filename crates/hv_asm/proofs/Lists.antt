-- Bytes that are added one after another.
use Rattle.std.proofs.Common.{◌≡◌, ℕ, zero, suc, ◌+◌, ◌<◌, ◌≤◌, List, [], ◌∷◌, ◌++◌, length, drop, take, get_or, Result, Ok, Err, refl, sym, ap, ◌∙◌, arith, append_assoc, append-nil}
use Rattle.std.proofs.lemmas.List.{at_drop_more}
use Rattle.std.specs.Int.{byte_at, bytes_low_first}
use Rattle.std.specs.Prelude.{OnOk}
use Rattle.hv_script.specs.Line.{◌>>=◌}
use Rattle.hv_asm.specs.List.{all_bytes}
use Rattle.hv_asm.specs.Made.{IsPushed}
use Rattle.hv_asm.specs.declared.fault.AsmFault.{AsmFault}

-- the list after some bytes more
abbrev pub with_more : List ℕ → Result (List ℕ) AsmFault → Result (List ℕ) AsmFault
with_more old more = more >>= (λ more. Ok (old ++ more))

-- what is left, once the first is added
pub one_added : {X : Type 0} (bytes : X → Result (List ℕ) AsmFault) (x : X) (xs : List X) (old new : List ℕ)
    → with_more old (bytes x) ≡ Ok new → with_more old (all_bytes bytes (x ∷ xs)) ≡ with_more new (all_bytes bytes xs)
one_added bytes x xs old new added = by (bytes x) (all_bytes bytes xs) added
  where
    by : (first rest : Result (List ℕ) AsmFault) → with_more old first ≡ Ok new
        → with_more old (first >>= (λ first. rest >>= (λ rest. Ok (first ++ rest)))) ≡ with_more new rest
    by (Err fault) rest e = cc
    by (Ok first) (Err fault) e = refl
    by (Ok first) (Ok rest) e =
        let is : old ++ first ≡ new = cc in
        ap Ok (sym (append_assoc old first rest) ∙ ap (λ (l : List ℕ). l ++ rest) is)

-- the first fault decides
pub one_fails : {X : Type 0} (bytes : X → Result (List ℕ) AsmFault) (x : X) (xs : List X) (old : List ℕ) (fault : AsmFault)
    → with_more old (bytes x) ≡ Err fault → with_more old (all_bytes bytes (x ∷ xs)) ≡ Err fault
one_fails bytes x xs old fault failed = by (bytes x) failed
  where
    by : (first : Result (List ℕ) AsmFault) → with_more old first ≡ Err fault
        → with_more old (first >>= (λ first. all_bytes bytes xs >>= (λ rest. Ok (first ++ rest)))) ≡ Err fault
    by (Err other) e = e
    by (Ok first) e = cc

-- the next of several is added, or fails
pub next_added : {X : Type 0} (bytes : X → Result (List ℕ) AsmFault) (xs : List X) (i : ℕ) (d : X) (all : Result (List ℕ) AsmFault) (old new : List ℕ) → i < length xs
    → all ≡ with_more old (all_bytes bytes (drop i xs)) → with_more old (bytes (get_or xs i d)) ≡ Ok new → all ≡ with_more new (all_bytes bytes (drop (i + 1) xs))
next_added bytes xs i d all old new lt so_far added =
    so_far ∙ at_drop_more (λ xs. with_more old (all_bytes bytes xs)) xs i d lt ∙ one_added bytes (get_or xs i d) (drop (i + 1) xs) old new added

pub next_fails : {X : Type 0} (bytes : X → Result (List ℕ) AsmFault) (xs : List X) (i : ℕ) (d : X) (all : Result (List ℕ) AsmFault) (old : List ℕ) (fault : AsmFault) → i < length xs
    → all ≡ with_more old (all_bytes bytes (drop i xs)) → with_more old (bytes (get_or xs i d)) ≡ Err fault → all ≡ Err fault
next_fails bytes xs i d all old fault lt so_far failed =
    so_far ∙ at_drop_more (λ xs. with_more old (all_bytes bytes xs)) xs i d lt ∙ one_fails bytes (get_or xs i d) (drop (i + 1) xs) old fault failed

-- none is left
pub none_left : {X : Type 0} (bytes : X → Result (List ℕ) AsmFault) (xs : List X) (all : Result (List ℕ) AsmFault) (new : List ℕ) → xs ≡ []
    → all ≡ with_more new (all_bytes bytes xs) → all ≡ Ok new
none_left bytes xs all new none so_far = so_far ∙ ap (λ xs. with_more new (all_bytes bytes xs)) none ∙ ap Ok (append-nil new)

-- the lowest bytes of a number are the first of its bytes
pub take_low : (size n i x : ℕ) → size ≤ n → take size (bytes_low_first i n x) ≡ bytes_low_first i size x
take_low zero n i x fits = refl
take_low (suc size) zero i x fits = absurd (omega (arith, fits))
take_low (suc size) (suc n) i x fits = ap (λ (l : List ℕ). byte_at i x ∷ l) (take_low size n (suc i) x (omega (arith, fits)))

-- bytes that were added
pub added : (old more new : List ℕ) → with_more old (Ok more) ≡ Ok new → new ≡ old ++ more
added old more new e = let is : old ++ more ≡ new = cc in sym is

-- bytes behind those that were added
pub pushed_more : {T : Type 0} (result : Result T AsmFault) (old mid new first last : List ℕ) (all : Result (List ℕ) AsmFault) → mid ≡ old ++ first → all ≡ Ok (first ++ last)
    → IsPushed result mid new (Ok last) → IsPushed result old new all
pushed_more (Ok value) old mid new first last all is of_all pushed =
    ap (with_more old) of_all ∙ ap Ok (sym (append_assoc old first last) ∙ ap (λ (l : List ℕ). l ++ last) (sym is)) ∙ pushed
pushed_more (Err fault) old mid new first last all is of_all pushed = λ named.
    ap (with_more old) of_all ∙ ap Ok (sym (append_assoc old first last) ∙ ap (λ (l : List ℕ). l ++ last) (sym is)) ∙ pushed named

-- what holds in any case
pub in_any : {T E : Type 0} (r : Result T E) (P : Type 0) → P → OnOk r P
in_any (Ok value) P holds = holds
in_any (Err error) P holds = tt
