-- Elements of lists.
use Rattle.std.proofs.Common.{◌≡◌, ℕ, zero, suc, ◌<◌, List, [], ◌∷◌, length, get_or, arith, map, ◌++◌, ◌∙◌, length-append, Contains}
use Rattle.std.proofs.Math.ListN.{get_or-append}
use Rattle.std.proofs.Math.Seq.{get_or-append_seam}

module _ {X : Type 0} where
  pub here_of : (x : X) (xs : List X) → Contains (x ∷ xs) x
  here_of x xs = (0, omega arith, λ i. x)

  pub there_of : (x y : X) (xs : List X) → Contains xs y → Contains (x ∷ xs) y
  there_of x y xs there = (suc there.0, (let less = there.1 in omega (arith, less)), there.2)

  pub some_of : (xs : List X) → 0 < length xs → X
  some_of [] h = absurd (omega arith)
  some_of (x ∷ xs) h = x

  pub there_at : (xs : List X) (k : ℕ) (d : X) → k < length xs → Contains xs (get_or xs k d)
  there_at [] k d h = absurd (omega arith)
  there_at (x ∷ xs) zero d h = here_of x xs
  there_at (x ∷ xs) (suc k) d h = there_of x (get_or xs k d) xs (there_at xs k d (omega (arith, h)))

  pub left_of : (xs ys : List X) (y : X) → Contains xs y → Contains (xs ++ ys) y
  left_of xs ys y there = (
    there.0,
    (let less = there.1 in let many = length-append xs ys in omega (arith, less, many)),
    get_or-append xs ys y there.0 there.1
        ∙ there.2,
  )

  pub last_of : (xs : List X) (x : X) → Contains (xs ++ x ∷ []) x
  last_of xs x = (length xs, (let many = length-append xs (x ∷ []) in omega (arith, many)), get_or-append_seam xs x [] x)

-- an element of a list's images is that of one of its elements
pub one_of_map : {X Y : Type 0} (f : X → Y) (xs : List X) (y : Y) → Contains (map f xs) y → (x : X) × Contains xs x × (f x ≡ y)
one_of_map f [] y there = absurd (let less = there.1 in omega (arith, less))
one_of_map {X} {Y} f (x ∷ xs) y there = at there.0 there.1 there.2 (λ k less is. one_of_map f xs y (k, less, is))
  where
    at : (k : ℕ) → k < length (map f (x ∷ xs)) → get_or (map f (x ∷ xs)) k y ≡ y
        → ((k : ℕ) → k < length (map f xs) → get_or (map f xs) k y ≡ y → (z : X) × Contains xs z × (f z ≡ y)) → (z : X) × Contains (x ∷ xs) z × (f z ≡ y)
    at zero less is later = (x, here_of x xs, is)
    at (suc k) less is later = let one = later k (omega (arith, less)) is in (one.0, there_of x one.0 xs one.1, one.2)
