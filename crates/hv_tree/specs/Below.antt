-- The rows of a node's children.
use Rattle.std.specs.Prelude.{ℕ, List, [], ◌∷◌, ◌++◌, length, Box}
use Rattle.std.proofs.Common.{◌≡◌, arith, refl}
use Rattle.hv_tree.specs.Nest.{Line, hang, IsNest}

-- the rows of all the children of p
abbrev pub below : {T A : Type 0} → ℕ → List (Box (List (Line T)) A) → List (Line T)
below p [] = []
below p (k ∷ ks) = hang p k.value ++ below p ks

pub length-hang : {T : Type 0} (p : ℕ) (es : List (Line T)) → length (hang p es) ≡ length es
length-hang p [] = refl
length-hang p (e ∷ es) = omega (arith, length-hang p es)

-- each child's rows are those of one node and of all below it
abbrev pub AreNests : {T A : Type 0} → List (Box (List (Line T)) A) → Type 0
AreNests [] = Unit {0}
AreNests (k ∷ ks) = IsNest k.value × AreNests ks
