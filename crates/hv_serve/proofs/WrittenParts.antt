-- What went out, part by part.
use Rattle.std.proofs.Common.{◌≡◌, ℕ, List, [], ◌++◌, ap, ◌∙◌, Option, Some}
use Rattle.std.specs.Io.KnownBytes.{Appends}
use Rattle.std.proofs.KnownBytes.{Appends-trans}

pub three : (a b c d : Option (List ℕ)) (u v w : List ℕ) → Appends a b u → Appends b c v → Appends c d w → Appends a d (u ++ v ++ w)
three a b c d u v w p q r = Appends-trans a c d (u ++ v) w (Appends-trans a b c u v p q) r

pub five : (a b c d e f : Option (List ℕ)) (u v w x y : List ℕ) → Appends a b u → Appends b c v → Appends c d w → Appends d e x → Appends e f y → Appends a f (u ++ v ++ w ++ x ++ y)
five a b c d e f u v w x y p q r s t = Appends-trans a e f (u ++ v ++ w ++ x) y (Appends-trans a d e (u ++ v ++ w) x (three a b c d u v w p q r) s) t

pub six : (a b c d e f g : Option (List ℕ)) (u v w x y z : List ℕ) → Appends a b u → Appends b c v → Appends c d w → Appends d e x → Appends e f y → Appends f g z
    → Appends a g (u ++ v ++ w ++ x ++ y ++ z)
six a b c d e f g u v w x y z p q r s t k = Appends-trans a f g (u ++ v ++ w ++ x ++ y) z (five a b c d e f u v w x y p q r s t) k

-- a text that was built in a vector without bytes
pub built : (old new text : List ℕ) → old ≡ [] → Appends (Some old) (Some new) text → new ≡ text
built old new text none told = told ∙ ap (λ (l : List ℕ). l ++ text) none
