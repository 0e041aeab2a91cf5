-- Parts that were written one after another.
use Rattle.std.proofs.Common.{ℕ, List, ◌++◌, Option, Result, Ok, Err, OnOk}
use Rattle.std.specs.Io.KnownBytes.{Appends}
use Rattle.std.proofs.KnownBytes.{Appends-trans}

module _ {T E : Type 0} (r : Result T E) where
  pub two : (u v w : Option (List ℕ)) (a b : List ℕ) → Appends u v a → OnOk r (Appends v w b) → OnOk r (Appends u w (a ++ b))
  two u v w a b first last = with_ok r first last
    where
      with_ok : (r : Result T E) → Appends u v a → OnOk r (Appends v w b) → OnOk r (Appends u w (a ++ b))
      with_ok (Ok value) first last = Appends-trans u v w a b first last
      with_ok (Err error) first last = tt

  pub three : (u v w x : Option (List ℕ)) (a b c : List ℕ) → Appends u v a → Appends v w b → OnOk r (Appends w x c) → OnOk r (Appends u x (a ++ b ++ c))
  three u v w x a b c first second last = two u w x (a ++ b) c (Appends-trans u v w a b first second) last

  pub four : (u v w x y : Option (List ℕ)) (a b c d : List ℕ) → Appends u v a → Appends v w b → Appends w x c → OnOk r (Appends x y d) → OnOk r (Appends u y (a ++ b ++ c ++ d))
  four u v w x y a b c d first second third last = three u w x y (a ++ b) c d (Appends-trans u v w a b first second) third last
