-- What a step promises if it succeeds.
use Rattle.std.proofs.Common.{Result, Ok, Err, IsOk, OnOk}

pub at_ok : {T E : Type 0} (r : Result T E) (P : Type 0) → OnOk r P → IsOk r → P
at_ok (Ok x) P p ok = p
at_ok (Err e) P p ok = cc
