-- A text between a head and a tail, of which a part was written.
use Rattle.std.proofs.Common.{◌≡◌, ◌≢◌, ◌⊎◌, inl, inr, ℕ, List, [], ◌++◌, refl, sym, ap, subst, Option, None, Some, Result, Ok, Err, OnOk, IfErr, IfNone, IfSome, IsOk}
use Rattle.std.specs.Io.KnownBytes.{Appends, Keeps}
use Rattle.hv_explain.specs.Part.{HasPutPart, HasPutUntil}
use Rattle.hv_run.proofs.Parts.{part_after, part_before, part_kept, part_none}
use Rattle.hv_run.specs.Written.{HasPart}
use Rattle.hv_run.specs.declared.failure.Failure.{Failure}
use Rattle.hv_run.specs.declared.failure.Failure.TheVariants as failure
use Rattle.hv_trace.specs.Framed.{IsFramed}

-- a failure is that of a write, or another one
is_write : (f : Failure) → (f ≡ failure.Write) ⊎ (f ≢ failure.Write)
is_write failure.Unreadable = inr (λ same. absurd (cc))
is_write (failure.Fault line kind) = inr (λ same. absurd (cc))
is_write failure.Pages = inr (λ same. absurd (cc))
is_write failure.Pool = inr (λ same. absurd (cc))
is_write failure.Vps = inr (λ same. absurd (cc))
is_write failure.Memory = inr (λ same. absurd (cc))
is_write failure.HistoryFull = inr (λ same. absurd (cc))
is_write failure.Missing = inr (λ same. absurd (cc))
is_write failure.Differs = inr (λ same. absurd (cc))
is_write failure.Write = inl refl

module _ (head tail : List ℕ) (Kind : List ℕ → Type 0) where
  -- nothing was written, or a part of the head
  pub framed_head : (a d : Option (List ℕ)) → Kind [] → HasPart head a d → HasPutPart (IsFramed head tail Kind) a d
  framed_head a d kind part = record { text = head ++ ([] ++ tail); kind = record { within = []; kind = kind; is = refl }; part = part_before head ([] ++ tail) a d part }

  pub framed_none : (a d : Option (List ℕ)) → Kind [] → Keeps a d → HasPutPart (IsFramed head tail Kind) a d
  framed_none a d kind same = framed_head a d kind (part_none head a d same)

  module _ (a b c d : Option (List ℕ)) (first : Appends a b head) (last : HasPart tail c d) where
    -- all of the head, and what follows
    framed : (f : Failure) → HasPutUntil f Kind b c → (f ≡ failure.Write → Keeps c d) → HasPutPart (IsFramed head tail Kind) a d
    framed f is kept = record {
      text = head ++ (is.text ++ tail);
      kind = record { within = is.text; kind = is.kind; is = refl };
      part = part_after head (is.text ++ tail) a b d first (behind (is_write f));
    }
      where
        behind : (f ≡ failure.Write) ⊎ (f ≢ failure.Write) → HasPart (is.text ++ tail) b d
        behind (inl write) = part_before is.text tail b d (part_kept is.text b c d is.part (kept write))
        behind (inr other) = part_after is.text tail b c d (is.whole other) last

    pub framed_by : {T : Type 0} (r : Result T Failure) → OnOk r (HasPutUntil failure.Memory Kind b c) → IfErr r (λ f. HasPutUntil f Kind b c) → (r ≡ Err failure.Write → Keeps c d)
        → HasPutPart (IsFramed head tail Kind) a d
    framed_by (Ok value) told cut kept = framed failure.Memory told (λ same. absurd (cc))
    framed_by (Err f) told cut kept = framed f cut (λ write. kept (ap Err write))

-- what holds in any case holds with and without an audit
pub without : {T : Type 0} (o : Option T) {P : Type 0} → P → IfNone o P
without None holds = holds
without (Some t) holds = tt

pub within_any : {T : Type 0} (o : Option T) (P : T → Type 0) → ((t : T) → P t) → IfSome o P
within_any None P holds = tt
within_any (Some t) P holds = holds t

pub some_is : {T : Type 0} (o : Option T) (t : T) (P : T → Type 0) → o ≡ Some t → P t → IfSome o P
some_is o t P is holds = subst (λ o. IfSome o P) (sym is) holds

-- a run to which notes are missing is told, too
pub noted_by : {T : Type 0} (Kind : List ℕ → Type 0) (b c : Option (List ℕ)) (r s : Result T Failure) → (IsOk s → IsOk r) → IfErr s (λ f. (r ≡ Err f) ⊎ (IsOk r × (f ≡ failure.Memory)))
    → OnOk r (HasPutUntil failure.Memory Kind b c) → IfErr r (λ f. HasPutUntil f Kind b c) → OnOk s (HasPutUntil failure.Memory Kind b c) × IfErr s (λ f. HasPutUntil f Kind b c)
noted_by Kind b c (Ok x) (Ok y) ok err told cut = (told, tt)
noted_by Kind b c (Err e) (Ok y) ok err told cut = (absurd (let no = ok refl in cc), tt)
noted_by Kind b c (Ok x) (Err f) ok (inl same) told cut = (tt, absurd (cc))
noted_by Kind b c (Ok x) (Err f) ok (inr (is, same)) told cut = (tt, subst (λ f. HasPutUntil f Kind b c) (sym same) told)
noted_by Kind b c (Err e) (Err f) ok (inl same) told cut = (tt, subst (λ f. HasPutUntil f Kind b c) (let it : e ≡ f = cc in it) cut)
noted_by Kind b c (Err e) (Err f) ok (inr (is, same)) told cut = (tt, absurd (let no = is in cc))
