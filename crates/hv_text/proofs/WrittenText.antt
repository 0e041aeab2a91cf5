-- What a writer has of a text, once more of it goes out.
use Rattle.std.proofs.Common.{◌≡◌, ℕ, suc, ◌+◌, ◌-◌, ◌<◌, ◌≤◌, List, [], ◌∷◌, ◌++◌, length, take, drop, Some, refl, sym, ap, subst, ◌∙◌, arith, take-add, take_all, add-one, drop-cons, length-append}
use Rattle.std.proofs.Common.{length-drop, drop-drop, slice_get, Option}
use Rattle.std.proofs.lemmas.List.{drop-append-le, take-append-le, take_rest}
use Rattle.std.proofs.lemmas.Option.{get_or_from_slice_get, slice_get_within}
use Rattle.std.specs.Io.KnownBytes.{Appends, Keeps}
use Rattle.std.proofs.KnownBytes.{Appends-kept, Appends-nil, Appends-trans}
use Rattle.hv_text.specs.Fault.{HasSent, IsCut}
use Rattle.hv_text.specs.declared.fault.PrintFault.TheVariants.{Write}

-- nothing has gone out yet
pub sent-none : (old : Option (List ℕ)) (text : List ℕ) → HasSent old old text text 0
sent-none old text = record { gone = Appends-nil old; left = refl; within = omega arith }

-- and n bytes more
pub sent-more : (n : ℕ) (old mid new : Option (List ℕ)) (text bytes more : List ℕ) (written : ℕ) → HasSent old mid text (bytes ++ more) written → n ≤ length bytes
    → Appends mid new (take n bytes) → HasSent old new text (take (length bytes - n) (drop n bytes) ++ more) (written + n)
sent-more n old mid new text bytes more written is fits sent =
    record {
      gone = rw (take-add written n text, is.left, take-append-le n bytes more fits) (Appends-trans old mid new _ _ is.gone sent);
      left = sym (drop-drop n written text) ∙ ap (drop n) is.left ∙ drop-append-le n bytes more fits ∙ ap (λ t. t ++ more) (sym (take_rest bytes n));
      within = omega (arith, is.within, ap length is.left, length-drop written text, length-append bytes more);
    }

-- a write that failed
pub sent-same : (old mid new : Option (List ℕ)) (text rest : List ℕ) (written : ℕ) → HasSent old mid text rest written → Keeps mid new → HasSent old new text rest written
sent-same old mid new text rest written is same = record { gone = Appends-kept old mid new _ is.gone same; left = is.left; within = is.within }

-- where some bytes are left, the text is cut
pub sent-part : (old new : Option (List ℕ)) (text bytes more : List ℕ) (written : ℕ) → HasSent old new text (bytes ++ more) written → 0 < length bytes → IsCut old new text (Write written)
sent-part old new text bytes more written is some = (is.gone, omega (arith, ap length is.left, length-drop written text, length-append bytes more))

-- where none are, all of it went out
pub sent-all : (old new : Option (List ℕ)) (text : List ℕ) (written : ℕ) → HasSent old new text [] written → Appends old new text
sent-all old new text written is = subst (Appends old new) (take_all written text (omega (arith, ap length is.left, length-drop written text))) is.gone

-- what is left of a list, from an element on
pub drop-at : {X : Type 0} (xs : List X) (i : ℕ) (x : X) → slice_get xs i ≡ Some x → drop i xs ≡ x ∷ drop (i + 1) xs
drop-at xs i x is = rw add-one (drop-cons xs i x (slice_get_within xs i x is) ∙ ap (λ y. y ∷ drop (suc i) xs) (get_or_from_slice_get xs i x x is))
