-- What a change of one processor shows at each, what raises add, and what tells what an effect names.
use Rattle.std.proofs.Common.{◌≡◌, ℕ, ◌+◌, ◌*◌, ◌%◌, ◌^◌, ◌<◌, ◌==◌, ◌&&◌, ◌||◌, Bool, true, false, cond, not, Option, Some, None, refl, sym, ap, ◌∙◌, eq-eqb, eqb-true, option_map}
use Rattle.std.proofs.Common.{List, arith, inl, inr, is_some, nat_cmp, ne_eqb}
use Rattle.std.proofs.Math.Pow.{pow-lt}
use Rattle.std.proofs.lemmas.Bool.{and_from, cases_eq}
use Rattle.std.proofs.lemmas.Nat.Bits.{bit_at-pow_other, bit_at-pow_same, bit_at-zero}
use Rattle.std.specs.Cmp.{nat_cmp_total, unsigned_tied}
use Rattle.std.specs.FinMap.{FinMap, get}
use Rattle.std.specs.FinSet as set
use Rattle.std.specs.Ordering.{eq_by_cmp}
use Rattle.hv_policy.specs.Reading.{has_flag, has_vector}
use Rattle.hv_defs.specs.Bits.{bits}
use Rattle.hv_defs.specs.Flags.{pair_cmp}
use Rattle.hv_defs.specs.Vectors.{VectorSet, raised, with_vector}
use Rattle.hv_defs.specs.declared.registers.TheConstants.{SINT0}
use Rattle.hv_policy.proofs.Pairs.{tied_pairs}
use Rattle.hv_policy.proofs.Rows.{get-with_vp}
use Rattle.hv_policy.specs.Effect.{counted, with_vp}
use Rattle.hv_policy.specs.Flat.{Flat, MailRow, VpRow}
use Rattle.hv_policy.specs.Mail.{Place, mail_at, place, shown_at}
use Rattle.hv_admit.specs.Effect.{HasNothing, IsChange, IsSo, Tells, has_bit, names_flag, names_messages, names_page, names_processor, names_vector}
use Rattle.hv_admit.specs.declared.effect.Effect.{Effect}
use Rattle.hv_admit.specs.declared.effect.Effect.TheVariants as variant

abbrev pub no_vectors : VectorSet
no_vectors = set.empty

-- the one bit of a SINT's mask
pub mask_bit : (sint : ℕ) → sint < 16 → (k : ℕ) → has_bit (1 * 2 ^ sint % 2 ^ 16) k ≡ k == sint
mask_bit sint low k =
    let small : 2 ^ sint < 2 ^ 16 = pow-lt low in
    let mask : 1 * 2 ^ sint % 2 ^ 16 ≡ 2 ^ sint = omega arith in
    ap (λ n. has_bit n k) mask
    ∙ elim (cases_eq k sint) as (λ _. has_bit (2 ^ sint) k ≡ k == sint) [
      | inl same ↦ ap (has_bit (2 ^ sint)) same ∙ ap (λ n. n == 1) (bit_at-pow_same sint) ∙ sym (eq-eqb k sint same)
      | inr apart ↦ ap (λ n. n == 1) (bit_at-pow_other sint k apart) ∙ sym (ne_eqb k sint apart)
    ]

-- 0 has no bit, and the empty set has no vector
pub no_bit : (sint : ℕ) → has_bit 0 sint ≡ false
no_bit sint = ap (λ n. n == 1) (bit_at-zero sint)

pub none_raised : (vector : ℕ) → set.contains no_vectors vector ≡ false
none_raised vector = set.contains-empty nat_cmp vector

-- a mask with a bit is not 0
pub some_bit : (mask sint : ℕ) → has_bit mask sint ≡ true → not (mask == 0) ≡ true
some_bit mask sint is = grind (arith, no_bit sint)

-- what the SINT of a one-bit mask shows
pub shown_of : (at : Place) (mask : ℕ) → ((sint : ℕ) → has_bit mask sint ≡ sint == at.sint) → (mail : List MailRow) (sint : ℕ) → has_bit mask sint ≡ true
    → shown_at (place at.part at.vp sint) mail ≡ shown_at at mail
shown_of at mask bit mail sint is = ap (λ sint. shown_at (place at.part at.vp sint) mail) (eqb-true sint at.sint (sym (bit sint) ∙ is))

-- pairs are compared by both numbers
pub pair_tied : (id index part vp : ℕ) → eq_by_cmp pair_cmp (id, index) (part, vp) ≡ (id == part) && (index == vp)
pair_tied id index part vp = tied_pairs id index part vp ∙ ap (λ b. (id == part) && b) (unsigned_tied index vp)

-- the processors once one of them changed, by the tests that effects make
pub there : (vps : FinMap pair_cmp VpRow) (part vp : ℕ) (h : VpRow → VpRow) (id index : ℕ)
    → get (with_vp vps (part, vp) h) (id, index) ≡ cond ((id == part) && (index == vp)) (option_map h (get vps (part, vp))) (get vps (id, index))
there vps part vp h id index =
    get-with_vp vps (part, vp) h (id, index)
    ∙ ap (λ b. cond b (option_map h (get vps (part, vp))) (get vps (id, index))) (pair_tied id index part vp)

pub itself : (part vp : ℕ) → (part == part) && (vp == vp) ≡ true
itself part vp = and_from _ _ (eq-eqb part part refl) (eq-eqb vp vp refl)

pub there_itself : (vps : FinMap pair_cmp VpRow) (part vp : ℕ) (h : VpRow → VpRow) → get (with_vp vps (part, vp) h) (part, vp) ≡ option_map h (get vps (part, vp))
there_itself vps part vp h = there vps part vp h part vp ∙ ap (λ b. cond b (option_map h (get vps (part, vp))) (get vps (part, vp))) (itself part vp)

-- what is seen at two indices is seen at those that they equal
pub moved : {X : Type 0} (see : ℕ → ℕ → X) (id index part vp : ℕ) → (id == part) && (index == vp) ≡ true → see id index ≡ see part vp
moved see id index part vp here = grind arith

-- a changed row is still there
pub still_there : {X Y : Type 0} (h : X → Y) (o : Option X) → is_some (option_map h o) ≡ is_some o
still_there h None = refl
still_there h (Some x) = refl

-- where one processor changed, and no page did, an effect tells what it names of the processor's row
module _ (e : Effect) (part vp : ℕ) (h : VpRow → VpRow) (f g : Flat) (pages : f.page ≡ g.page)
    (rows : (id index : ℕ) → get g.vp (id, index) ≡ cond ((id == part) && (index == vp)) (option_map h (get f.vp (part, vp))) (get f.vp (id, index)))
    (mail : (at : Place) → names_messages e at ≡ false → mail_at at g.mail ≡ mail_at at f.mail)
    (flags : (v : VpRow) → get f.vp (part, vp) ≡ Some v → (sint flag : ℕ) → names_flag e (place part vp sint) flag ≡ false → set.contains (h v).flags (sint, flag) ≡ set.contains v.flags (sint, flag))
    (vectors : (v : VpRow) → get f.vp (part, vp) ≡ Some v → (vector : ℕ) → names_vector e part vp vector ≡ false → set.contains (h v).pending vector ≡ set.contains v.pending vector) where
  -- what is seen of each is as it was, where the change does not show at the one that changed
  seen : {X : Type 0} (see : Option VpRow → X) (id index : ℕ)
      → ((id == part) && (index == vp) ≡ true → see (option_map h (get f.vp (part, vp))) ≡ see (get f.vp (part, vp))) → see (get g.vp (id, index)) ≡ see (get f.vp (id, index))
  seen see id index same = ap see (rows id index) ∙ by ((id == part) && (index == vp)) refl
    where
      by : (b : Bool) → (id == part) && (index == vp) ≡ b → see (cond b (option_map h (get f.vp (part, vp))) (get f.vp (id, index))) ≡ see (get f.vp (id, index))
      by true here = same here ∙ sym (moved (λ id index. see (get f.vp (id, index))) id index part vp here)
      by false off = refl

  flag_there : (r : Option VpRow) → get f.vp (part, vp) ≡ r → (sint flag : ℕ) → names_flag e (place part vp sint) flag ≡ false → has_flag (option_map h r) sint flag ≡ has_flag r sint flag
  flag_there None is sint flag off = refl
  flag_there (Some v) is sint flag off = flags v is sint flag off

  vector_there : (r : Option VpRow) → get f.vp (part, vp) ≡ r → (vector : ℕ) → names_vector e part vp vector ≡ false → has_vector (option_map h r) vector ≡ has_vector r vector
  vector_there None is vector off = refl
  vector_there (Some v) is vector off = vectors v is vector off

  pub row_told : IsSo e f g → IsChange e f g → Tells e f g
  row_told named changed = record {
    unnamed = record {
      messages = mail;
      flags = λ at flag off. seen (λ r. has_flag r at.sint flag) at.part at.vp
          (λ here. flag_there (get f.vp (part, vp)) refl at.sint flag (sym (moved (λ id index. names_flag e (place id index at.sint) flag) at.part at.vp part vp here) ∙ off));
      vectors = λ id index vector off. seen (λ r. has_vector r vector) id index
          (λ here. vector_there (get f.vp (part, vp)) refl vector (sym (moved (λ id index. names_vector e id index vector) id index part vp here) ∙ off));
      pages = λ page _. ap (λ m. get m page) (sym pages);
      processors = λ id index _. seen is_some id index (λ _. still_there h (get f.vp (part, vp)));
    };
    named = named;
    changed = changed;
  }

-- a raise adds to some vectors what it adds to none
pub raised_both : (registers : FinMap nat_cmp ℕ) (sint : ℕ) (vectors : VectorSet) (vector : ℕ)
    → set.contains (raised registers sint vectors) vector ≡ (set.contains (raised registers sint no_vectors) vector || set.contains vectors vector)
raised_both registers sint vectors vector = by (get registers (SINT0 + sint))
  where
    one : (value : ℕ) (masked : Bool) → set.contains (cond masked vectors (set.insert vectors (bits value 0 8))) vector ≡
        (set.contains (cond masked no_vectors (set.insert no_vectors (bits value 0 8))) vector || set.contains vectors vector)
    one value true = grind (arith, none_raised vector)
    one value false = grind (arith, none_raised vector, set.contains-insert nat_cmp_total vectors (bits value 0 8) vector, set.contains-insert nat_cmp_total no_vectors (bits value 0 8) vector)

    by : (value : Option ℕ) → set.contains (with_vector vectors value) vector ≡ (set.contains (with_vector no_vectors value) vector || set.contains vectors vector)
    by None = grind (arith, none_raised vector)
    by (Some value) = one value (bits value 16 1 == 1)

-- one more served event is no difference
pub once_counted : (e : Effect) (f g : Flat) → Tells e f g → Tells e f (counted g)
once_counted e f g t = record {
  unnamed = record {
    messages = t.unnamed.messages;
    flags = t.unnamed.flags;
    vectors = t.unnamed.vectors;
    pages = t.unnamed.pages;
    processors = t.unnamed.processors;
  };
  named = by e t.named;
  changed = now e t.changed;
}
  where
    nothing : (part vp : ℕ) → HasNothing part vp g → HasNothing part vp (counted g)
    nothing part vp h = record { messages = h.messages; flags = h.flags; vectors = h.vectors }

    now : (e : Effect) → IsChange e f g → IsChange e f (counted g)
    now variant.Nothing h = tt
    now e h = h

    by : (e : Effect) → IsSo e f g → IsSo e f (counted g)
    by variant.Nothing h = tt
    by (variant.Synic s) h = record {
      shown = h.shown;
      waiting = λ sint is. (let w = h.waiting sint is in record { behind = w.behind; message = w.message; waits = w.waits; last = w.last });
      flag = λ change is. (let w = h.flag change is in record { before = w.before; now = w.now });
      raised = h.raised;
      pending = h.pending;
      taken = λ vector is. (let w = h.taken vector is in record { highest = w.highest; before = w.before; now = w.now });
      freed = λ port is. (let w = h.freed port is in record { sint = w.sint; message = w.message; before = w.before; by = w.by; now = w.now });
      left = h.left;
    }
    by (variant.Page page owner pooled) h = record { now = h.now; owner = h.owner }
    by (variant.Pages from to) h = record { gone = h.gone; pages = h.pages }
    by (variant.Processor part vp) h = record { life = h.life; nothing = nothing part vp h.nothing }
    by (variant.Partition part) h = record { life = h.life; gone = h.gone; nothing = λ vp. nothing part vp (h.nothing vp) }

-- an effect that does not name a processor's flags or vectors does not name the processor
unnamed_by_flag : (e : Effect) (at : Place) (flag : ℕ) → names_flag e at flag ≡ false → names_processor e at.part at.vp ≡ false
unnamed_by_flag (variant.Processor part vp) at flag off = off
unnamed_by_flag (variant.Partition part) at flag off = off
unnamed_by_flag e at flag off = refl

unnamed_by_vector : (e : Effect) (id index vector : ℕ) → names_vector e id index vector ≡ false → names_processor e id index ≡ false
unnamed_by_vector (variant.Processor part vp) id index vector off = off
unnamed_by_vector (variant.Partition part) id index vector off = off
unnamed_by_vector e id index vector off = refl

-- an effect tells what it names where no row changed of a processor that it does not name
pub rows_told : (e : Effect) (f g : Flat) → ((at : Place) → names_messages e at ≡ false → mail_at at g.mail ≡ mail_at at f.mail)
    → ((id index : ℕ) → names_processor e id index ≡ false → get g.vp (id, index) ≡ get f.vp (id, index))
    → ((page : ℕ) → names_page e page (get f.page page) ≡ false → get g.page page ≡ get f.page page) → IsSo e f g → IsChange e f g → Tells e f g
rows_told e f g mail rows pages named changed = record {
  unnamed = record {
    messages = mail;
    flags = λ at flag off. ap (λ r. has_flag r at.sint flag) (rows at.part at.vp (unnamed_by_flag e at flag off));
    vectors = λ id index vector off. ap (λ r. has_vector r vector) (rows id index (unnamed_by_vector e id index vector off));
    pages = pages;
    processors = λ id index off. ap is_some (rows id index off);
  };
  named = named;
  changed = changed;
}
