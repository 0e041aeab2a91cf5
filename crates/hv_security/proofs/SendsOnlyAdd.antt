-- A post and a signal take nothing away where they go.
use Rattle.std.proofs.Common.{◌≡◌, ℕ, ◌+◌, ◌==◌, ◌&&◌, ◌||◌, not, Bool, true, false, cond, Option, Some, None, inl, refl, sym, ap, subst, ◌∙◌, option_map, nat_cmp}
use Rattle.std.proofs.lemmas.Bool.{and_from, or_right}
use Rattle.std.specs.Cmp.{eq_by_cmp_equiv, nat_cmp_total, unsigned_tied}
use Rattle.std.specs.FinMap.{FinMap, get}
use Rattle.std.specs.FinSet as set
use Rattle.std.specs.Option.{option_map_or}
use Rattle.hv_defs.specs.Bits.{bits}
use Rattle.hv_defs.specs.Flags.{FlagSet}
use Rattle.hv_defs.specs.Vectors.{VectorSet, raised, with_vector}
use Rattle.hv_defs.specs.declared.registers.TheConstants.{SINT0}
use Rattle.hv_policy.proofs.Pairs.{pair_cmp_total, tied_pairs}
use Rattle.hv_policy.proofs.Rows.{get-with_vp}
use Rattle.hv_policy.specs.Effect.{row_raised, row_signalled, with_vp}
use Rattle.hv_policy.specs.Flat.{Flat, VpRow}
use Rattle.hv_policy.specs.Mail.{Place}
use Rattle.hv_security.specs.Same.{Gain, OneFlag, OneMessage, OnlyGains, RaisesOwn, has_flag, is_vector_in}

-- where nothing changes
no_vector : (may_raise : Type 0) (sint : ℕ) (row : Option VpRow) → RaisesOwn may_raise sint row row
no_vector may_raise sint row = record {
  stay = λ vector h. h;
  may = λ vector clear set_now. (let clash = sym clear ∙ set_now in cc);
  own = λ vector clear set_now. (let clash = sym clear ∙ set_now in cc);
}

pub gains_nothing : (at : Place) (gain : Gain) (f : Flat) → OnlyGains at gain f f
gains_nothing at (OneMessage message) f = record { mail = inl refl; flags = λ sint flag. refl; vectors = no_vector _ at.sint (get f.vp (at.part, at.vp)) }
gains_nothing at (OneFlag flag) f = record {
  mail = refl;
  others = λ sint other off. refl;
  stays = λ h. h;
  vectors = no_vector _ at.sint (get f.vp (at.part, at.vp));
}

-- a raise takes no vector away
raised_keeps : (registers : FinMap nat_cmp ℕ) (sint : ℕ) (vectors : VectorSet) (vector : ℕ) (did : Bool) → set.contains vectors vector ≡ true → set.contains
    (cond did (raised registers sint vectors) vectors) vector ≡ true
raised_keeps registers sint vectors vector false h = h
raised_keeps registers sint vectors vector true h = by (get registers _)
  where
    inserted : (value : ℕ) (masked : Bool) → set.contains (cond masked vectors (set.insert vectors (bits value 0 8))) vector ≡ true
    inserted value true = h
    inserted value false = set.contains-insert nat_cmp_total vectors (bits value 0 8) vector ∙ or_right _ (set.contains vectors vector) h

    by : (value : Option ℕ) → set.contains (with_vector vectors value) vector ≡ true
    by None = h
    by (Some value) = inserted value (bits value 16 1 == 1)

-- and adds the SINT's own alone
raised_one : (registers : FinMap nat_cmp ℕ) (sint : ℕ) (vectors : VectorSet) (vector : ℕ) (did : Bool) → set.contains vectors vector ≡ false → set.contains
    (cond did (raised registers sint vectors) vectors) vector ≡ true → (did ≡ true) × (option_map_or (is_vector_in vector) (get registers (SINT0 + sint)) false ≡ true)
raised_one registers sint vectors vector false clear set_now = let clash = sym clear ∙ set_now in cc
raised_one registers sint vectors vector true clear set_now = (refl, by (get registers (SINT0 + sint)) set_now)
  where
    inserted : (value : ℕ) (masked : Bool) → (bits value 16 1 == 1) ≡ masked → set.contains (cond masked vectors (set.insert vectors (bits value 0 8))) vector ≡ true → is_vector_in vector value ≡ true
    inserted value true is set_now = let clash = sym clear ∙ set_now in cc
    inserted value false is set_now =
        let or : ((vector == bits value 0 8) || set.contains vectors vector) ≡ true =
        sym (set.contains-insert nat_cmp_total vectors (bits value 0 8) vector ∙ ap (λ b. b || set.contains vectors vector) (unsigned_tied vector (bits value 0 8))) ∙ set_now in
        and_from _ _ (left (vector == bits value 0 8) (set.contains vectors vector) clear or) (ap not is)
      where
        left : (a b : Bool) → b ≡ false → (a || b) ≡ true → a ≡ true
        left true b none or = refl
        left false b none or = let clash = sym none ∙ or in cc

    by : (value : Option ℕ) → set.contains (with_vector vectors value) vector ≡ true → option_map_or (is_vector_in vector) value false ≡ true
    by None set_now = let clash = sym clear ∙ set_now in cc
    by (Some value) set_now = inserted value (bits value 16 1 == 1) refl set_now

-- a processor's row once its SINT raised
raises_own : (may_raise : Type 0) (sint : ℕ) (row : VpRow) (flags : FlagSet) (did : Bool) → (did ≡ true → may_raise) → RaisesOwn may_raise sint (Some row)
    (Some (row_raised did sint (record row { flags = flags })))
raises_own may_raise sint row flags did may = record {
  stay = λ vector h. raised_keeps row.registers sint row.pending vector did h;
  may = λ vector clear set_now. may (raised_one row.registers sint row.pending vector did clear set_now).0;
  own = λ vector clear set_now. (raised_one row.registers sint row.pending vector did clear set_now).1;
}

-- the processor at a place once it changed
module _ (f : Flat) (key : ℕ × ℕ) (h : VpRow → VpRow) where
  changed_there : get (with_vp f.vp key h) key ≡ option_map h (get f.vp key)
  changed_there = get-with_vp f.vp key h key ∙ ap (λ b. cond b (option_map h (get f.vp key)) (get f.vp key)) ((eq_by_cmp_equiv pair_cmp_total).refl key)

  there : (P : Option VpRow → Option VpRow → Type 0) → P None None → ((row : VpRow) → P (Some row) (Some (h row))) → P (get f.vp key) (get (with_vp f.vp key h) key)
  there P none some = subst (P (get f.vp key)) (sym changed_there) (by (get f.vp key))
    where
      by : (row : Option VpRow) → P row (option_map h row)
      by None = none
      by (Some row) = some row

-- a message that comes
module _ (f : Flat) (key : ℕ × ℕ) (sint : ℕ) (did : Bool) where
  pub message_flags : (other flag : ℕ) → has_flag (get f.vp key) other flag ≡ has_flag (get (with_vp f.vp key (row_raised did sint)) key) other flag
  message_flags other flag = there f key (row_raised did sint) (λ before after. has_flag before other flag ≡ has_flag after other flag) refl (λ row. refl)

  pub message_vectors : (may_raise : Type 0) → (did ≡ true → may_raise) → RaisesOwn may_raise sint (get f.vp key) (get (with_vp f.vp key (row_raised did sint)) key)
  message_vectors may_raise may = there f key (row_raised did sint) (RaisesOwn may_raise sint) (no_vector may_raise sint None) (λ row. raises_own may_raise sint row row.flags did may)

-- a flag that is set
module _ (f : Flat) (key : ℕ × ℕ) (sint flag : ℕ) where
  inserted : (row : VpRow) (other n : ℕ) → set.contains (set.insert row.flags (sint, flag)) (other, n) ≡ (((other == sint) && (n == flag)) || set.contains row.flags (other, n))
  inserted row other n =
      set.contains-insert pair_cmp_total row.flags (sint, flag) (other, n)
      ∙ ap (λ b. b || set.contains row.flags (other, n)) (tied_pairs other n sint flag ∙ ap (λ b. (other == sint) && b) (unsigned_tied n flag))

  pub other_flags : (other n : ℕ) → (other == sint) && (n == flag) ≡ false → has_flag (get f.vp key) other n ≡ has_flag (get (with_vp f.vp key (row_signalled sint flag)) key) other n
  other_flags other n off = there f key (row_signalled sint flag) (λ before after. has_flag before other n ≡ has_flag after other n) refl
      (λ row. sym (inserted row other n ∙ ap (λ b. b || set.contains row.flags (other, n)) off))

  pub flag_stays : has_flag (get f.vp key) sint flag ≡ true → has_flag (get (with_vp f.vp key (row_signalled sint flag)) key) sint flag ≡ true
  flag_stays = there f key (row_signalled sint flag) (λ before after. has_flag before sint flag ≡ true → has_flag after sint flag ≡ true) (λ h. h)
      (λ row h. inserted row sint flag ∙ or_right _ (set.contains row.flags (sint, flag)) h)

  pub flag_vectors : RaisesOwn (has_flag (get f.vp key) sint flag ≡ false) sint (get f.vp key) (get (with_vp f.vp key (row_signalled sint flag)) key)
  flag_vectors = there f key (row_signalled sint flag) (λ before after. RaisesOwn (has_flag before sint flag ≡ false) sint before after) (no_vector _ sint None)
      (λ row. raises_own _ sint row (set.insert row.flags (sint, flag)) (not (set.contains row.flags (sint, flag))) (was_clear (set.contains row.flags (sint, flag))))
    where
      was_clear : (b : Bool) → not b ≡ true → b ≡ false
      was_clear true is = cc
      was_clear false is = refl
