-- What a cleared slot and a taken vector tell.
use Rattle.std.proofs.Common.{◌≡◌, ℕ, zero, suc, ◌%◌, ◌^◌, ◌==◌, ◌&&◌, ◌||◌, not, Bool, true, false, List, [], ◌∷◌, find, Some, None, refl, sym, ap, subst, ◌∙◌}
use Rattle.std.proofs.Common.{eq-eqb, eqb-true, filter, option_map, arith}
use Rattle.std.specs.Cmp.{nat_cmp_total, unsigned_tied}
use Rattle.std.specs.FinMap.{get}
use Rattle.std.specs.FinSet as set
use Rattle.std.specs.List.{list_any}
use Rattle.std.specs.Option.{option_map_or}
use Rattle.hv_policy.specs.Reading.{has_vector}
use Rattle.hv_defs.specs.Vectors.{VectorSet, highest, highest_below, without}
use Rattle.hv_policy.proofs.Places.{cleared_apart, cleared_there, is_place, is_place_true}
use Rattle.hv_policy.specs.Answer.{vector_of}
use Rattle.hv_policy.specs.Effect.{with_vp}
use Rattle.hv_policy.specs.Flat.{Flat, MailRow, VpRow}
use Rattle.hv_policy.specs.Mail.{Place, cleared, is_shown, mail_at, place, shown_at}
use Rattle.hv_admit.proofs.ProcessorChange.{itself, no_bit, none_raised, row_told, rows_told, shown_of, some_bit, there, there_itself}
use Rattle.hv_admit.proofs.RaisedVectors.{none_rings, still_shown}
use Rattle.hv_admit.specs.Effect.{IsSynic, IsTaken, Tells, has_bit, quiet}
use Rattle.hv_admit.specs.Raised.{became_shown}
use Rattle.hv_admit.specs.declared.effect.Effect.TheVariants as variant
use Rattle.hv_admit.specs.declared.effect.Synic.{Synic}

-- rows of which none is shown stay when those that are go
all_wait : (rows : List MailRow) → list_any is_shown rows ≡ false → filter (λ row. not row.shown) rows ≡ rows
all_wait [] none = refl
all_wait (row ∷ rows) none = grind (arith, all_wait rows)

none_left : (rows : List MailRow) → find is_shown (filter (λ row. not row.shown) rows) ≡ None
none_left [] = refl
none_left (row ∷ rows) = grind (arith, none_left rows)

none_any : (rows : List MailRow) → list_any is_shown (filter (λ row. not row.shown) rows) ≡ false
none_any [] = refl
none_any (row ∷ rows) = grind (arith, none_any rows)

module _ (at_slot : Place) (f : Flat) where
  abbrev rows : List MailRow
  rows = mail_at at_slot f.mail

  abbrev slot_cleared : Flat
  slot_cleared = record f { mail = cleared at_slot f.mail }

  -- a slot that shows none is cleared
  pub cleared_again : list_any is_shown rows ≡ false → Tells variant.Nothing f slot_cleared
  cleared_again none = rows_told variant.Nothing f slot_cleared (λ at _. by at (is_place at_slot at) refl) (λ part vp _. refl) (λ page _. refl) tt tt
    where
      by : (at : Place) (b : Bool) → is_place at_slot at ≡ b → mail_at at (cleared at_slot f.mail) ≡ mail_at at f.mail
      by at true here = subst (λ at. mail_at at (cleared at_slot f.mail) ≡ mail_at at f.mail) (sym (is_place_true at_slot at here)) (cleared_there at_slot f.mail ∙ all_wait rows none)
      by at false off = cleared_apart at at_slot off f.mail

  -- and one that shows a message
  pub cleared_shown : (mask port : ℕ) → ((sint : ℕ) → has_bit mask sint ≡ sint == at_slot.sint) → (row : MailRow) → shown_at at_slot f.mail ≡ Some row → port ≡ row.port % 2 ^ 32
      → Tells (variant.Synic (record (quiet at_slot.part at_slot.vp) { shown = mask; freed = Some port })) f slot_cleared
  cleared_shown mask port bit row before by =
      rows_told (variant.Synic s) f slot_cleared (λ at off. cleared_apart at at_slot (grind (arith, bit at.sint)) f.mail) (λ part vp _. refl) (λ page _. refl) named
      (ap (λ b. (b || false) || false) (some_bit mask at_slot.sint (bit at_slot.sint ∙ eq-eqb at_slot.sint at_slot.sint refl)))
    where
      s : Synic
      s = record (quiet at_slot.part at_slot.vp) { shown = mask; freed = Some port }

      now : shown_at at_slot slot_cleared.mail ≡ None
      now = ap (find is_shown) (cleared_there at_slot f.mail) ∙ none_left rows

      -- no SINT shows a message that showed none
      by_place : (k : ℕ) (b : Bool) → k == at_slot.sint ≡ b → became_shown at_slot.part at_slot.vp f slot_cleared k ≡ false
      by_place k true here =
          subst (λ k. became_shown at_slot.part at_slot.vp f slot_cleared k ≡ false) (sym (eqb-true k at_slot.sint here))
          (ap (λ b. b && not (list_any is_shown rows)) (ap (list_any is_shown) (cleared_there at_slot f.mail) ∙ none_any rows))
      by_place k false off = still_shown at_slot.part at_slot.vp f slot_cleared k
          (cleared_apart (place at_slot.part at_slot.vp k) at_slot (grind (arith, off)) f.mail)

      named : IsSynic s f slot_cleared
      named = record {
        shown = λ sint is same.
            (let clash : None ≡ Some row = sym now ∙ sym (shown_of at_slot mask bit slot_cleared.mail sint is) ∙ same ∙ shown_of at_slot mask bit f.mail sint is ∙ before in
            cc);
        waiting = λ sint is. cc;
        flag = λ change is. cc;
        raised = none_rings s f slot_cleared refl (λ k. by_place k (k == at_slot.sint) refl);
        pending = λ vector is. cc (none_raised vector);
        taken = λ vector is. cc;
        freed = λ other is. (let same : port ≡ other = cc in record { sint = at_slot.sint; message = row; before = before; by = sym same ∙ by; now = now });
        left = λ sint message is was gone. (let both : Some row ≡ Some message = sym before ∙ sym (shown_of at_slot mask bit f.mail sint is) ∙ was in cc);
      }

-- the highest of some vectors is one of them
highest_there : (n : ℕ) (vectors : VectorSet) (vector : ℕ) → highest_below n vectors ≡ Some vector → set.contains vectors vector ≡ true
unfolding highest_below
highest_there zero vectors vector some = cc
highest_there (suc n) vectors vector some = grind (arith, highest_there n vectors vector)

module _ (part vp : ℕ) (f : Flat) (v : VpRow) (is : get f.vp (part, vp) ≡ Some v) where
  abbrev take_it : VpRow → VpRow
  take_it row = record row { pending = without row.pending (highest row.pending) }

  abbrev interrupted : Flat
  interrupted = record f { vp = with_vp f.vp (part, vp) take_it }

  -- where none is pending, none is taken
  pub no_interrupt : highest v.pending ≡ None → Tells variant.Nothing f interrupted
  no_interrupt none =
      row_told variant.Nothing part vp take_it f interrupted refl (there f.vp part vp take_it) (λ at _. refl) (λ w at sint flag _. refl)
      (λ w at vector _. (let same : v ≡ w = cc in grind (arith, none))) tt tt

  -- and else the highest is
  pub interrupt_taken : (vector : ℕ) → highest v.pending ≡ Some vector → Tells (variant.Synic (record (quiet part vp) { taken = Some vector })) f interrupted
  interrupt_taken vector some =
      row_told (variant.Synic s) part vp take_it f interrupted refl (there f.vp part vp take_it) (λ at _. refl) (λ w at sint flag _. refl)
      (λ w at other off. (let same : v ≡ w = cc in grind (arith, now other, itself part vp))) named refl
    where
      s : Synic
      s = record (quiet part vp) { taken = Some vector }

      now : (other : ℕ) → set.contains (without v.pending (highest v.pending)) other ≡ (not (other == vector) && set.contains v.pending other)
      now other =
          ap (λ o. set.contains (without v.pending o) other) some ∙ set.contains-remove nat_cmp_total v.pending vector other
          ∙ ap (λ b. not b && set.contains v.pending other) (unsigned_tied other vector)

      gone : IsTaken s vector f interrupted
      gone = record {
        highest = sym (ap vector_of is ∙ ap (λ o. option_map_or (λ n. n) o 0) some);
        before = ap (λ r. has_vector r vector) is ∙ highest_there 256 v.pending vector some;
        now =
            ap (λ r. has_vector r vector) (there_itself f.vp part vp take_it) ∙ ap (λ r. has_vector (option_map take_it r) vector) is
            ∙ now vector ∙ ap (λ b. not b && set.contains v.pending vector) (eq-eqb vector vector refl);
      }

      named : IsSynic s f interrupted
      named = record {
        shown = λ sint h. cc (no_bit sint);
        waiting = λ sint h. cc;
        flag = λ change h. cc;
        raised = none_rings s f interrupted refl (λ k. still_shown part vp f interrupted k refl);
        pending = λ other h. cc (none_raised other);
        taken = λ other h. (let same : vector ≡ other = cc in subst (λ other. IsTaken s other f interrupted) same gone);
        freed = λ port h. cc;
        left = λ sint message h was gone. cc (no_bit sint);
      }
