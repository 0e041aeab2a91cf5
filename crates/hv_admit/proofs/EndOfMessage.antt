-- What a write of EOM tells.
use Rattle.std.proofs.Common.{◌≡◌, ℕ, zero, suc, ◌==◌, ◌&&◌, ◌||◌, not, nat_lt, is_some, Bool, true, false}
use Rattle.std.proofs.Common.{cond, List, [], ◌∷◌, Option, Some, None, refl, sym, ap}
use Rattle.std.proofs.Common.{subst, ◌∙◌, arith, eqb-true, option_map, nat_cmp}
use Rattle.std.proofs.lemmas.Bool.{cond-true}
use Rattle.std.specs.FinMap.{FinMap, get}
use Rattle.std.specs.FinSet as set
use Rattle.std.specs.List.{list_any}
use Rattle.hv_policy.specs.Mail.{place}
use Rattle.hv_policy.specs.Reading.{has_vector}
use Rattle.hv_defs.specs.Vectors.{VectorSet, raised}
use Rattle.hv_defs.specs.declared.registers.TheConstants.{EOM}
use Rattle.hv_defs.specs.declared.sizes.TheConstants.{SINTS}
use Rattle.hv_policy.proofs.Places.{is_place, is_place_true, next_apart, next_rows, next_there}
use Rattle.hv_policy.specs.Aim.{is_ready_for_messages, on_vp}
use Rattle.hv_policy.specs.Effect.{row_raised, show, show_each, with_vp, write_register, written}
use Rattle.hv_policy.specs.Flat.{Flat, MailRow, VpRow}
use Rattle.hv_policy.specs.Mail.{Place, has_next, is_shown, is_some_row, mail_at}
use Rattle.hv_admit.proofs.PostEffect.{found, next_shows}
use Rattle.hv_admit.proofs.ProcessorChange.{itself, moved, no_bit, none_raised, raised_both, row_told, there}
use Rattle.hv_admit.proofs.RaisedVectors.{still_shown, vectors_none, vectors_same}
use Rattle.hv_admit.specs.Effect.{IsChange, IsSo, IsSynic, Tells, names_messages, names_vector, has_bit, quiet, rings}
use Rattle.hv_admit.specs.Ended.{ended_effect}
use Rattle.hv_admit.specs.Raised.{registers_of, vectors_of}
use Rattle.hv_admit.specs.declared.effect.Effect.{Effect}
use Rattle.hv_admit.specs.declared.effect.Effect.TheVariants as variant
use Rattle.hv_admit.specs.declared.effect.Synic.{Synic}

-- a row once each of the first SINTs that passes a test raised its vector
raised_each : (ℕ → Bool) → ℕ → VpRow → VpRow
raised_each test zero row = row
raised_each test (suc k) row = row_raised (test k) k (raised_each test k row)

each_flags : (test : ℕ → Bool) (n : ℕ) (row : VpRow) → (raised_each test n row).flags ≡ row.flags
unfolding raised_each
each_flags test zero row = refl
each_flags test (suc n) row = each_flags test n row

-- two sets that differ by some vectors differ by them after one more raise
pending_more : (did : Bool) (registers : FinMap nat_cmp ℕ) (n : ℕ) (pending told old : VectorSet) (vector : ℕ) → set.contains pending vector ≡ (set.contains told vector || set.contains old vector)
    → set.contains (cond did (raised registers n pending) pending) vector ≡ (set.contains (cond did (raised registers n told) told) vector || set.contains old vector)
pending_more true registers n pending told old vector both = grind (arith, raised_both registers n pending vector, raised_both registers n told vector)
pending_more false registers n pending told old vector both = both

each_pending : (test : ℕ → Bool) (n : ℕ) (row : VpRow) (vector : ℕ)
    → set.contains (raised_each test n row).pending vector ≡ (set.contains (vectors_of test (raised_each test n row).registers n) vector || set.contains row.pending vector)
unfolding raised_each vectors_of
each_pending test zero row vector = sym (ap (λ b. b || set.contains row.pending vector) (none_raised vector))
each_pending test (suc n) row vector = pending_more (test n) _ n _ _ row.pending vector (each_pending test n row vector)

-- Show changes no rows where none waits or one is shown
next_same : (rows : List MailRow) → (not (list_any is_shown rows) && is_some_row rows) ≡ false → next_rows rows ≡ rows
next_same [] none = refl
next_same (row ∷ rows) none = grind arith

module _ (part vp value : ℕ) (f : Flat) where
  -- the register is written first
  abbrev begun : Flat
  begun = record f { vp = with_vp f.vp (part, vp) (written EOM value) }

  abbrev after : ℕ → Flat
  after n = show_each part vp n begun

  abbrev next_at : ℕ → Bool
  next_at k = has_next (place part vp k) f.mail

  -- Show at the first SINTs, seen at each place
  abbrev rows_after : ℕ → Place → List MailRow
  rows_after n at = cond (((at.part == part) && (at.vp == vp)) && nat_lt at.sint n) (next_rows (mail_at at f.mail)) (mail_at at f.mail)

  mail_each : (n : ℕ) (at : Place) → mail_at at (after n).mail ≡ rows_after n at
  unfolding show_each
  mail_each zero at = grind arith
  mail_each (suc k) at = by (is_place (place part vp k) at) refl (mail_each k at) (mail_each k (place part vp k))
    where
      by : (b : Bool) → is_place (place part vp k) at ≡ b → mail_at at (after k).mail ≡ rows_after k at → mail_at (place part vp k) (after k).mail ≡ rows_after k (place part vp k)
          → mail_at at (show (place part vp k) (after k)).mail ≡ rows_after (suc k) at
      by true here rest own =
          subst (λ at. mail_at at (show (place part vp k) (after k)).mail ≡ rows_after (suc k) at)
          (sym (is_place_true (place part vp k) at here)) (grind (arith, next_there (place part vp k) (after k).mail, itself part vp))
      by false off rest own = next_apart at (place part vp k) off (after k).mail ∙ grind arith

  next_still : (k : ℕ) → has_next (place part vp k) (after k).mail ≡ next_at k
  next_still k =
      let same : mail_at (place part vp k) (after k).mail ≡ mail_at (place part vp k) f.mail = grind (arith, mail_each k (place part vp k)) in
      ap (λ rows. not (list_any is_shown rows) && is_some_row rows) same

  -- and at each processor
  abbrev row_after : ℕ → VpRow → VpRow
  row_after n row = raised_each next_at n (written EOM value row)

  vp_each : (n id index : ℕ) → get (after n).vp (id, index) ≡ cond ((id == part) && (index == vp)) (option_map (row_after n) (get f.vp (part, vp))) (get f.vp (id, index))
  unfolding show_each raised_each
  vp_each zero id index = there f.vp part vp (written EOM value) id index
  vp_each (suc k) id index =
      there (after k).vp part vp (row_raised (has_next (place part vp k) (after k).mail) k) id index
      ∙ by ((id == part) && (index == vp)) (vp_each k id index) (vp_each k part vp ∙ cond-true _ _ _ (itself part vp))
    where
      twice : (r : Option VpRow) → option_map (row_raised (next_at k) k) (option_map (row_after k) r) ≡ option_map (row_after (suc k)) r
      twice None = refl
      twice (Some row) = refl

      by : (b : Bool) → get (after k).vp (id, index) ≡ cond b (option_map (row_after k) (get f.vp (part, vp))) (get f.vp (id, index))
          → get (after k).vp (part, vp) ≡ option_map (row_after k) (get f.vp (part, vp))
          → cond b (option_map (row_raised (has_next (place part vp k) (after k).mail) k) (get (after k).vp (part, vp))) (get (after k).vp (id, index))
          ≡ cond b (option_map (row_after (suc k)) (get f.vp (part, vp))) (get f.vp (id, index))
      by true rest own = (λ i. option_map (row_raised (next_still k i) k) (own i)) ∙ twice (get f.vp (part, vp))
      by false rest own = rest

  pages_each : (n : ℕ) → f.page ≡ (after n).page
  unfolding show_each
  pages_each zero = refl
  pages_each (suc k) = pages_each k

  -- the state after the write: each SINT shows its next message where the processor is ready for messages
  abbrev now : Bool → Flat
  now ready = cond ready (after SINTS) begun

  abbrev row_now : Bool → VpRow → VpRow
  row_now ready row = raised_each (λ k. ready && next_at k) SINTS (written EOM value row)

  mail_now : (ready : Bool) (at : Place)
      → mail_at at (now ready).mail ≡ cond (((at.part == part) && (at.vp == vp)) && (nat_lt at.sint SINTS && ready)) (next_rows (mail_at at f.mail)) (mail_at at f.mail)
  mail_now true at = grind (arith, mail_each SINTS at)
  mail_now false at = grind arith

  vp_now : (ready : Bool) (id index : ℕ) → get (now ready).vp (id, index) ≡ cond ((id == part) && (index == vp)) (option_map (row_now ready) (get f.vp (part, vp))) (get f.vp (id, index))
  unfolding raised_each
  vp_now true id index = vp_each SINTS id index
  vp_now false id index = there f.vp part vp (written EOM value) id index

  pages_now : (ready : Bool) → f.page ≡ (now ready).page
  pages_now true = pages_each SINTS
  pages_now false = refl

  module _ (ready : Bool) (v w : VpRow) (was : get f.vp (part, vp) ≡ Some v) (is : get (now ready).vp (part, vp) ≡ Some w) (mask : ℕ)
      (bit : (k : ℕ) → has_bit mask k ≡ (nat_lt k SINTS && (ready && next_at k))) where
    abbrev told : Synic
    told = record (quiet part vp) { shown = mask; raised = vectors_of (has_bit mask) w.registers SINTS }

    -- no message changes at other SINTs
    messages : (at : Place) → ((at.part == part) && (at.vp == vp)) && has_bit mask at.sint ≡ false → mail_at at (now ready).mail ≡ mail_at at f.mail
    messages at off =
        mail_now ready at
        ∙ grind (arith, bit at.sint, next_same (mail_at at f.mail), moved (λ id index. has_next (place id index at.sint) f.mail) at.part at.vp part vp)

    -- and these SINTs show a message
    shown_now : (sint : ℕ) → has_bit mask sint ≡ true → list_any is_shown (mail_at (place part vp sint) (now ready).mail) ≡ true
    shown_now sint h = ap (list_any is_shown) (mail_now ready (place part vp sint)) ∙ grind (arith, bit sint, itself part vp, next_shows (mail_at (place part vp sint) f.mail))

    -- the row after the write is the one that is known
    made : row_now ready v ≡ w
    made = (let both : Some (row_now ready v) ≡ Some w = sym (vp_now ready part vp ∙ cond-true _ _ _ (itself part vp) ∙ ap (option_map (row_now ready)) was) ∙ is in cc)

    vectors_now : (vector : ℕ) → set.contains w.pending vector ≡ (set.contains told.raised vector || set.contains v.pending vector)
    vectors_now vector =
        subst (λ w. set.contains w.pending vector ≡ (set.contains (vectors_of (λ k. ready && next_at k) w.registers SINTS) vector || set.contains v.pending vector)) made
        (each_pending (λ k. ready && next_at k) SINTS (written EOM value v) vector)
        ∙ ap (λ vectors. set.contains vectors vector || set.contains v.pending vector) (vectors_same (λ k. ready && next_at k) (has_bit mask) w.registers SINTS (λ k less. grind (arith, bit k)))

    -- an effect that names the messages at these SINTs and these vectors tells it
    tells : (e : Effect) → ((at : Place) → names_messages e at ≡ false → ((at.part == part) && (at.vp == vp)) && has_bit mask at.sint ≡ false)
        → ((vector : ℕ) → names_vector e part vp vector ≡ false → set.contains told.raised vector ≡ false) → IsSo e f (now ready) → IsChange e f (now ready) → Tells e f (now ready)
    tells e places vectors =
        row_told e part vp (row_now ready) f (now ready) (pages_now ready) (vp_now ready) (λ at off. messages at (places at off))
        (λ u at sint flag _. ap (λ flags. set.contains flags (sint, flag)) (each_flags (λ k. ready && next_at k) SINTS (written EOM value u)))
        (λ u at vector off. (let same : v ≡ u = cc in subst (λ u. set.contains (row_now ready u).pending vector ≡ set.contains u.pending vector) same
        (ap (λ (w : VpRow). set.contains w.pending vector) made ∙ vectors_now vector ∙ ap (λ b. b || set.contains v.pending vector) (vectors vector off))))

    -- these SINTs showed none, and no other one begins to
    rings_now : (k : ℕ) (b : Bool) → has_bit mask k ≡ b → b ≡ rings told f (now ready) k
    rings_now k true h = sym (ap (λ b. (b && not (list_any is_shown (mail_at (place part vp k) f.mail))) || false) (shown_now k h) ∙ grind (arith, bit k))
    rings_now k false h = sym (ap (λ b. b || false) (still_shown part vp f (now ready) k (messages (place part vp k) (grind (arith, h, itself part vp)))))

    named : IsSynic told f (now ready)
    named = record {
      shown = λ sint h same. (let clash : true ≡ false = sym (shown_now sint h) ∙ sym (found (mail_at (place part vp sint) (now ready).mail)) ∙ ap is_some same
          ∙ found (mail_at (place part vp sint) f.mail) ∙ grind (arith, bit sint) in cc);
      waiting = λ sint h. cc;
      flag = λ change h. cc;
      raised = vectors_same (has_bit mask) (rings told f (now ready)) w.registers SINTS (λ k less. rings_now k (has_bit mask k) refl)
          ∙ ap (λ r. vectors_of (rings told f (now ready)) (registers_of r) SINTS) (sym is);
      pending = λ vector h. ap (λ r. has_vector r vector) is ∙ vectors_now vector ∙ ap (λ b. b || set.contains v.pending vector) h;
      taken = λ vector h. cc;
      freed = λ port h. cc;
      left = λ sint message h was gone. (let clash : true ≡ false = sym (shown_now sint h) ∙ sym (found (mail_at (place part vp sint) (now ready).mail)) ∙ ap is_some gone in cc);
    }

    told_by : (b : Bool) → mask == 0 ≡ b → Tells (cond b variant.Nothing (variant.Synic told)) f (now ready)
    told_by true none =
        tells variant.Nothing (λ at _. grind (arith, clear at.sint))
        (λ vector _. ap (λ vectors. set.contains vectors vector) (sym (vectors_none (has_bit mask) w.registers SINTS (λ k less. clear k))) ∙ none_raised vector) tt tt
      where
        clear : (k : ℕ) → has_bit mask k ≡ false
        clear k = ap (λ mask. has_bit mask k) (eqb-true mask 0 none) ∙ no_bit k
    told_by false some = tells (variant.Synic told) (λ at off. grind arith) (λ vector off. grind (arith, itself part vp)) named (ap (λ b. (not b || false) || false) some)

  pub due_ends : (w : VpRow) → get (write_register part vp EOM value f).vp (part, vp) ≡ Some w → (mask : ℕ) →
      ((k : ℕ) → has_bit mask k ≡ (nat_lt k SINTS && (on_vp begun (part, vp) is_ready_for_messages && has_next (place part vp k) f.mail)))
      → Tells (ended_effect part vp mask (vectors_of (has_bit mask) w.registers SINTS)) f (write_register part vp EOM value f)
  due_ends w is mask bit = by (get f.vp (part, vp)) refl
    where
      by : (r : Option VpRow) → get f.vp (part, vp) ≡ r → Tells (ended_effect part vp mask (vectors_of (has_bit mask) w.registers SINTS)) f (write_register part vp EOM value f)
      by None none =
          let clash : None ≡ Some w = sym (vp_now (on_vp begun (part, vp) is_ready_for_messages) part vp ∙ cond-true _ _ _ (itself part vp)
          ∙ ap (option_map (row_now (on_vp begun (part, vp) is_ready_for_messages))) none) ∙ is in
          cc
      by (Some v) was = told_by (on_vp begun (part, vp) is_ready_for_messages) v w was is mask bit (mask == 0) refl
