-- Rows and flat states that are tied, once one processor came, went or changed.
use Rattle.std.proofs.Common.{◌≡◌, ℕ, ◌==◌, ◌&&◌, Bool, true, false, cond, List, Option, Some, None, inl, inr, refl, sym, ap, ◌∙◌, arith, eqb-true, option_map, nat_cmp}
use Rattle.std.proofs.lemmas.Bool.{cases_Bool, and_parts}
use Rattle.std.specs.Cmp.{unsigned_tied}
use Rattle.std.specs.FinMap.{FinMap, get, get-empty, insert}
use Rattle.std.specs.Ordering.{eq_by_cmp}
use Rattle.hv_defs.proofs.Maps.{get_at-insert}
use Rattle.hv_defs.specs.Flags.{pair_cmp}
use Rattle.hv_mail.specs.Mail.{at, mail_or_none, no_mail}
use Rattle.hv_partition.specs.Partition.{PartitionState}
use Rattle.hv_policy.proofs.Pairs.{tied_pairs}
use Rattle.hv_policy.proofs.Places.{is_place, is_vp}
use Rattle.hv_policy.proofs.Rows.{get-with_vp}
use Rattle.hv_policy.specs.Effect.{changed_at as vp_changed_at, with_vp}
use Rattle.hv_policy.specs.Flat.{Flat, MailRow, VpRow}
use Rattle.hv_policy.specs.Mail.{Place, mail_at}
use Rattle.hv_tree.specs.Rows.{Row, Rows, change, changed_at}
use Rattle.hv_vp.specs.Vp.{VpState, new_vp}
use Rattle.hv_vp.specs.Vps.{VpsState}
use Rattle.hv_admit.proofs.ChangedPartition.{same_shows}
use Rattle.hv_admit.proofs.ChangedProcessors.{vps_tied}
use Rattle.hv_admit.specs.Tie.{Refines, here, mail_there, rows_of, sint_mail, vp_row, vp_row_of}
use Rattle.hv_admit.specs.Vp.{state_changed, with_state_of}

both_or_none : (a b c : Bool) → a && b ≡ false → a && (b && c) ≡ false
both_or_none a b c h = grind arith

and_false : (a b : Bool) → b ≡ false → a && b ≡ false
and_false a b h = grind arith

-- the processor with this index, where the partition of a row has it
abbrev pub vp_in : ℕ → Option (Row PartitionState) → Option VpState
vp_in index None = None
vp_in index (Some r) = get r.1.vps.vps index

row_in : (index : ℕ) (r : Option (Row PartitionState)) → vp_row index r ≡ option_map vp_row_of (vp_in index r)
row_in index r = grind arith

mail_in : (index sint : ℕ) (r : Option (Row PartitionState)) → mail_there index sint r ≡ sint_mail sint (vp_in index r)
mail_in index sint r = grind arith

-- at a processor that was just made no message stands
pub new_mail : (index sint : ℕ) → sint_mail sint (Some (new_vp index)) ≡ no_mail
new_mail index sint = ap mail_or_none (get-empty nat_cmp sint)

-- the processors once the state of one of them is changed
pub get-state_changed : (vps : FinMap nat_cmp VpState) (index : ℕ) (g : VpState → VpState) (n : ℕ) → get (state_changed vps index g (get vps index)) n ≡ cond (n == index)
    (option_map g (get vps index)) (get vps n)
get-state_changed vps index g n = grind (arith, get_at-insert vps index)

module _ (rows : Rows PartitionState) (f : Flat) (flat : Refines rows f) (id index : ℕ) where
  -- what the flat state has of a processor
  pub vp_there : get f.vp (id, index) ≡ option_map vp_row_of (vp_in index (get rows id))
  vp_there = (flat.rows id).vp index ∙ row_in index (get rows id)

  -- and of the messages at its places
  pub rows_there : (sint : ℕ) → mail_at (here id index sint) f.mail ≡ rows_of (here id index sint) (sint_mail sint (vp_in index (get rows id)))
  rows_there sint = (flat.rows id).mail index sint ∙ ap (rows_of (here id index sint)) (mail_in index sint (get rows id))

  module _ (r : Row PartitionState) (there : get rows id ≡ Some r) where
    -- a processor has another state, or none, and its places have what then stands there
    pub staff_tied : (to : Option VpState) (v : VpsState) (m : FinMap pair_cmp VpRow) (mail : List MailRow)
        → ((n : ℕ) → get v.vps n ≡ cond (n == index) to (get r.1.vps.vps n))
        → ((key : ℕ × ℕ) → get m key ≡ cond (eq_by_cmp pair_cmp key (id, index)) (option_map vp_row_of to) (get f.vp key))
        → ((sint : ℕ) → mail_at (here id index sint) mail ≡ rows_of (here id index sint) (sint_mail sint to))
        → ((place : Place) → is_vp id index place ≡ false → mail_at place mail ≡ mail_at place f.mail)
        → Refines (insert rows id (r.0, record r.1 { vps = v })) (record f { vp = m; mail = mail })
    staff_tied to v m mail states key mine others = vps_tied rows f flat id r there v m
        (λ q n. key (q, n) ∙ ap (λ b. cond b (option_map vp_row_of to) (get f.vp (q, n))) (tied_pairs q n id index ∙ ap (λ b. (q == id) && b) (unsigned_tied n index)) ∙ row q n (q == id) refl)
        mail messages (λ q n sint apart. others (here q n sint) (ap (λ b. b && (n == index)) apart))
      where
        was : (q n : ℕ) → q == id ≡ true → get f.vp (q, n) ≡ option_map vp_row_of (get r.1.vps.vps n)
        was q n is = (flat.rows q).vp n ∙ ap (vp_row n) (ap (get rows) (eqb-true q id is) ∙ there)

        row : (q n : ℕ) (b : Bool) → q == id ≡ b → cond (b && (n == index)) (option_map vp_row_of to) (get f.vp (q, n)) ≡ cond b (option_map vp_row_of (get v.vps n)) (get f.vp (q, n))
        row q n b is = grind (arith, was q n, states n)

        messages : (n sint : ℕ) → mail_at (here id n sint) mail ≡ rows_of (here id n sint) (sint_mail sint (get v.vps n))
        messages n sint = elim (cases_Bool (n == index)) [
          | inl s ↦ rw (states n, s, eqb-true n index s) (mine sint)
          | inr s ↦ rw (states n, s)
              (others (here id n sint) (and_false _ _ s) ∙ (flat.rows id).mail n sint ∙ ap (λ r. rows_of (here id n sint) (mail_there n sint r)) there)
        ]

  module _ (g : VpState → VpState) (h : VpRow → VpRow) (alike : (v : VpState) → vp_in index (get rows id) ≡ Some v → h (vp_row_of v) ≡ vp_row_of (g v)) (mail : List MailRow) where
    abbrev after : Flat
    after = record f { vp = with_vp f.vp (id, index) h; mail = mail }

    -- a processor that changed, where it is there: `g` does to it what `h` does to its row
    pub vp_tied : ((sint : ℕ) → mail_at (here id index sint) mail ≡ rows_of (here id index sint) (sint_mail sint (option_map g (vp_in index (get rows id)))))
        → ((place : Place) → is_vp id index place ≡ false → mail_at place mail ≡ mail_at place f.mail)
        → Refines (change rows id (with_state_of index g)) after
    vp_tied mine others = by (get rows id) refl
      where
        rowed : (o : Option VpState) → vp_in index (get rows id) ≡ o → option_map h (option_map vp_row_of o) ≡ option_map vp_row_of (option_map g o)
        rowed o is = grind (arith, alike)

        kept : (q n sint : ℕ) → vp_in index (get rows id) ≡ None → (b : Bool) → is_vp id index (here q n sint) ≡ b → mail_at (here q n sint) mail ≡ mail_at (here q n sint) f.mail
        kept q n sint none true is =
            let both = and_parts (q == id) (n == index) is in
            let same : mail_at (here id index sint) mail ≡ mail_at (here id index sint) f.mail = mine sint ∙ ap (λ o. rows_of (here id index sint) (sint_mail sint (option_map g o))) none ∙ sym
            (rows_there sint ∙ ap (λ o. rows_of (here id index sint) (sint_mail sint o)) none) in
            rw (eqb-true q id both.0, eqb-true n index both.1) same
        kept q n sint none false is = others (here q n sint) is

        by : (r : Option (Row PartitionState)) → get rows id ≡ r → Refines (changed_at rows id (with_state_of index g) r) after
        by None is =
            let none : vp_in index (get rows id) ≡ None = ap (vp_in index) is in
            let vps : with_vp f.vp (id, index) h ≡ f.vp = ap (vp_changed_at f.vp (id, index) h) (vp_there ∙ ap (option_map vp_row_of) none) in
            record {
              rows = λ q. same_shows f after q (get rows q) refl (λ _. refl) (λ n. ap (λ m. get m (q, n)) vps) (λ _. refl) (λ _. refl)
                  (λ n sint. kept q n sint none (is_vp id index (here q n sint)) refl) (flat.rows q);
            }
        by (Some r) is =
            let now : vp_in index (get rows id) ≡ get r.1.vps.vps index = ap (vp_in index) is in
            staff_tied r is (option_map g (get r.1.vps.vps index)) (record r.1.vps { vps = state_changed r.1.vps.vps index g (get r.1.vps.vps index) }) (with_vp f.vp (id, index) h) mail
            (λ n. get-state_changed r.1.vps.vps index g n)
            (λ key. get-with_vp f.vp (id, index) h key ∙ ap (λ o. cond (eq_by_cmp pair_cmp key (id, index)) o (get f.vp key))
            (ap (option_map h) (vp_there ∙ ap (option_map vp_row_of) now) ∙ rowed (get r.1.vps.vps index) now))
            (λ sint. mine sint ∙ ap (λ o. rows_of (here id index sint) (sint_mail sint (option_map g o))) now)
            others

    -- one of whose mail only what is at one SINT changed
    pub sint_tied : (sint : ℕ) → ((v : VpState) (n : ℕ) → n == sint ≡ false → at (g v).mail n ≡ at v.mail n)
        → mail_at (here id index sint) mail ≡ rows_of (here id index sint) (sint_mail sint (option_map g (vp_in index (get rows id))))
        → ((place : Place) → is_place (here id index sint) place ≡ false → mail_at place mail ≡ mail_at place f.mail)
        → Refines (change rows id (with_state_of index g)) after
    sint_tied sint same mine others = vp_tied
        (λ n. elim (cases_Bool (n == sint)) [
          | inl s ↦ rw (eqb-true n sint s) mine
          | inr s ↦ others (here id index n) (and_false _ _ (and_false _ _ s)) ∙ rows_there n ∙ ap (rows_of (here id index n)) (state n s (vp_in index (get rows id)))
        ])
        (λ place apart. others place (both_or_none (place.part == id) (place.vp == index) (place.sint == sint) apart))
      where
        state : (n : ℕ) → n == sint ≡ false → (o : Option VpState) → sint_mail n o ≡ sint_mail n (option_map g o)
        state n is o = grind (arith, same)

  -- a processor that changed, but for its mail
  pub quiet_tied : (g : VpState → VpState) (h : VpRow → VpRow) → ((v : VpState) → h (vp_row_of v) ≡ vp_row_of (g v)) → ((v : VpState) → (g v).mail ≡ v.mail) → Refines
      (change rows id (with_state_of index g)) (record f { vp = with_vp f.vp (id, index) h })
  quiet_tied g h alike same = vp_tied g h (λ v _. alike v) f.mail (λ sint. rows_there sint ∙ ap (rows_of (here id index sint)) (by sint (vp_in index (get rows id)))) (λ _ _. refl)
    where
      by : (sint : ℕ) (o : Option VpState) → sint_mail sint o ≡ sint_mail sint (option_map g o)
      by sint o = grind (arith, same)
