-- A processor that was created or deleted: the rows are tied to what the model makes of it, and the effect tells it.
use Rattle.std.proofs.Common.{◌≡◌, ℕ, Bool, ◌==◌, ◌&&◌, not, true, false, Option, Some, None, is_some, refl, sym, ap, subst, ◌∙◌, eq-eqb, nat_cmp, option_map}
use Rattle.std.proofs.lemmas.Bool.{and_from}
use Rattle.std.specs.FinMap.{FinMap, contains_key, get, insert, remove, get-insert, get-remove}
use Rattle.hv_calls.specs.declared.call.Call.TheVariants.{CreateVp, DeleteVp}
use Rattle.hv_defs.proofs.Maps.{get_at-insert, get_at-remove}
use Rattle.hv_defs.specs.declared.life.Life.{Life}
use Rattle.hv_defs.specs.declared.life.Life.TheVariants.{Created, Active, Finalized}
use Rattle.hv_admit.proofs.PagesAndVps.{deleted_told, made_told}
use Rattle.hv_admit.proofs.ProcessorChange.{still_there}
use Rattle.hv_admit.specs.Effect.{Tells, life_of}
use Rattle.hv_admit.specs.declared.effect.Effect.TheVariants as variant
use Rattle.hv_partition.specs.Partition.{PartitionState}
use Rattle.hv_policy.proofs.Pairs.{pair_cmp_total}
use Rattle.hv_policy.proofs.Places.{but_vp_there}
use Rattle.hv_policy.specs.Boot.{start_vp}
use Rattle.hv_policy.specs.Flat.{Flat, PartRow}
use Rattle.hv_policy.specs.Mail.{mail_but_at}
use Rattle.hv_policy.specs.Needs.{is_among, target_of}
use Rattle.hv_policy.specs.declared.need.States.TheVariants as states
use Rattle.hv_admit.proofs.FoundRow.{content_row}
use Rattle.hv_admit.proofs.ChangedProcessor.{new_mail, rows_there, staff_tied, vp_in, vp_there}
use Rattle.hv_admit.proofs.MetRules.{admitted_allowed, state_row}
use Rattle.hv_admit.specs.Asked.{IsGranted}
use Rattle.hv_admit.specs.Tie.{Refines, here, part_row, rows_of, sint_mail, vp_row_of}
use Rattle.hv_tree.specs.Rows.{Row, Rows, change, changed_at, content}
use Rattle.hv_vp.specs.Vp.{VpState, new_vp}

absent : (o : Option VpState) → is_some o ≡ false → o ≡ None
absent None h = refl
absent (Some vp) h = cc

-- the target of a call that asks for an Active one
active_alone : (life : Life) → is_among life states.Active ≡ true → life ≡ Active
active_alone Created h = cc
active_alone Active h = refl
active_alone Finalized h = cc

module _ (rows : Rows PartitionState) (f : Flat) (flat : Refines rows f) where
  active_there : (id : ℕ) (r : Row PartitionState) → get rows id ≡ Some r → is_among r.1.life states.Active ≡ true → life_of f id ≡ Some Active
  active_there id r at state = ap (option_map (λ (row : PartRow). row.life)) ((flat.rows id).part ∙ ap (option_map part_row) at) ∙ ap Some (active_alone r.1.life state)

  module _ (caller partition vp : ℕ) where
    pub create_active : IsGranted rows caller (CreateVp partition vp) → life_of f (target_of (CreateVp partition vp) caller) ≡ Some Active
    create_active g =
        let i = g.admitted in
        let allowed = admitted_allowed rows caller (CreateVp partition vp) i g.met in
        let (r, at, state) = state_row rows i.rows.flat i.rows.tied caller (CreateVp partition vp) allowed allowed.further.0 in
        active_there (target_of (CreateVp partition vp) caller) r at state

    pub delete_active : IsGranted rows caller (DeleteVp partition vp) → life_of f (target_of (DeleteVp partition vp) caller) ≡ Some Active
    delete_active g =
        let i = g.admitted in
        let allowed = admitted_allowed rows caller (DeleteVp partition vp) i g.met in
        let (r, at, state) = state_row rows i.rows.flat i.rows.tied caller (DeleteVp partition vp) allowed allowed.further.0 in
        active_there (target_of (DeleteVp partition vp) caller) r at state

not_there : (a b : Bool) → a && not b ≡ true → b ≡ false
not_there true true h = cc
not_there true false h = refl
not_there false true h = cc
not_there false false h = refl

-- a partition that was lent from the tree, whose processors changed, and put back
module _ (rows : Rows PartitionState) (f : Flat) (flat : Refines rows f) (id index : ℕ) (p : PartitionState) (found : Some p ≡ content rows id) where
  in_row : vp_in index (get rows id) ≡ get p.vps.vps index
  in_row =
      let (r, at, same) = content_row rows id p found in
      ap (vp_in index) at ∙ ap {A = PartitionState} (λ v. get v.vps.vps index) same

  in_flat : get f.vp (id, index) ≡ option_map vp_row_of (get p.vps.vps index)
  in_flat = vp_there rows f flat id index ∙ ap (option_map vp_row_of) in_row

  put_back : (w : PartitionState) → w ≡ record p { vps = w.vps } → (r : Row PartitionState) → get rows id ≡ Some r → r.1 ≡ p
      → insert rows id (r.0, record r.1 { vps = w.vps }) ≡ change rows id (λ _. w)
  put_back w rest r is same = sym (ap (changed_at rows id (λ _. w)) is
      ∙ ap {A = PartitionState} (λ v. insert rows id (r.0, v)) (rest ∙ ap {A = PartitionState} (λ q. record q { vps = w.vps }) (sym same)))

  -- a processor that came: no message was at its places
  module _ (free : contains_key p.vps.vps index ≡ false) where
    none : vp_in index (get rows id) ≡ None
    none = in_row ∙ absent (get p.vps.vps index) free

    -- the place for it was reserved first
    pub added_tied : (reserved w : PartitionState) (vp : VpState) → reserved ≡ record p { vps = reserved.vps } → reserved.vps.vps ≡ p.vps.vps → w ≡ record reserved { vps = w.vps }
        → w.vps.vps ≡ insert reserved.vps.vps index vp → vp ≡ new_vp index → Refines (change rows id (λ _. w)) (record f { vp = insert f.vp (id, index) (start_vp index) })
    added_tied reserved w vp kept same_vps rest is new =
        let (r, at, same) = content_row rows id p found in
        let vps : w.vps.vps ≡ insert r.1.vps.vps index (new_vp index) = is ∙ (λ i. insert (same_vps i) index (new i))
        ∙ ap {A = PartitionState} (λ v. insert v.vps.vps index (new_vp index)) (sym same) in
        subst (λ rows. Refines rows (record f { vp = insert f.vp (id, index) (start_vp index) })) (put_back w (rest ∙ ap {A = PartitionState} (λ q. record q { vps = w.vps }) kept) r at same)
        (staff_tied rows f flat id index r at (Some (new_vp index)) w.vps (insert f.vp (id, index) (start_vp index)) f.mail
        (λ n. ap {A = FinMap nat_cmp VpState} (λ m. get m n) vps ∙ get_at-insert r.1.vps.vps index (new_vp index) n) (λ key. get-insert pair_cmp_total f.vp (id, index) (start_vp index) key)
        (λ sint. rows_there rows f flat id index sint ∙ ap (rows_of (here id index sint)) (ap (sint_mail sint) none ∙ sym (new_mail index sint)))
        (λ _ _. refl))

    pub added_told : life_of f id ≡ Some Active → Tells (variant.Processor id index) f (record f { vp = insert f.vp (id, index) (start_vp index) })
    added_told active =
        made_told f id index active (λ sint. rows_there rows f flat id index sint ∙ ap (λ o. rows_of (here id index sint) (sint_mail sint o)) none)
        (ap is_some (in_flat ∙ ap (option_map vp_row_of) (absent (get p.vps.vps index) free)))

  -- one that went, with its messages
  pub removed_tied : (w : PartitionState) → w ≡ record p { vps = w.vps } → w.vps.vps ≡ remove p.vps.vps index → Refines (change rows id (λ _. w))
      (record f { vp = remove f.vp (id, index); mail = mail_but_at id index f.mail })
  removed_tied w rest is =
      let (r, at, same) = content_row rows id p found in
      let vps = is ∙ ap {A = PartitionState} (λ v. remove v.vps.vps index) (sym same) in
      let own : (id == id) && (index == index) ≡ true = and_from _ _ (eq-eqb id id refl) (eq-eqb index index refl) in
      subst (λ rows. Refines rows (record f { vp = remove f.vp (id, index); mail = mail_but_at id index f.mail })) (put_back w rest r at same)
      (staff_tied rows f flat id index r at None w.vps (remove f.vp (id, index)) (mail_but_at id index f.mail)
      (λ n. ap {A = FinMap nat_cmp VpState} (λ m. get m n) vps ∙ get_at-remove r.1.vps.vps index n) (λ key. get-remove pair_cmp_total f.vp (id, index) key)
      (λ sint. but_vp_there id index (here id index sint) true own f.mail) (λ place apart. but_vp_there id index place false apart f.mail))

  pub removed_told : life_of f id ≡ Some Active → contains_key p.vps.vps index ≡ true
      → Tells (variant.Processor id index) f (record f { vp = remove f.vp (id, index); mail = mail_but_at id index f.mail })
  removed_told active there = deleted_told f id index active (ap is_some in_flat ∙ still_there vp_row_of (get p.vps.vps index) ∙ there)

-- where a processor may be created, the target has none with its index
pub create_free : (rows : Rows PartitionState) (caller partition vp : ℕ) → IsGranted rows caller (CreateVp partition vp) → (p : PartitionState)
    → Some p ≡ content rows (target_of (CreateVp partition vp) caller) → (vps : FinMap nat_cmp VpState) → vps ≡ p.vps.vps → contains_key vps vp ≡ false
create_free rows caller partition vp g p found vps same =
    let i = g.admitted in
    let target = target_of (CreateVp partition vp) caller in
    let allowed = admitted_allowed rows caller (CreateVp partition vp) i g.met in
    let tied = in_flat rows i.rows.flat i.rows.tied target vp p found in
    ap {A = FinMap nat_cmp VpState} (λ m. is_some (get m vp)) same ∙ sym (still_there vp_row_of (get p.vps.vps vp)) ∙ sym (ap is_some tied)
    ∙ not_there _ (contains_key i.rows.flat.vp (target, vp)) allowed.further.1.0
