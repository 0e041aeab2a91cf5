-- A write of a register: the rows are tied to what the model makes of it, and what it tells.
use Rattle.std.proofs.Common.{◌≡◌, ℕ, zero, suc, ◌+◌, ◌≤◌, ◌==◌, ◌&&◌, nat_lt, not, Bool, false, cond, Option, Some, None, IfSome, Result, Ok, Err}
use Rattle.std.proofs.Common.{refl, sym, ap, subst, ◌∙◌, arith, add-one, eq-eqb, option_map, option_and_then, nat_cmp}
use Rattle.std.specs.FinMap.{FinMap, get, insert}
use Rattle.std.specs.List.{list_any}
use Rattle.std.specs.Option.{option_map_or}
use Rattle.std.specs.Result.{result_unwrap_or}
use Rattle.hv_defs.proofs.Maps.{get_at-insert}
use Rattle.hv_defs.specs.Bits.{bits}
use Rattle.hv_defs.specs.Registers.{after_write, kept, row_of, takes_messages}
use Rattle.hv_defs.specs.Vectors.{VectorSet, raised}
use Rattle.hv_defs.specs.declared.registers.RegFault.{RegFault}
use Rattle.hv_defs.specs.declared.registers.TheConstants.{EOM, SCONTROL, SIMP}
use Rattle.hv_defs.specs.declared.sizes.TheConstants.{SINTS}
use Rattle.hv_admit.proofs.EndOfMessage.{due_ends}
use Rattle.hv_admit.proofs.PagesAndVps.{register_untold}
use Rattle.hv_admit.proofs.ProcessorChange.{there_itself}
use Rattle.hv_admit.specs.Effect.{Tells, has_bit}
use Rattle.hv_admit.specs.Ended.{ended_effect, vectors_of}
use Rattle.hv_admit.specs.declared.effect.Effect.TheVariants as variant
use Rattle.hv_mail.specs.Mail.{at, has_next as box_has_next}
use Rattle.hv_partition.specs.Partition.{PartitionState, with_vp_of}
use Rattle.hv_policy.specs.Answer.{register_of}
use Rattle.hv_policy.specs.Aim.{is_ready_for_messages, on_vp}
use Rattle.hv_policy.specs.Effect.{end_if, with_vp, write_register, written as row_written}
use Rattle.hv_policy.specs.Flat.{Flat}
use Rattle.hv_policy.specs.Mail.{has_next, is_shown, is_some_row}
use Rattle.hv_admit.proofs.MailRows.{has_next_box}
use Rattle.hv_admit.proofs.ChangedProcessorMail.{written_tied}
use Rattle.hv_admit.proofs.ChangedProcessor.{get-state_changed, rows_there, vp_in, vp_there}
use Rattle.hv_admit.proofs.UnchangedProcessor.{vp_kept}
use Rattle.hv_admit.specs.Tie.{Refines, here, rows_of, sint_mail, vp_row_of}
use Rattle.hv_admit.specs.Vp.{state_changed, with_state_of}
use Rattle.hv_tree.proofs.Laws.{get-change}
use Rattle.hv_tree.specs.Rows.{Row, Rows, change, changed_at, content}
use Rattle.hv_vp.specs.Registers.{found, read_of}
use Rattle.hv_vp.specs.Vp.{VpState, written}
use Rattle.hv_processors.specs.Place.{vp_at}

-- the vectors of one more of the first SINTs
pub vectors_next : (test : ℕ → Bool) (registers : FinMap nat_cmp ℕ) (sint : ℕ) (old new : VectorSet) → old ≡ vectors_of test registers sint → (b : Bool) → test sint ≡ b
    → new ≡ cond b (raised registers sint old) old → new ≡ vectors_of test registers (sint + 1)
unfolding vectors_of
vectors_next test registers sint old new so_far b is made =
    made ∙ ap (λ old. cond b (raised registers sint old) old) so_far
    ∙ sym (ap (λ b. cond b (raised registers sint (vectors_of test registers sint)) (vectors_of test registers sint)) is)
    ∙ ap (vectors_of test registers) (sym (add-one sint))

-- those that do not pass the test add none
pub vectors_none_from : (test : ℕ → Bool) (registers : FinMap nat_cmp ℕ) (n sint : ℕ) (vectors : VectorSet) → vectors ≡ vectors_of test registers sint
    → ((k : ℕ) → sint ≤ k → test k ≡ false) → vectors ≡ vectors_of test registers (sint + n)
vectors_none_from test registers zero sint vectors so_far none = so_far ∙ ap (vectors_of test registers) (omega arith)
vectors_none_from test registers (suc n) sint vectors so_far none =
    vectors_none_from test registers n (sint + 1) vectors (vectors_next test registers sint vectors vectors so_far false (none sint (omega arith)) refl)
    (λ k from. none k (omega arith)) ∙ ap (vectors_of test registers) (omega arith)

-- whether a processor takes messages doesn't depend on what EOM keeps
takes_still : (registers : FinMap nat_cmp ℕ) (to : Result ℕ RegFault) → takes_messages (after_write registers EOM to) ≡ takes_messages registers
takes_still registers (Ok value) = λ i. is_set (get_at-insert registers EOM value SCONTROL i) && is_set (get_at-insert registers EOM value SIMP i)
  where
    is_set : Option ℕ → Bool
    is_set o = option_map_or (λ value. bits value 0 1 == 1) o false
takes_still registers (Err fault) = refl

-- a processor in the rows, and once it changed
in_rows : (rows : Rows PartitionState) (id index : ℕ) → vp_in index (get rows id) ≡ vp_at rows id index
in_rows rows id index = by (get rows id)
  where
    by : (r : Option (Row PartitionState)) → vp_in index r ≡ option_and_then (λ p. get p.vps.vps index) (option_map (λ r. r.1) r)
    by None = refl
    by (Some r) = refl

changed_in : (rows : Rows PartitionState) (id index : ℕ) (g : VpState → VpState) → vp_in index (get (change rows id (with_state_of index g)) id) ≡ option_map g (vp_in index (get rows id))
changed_in rows id index g =
    ap (vp_in index) (get-change rows id (with_state_of index g) id ∙ ap (λ b. cond b (option_map (λ r. (r.0, with_state_of index g r.1)) (get rows id)) (get rows id)) (eq-eqb id id refl))
    ∙ by (get rows id)
  where
    by : (r : Option (Row PartitionState)) → vp_in index (option_map (λ r. (r.0, with_state_of index g r.1)) r) ≡ option_map g (vp_in index r)
    by None = refl
    by (Some r) =
        get-state_changed r.1.vps.vps index g index
        ∙ ap (λ b. cond b (option_map g (get r.1.vps.vps index)) (get r.1.vps.vps index)) (eq-eqb index index refl)

-- writing back the processor that is there changes nothing
pub vp_still : (rows : Rows PartitionState) (id index : ℕ) (vp : VpState) → vp_at rows id index ≡ Some vp → change rows id (λ p. with_vp_of p index vp) ≡ rows
vp_still rows id index vp is = vp_kept rows id index vp (by (content rows id) is)
  where
    by : (o : Option PartitionState) → option_and_then (λ p. get p.vps.vps index) o ≡ Some vp → IfSome o (λ p. get p.vps.vps index ≡ Some vp)
    by None h = tt
    by (Some p) h = h

-- and writing one back in another state changes it
put_state : (rows : Rows PartitionState) (id index : ℕ) (v w : VpState) (g : VpState → VpState) → vp_at rows id index ≡ Some v → w ≡ g v
    → change rows id (with_state_of index g) ≡ change rows id (λ p. with_vp_of p index w)
put_state rows id index v w g there is = by (get rows id) there
  where
    by : (r : Option (Row PartitionState)) → option_and_then (λ (p : PartitionState). get p.vps.vps index) (option_map (λ r. r.1) r) ≡ Some v
        → changed_at rows id (with_state_of index g) r ≡ changed_at rows id (λ p. with_vp_of p index w) r
    by None h = cc
    by (Some r) h =
        ap (λ (vps : FinMap nat_cmp VpState). insert rows id (r.0, record r.1 { vps = record r.1.vps { vps = vps } }))
        (ap (state_changed r.1.vps.vps index g) h ∙ ap (insert r.1.vps.vps index) (sym is))

module _ (rows : Rows PartitionState) (f : Flat) (flat : Refines rows f) (part index : ℕ) where
  pub set_tied : (v w : VpState) (name value : ℕ) → vp_at rows part index ≡ Some v → w ≡ written name value v
      → Refines (change rows part (λ p. with_vp_of p index w)) (write_register part index name value f)
  set_tied v w name value there is =
      subst (λ rows. Refines rows (write_register part index name value f)) (put_state rows part index v w (written name value) there is) (written_tied rows f flat part index name value)

  -- what a read gives
  pub read_told : (v : VpState) (name : ℕ) → vp_at rows part index ≡ Some v → result_unwrap_or (read_of v.registers name) 0 ≡ register_of (get f.vp (part, index)) name
  read_told v name is = by (get v.registers name) ∙ sym (ap (λ row. register_of row name) (vp_there rows f flat part index ∙ ap (option_map vp_row_of) (in_rows rows part index ∙ is)))
    where
      by : (o : Option ℕ) → result_unwrap_or (found o) 0 ≡ option_map_or (λ value. value) o 0
      by None = refl
      by (Some value) = refl

  -- a write but of EOM
  pub write_told : (name value : ℕ) → name == EOM ≡ false → Tells variant.Nothing f (write_register part index name value f)
  write_told name value off =
      subst (λ b. Tells variant.Nothing f (end_if b part index (record f { vp = with_vp f.vp (part, index) (row_written name value) }))) (sym off) (register_untold f part index name value)

  module _ (v : VpState) (is : vp_at rows part index ≡ Some v) (value : ℕ) where
    there : vp_in index (get rows part) ≡ Some v
    there = in_rows rows part index ∙ is

    takes : on_vp (record f { vp = with_vp f.vp (part, index) (row_written EOM value) }) (part, index) is_ready_for_messages ≡ takes_messages v.registers
    takes =
        ap (λ o. option_map_or is_ready_for_messages o false)
        (there_itself f.vp part index (row_written EOM value) ∙ ap (option_map (row_written EOM value)) (vp_there rows f flat part index ∙ ap (option_map vp_row_of) there))
        ∙ takes_still v.registers (kept (row_of EOM) value)

    next : (k : ℕ) → has_next (here part index k) f.mail ≡ box_has_next (at v.mail k)
    next k =
        ap (λ rows. not (list_any is_shown rows) && is_some_row rows) (rows_there rows f flat part index k ∙ ap (λ o. rows_of (here part index k) (sint_mail k o)) there)
        ∙ has_next_box (here part index k) (at v.mail k)

    -- and of EOM, with the SINTs that the processor tells before it
    pub end_told : (mask : ℕ) → ((k : ℕ) → has_bit mask k ≡ (nat_lt k SINTS && (takes_messages v.registers && box_has_next (at v.mail k))))
        → Tells (ended_effect part index mask (vectors_of (has_bit mask) (written EOM value v).registers SINTS)) f (write_register part index EOM value f)
    end_told mask due =
        due_ends part index value f (vp_row_of (written EOM value v))
        (vp_there (change rows part (with_state_of index (written EOM value))) (write_register part index EOM value f) (written_tied rows f flat part index EOM value) part index
        ∙ ap (option_map vp_row_of) (changed_in rows part index (written EOM value) ∙ ap (option_map (written EOM value)) there))
        mask (λ k. due k ∙ (λ i. nat_lt k SINTS && (sym takes i && sym (next k) i)))
