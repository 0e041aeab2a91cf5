-- Rows and flat states stay tied through what events make of a processor's messages, flags and registers.
use Rattle.std.proofs.Common.{◌≡◌, ℕ, zero, suc, ◌==◌, Bool, true, false, cond, not, ◌&&◌, nat_lt, length, [], ◌∷◌, ◌++◌, Option, Some, None, find, refl, sym, ap, subst, ◌∙◌, arith, eq-eqb, filter}
use Rattle.std.proofs.Common.{option_map}
use Rattle.std.specs.FinMap.{get}
use Rattle.std.specs.FinSet as set
use Rattle.std.specs.List.{list_any}
use Rattle.std.specs.Option.{option_map_or}
use Rattle.hv_defs.specs.Registers.{after_write, kept, row_of, takes_messages}
use Rattle.hv_defs.specs.Vectors.{highest, without}
use Rattle.hv_defs.specs.declared.registers.TheConstants.{EOM}
use Rattle.hv_defs.specs.declared.sizes.TheConstants.{SINTS}
use Rattle.hv_mail.proofs.Rows.{at-with_at}
use Rattle.hv_mail.specs.Mail.{Mail, SintMail, at, with_at, with_last, with_next, has_next as box_has_next, posted as box_posted, cleared as box_cleared}
use Rattle.hv_mail.specs.Slot.{slot_bytes}
use Rattle.hv_mail.specs.declared.message.Message.{Message}
use Rattle.hv_partition.specs.Partition.{PartitionState}
use Rattle.hv_policy.proofs.Places.{cleared_apart, cleared_there, is_place_same, last_there, next_apart, next_rows, next_there, posted as list_posted, posted_apart, posted_there}
use Rattle.hv_policy.specs.Aim.{on_vp}
use Rattle.hv_policy.specs.Effect.{end_if, end_message, post, row_raised, row_signalled, show, show_each, with_vp, write_register, written as row_written}
use Rattle.hv_policy.specs.Flat.{Flat, MailRow, VpRow}
use Rattle.hv_policy.specs.Mail.{Place, cleared, has_next, is_shown, is_some_row, mail_at, row_bytes, shown_next, slot_at}
use Rattle.hv_tree.specs.Rows.{Rows, change}
use Rattle.hv_vp.specs.Vp.{VpState, ended, ended_if, flag_cleared, interrupted, posted, shown, shown_each, signalled, slot_cleared, written}
use Rattle.hv_admit.proofs.MailRows.{cleared_box, has_next_box, last_box, next_box, posted_box, slot_box}
use Rattle.hv_admit.proofs.ChangedProcessor.{quiet_tied, rows_there, sint_tied, vp_in, vp_there}
use Rattle.hv_admit.proofs.TwoChanges.{change-alike, change-none, change-twice, with_vp-none}
use Rattle.hv_admit.specs.Tie.{Refines, here, mail_row, rows_of, sint_mail, vp_row_of}
use Rattle.hv_admit.specs.Vp.{with_state_of}

-- what is at a SINT that was written, and at another one
here_at : (mail : Mail) (sint : ℕ) (there : SintMail) → at (with_at mail sint there) sint ≡ there
here_at mail sint there = at-with_at mail sint there sint ∙ ap (λ b. cond b there (at mail sint)) (eq-eqb sint sint refl)

else_at : (mail : Mail) (sint : ℕ) (there : SintMail) (n : ℕ) → n == sint ≡ false → at (with_at mail sint there) n ≡ at mail n
else_at mail sint there n apart = at-with_at mail sint there n ∙ ap (λ b. cond b there (at mail n)) apart

module _ (rows : Rows PartitionState) (f : Flat) (flat : Refines rows f) (id index : ℕ) where
  -- the processor, where it is there
  abbrev now : Option VpState
  now = vp_in index (get rows id)

  abbrev changed : (VpState → VpState) → Rows PartitionState
  changed g = change rows id (with_state_of index g)

  module _ (sint : ℕ) where
    abbrev place : Place
    place = here id index sint

    of_rows : (v : VpState) → now ≡ Some v → mail_at place f.mail ≡ rows_of place (at v.mail sint)
    of_rows v is = rows_there rows f flat id index sint ∙ ap (λ o. rows_of place (sint_mail sint o)) is

    -- what the message slot reads as
    pub slot_told : (v : VpState) → now ≡ Some v → slot_at place f.mail ≡ slot_bytes (at v.mail sint)
    slot_told v is = ap (λ rows. row_bytes (find is_shown rows) (nat_lt 1 (length rows))) (of_rows v is) ∙ slot_box place (at v.mail sint)

    -- whether Show makes a message shown
    next_told : (v : VpState) → now ≡ Some v → has_next place f.mail ≡ box_has_next (at v.mail sint)
    next_told v is = ap (λ rows. not (list_any is_shown rows) && is_some_row rows) (of_rows v is) ∙ has_next_box place (at v.mail sint)

    -- Show
    pub shown_tied : Refines (changed (shown sint)) (show place f)
    shown_tied =
        sint_tied rows f flat id index (shown sint) (row_raised (has_next place f.mail) sint) (λ v is. ap (λ b. row_raised b sint (vp_row_of v)) (next_told v is)) (shown_next place f.mail)
        sint (λ v n apart. else_at v.mail sint (with_next (at v.mail sint)) n apart)
        (next_there place f.mail ∙ ap next_rows (rows_there rows f flat id index sint) ∙ next_box place (sint_mail sint now) ∙ ap (rows_of place) (sym (by now)))
        (λ other apart. next_apart other place apart f.mail)
      where
        by : (o : Option VpState) → sint_mail sint (option_map (shown sint) o) ≡ with_next (sint_mail sint o)
        by o = grind (arith, here_at)

    -- the row of a message that waits here
    abbrev waits : Message → MailRow
    waits message = mail_row place false message

    -- a message is posted, where the processor is there
    pub posted_tied : (v : VpState) → now ≡ Some v → (message : Message) → Refines (changed (posted sint message)) (post (waits message) f)
    posted_tied v is message =
        sint_tied rows f flat id index (posted sint message) (row_raised (has_next place (f.mail ++ waits message ∷ [])) sint) (λ v is. ap (λ b. row_raised b sint (vp_row_of v)) (told v is))
        (list_posted (waits message) f.mail)
        sint (λ v n apart. else_at v.mail sint (box_posted (at v.mail sint) message) n apart)
        (posted_there (waits message) f.mail ∙ ap (λ rows. next_rows (rows ++ waits message ∷ [])) (of_rows v is) ∙ posted_box place (at v.mail sint) message
        ∙ ap (rows_of place) (sym (here_at v.mail sint (box_posted (at v.mail sint) message)) ∙ ap (λ o. sint_mail sint (option_map (posted sint message) o)) (sym is)))
        (λ other apart. posted_apart other (waits message) apart f.mail)
      where
        told : (v : VpState) → now ≡ Some v → has_next place (f.mail ++ waits message ∷ []) ≡ box_has_next (with_last (at v.mail sint) message)
        told v is =
            ap (λ rows. not (list_any is_shown rows) && is_some_row rows) (last_there place f.mail (waits message) true (is_place_same place) ∙ ap (λ rows. rows ++ waits message ∷ []) (of_rows v is) ∙
            last_box place (at v.mail sint) message)
            ∙ has_next_box place (with_last (at v.mail sint) message)

    -- the shown message is removed
    pub slot_cleared_tied : Refines (changed (slot_cleared sint)) (record f { mail = cleared place f.mail })
    slot_cleared_tied =
        subst (λ vps. Refines (changed (slot_cleared sint)) (record f { vp = vps; mail = cleared place f.mail })) (with_vp-none f.vp (id, index))
        (sint_tied rows f flat id index (slot_cleared sint) (λ row. row) (λ v is. refl) (cleared place f.mail)
        sint (λ v n apart. else_at v.mail sint (box_cleared (at v.mail sint)) n apart)
        (cleared_there place f.mail ∙ ap (filter (λ row. not row.shown)) (rows_there rows f flat id index sint) ∙ cleared_box place (sint_mail sint now) ∙ ap (rows_of place) (sym (by now)))
        (λ other apart. cleared_apart other place apart f.mail))
      where
        by : (o : Option VpState) → sint_mail sint (option_map (slot_cleared sint) o) ≡ box_cleared (sint_mail sint o)
        by None = refl
        by (Some v) = here_at v.mail sint (box_cleared (at v.mail sint))

    -- a flag is set, and a flag is cleared
    pub signalled_tied : (flag : ℕ) → Refines (changed (signalled sint flag)) (record f { vp = with_vp f.vp (id, index) (row_signalled sint flag) })
    signalled_tied flag = quiet_tied rows f flat id index (signalled sint flag) (row_signalled sint flag) (λ _. refl) (λ _. refl)

    pub flag_cleared_tied : (flag : ℕ) → Refines (changed (flag_cleared sint flag)) (record f { vp = with_vp f.vp (id, index) (λ row. record row { flags = set.remove row.flags (sint, flag) }) })
    flag_cleared_tied flag = quiet_tied rows f flat id index (flag_cleared sint flag) (λ row. record row { flags = set.remove row.flags (sint, flag) }) (λ _. refl) (λ _. refl)

  -- the highest pending vector is taken
  pub interrupted_tied : Refines (changed interrupted) (record f { vp = with_vp f.vp (id, index) (λ row. record row { pending = without row.pending (highest row.pending) }) })
  interrupted_tied = quiet_tied rows f flat id index interrupted (λ row. record row { pending = without row.pending (highest row.pending) }) (λ _. refl) (λ _. refl)

  -- whether the processor takes messages
  takes_told : (v : VpState) → now ≡ Some v → on_vp f (id, index) (λ row. takes_messages row.registers) ≡ takes_messages v.registers
  takes_told v is = ap (λ (vp : Option VpRow). option_map_or (λ row. takes_messages row.registers) vp false) (vp_there rows f flat id index ∙ ap (option_map vp_row_of) is)

-- Show at each of the first so many SINTs
pub shown_each_tied : (rows : Rows PartitionState) (f : Flat) → Refines rows f → (id index n : ℕ) → Refines (change rows id (with_state_of index (shown_each n))) (show_each id index n f)
unfolding shown_each show_each
shown_each_tied rows f flat id index zero = subst (λ rows. Refines rows f) (sym (change-none rows id index)) flat
shown_each_tied rows f flat id index (suc n) =
    subst (λ rows. Refines rows (show (here id index n) (show_each id index n f))) (change-twice rows id index (shown_each n) (shown n))
    (shown_tied (change rows id (with_state_of index (shown_each n))) (show_each id index n f) (shown_each_tied rows f flat id index n) id index n)

module _ (rows : Rows PartitionState) (f : Flat) (flat : Refines rows f) (id index : ℕ) where
  -- a message ends
  pub ended_tied : Refines (change rows id (with_state_of index ended)) (end_message id index f)
  ended_tied = by (on_vp f (id, index) (λ row. takes_messages row.registers)) refl
    where
      told : (b : Bool) → on_vp f (id, index) (λ row. takes_messages row.registers) ≡ b → (v : VpState) → vp_in index (get rows id) ≡ Some v → cond b (shown_each SINTS v) v ≡ ended v
      told b is v there = ap (λ t. cond t (shown_each SINTS v) v) (sym is ∙ takes_told rows f flat id index v there)

      by : (b : Bool) → on_vp f (id, index) (λ row. takes_messages row.registers) ≡ b → Refines (change rows id (with_state_of index ended)) (cond b (show_each id index SINTS f) f)
      by true is = subst (λ rows. Refines rows (show_each id index SINTS f)) (change-alike rows id index (shown_each SINTS) ended (told true is)) (shown_each_tied rows f flat id index SINTS)
      by false is = subst (λ rows. Refines rows f) (sym (change-none rows id index) ∙ change-alike rows id index (λ v. v) ended (told false is)) flat

  ended_if_tied : (b : Bool) → Refines (change rows id (with_state_of index (ended_if b))) (end_if b id index f)
  ended_if_tied true = ended_tied
  ended_if_tied false = subst (λ rows. Refines rows f) (sym (change-none rows id index)) flat

module _ (rows : Rows PartitionState) (f : Flat) (flat : Refines rows f) (id index : ℕ) where
  -- a value is written to a register
  pub written_tied : (name value : ℕ) → Refines (change rows id (with_state_of index (written name value))) (write_register id index name value f)
  written_tied name value =
      subst (λ rows. Refines rows (write_register id index name value f)) (change-twice rows id index register (ended_if (name == EOM)))
      (ended_if_tied (change rows id (with_state_of index register)) (record f { vp = with_vp f.vp (id, index) (row_written name value) })
      (quiet_tied rows f flat id index register (row_written name value) (λ _. refl) (λ _. refl)) id index (name == EOM))
    where
      register : VpState → VpState
      register v = record v { registers = after_write v.registers name (kept (row_of name) value) }
