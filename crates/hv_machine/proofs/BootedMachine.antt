-- The machine as it boots stands for the state that boot gives, which is lawful.
use Rattle.std.proofs.Common.{◌≡◌, ℕ, ◌≤◌, ◌==◌, Bool, true, false, cond, ◌&&◌, nat_le, nat_lt, Some, None, refl, sym, ap, ◌∙◌, subst, arith, option_map, nat_cmp}
use Rattle.std.proofs.lemmas.Bool.Decides.{nat_tests}
use Rattle.std.specs.FinMap.{get, empty, get-empty, insert}
use Rattle.hv_defs.proofs.Maps.{get_at-insert}
use Rattle.hv_invariants.proofs.BootState.{fits_most, fits_pages, lawful_boot, page_at, part_at, vp_at}
use Rattle.hv_partition.specs.Partition.{PartitionState}
use Rattle.hv_policy.specs.Boot.{boot, boot_page, root_row, start_vp}
use Rattle.hv_policy.specs.BootFault.{boot_fault}
use Rattle.hv_defs.specs.Flags.{pair_cmp}
use Rattle.hv_policy.specs.declared.config.Config.{Config}
use Rattle.hv_mail.specs.Mail.{no_mail}
use Rattle.hv_admit.proofs.RoomIsNoState.{roomless_tied}
use Rattle.hv_admit.proofs.ChangedProcessor.{new_mail}
use Rattle.hv_admit.specs.Room.{roomless}
use Rattle.hv_admit.specs.Tie.{PartitionRelation, conn_row_of, here, holds, is_held, part_row, port_row_of, rows_of, sint_mail, vp_row_of}
use Rattle.hv_tree.specs.Rows.{Rows}
use Rattle.hv_machine.specs.BootRoot.{IsBootRoot}
use Rattle.hv_machine.specs.IsFlat.{IsFlat}
use Rattle.hv_machine.specs.MachineInvariant.{MachineInvariant}
use Rattle.hv_machine.specs.State.{State}
use Rattle.hv_vp.specs.Vp.{new_vp}

-- the machine of these rows as it boots
abbrev pub booted_state : Config → Rows PartitionState → State
booted_state config rows = record { rows = roomless rows; pages = config.pages; next = 2; served = 0 }

-- a page as the partition with an id sees it
seen : (id pool pages page : ℕ) (pooled : Bool) → pool ≤ pages → is_held id pooled (cond (nat_lt page pages) (Some (boot_page pool page)) None)
    ≡ (id == 1) && cond pooled (nat_lt page pool) (nat_le pool page && nat_lt page pages)
seen id pool pages page true fits = grind (arith, nat_tests)
seen id pool pages page false fits = grind (arith, nat_tests)

row_if : (index : ℕ) (b : Bool) → option_map vp_row_of (cond b (Some (new_vp index)) None) ≡ cond b (Some (start_vp index)) None
row_if index true = refl
row_if index false = refl

no_mail_yet : (index sint : ℕ) (b : Bool) → sint_mail sint (cond b (Some (new_vp index)) None) ≡ no_mail
no_mail_yet index sint true = new_mail index sint
no_mail_yet index sint false = refl

module _ (config : Config) (rows : Rows PartitionState) (p : PartitionState) (root : IsBootRoot config p) (alone : rows ≡ insert empty 1 (None, p)) (sane : boot_fault config ≡ None) where
  held : (page : ℕ) (pooled : Bool) → holds pooled page (Some (None, p)) ≡ cond pooled (nat_lt page config.pool) (nat_le config.pool page && nat_lt page config.pages)
  held page true = root.pooled page
  held page false = root.loose page

  page_seen : (id page : ℕ) (pooled t : Bool) → id == 1 ≡ t → is_held id pooled (get (boot config).page page)
      ≡ t && cond pooled (nat_lt page config.pool) (nat_le config.pool page && nat_lt page config.pages)
  page_seen id page pooled t is =
      ap (is_held id pooled) (page_at config page) ∙ seen id config.pool config.pages page pooled (fits_pages config sane)
      ∙ ap (λ t. t && cond pooled (nat_lt page config.pool) (nat_le config.pool page && nat_lt page config.pages)) is

  -- what stands under an id, the root's or another
  shown : (id : ℕ) (t : Bool) → id == 1 ≡ t → PartitionRelation (boot config) id (cond t (Some (None, p)) None)
  shown id true is = record {
    part = part_at config id ∙ ap (λ b. cond b (Some (root_row config.mask)) None) is ∙ sym (ap (λ q. Some (part_row (None, q))) root.start);
    page = λ page pooled. page_seen id page pooled true is ∙ sym (held page pooled);
    vp = λ index. vp_at config id index ∙ ap (λ b. cond b (cond (nat_lt index config.vps) (Some (start_vp index)) None) None) is
        ∙ sym (ap (option_map vp_row_of) (root.vps index) ∙ row_if index (nat_lt index config.vps));
    port = λ port. get-empty pair_cmp (id, port)
        ∙ sym (ap {A = PartitionState} (λ q. option_map port_row_of (get q.ports.rows port)) root.start ∙ ap (option_map port_row_of) (get-empty nat_cmp port));
    conn = λ conn. get-empty pair_cmp (id, conn)
        ∙ sym (ap {A = PartitionState} (λ q. option_map conn_row_of (get q.conns.rows conn)) root.start ∙ ap (option_map conn_row_of) (get-empty nat_cmp conn));
    mail = λ index sint. ap (rows_of (here id index sint)) (sym (ap (sint_mail sint) (root.vps index) ∙ no_mail_yet index sint (nat_lt index config.vps)));
  }
  shown id false is = record {
    part = part_at config id ∙ ap (λ b. cond b (Some (root_row config.mask)) None) is;
    page = λ page pooled. page_seen id page pooled false is;
    vp = λ index. vp_at config id index ∙ ap (λ b. cond b (cond (nat_lt index config.vps) (Some (start_vp index)) None) None) is;
    port = λ port. get-empty pair_cmp (id, port);
    conn = λ conn. get-empty pair_cmp (id, conn);
    mail = λ index sint. refl;
  }

  row_at : (id : ℕ) → get rows id ≡ cond (id == 1) (Some (None, p)) None
  row_at id = ap (λ m. get m id) alone ∙ get_at-insert (empty {R = nat_cmp}) 1 (None, p) id ∙ ap (cond (id == 1) (Some (None, p))) (get-empty nat_cmp id)

  -- the machine that boots stands for boot's flat state
  pub booted_flat : IsFlat (booted_state config rows) (boot config)
  booted_flat = record {
    tied = roomless_tied rows (boot config) (record { rows = λ id. subst (PartitionRelation (boot config) id) (sym (row_at id)) (shown id (id == 1) refl) });
    next = refl;
    served = refl;
  }

  -- and has what a machine keeps
  pub booted_lasting : MachineInvariant (booted_state config rows)
  booted_lasting = record { flat = boot config; stands = booted_flat; lawful = lawful_boot config sane; bounded = fits_most config sane }
