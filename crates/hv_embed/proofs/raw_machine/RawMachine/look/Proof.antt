-- `look` follows the pointer to the machine and lends it, and the handle follows it.
use Rattle.hv_embed.proofs.Walk.{◌≡◌, refl, sym, subst, List, [], ◌∷◌, ◌++◌, Ura, Val, vptr, SProp, ent, id⊢, ftrue, fsep, flft, WpFn, sem, Item, ‵, raw, ◌⊛◌, some, later, at_ret, ◌$◌, ◌∵◌, !, qed}
use Rattle.hv_embed.proofs.Walk.{by, move, keep, use1, join, split, split3, pick, rewrite, fsplit, fjoin, feq_l, suffices, await, done, whole, sub, stop, fld, of_opd, first, blocks, exec, returns}
use Rattle.hv_embed.proofs.Walk.{enter, alloc_all, pass_all, free_all, look_at, get, sets, env, fact, tables, no, owns, block_ptr, Slot, plain, heard, nothing, says, Stays, stay_dropped, walk_of}
use Rattle.hv_embed.proofs.Walk.{ends_at, token, proved_at, D, B, word, box_out, box_in, E}
use Prim.Native.Nat.{ℕ}
use base.Fraction.{full_share}
use base.Fml.{GName, Fml, fbor, fobs}
use base.Logic.{sep}
use mir.Syntax.{named}
use mir.Raw.{raw as bare}
use prog.Wp.{Env}
use types.Logic.{Logic}
use types.SemTy.{Body as Borrowed}
use types.Kit.{⋆, fsplit3, fpack, frame, group}
use types.Part.{look_in}
use types.Run.{load, addr}
use types.ByLocal.{through, sets_last}
use denote.Memory.{part_at, mem, cell_at, part_of}
use denote.Ref.{MutRef}
use denote.Signature.{mut_ref_to}
use denote.Steps.{opens}
use denote.Follow.{follows, Part, lends_Part}
use denote.Triple.Walked.{Goes-spent_ref}
use Rattle.std.proofs.Common.{Bool, true}
use Rattle.std_alloc.proofs.VecSteps.Shapes.{after}
use Rattle.std_alloc.proofs.BoxSteps.Form.{τ, handle}
use Rattle.hv_machine.specs.State.{State}
use Rattle.hv_embed.specs.Holds.{machine_row}
use Rattle.hv_embed.specs.Lent.{with_machine}
use Rattle.hv_embed.specs.contracts.raw_machine.RawMachine as RawMachine
use Rattle.hv_embed.specs.contracts.raw_machine.RawMachine.look as F
use Rattle.hv_embed.specs.contracts.raw_machine.RawMachine.look.Key.{name as #self}
use Rattle.hv_embed.proofs.raw_machine.RawMachine.look.Statement as stated
use Rattle.hv_embed.proofs.raw_machine.RawMachine.look.Code as code

-- the box that a full handle owns, with this machine
abbrev boxed : RawMachine.the_row.Denot → State → D E
boxed h m = record { ptr = h.at; alloc = h.alloc; value = m }

module _ {M : Type 1} {𝓤 : Ura M} (𝓛 : Logic 𝓤) (h : RawMachine.the_row.Denot) (full : h.full ≡ true) (rb ro b o : ℕ) (hv : Val) where
  -- all of the handle but its machine
  abbrev Rest : Fml
  Rest = fsep (fsep (token E.al h.alloc (bare (τ E)) (block_ptr b o)) (handle E h.alloc hv)) (cell_at full_share RawMachine.the_row.mir (word E hv b o ∷ []) rb ro)

  back : h.at ≡ block_ptr b o → (w : State) → ent 𝓤 (sep 𝓤 (sem 𝓛 ((mem machine_row).own_at w b o)) (sem 𝓛 Rest)) (sem 𝓛 ((mem RawMachine.the_row).own_at (with_machine h w) rb ro))
  unfolding part_of
  back at_b w =
      qed 𝓛 (‵ (part_at machine_row full_share w b o) ∷ ‵ Rest ∷ []) ∵ move ! (1 ∷ []) $ fsplit ! $ fsplit ! $ move ! (3 ∷ []) $
      box_in E ! (boxed h w) b o w at_b refl $
      use1 𝓛 (‵ (RawMachine.the_row.own_val (record { at = h.at; alloc = h.alloc; full = true; machine = w }) (word E hv b o ∷ []))) (id⊢ 𝓤 _) $
      rewrite ! 0 (λ (f : Bool). ‵ (RawMachine.the_row.own_val (record { at = h.at; alloc = h.alloc; full = f; machine = w }) (word E hv b o ∷ []))) (sym full) refl $
      move ! (1 ∷ 0 ∷ []) $ fjoin ! $
      fpack ! (List Val) (λ us. fsep (cell_at full_share RawMachine.the_row.mir us rb ro) (RawMachine.the_row.own_val (with_machine h w) us)) (word E hv b o ∷ []) $ done !

pub look_spec : {M : Type 1} → stated.statement M
look_spec 𝓤 𝓛 𝓜 𝓡 wired =
    let H = 𝓛.H in let 𝓣 = tables 𝓤 H 𝓜 𝓡 𝓡.env in let c = F.clauses 𝓛 𝓜.mem 𝓡.returns in let From : Slot 1 = plain (λ _. RawMachine.the_row) in
    let hs : Stays (F.ended).signature.params (F.ended).kept = (stay_dropped (mut_ref_to (0 ∷ []) tt From) no, tt) in
    proved_at 𝓛 F.ended hs c 𝓜 𝓡 (Goes-spent_ref 𝓛 1 (0 ∷ []) tt From, tt) #self code.function (code.unfolded 𝓤 H 𝓜 𝓡 wired) (λ z are.
    let κ = z.0.0.0 in let q = z.0.1.0 in let h : RawMachine.the_row.Denot = z.0.3.0.now in let γ = z.0.3.0.ghost_name in let rb = z.0.3.0.ref_ptr.0 in let ro = z.0.3.0.ref_ptr.1 in
    let Post : Val → SProp 𝓤 = (walk_of 𝓛 F.ended hs c).post z in let Run : List Val → SProp 𝓤 = λ ws. WpFn 𝓤 H 𝓣.C 𝓣.Λ code.function ws Post in
    -- the handle behind its reference, and the token of the lifetime
    let Had : List (Item 𝓤) = ‵ (fobs γ (RawMachine.the_row.coded.code h)) ∷ ‵ (fbor κ (Borrowed (mem RawMachine.the_row) rb ro γ)) ∷ ‵ (flft κ q) ∷ [] in
    qed 𝓛 (((‵ (flft κ q) ⊛ ‵ ftrue) ⊛ ‵ (owns (MutRef (named 0) κ RawMachine.the_row ∷ []) (z.0.3.0, tt) (z.0.4.0, tt))) ∷ raw (fact 𝓤 (h.full ≡ true)) ∷ []) ∵
    move ! (1 ∷ []) $ heard ! (h.full ≡ true) (λ full. split ! $ split ! $ move ! (2 ∷ []) $ fsplit ! $ fsplit3 ! $ feq_l ! (λ e0. keep ! (0 ∷ 1 ∷ 3 ∷ []) $
    by ! (subst (λ (ws : List Val). ent 𝓤 (⋆ 𝓛 Had) (Run (ws ++ []))) (sym e0)
    (qed 𝓛 Had ∵ enter ! 𝓣.C 𝓣.Λ code.function (vptr rb ro ∷ []) Post $ alloc_all ! (λ l. pass_all ! refl ((tt, tt), tt) $
    let En : Env 𝓤 H = env (code.function).locals l in
    opens ! tt RawMachine.the_row {h = h} rb ro (λ vs. move ! (1 ∷ []) $
    rewrite ! 0 (λ (f : Bool). ‵ (RawMachine.the_row.own_val (record { at = h.at; alloc = h.alloc; full = f; machine = h.machine }) vs)) full refl $
    use1 𝓛 (‵ ((B E).own_val (boxed h h.machine) vs)) (id⊢ 𝓤 _) $ box_out E ! (boxed h h.machine) vs (λ b o hv at_b ws fa. move ! (1 ∷ 2 ∷ []) $ fjoin ! $ move ! (1 ∷ []) $
    rewrite ! 2 (λ (us : List Val). ‵ (cell_at full_share RawMachine.the_row.mir us rb ro)) ws refl $ first ! $ blocks ! $
    sets ! (of_opd ! (load ! (through ! refl (fld ! refl (stop !))) (look_in ! 2 (sub ! 0 refl (whole !))))) refl (tt, tt) $ sets ! (of_opd ! (get ! refl)) refl (tt, tt) $
    sets_last ! (addr ! (through ! refl (stop !))) refl (tt, tt) $ exec ! 𝓣.C 𝓣.Λ En (after 1 (code.function).body) (at_ret En Post) $ sets ! (of_opd ! (get ! refl)) refl (tt, tt) $
    move ! (1 ∷ 2 ∷ []) $ fjoin ! $ move ! (2 ∷ 3 ∷ 4 ∷ 1 ∷ 0 ∷ []) $ group ! 5 $
    let rest : Fml = Rest 𝓛 h full rb ro b o hv in let returned = back 𝓛 h full rb ro b o hv at_b in
    use1 𝓛 (later (some (λ (γ' : GName). raw (Part 𝓛 RawMachine.the_row machine_row (with_machine h) (named 0) κ q rb ro b o γ (sem 𝓛 rest) returned h.machine γ'))))
    (lends_Part 𝓛 RawMachine.the_row machine_row (with_machine h) (named 0) κ q rb ro b o γ (sem 𝓛 rest) returned (RawMachine.the_row.coded.code h)
    (RawMachine.the_row.coded.code h) h.machine) $ await ! tt $ pick ! (λ γ'. returns ! (look_at ! 0 refl) $ free_all ! refl $ keep ! (0 ∷ []) $
    let r : (MutRef (named 0) κ machine_row).Denot = record { ref_ptr = (b, o); ghost_name = γ'; now = h.machine } in
    use1 𝓛 (‵ ((MutRef (named 0) κ machine_row).own_val r (vptr b o ∷ [])) ⊛ ‵ (flft κ q) ⊛ ‵ (follows RawMachine.the_row machine_row γ γ' (with_machine h))) (id⊢ 𝓤 _) $ split3 ! $
    suffices ! _ (ends_at 𝓛 F.ended hs c z (vptr b o) r (tt, tt) (tt, tt)) $
    nothing ! $ nothing ! $ fjoin ! $ join ! $ nothing ! $ move ! (2 ∷ 0 ∷ []) $ join ! $ join ! $ frame ! $ says ! refl $ done !)))))))))
