-- `none` keeps the handle of the allocator beside a null pointer.
use Rattle.hv_embed.proofs.Walk.{refl, sym, subst, List, [], ◌∷◌, ◌++◌, Val, vstruct, has_ty, SProp, ent, emp, id⊢, ftrue, fsep, WpFn, ‵, raw, ◌⊛◌, ◌$◌, ◌∵◌, !, qed, move, keep, drop, use1, join}
use Rattle.hv_embed.proofs.Walk.{split, fsplit, fjoin, feq_i, suffices, done, agg, no_more, and_then, returns, enter, alloc_all, pass_all, free_all, look_at, get, sets, tables, yes, null_ptr, Slot}
use Rattle.hv_embed.proofs.Walk.{plain, type_at, nothing, says, Stays, stay_dropped, walk_of, ends_at, Goes-dropped, α, handle_tells, proved_at, E}
use mir.Syntax.{w64}
use mir.Val.{vint, vcons, vnil}
use types.Kit.{fpack}
use types.Run.{lit}
use denote.RattleType.{Valss}
use denote.RawPtr.{RawPtr}
use denote.Struct.Struct.{within}
use denote.Struct.Owning.{shape, to}
use Rattle.std.proofs.Common.{false, arith}
use Rattle.std.specs.FinMap as map
use Rattle.std_alloc.proofs.ResultValues.{and_tt}
use Rattle.std_heap.specs.contracts.Global as Heap
use Rattle.hv_machine.specs.State.{State}
use Rattle.hv_embed.specs.contracts.raw_machine.RawMachine as RawMachine
use Rattle.hv_embed.specs.contracts.raw_machine.RawMachine.none as F
use Rattle.hv_embed.specs.contracts.raw_machine.RawMachine.none.Key.{name as #self}
use Rattle.hv_embed.proofs.raw_machine.RawMachine.none.Statement as stated
use Rattle.hv_embed.proofs.raw_machine.RawMachine.none.Code as code

pub none_spec : {M : Type 1} → stated.statement M
none_spec 𝓤 𝓛 𝓜 𝓡 wired =
    let From : Slot 0 = plain (λ _. Heap.the_row) in
    let H = 𝓛.H in let 𝓣 = tables 𝓤 H 𝓜 𝓡 𝓡.env in let c = F.clauses 𝓛 𝓜.mem 𝓡.returns in
    let hs : Stays (F.ended).signature.params (F.ended).kept = (stay_dropped From yes, tt) in
    proved_at 𝓛 F.ended hs c 𝓜 𝓡 (Goes-dropped 𝓛 0 From yes (λ κs x f. refl), tt) #self code.function (code.unfolded 𝓤 H 𝓜 𝓡 wired) (λ z are.
    let Post : Val → SProp 𝓤 = (walk_of 𝓛 F.ended hs c).post z in let Run : List Val → SProp 𝓤 = λ ws. WpFn 𝓤 H 𝓣.C 𝓣.Λ code.function ws Post in
    let a : Heap.the_row.Denot = z.0.3.0 in
    let To = type_at (F.signature).result tt in
    let nobody : State = record { rows = map.empty; pages = 0; next = 0; served = 0 } in
    let made : To.Denot = record { at = null_ptr; alloc = a; full = false; machine = nobody } in
    qed 𝓛 ((‵ ftrue ⊛ ‵ (fsep (Heap.the_row.own_val a z.0.4.0) ftrue)) ∷ raw (emp 𝓤) ∷ []) ∵ split ! $ drop ! $ fsplit ! $
    handle_tells E.al ! a z.0.4.0 (λ w ws fw. keep ! (0 ∷ []) $
    let made_word : Val = vstruct (vcons (vint w64 0) (vcons w vnil)) in
    suffices ! (Run (w ∷ [])) (subst (λ (us : List Val). ent 𝓤 (Run (w ∷ [])) (Run us)) (sym (λ i. ws i ++ [])) (id⊢ 𝓤 (Run (w ∷ [])))) $
    enter ! 𝓣.C 𝓣.Λ code.function (w ∷ []) Post $ alloc_all ! (λ ls. pass_all ! refl (fw, tt) $
    sets ! (agg ! (and_then ! (lit ! tt) (and_then ! (get ! refl) (no_more !)))) refl (and_tt (has_ty (α E.al) w) fw.0, (record { fits = omega arith }, (fw.1, tt))) $
    returns ! (look_at ! 0 refl) $ free_all ! refl $
    nothing ! $ move ! (1 ∷ 0 ∷ []) $ fjoin ! $ feq_i ! (List Val) (vint w64 0 ∷ []) (vint w64 0 ∷ []) refl $ fjoin ! $ feq_i ! (List Val) (made_word ∷ []) (made_word ∷ []) refl $ fjoin ! $
    fpack ! (Valss (RawPtr ∷ (Heap.the_field).row ∷ [])) (within (shape RawMachine.the_type) (to RawMachine.the_type made) (made_word ∷ [])) (vint w64 0 ∷ [], (w ∷ [], tt)) $
    nothing ! $ move ! (1 ∷ 0 ∷ []) $ fjoin ! $ use1 𝓛 (‵ (To.own_val made (made_word ∷ []))) (id⊢ 𝓤 _) $
    suffices ! _ (ends_at 𝓛 F.ended hs c z made_word made (tt, tt) (tt, tt)) $ says ! refl $ nothing ! $ nothing ! $ fjoin ! $ join ! $ nothing ! $ join ! $ done !)))
