-- `let_go` moves the handle of the allocator out, and nothing else is owned.
use Rattle.hv_embed.proofs.Walk.{◌≡◌, refl, sym, subst, List, [], ◌∷◌, ◌++◌, Val, vstruct, of_list, has_ty, SProp, ent, id⊢, ftrue, fsep, WpFn, ‵, raw, ◌⊛◌, ◌$◌, ◌∵◌, !, qed, move, keep, drop, join}
use Rattle.hv_embed.proofs.Walk.{split, fsplit, fjoin, fpick, feq_l, suffices, done, whole, sub, stop, fld, of_opd, returns, enter, alloc_all, pass_all, free_all, look_at, get, get_in, sets, fact}
use Rattle.hv_embed.proofs.Walk.{tables, yes, Ptr, block_ptr, null_ptr, ptr_val, nothing, says, Stays, stay_dropped, walk_of, ends_at, Goes-dropped, α, Fits, handle_tells, proved_at, box_ty}
use Rattle.hv_embed.proofs.Walk.{box_typed, E, FromHeld as From}
use lib.Dec.{T}
use mir.Val.{WT}
use Rattle.std.proofs.Common.{false, arith}
use Rattle.std_alloc.proofs.ResultValues.{and_tt}
use Rattle.hv_embed.specs.contracts.raw_machine.RawMachine as RawMachine
use Rattle.hv_embed.specs.contracts.raw_machine.RawMachine.let_go as F
use Rattle.hv_embed.specs.contracts.raw_machine.RawMachine.let_go.Key.{name as #self}
use Rattle.hv_embed.proofs.raw_machine.RawMachine.let_go.Statement as stated
use Rattle.hv_embed.proofs.raw_machine.RawMachine.let_go.Code as code

-- the machine value of a handle with this pointer
abbrev word_at : Ptr → Val → Val
word_at p hw = vstruct (of_list (ptr_val p ∷ hw ∷ []))

typed : (p : Ptr) (hw : Val) → Fits E.al hw → T (has_ty (box_ty E) (word_at p hw)) × WT (word_at p hw)
typed (block_ptr b o) hw fw = box_typed E hw b o fw
typed null_ptr hw fw = (and_tt (has_ty (α E.al) hw) fw.0, (record { fits = omega arith }, (fw.1, tt)))

pub let_go_spec : {M : Type 1} → stated.statement M
let_go_spec 𝓤 𝓛 𝓜 𝓡 wired =
    let H = 𝓛.H in let 𝓣 = tables 𝓤 H 𝓜 𝓡 𝓡.env in let c = F.clauses 𝓛 𝓜.mem 𝓡.returns in
    let hs : Stays (F.ended).signature.params (F.ended).kept = (stay_dropped From yes, tt) in
    proved_at 𝓛 F.ended hs c 𝓜 𝓡 (Goes-dropped 𝓛 0 From yes (λ κs x f. refl), tt) #self code.function (code.unfolded 𝓤 H 𝓜 𝓡 wired) (λ z are.
    let Post : Val → SProp 𝓤 = (walk_of 𝓛 F.ended hs c).post z in let Run : List Val → SProp 𝓤 = λ ws. WpFn 𝓤 H 𝓣.C 𝓣.Λ code.function ws Post in
    let d : RawMachine.the_row.Denot = z.0.3.0 in let vs : List Val = z.0.4.0 in
    qed 𝓛 ((‵ ftrue ⊛ ‵ (fsep (RawMachine.the_row.own_val d vs) ftrue)) ∷ raw (fact 𝓤 (d.full ≡ false)) ∷ []) ∵ move ! (1 ∷ []) $ drop ! $ split ! $ drop ! $ fsplit ! $
    fsplit ! $ fpick ! (λ vss. fsplit ! $ feq_l ! (λ ev. fsplit ! $ feq_l ! (λ ep. fsplit ! $ handle_tells E.al ! d.alloc vss.1.0 (λ hw eh fw. keep ! (0 ∷ []) $
    let w : Val = word_at d.at hw in
    let ws : vs ≡ w ∷ [] = subst (λ (us : List Val). vs ≡ vstruct (of_list (ptr_val d.at ∷ (us ++ []))) ∷ []) eh
    (subst (λ (ps : List Val). vs ≡ vstruct (of_list (ps ++ (vss.1.0 ++ []))) ∷ []) ep ev) in
    suffices ! (Run (w ∷ [])) (subst (λ (us : List Val). ent 𝓤 (Run (w ∷ [])) (Run us)) (sym (λ i. ws i ++ [])) (id⊢ 𝓤 (Run (w ∷ [])))) $
    enter ! 𝓣.C 𝓣.Λ code.function (w ∷ []) Post $ alloc_all ! (λ ls. pass_all ! refl (typed d.at hw fw, tt) $
    sets ! (of_opd ! (get_in ! (fld ! refl (stop !)) (sub ! 1 refl (whole !)))) refl fw $ sets ! (of_opd ! (get ! refl)) refl fw $ returns ! (look_at ! 0 refl) $ free_all ! refl $
    suffices ! _ (ends_at 𝓛 F.ended hs c z hw d.alloc (tt, tt) (tt, tt)) $ says ! refl $ nothing ! $ nothing ! $ fjoin ! $ join ! $ nothing ! $ join ! $ done !))))))
