-- `into_parts` moves two fields, and what they own goes with them.
use Rattle.hv_embed.proofs.Walk.{◌≡◌, refl, sym, subst, List, [], ◌∷◌, ◌++◌, Val, SProp, ent, id⊢, ftrue, fsep, WpFn, ‵, raw, ◌⊛◌, ◌$◌, ◌∵◌, !, qed, move, keep, drop, use1, join, split, rewrite}
use Rattle.hv_embed.proofs.Walk.{fsplit, fjoin, suffices, done, whole, sub, agg, stop, fld, no_more, and_then, of_opd, returns, enter, alloc_all, pass_all, free_all, look_at, get, get_in, sets, fact}
use Rattle.hv_embed.proofs.Walk.{tables, yes, type_at, heard, nothing, says, Stays, stay_dropped, walk_of, ends_at, Goes-dropped, proved_at, D, B, word, box_typed, box_out, box_in, E}
use Rattle.hv_embed.proofs.Walk.{FromHeld as From}
use Rattle.std.proofs.Common.{Bool, true}
use Rattle.hv_embed.specs.contracts.raw_machine.RawMachine as RawMachine
use Rattle.hv_embed.specs.contracts.raw_machine.RawMachine.into_parts as F
use Rattle.hv_embed.specs.contracts.raw_machine.RawMachine.into_parts.Key.{name as #self}
use Rattle.hv_embed.proofs.raw_machine.RawMachine.into_parts.Statement as stated
use Rattle.hv_embed.proofs.raw_machine.RawMachine.into_parts.Code as code

pub into_parts_spec : {M : Type 1} → stated.statement M
into_parts_spec 𝓤 𝓛 𝓜 𝓡 wired =
    let H = 𝓛.H in let 𝓣 = tables 𝓤 H 𝓜 𝓡 𝓡.env in let c = F.clauses 𝓛 𝓜.mem 𝓡.returns in
    let hs : Stays (F.ended).signature.params (F.ended).kept = (stay_dropped From yes, tt) in
    proved_at 𝓛 F.ended hs c 𝓜 𝓡 (Goes-dropped 𝓛 0 From yes (λ κs x f. refl), tt) #self code.function (code.unfolded 𝓤 H 𝓜 𝓡 wired) (λ z are.
    let Post : Val → SProp 𝓤 = (walk_of 𝓛 F.ended hs c).post z in let Run : List Val → SProp 𝓤 = λ ws. WpFn 𝓤 H 𝓣.C 𝓣.Λ code.function ws Post in
    let d : RawMachine.the_row.Denot = z.0.3.0 in
    let v : D E = record { ptr = d.at; alloc = d.alloc; value = d.machine } in
    let To = type_at (F.signature).result tt in
    let made : To.Denot = record { ptr = v.ptr; alloc = v.alloc; value = v.value } in
    qed 𝓛 ((‵ ftrue ⊛ ‵ (fsep (RawMachine.the_row.own_val d z.0.4.0) ftrue)) ∷ raw (fact 𝓤 (d.full ≡ true)) ∷ []) ∵ move ! (1 ∷ []) $ heard ! (d.full ≡ true) (λ full. split ! $ drop ! $ fsplit ! $
    rewrite ! 0 (λ (f : Bool). ‵ (RawMachine.the_row.own_val (record { at = d.at; alloc = d.alloc; full = f; machine = d.machine }) z.0.4.0)) full refl $
    use1 𝓛 (‵ ((B E).own_val v z.0.4.0)) (id⊢ 𝓤 _) $
    box_out E ! v z.0.4.0 (λ b o hv e ws fa. box_in E ! v b o v.value e refl $ use1 𝓛 (‵ (To.own_val made (word E hv b o ∷ []))) (id⊢ 𝓤 _) $ keep ! (0 ∷ []) $
    let w = word E hv b o in
    suffices ! (Run (w ∷ [])) (subst (λ (us : List Val). ent 𝓤 (Run (w ∷ [])) (Run us)) (sym (λ i. ws i ++ [])) (id⊢ 𝓤 (Run (w ∷ [])))) $
    enter ! 𝓣.C 𝓣.Λ code.function (w ∷ []) Post $ alloc_all ! (λ ls. pass_all ! refl (box_typed E hv b o fa, tt) $
    sets ! (of_opd ! (get_in ! (fld ! refl (stop !)) (sub ! 0 refl (whole !)))) refl (tt, tt) $ sets ! (of_opd ! (get_in ! (fld ! refl (stop !)) (sub ! 1 refl (whole !)))) refl fa $
    sets ! (of_opd ! (get ! refl)) refl (tt, tt) $ sets ! (agg ! (and_then ! (get ! refl) (and_then ! (get ! refl) (no_more !)))) refl (box_typed E hv b o fa) $
    returns ! (look_at ! 0 refl) $ free_all ! refl $
    suffices ! _ (ends_at 𝓛 F.ended hs c z w made (tt, tt) (tt, tt)) $ says ! refl $ nothing ! $ nothing ! $ fjoin ! $ join ! $ nothing ! $ join ! $ done !))))
