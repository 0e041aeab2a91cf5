use Rattle.std.proofs.Common.{◌≡◌, Option, Some, IfNone, IfSome, inl, inr, subst}
use Rattle.std.proofs.lemmas.Option.{IfSome_then, MatchOption-at_none}
use Rattle.hv_phases.specs.PassMap.{HasRunAll, HasRunPart}
use Rattle.hv_phases.specs.Stops.{IsFirstStop}
use Rattle.hv_phases.specs.declared.stop.Halt.TheVariants.{Order}
use Rattle.hv_history.specs.declared.kept.HostRefused.{HostRefused}
use Rattle.hv_phases.proofs.run.run_map.Goals as goal
use Rattle.hv_phases.proofs.run.run_map.Goals.{then-serial, else-serial}

pub returns-clause-whole : goal.returns-clause-whole
returns-clause-whole g c = λ none is.
    let ran : IfNone c.if-serial.halt (HasRunAll c.args.serial c.args.lines.items c.if-serial.runners) = elim c.if-serial.branch [
      | then-serial w ↦ rw (w.halt-is, w.runners-is, w.if-serial.true) w.run_in_order-halt.ensures.whole
      | else-serial w ↦ rw (w.halt-is, w.runners-is, w.if-serial.false) w.run_in_threads-halt.ensures.whole
    ] in
    MatchOption-at_none _ _ (c.progress_of.ensures.whole none is) ran

pub returns-clause-part : goal.returns-clause-part
returns-clause-part g c = λ is.
    let ran : (c.if-serial.halt ≡ Some Order → ⊥) → HasRunPart c.args.serial c.args.lines.items c.if-serial.runners = elim c.if-serial.branch [
      | then-serial w ↦ rw (w.halt-is, w.runners-is, w.if-serial.true) w.run_in_order-halt.ensures.part
      | else-serial w ↦ rw (w.halt-is, w.runners-is, w.if-serial.false) w.run_in_threads-halt.ensures.part
    ] in
    ran (c.progress_of.ensures.order is)

pub returns-clause-begun : goal.returns-clause-begun
returns-clause-begun g c = elim c.if-serial.branch [
  | then-serial w ↦ rw w.runners-is w.run_in_order-halt.ensures.begun
  | else-serial w ↦ rw w.runners-is w.run_in_threads-halt.ensures.begun
]

pub returns-clause-stayed : goal.returns-clause-stayed
returns-clause-stayed g c = elim c.if-serial.branch [
  | then-serial w ↦ rw w.runners-is w.run_in_order-halt.ensures.stayed
  | else-serial w ↦ rw w.runners-is w.run_in_threads-halt.ensures.stayed
]

at_some : (P : HostRefused → Type 0) (o : Option HostRefused) (why : HostRefused) → o ≡ Some why → IfSome o P → P why
at_some P o why is holds = subst (λ (x : Option HostRefused). IfSome x P) is holds

pub returns-clause-told : goal.returns-clause-told
returns-clause-told g c =
    let first = c.first_stop.ensures in
    IfSome_then c.progress_of.result.stop c.progress_of.ensures.told (λ why is.
    elim is [
      | inl some ↦ inl (at_some (IsFirstStop c.if-serial.runners c.args.order.now) c.first_stop.result why some first.some)
      | inr none ↦ inr (none.1, MatchOption-at_none _ _ none.0 first.none)
    ])
