use Rattle.std.proofs.Common.{◌≡◌, Bool, false, Option, Some, None, IfNone, is_some, sym, ◌∙◌, reverse}
use Rattle.std.proofs.lemmas.Bool.{false≢true}
use Rattle.hv_phases.specs.Schedule.{IsIdle}
use Rattle.hv_phases.specs.declared.schedule.Schedule.{Schedule}
use Rattle.hv_phases.proofs.PhaseStart.{begun_given, reverse_last, stands_begun}
use Rattle.hv_phases.proofs.schedule.Schedule.begin.Goals as goal

none_if : {T : Type 0} (o : Option T) (b : Bool) (P : Type 0) → b ≡ is_some o → b ≡ false → IfNone o P → P
none_if None b P is no_one p = p
none_if (Some t) b P is no_one p = absurd (false≢true (sym no_one ∙ is))

pub returns-in_ok-self-clause-lines : goal.returns-in_ok-self-clause-lines
returns-in_ok-self-clause-lines c lines stands =
    let new : Schedule = record { turns = c.in_ok-self.field-0; later = c.turns_of.new.later } in
    let idle : IsIdle c.args.self.now = none_if c.waiting.result c.is_some.result (IsIdle c.args.self.now) c.is_some.ensures c.if-is_some.false c.waiting.ensures.none in
    stands_begun c.args.self.now new c.in-Some.first (reverse c.pop.new.self.items) lines stands idle
    (reverse_last c.args.self.now.later.items c.pop.new.self.items c.in-Some.first c.in-Some.ensures.items) c.in_ok-self.ensures

pub returns-in_ok-self-clause-begun : goal.returns-in_ok-self-clause-begun
returns-in_ok-self-clause-begun c idle =
    absurd (begun_given c.in-Some.first (reverse c.pop.new.self.items) c.in_ok-self.field-0.items (reverse c.turns_of.new.later.items) c.in_ok-self.ensures idle)
