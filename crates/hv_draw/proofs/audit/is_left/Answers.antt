use Rattle.hv_draw.proofs.Beginning.{ended, left_of_all, left_of_few}
use Rattle.hv_draw.proofs.audit.is_left.Goals as goal

pub returns-then-events-at : goal.returns-then-events-at
returns-then-events-at c = λ holds last.
    left_of_few c.args.at c.in-Some.at c.args.events c.args.rest.now c.in-Some.is c.if-events-at.true (ended c.args.rest.now c.args.end.now c.args.events (c.is_end-ends.ensures holds) last)

pub returns-in-None : goal.returns-in-None
returns-in-None c = λ holds last.
    left_of_all c.args.at c.args.events c.args.rest.now c.in-None.is (ended c.args.rest.now c.args.end.now c.args.events (c.is_end-ends.ensures holds) last)
