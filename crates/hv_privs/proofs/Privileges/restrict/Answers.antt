use Rattle.hv_privs.proofs.PrivilegesLemmas.{restrict-HasBit}
use Rattle.hv_privs.proofs.Privileges.restrict.Goals as goal

pub returns-clause-bits : goal.returns-clause-bits
returns-clause-bits c = λ k. rw (c.intersection.ensures tt) (restrict-HasBit c.args.self c.args.to k)
