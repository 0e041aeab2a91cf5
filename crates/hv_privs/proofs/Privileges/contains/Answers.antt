use Rattle.hv_privs.proofs.PrivilegesLemmas.{contains-IsSubset}
use Rattle.hv_privs.proofs.Privileges.contains.Goals as goal

pub returns-clause-bits : goal.returns-clause-bits
returns-clause-bits c = rw (c.contains.ensures tt) (contains-IsSubset c.args.self c.args.other)
