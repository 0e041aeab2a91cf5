use Rattle.hv_shared.proofs.Callers.{no_receipts, receipts_of_pass}
use Rattle.hv_shared.proofs.laws.each_caller_did_what_its_pass_has.Goals as goal

pub returns-clause-did : goal.returns-clause-did
returns-clause-did c callers lists history count once own merge i by h is = receipts_of_pass callers lists history count merge own once i by h is

pub returns-clause-nobody : goal.returns-clause-nobody
returns-clause-nobody c callers lists history count own merge by none = no_receipts callers lists history count merge own by none
