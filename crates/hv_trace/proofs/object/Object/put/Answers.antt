use Rattle.std.proofs.Common.{subst, sym}
use Rattle.hv_trace.proofs.WrittenObject.{object_put}
use Rattle.hv_trace.proofs.object.Object.put.Goals as goal
use Rattle.hv_trace.specs.Members.{AreMembers}
use Rattle.hv_words.specs.Words.{IsQuotable}

pub returns : goal.returns
returns g c =
    object_put _ _ _ _ _ _ _ _ _ _ _ _ (subst AreMembers (sym c.as_slice-fields.ensures.bytes) c.as_slice-fields.ensures.members)
    (subst IsQuotable (sym c.as_slice-reason.ensures.bytes) c.as_slice-reason.ensures.quotable) c.in_ok-put_place.ensures c.put_event.ensures
