use Rattle.std.proofs.Common.{subst, sym}
use Rattle.hv_trace.proofs.WrittenRow.{row_put}
use Rattle.hv_trace.proofs.report.reporter.ReporterTeller.tell.Goals as goal
use Rattle.hv_words.specs.Words.{IsQuotable}

pub returns : goal.returns
returns g c =
    row_put _ _ _ _ _ _ _ _ _ (subst IsQuotable (sym c.as_slice.ensures.bytes) c.as_slice.ensures.quotable) c.in_ok-write_all.ensures.bytes c.in_ok-write_all-2.ensures.bytes
    c.tell.ensures
