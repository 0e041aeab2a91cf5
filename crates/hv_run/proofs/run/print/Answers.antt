use Rattle.std.proofs.Common.{length, ap, append-nil, Err}
use Rattle.std.proofs.Math.Seq.{take-length}
use Rattle.std.proofs.KnownBytes.{Appends-kept, Appends-trans}
use Rattle.std.proofs.lemmas.Result.{err_from_is_err_and}
use Rattle.std.specs.Io.KnownBytes.{Appends}
use Rattle.hv_run.proofs.FailedWrites.{write_fails}
use Rattle.hv_run.proofs.Parts.{part_after, part_before, part_cut}
use Rattle.hv_run.specs.Written.{told_by}
use Rattle.hv_run.proofs.run.print.Goals.{then-with_table+in_ok-table, else-with_table}
use Rattle.hv_run.proofs.run.print.Goals as goal

pub returns-in_err-audit-clause-part : goal.returns-in_err-audit-clause-part
returns-in_err-audit-clause-part g c = part_before _ _ _ _ (part_cut _ _ _ c.in_err-audit.field-0.0 c.in_err-audit.ensures.cut)

pub returns-in_err-audit-clause-unprinted : goal.returns-in_err-audit-clause-unprinted
returns-in_err-audit-clause-unprinted g c =
    let p = err_from_is_err_and c.from_residual.result c.from_residual.ensures.1 in
    rw (p.1) (write_fails c.args.with_table _ c.in_err-audit.field-0.0 p.2 (λ memory. absurd (c.in_err-audit.ensures.write (ap Err memory))))

pub returns-in_err-table-clause-part : goal.returns-in_err-table-clause-part
returns-in_err-table-clause-part g c =
    rw c.if-with_table.true
    (part_after _ _ _ _ _ c.in_ok-audit.ensures.ok (part_cut _ _ _ c.in_err-table.field-0.0 (c.in_err-table.ensures.cut _ c.history-history.ensures.run.machine)))

pub returns-in_err-table-clause-unprinted : goal.returns-in_err-table-clause-unprinted
returns-in_err-table-clause-unprinted g c =
    let p = err_from_is_err_and c.from_residual-in_err-table.result c.from_residual-in_err-table.ensures.1 in
    rw (p.1) (write_fails c.args.with_table _ c.in_err-table.field-0.0 p.2 (λ memory. c.if-with_table.true))

pub returns-clause-part : goal.returns-clause-part
returns-clause-part g c =
    let told : Appends (g.W.Write.contents c.args.out.now) (g.W.Write.contents c.if-with_table.out) (told_by c.args.with_table c.args.kept.now) =
    elim c.if-with_table.branch [
      | then-with_table+in_ok-table w ↦
          rw (w.if-with_table.true, w.out-is)
          (Appends-trans _ _ _ _ _ c.in_ok-audit.ensures.ok (w.in_ok-table.ensures.ok _ c.history-history.ensures.run.machine))
      | else-with_table w ↦ rw (w.if-with_table.false, w.out-is, append-nil) c.in_ok-audit.ensures.ok
    ]
    in
    record { count = length (told_by c.args.with_table c.args.kept.now); told = rw take-length (Appends-kept _ _ _ _ told c.flush.ensures.bytes) }
