use Rattle.std.proofs.Common.{◌∙◌, arith, subst, vec_len}
use Rattle.hv_history.proofs.Rows.{pushed}
use Rattle.hv_history.specs.Row.{ArePlaced}
use Rattle.hv_history.proofs.row.History.push_row.Goals as goal

pub returns-clause-pushed : goal.returns-clause-pushed
returns-clause-pushed g c =
    let h = c.args.self.now in
    let most = c.requires.most in
    rw (c.push_reserved.ensures.items, c.append.ensures.items)
    (pushed h.heads.items h.outputs.items c.args.output.now (vec_len h.heads) h.rows.items _ (subst (λ n. ArePlaced (vec_len h.heads) n h.rows.items) h.outputs.ok.0 h.placed)
    (c.len-start.ensures ∙ h.outputs.ok.0) (omega arith))
