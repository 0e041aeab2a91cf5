use Rattle.std.proofs.Common.{[], ◌∷◌, subst, vec_len}
use Rattle.hv_history.proofs.Rows.{more_heads}
use Rattle.hv_history.specs.Row.{ArePlaced}
use Rattle.hv_history.proofs.row.History.place.Goals as goal

pub returns-clause-same : goal.returns-clause-same
returns-clause-same g c =
    let h = c.args.self.now in
    rw c.push_reserved.ensures.items
    (more_heads h.heads.items (c.replace.result ∷ []) h.outputs.items (vec_len h.outputs) h.rows.items (subst (λ n. ArePlaced n (vec_len h.outputs) h.rows.items) h.heads.ok.0 h.placed))
