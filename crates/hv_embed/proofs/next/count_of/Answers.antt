use Rattle.std.proofs.Common.{length, sym, ap, ◌∙◌}
use Rattle.hv_embed.specs.Held.{ids_of}
use Rattle.hv_embed.specs.declared.next.Links.{Links}
use Rattle.hv_embed.proofs.Following.{keys_counted}
use Rattle.hv_embed.proofs.next.count_of.Goals as goal

pub returns-in-Ports : goal.returns-in-Ports
returns-in-Ports c =
    let p = c.args.partition.now in
    c.port_count.ensures ∙ keys_counted p.ports.rows ∙ sym (ap (λ (links : Links). length (ids_of links p)) c.in-Ports.is)

pub returns-in-Connections : goal.returns-in-Connections
returns-in-Connections c =
    let p = c.args.partition.now in
    c.conn_count.ensures ∙ keys_counted p.conns.rows ∙ sym (ap (λ (links : Links). length (ids_of links p)) c.in-Connections.is)
