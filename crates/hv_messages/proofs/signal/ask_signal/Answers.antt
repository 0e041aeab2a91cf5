use Rattle.std.proofs.Common.{rules}
use Rattle.hv_messages.proofs.signal.ask_signal.Goals as goal

pub returns-clause-aimed : goal.returns-clause-aimed
returns-clause-aimed g c f by there flat =
    let reached = c.in_ok-to.ensures.reached f by there flat in
    let taken = c.select_vp.ensures f c.args.tree.now c.in_ok-to.ensures.home flat in
    (search rules, record { reached = reached; taker = search rules })
