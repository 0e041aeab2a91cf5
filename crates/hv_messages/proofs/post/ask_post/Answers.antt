use Rattle.std.proofs.Common.{rules}
use Rattle.hv_messages.proofs.Outcomes.{post_unreached}
use Rattle.hv_messages.proofs.post.ask_post.Goals as goal

pub returns-then-not-has_message_room-clause-unmet : goal.returns-then-not-has_message_room-clause-unmet
returns-then-not-has_message_room-clause-unmet g c f by type payload there law flat =
    let reached = c.in-Ok.ensures.reached f by there flat in
    let taken = c.select_vp.ensures f c.args.tree.now c.in-Ok.ensures.home flat in
    let room = c.has_message_room.ensures f c.args.tree.now by c.args.connection c.in-Ok.ensures.home law (λ f flat. c.in-Ok.ensures.reached f by there flat) flat in
    search rules

pub returns-clause-aimed : goal.returns-clause-aimed
returns-clause-aimed g c f by type payload there law flat =
    let reached = c.in-Ok.ensures.reached f by there flat in
    let taken = c.select_vp.ensures f c.args.tree.now c.in-Ok.ensures.home flat in
    let room = c.has_message_room.ensures f c.args.tree.now by c.args.connection c.in-Ok.ensures.home law (λ f flat. c.in-Ok.ensures.reached f by there flat) flat in
    (search rules, record { reached = reached; taker = search rules })

pub returns-in-Err-clause-unmet : goal.returns-in-Err-clause-unmet
returns-in-Err-clause-unmet g c f by type payload there law flat =
    post_unreached f by c.args.connection type payload c.in-Err.rule (c.in-Err.ensures.first f by there flat)
