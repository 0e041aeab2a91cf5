use Rattle.std.proofs.Common.{rules, sym, ap, nat_lt, ◌∙◌}
use Rattle.hv_messages.proofs.Outcomes.{kept_at_any, kept_at_one}
use Rattle.hv_messages.proofs.aims.has_message_room.Goals as goal

pub returns-in-Some : goal.returns-in-Some
returns-in-Some g c f rows caller connection there lawful reached flat =
    ap (λ n. nat_lt n 8)
    (c.of_port.ensures ∙ sym (kept_at_one rows lawful (caller, connection) c.args.aimed.conn c.args.aimed.port reached f flat c.args.home.now there c.in-One.index c.in-Some.vp.now c.in-One.is
    (search rules)))

pub returns-in-Any : goal.returns-in-Any
returns-in-Any g c f rows caller connection there lawful reached flat =
    c.keep_fewer.ensures
    ∙ ap (λ n. nat_lt n 8) (sym (kept_at_any rows lawful (caller, connection) c.args.aimed.conn c.args.aimed.port reached f flat c.args.home.now there))
