use Rattle.hv_machine.proofs.BootedRoot.{root_made}
use Rattle.hv_machine.proofs.boot.make_root.Goals as goal

pub returns : goal.returns
returns g c =
    root_made c.args.config c.in_ok-root.root c.give.new.root c.give-2.new.root c.give_vps.new.root c.in_ok-root.ensures
    c.give.ensures.rest c.give-2.ensures.rest c.give_vps.ensures.rest c.in_ok-give.ensures.pages c.in_ok-give-2.ensures.pages c.in_ok-give_vps.ensures.vps
