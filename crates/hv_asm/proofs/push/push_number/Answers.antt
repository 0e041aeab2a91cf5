use Rattle.std.proofs.Common.{Ok, List, ℕ, ap, subst, take, ◌≡◌, ◌∙◌}
use Rattle.byteorder.specs.Endian.{little_bytes}
use Rattle.hv_asm.specs.Made.{IsPushed}
use Rattle.hv_asm.proofs.Lists.{take_low}
use Rattle.hv_asm.proofs.push.push_number.Goals as goal

pub returns : goal.returns
returns c =
    let low : take c.args.size c.to_le_bytes.result ≡ little_bytes c.args.size c.args.number =
    ap (take c.args.size) c.to_le_bytes.ensures ∙ take_low c.args.size 8 0 c.args.number c.requires in
    subst (λ (l : List ℕ). IsPushed c.push_bytes.result c.args.list.now.items c.push_bytes.new.list.items (Ok l)) low c.push_bytes.ensures
