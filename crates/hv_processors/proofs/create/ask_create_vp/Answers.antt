use Rattle.std.proofs.Common.{◌≡◌, ap, ◌∙◌, rules}
use Rattle.hv_calls.specs.declared.call.Call.TheVariants.{CreateVp}
use Rattle.hv_policy.specs.declared.need.Need.{Need}
use Rattle.hv_admit.proofs.TargetFound.{found_available}
use Rattle.hv_processors.proofs.create.ask_create_vp.Goals as goal

pub returns-then-balance_of-need : goal.returns-then-balance_of-need
returns-then-balance_of-need g c tree f by partition found flat =
    let of = c.args.found in
    let charge : of.need.charge ≡ 4 = ap (λ (n : Need). n.charge) found.row in
    let has = c.balance_of.ensures.available ∙ found_available tree f flat by (CreateVp partition c.args.vp) of.need of.caller.now of.target.now of.children found in
    search rules

pub returns : goal.returns
returns g c tree f by partition found flat =
    let of = c.args.found in
    let charge : of.need.charge ≡ 4 = ap (λ (n : Need). n.charge) found.row in
    let has = c.balance_of.ensures.available ∙ found_available tree f flat by (CreateVp partition c.args.vp) of.need of.caller.now of.target.now of.children found in
    search rules
