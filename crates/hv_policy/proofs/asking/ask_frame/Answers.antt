use Rattle.std.proofs.Common.{◌≡◌, Some, rules}
use Rattle.hv_abi.specs.Check.{first_fault}
use Rattle.hv_abi.specs.declared.frame.AbiFault.TheVariants.{UnknownCode, Input, Alignment}
use Rattle.hv_policy.proofs.Frames.{unmet_fault}
use Rattle.hv_policy.proofs.asking.ask_frame.Goals as goal

pub returns-in-Err-UnknownCode-clause-first : goal.returns-in-Err-UnknownCode-clause-first
returns-in-Err-UnknownCode-clause-first g c f caller =
    let wrong : first_fault c.args.frame.now ≡ Some UnknownCode = search rules in
    unmet_fault f caller c.args.frame.now UnknownCode wrong

pub returns-in-Err-Input-clause-first : goal.returns-in-Err-Input-clause-first
returns-in-Err-Input-clause-first g c f caller =
    let wrong : first_fault c.args.frame.now ≡ Some Input = search rules in
    unmet_fault f caller c.args.frame.now Input wrong

pub returns-in-Err-Alignment-clause-first : goal.returns-in-Err-Alignment-clause-first
returns-in-Err-Alignment-clause-first g c f caller =
    let wrong : first_fault c.args.frame.now ≡ Some Alignment = search rules in
    unmet_fault f caller c.args.frame.now Alignment wrong
