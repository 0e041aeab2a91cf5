use Rattle.std.proofs.Common.{◌∙◌, None, ap, is_some, sym}
use Rattle.std.proofs.lemmas.Option.{none-some}
use Rattle.hv_phases.proofs.ProcessorMaps.{found_at}
use Rattle.hv_phases.proofs.RunnerMaps.{key_still, pass_written, same_still, stop_written}
use Rattle.hv_phases.proofs.pass_map.put_pass.Goals as goal
use Rattle.hv_phases.specs.PassMap.{key_of}

pub unreachable-requires : goal.unreachable-requires
unreachable-requires g c =
    let has = c.requires in
    absurd (none-some has.0 (sym (found_at c.args.pass.caller c.key_of-key.result (c.key_of-key.ensures ∙ ap key_of c.caller.ensures) c.args.runners.now None
    c.in_default.ensures.value) ∙ has.1))

pub returns : goal.returns
returns g c =
    let pass = c.args.pass in
    let by = pass.caller in
    let key = c.key_of-key.result in
    let is = c.key_of-key.ensures ∙ ap key_of c.caller.ensures in
    let old = c.args.runners.now in
    let given = c.give_to.new.runner in
    let new = c.get_mut.follows.lender given in
    let did = (c.get_mut.follows.holds given).3 (ap is_some (sym c.in-Some.ensures.value)) in
    record {
      own = (pass_written by key is old new given did ∙ c.give_to.ensures.pass, stop_written by key is old new given did ∙ c.give_to.ensures.stop);
      others = same_still by key is old new given did;
      keys = key_still by key is old new given did;
    }
