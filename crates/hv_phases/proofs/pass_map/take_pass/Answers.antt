use Rattle.std.proofs.Common.{◌∙◌, None, Some, ap, is_some, refl, sym}
use Rattle.hv_phases.proofs.ProcessorMaps.{found_at}
use Rattle.hv_phases.proofs.RunnerMaps.{key_still, pass_still, pass_written, stops_still}
use Rattle.hv_phases.proofs.pass_map.take_pass.Goals as goal
use Rattle.hv_phases.specs.PassMap.{pass_in, stop_in}

pub returns-in-Some : goal.returns-in-Some
returns-in-Some g c =
    let by = c.args.by in
    let key = c.key_of.result in
    let is = c.key_of.ensures in
    let old = c.args.runners.now in
    let runner = c.in-Some.runner.now in
    let taken = c.take_from.new.runner in
    let new = c.get_mut.follows.lender taken in
    let found = found_at by key is old (Some runner) c.in-Some.ensures.value in
    let did = (c.get_mut.follows.holds taken).3 (ap is_some (sym c.in-Some.ensures.value)) in
    record {
      value = c.take_from.ensures.value ∙ sym (ap pass_in found);
      out = pass_written by key is old new taken did ∙ c.take_from.ensures.out;
      others = pass_still by key is old new taken did;
      stops = stops_still by key is old new taken did (c.take_from.ensures.stop ∙ sym (ap stop_in found));
      keys = key_still by key is old new taken did;
    }

pub returns-in-None : goal.returns-in-None
returns-in-None g c =
    let none = ap pass_in (found_at c.args.by c.key_of.result c.key_of.ensures c.args.runners.now None c.in-None.ensures.value) in
    rw c.get_mut.follows.holds-at-none
    (record { value = sym none; out = none; others = λ other apart. refl; stops = λ other. refl; keys = λ other has. has })
