use Rattle.std.proofs.Common.{◌++◌, refl, ap, ◌∙◌}
use Rattle.std.specs.Int.{w64, to_le_bytes}
use Rattle.hv_calls.specs.declared.call.Call.TheVariants.{GetMemoryBalance}
use Rattle.hv_admit.proofs.PagesAndVps.{untold}
use Rattle.hv_admit.proofs.TargetFound.{found_available, found_use}
use Rattle.hv_partition_calls.proofs.balance.do_balance.Goals as goal

pub returns : goal.returns
returns c tree f by partition children need caller target found available in_use flat =
    let may = available ∙ found_available tree f flat by (GetMemoryBalance partition) need caller target children found in
    let uses = in_use ∙ found_use tree f flat by (GetMemoryBalance partition) need caller target children found in
    record {
      output = c.push_number-2.ensures ∙ ap (λ bytes. bytes ++ to_le_bytes w64 c.args.balance.in_use)
          (c.push_number.ensures ∙ ap (λ bytes. bytes ++ to_le_bytes w64 c.args.balance.available) c.requires) ∙ rw (may, uses) refl;
      rows = flat;
      told = untold f f refl refl refl;
    }
