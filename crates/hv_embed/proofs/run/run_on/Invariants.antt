use Rattle.std.proofs.Common.{◌≡◌, ◌+◌, ◌*◌, ◌≤◌, length, take}
use Rattle.std.specs.List.{between}
use Rattle.hv_machine.specs.MachineInvariant.{MachineInvariant}
use Rattle.hv_machine.specs.Sound.{IsSound}
use Rattle.hv_policy.specs.Flat.{Flat}
use Rattle.hv_policy.specs.Parts.{reply_of}
use Rattle.hv_policy.specs.Result.{HasResult}
use Rattle.hv_embed.specs.Run.{IsAt, IsAtMore, IsLastEffect, Ran, output_in}
use Rattle.hv_embed.proofs.run.run_on.Given as goal

abbrev pub invariant-loop-more : goal.invariant-loop-more
invariant-loop-more l = record {
  ran : (ran : Ran) → IsAt ran l.fn.machine l.fn.frame (reply_of l.fn.last l.fn.output) (take l.fn.at l.fn.outputs) → IsAtMore l.more l.by ran l.machine l.frame (reply_of l.last l.output)
      (take l.at l.outputs);
  effect : (ran : Ran) (f : Flat) → IsAt ran l.fn.machine l.fn.frame (reply_of l.fn.last l.fn.output) (take l.fn.at l.fn.outputs) → IsLastEffect 0 f l.by ran l.fn.effect → IsLastEffect l.more f l.by
      ran l.effect;
  count : l.events ≡ l.fn.events + l.more;
  place : l.at ≤ length l.outputs;
  from : l.from ≤ l.at;
  most : l.at ≤ l.from + 16;
  put : between l.from l.at l.outputs ≡ output_in (reply_of l.last l.output);
  few : l.at ≤ l.fn.at + 16 * l.more;
  index : HasResult (reply_of l.last l.output);
  pages : l.machine.pages ≡ l.fn.machine.pages;
  lasting : MachineInvariant l.machine;
  sound : IsSound l.machine;
}
