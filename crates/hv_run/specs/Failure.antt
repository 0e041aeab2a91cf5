-- Which failure a script's error is, and the exit status of each.
use Rattle.std.specs.Prelude.{◌≡◌, ◌⊎◌, ℕ, Bool, IsTrue, List, Ok, None}
use Rattle.std.specs.declared.alloc.Global.{Global}
use Rattle.hv_policy.specs.BootFault.{boot_fault}
use Rattle.hv_policy.specs.declared.config.BootRefused.{BootRefused}
use Rattle.hv_policy.specs.declared.config.BootRefused.TheVariants as boot
use Rattle.hv_script.specs.Script.{Said, script_of}
use Rattle.hv_script.specs.declared.fault.FaultKind.{FaultKind}
use Rattle.hv_script.specs.declared.fault.FaultKind.TheVariants.{Memory}
use Rattle.hv_script.specs.declared.fault.ScriptFault.{ScriptFault}
use Rattle.hv_history.specs.declared.kept.HostRefused.TheVariants as refused
use Rattle.hv_phases.specs.declared.run.RunError.{RunError}
use Rattle.hv_phases.specs.declared.run.RunError.TheVariants as unfinished
use Rattle.hv_shared.specs.declared.fault.SettleFault.TheVariants as fault
use Rattle.hv_text.specs.declared.fault.PrintFault.{PrintFault}
use Rattle.hv_text.specs.declared.fault.PrintFault.TheVariants as print
use Rattle.hv_run.specs.declared.failure.Exit.{Exit}
use Rattle.hv_run.specs.declared.failure.Exit.TheVariants.{Script, Host}
use Rattle.hv_run.specs.declared.failure.Failure.{Failure}
use Rattle.hv_run.specs.declared.failure.Failure.TheVariants as failure

-- a script that can't be read, has a fault or doesn't boot exits with `Script`, and any other failure with
-- `Host`
abbrev pub exit_of : Failure → Exit
exit_of failure.Unreadable = Script
exit_of (failure.Fault line kind) = Script
exit_of failure.Pages = Script
exit_of failure.Pool = Script
exit_of failure.Vps = Script
exit_of failure.Memory = Host
exit_of failure.HistoryFull = Host
exit_of failure.Missing = Host
exit_of failure.Differs = Host
exit_of failure.Write = Host

-- the failure for a fault at a line, which names the line, except out of memory
abbrev pub failure_at : ℕ → FaultKind → Failure
failure_at line Memory = failure.Memory
failure_at line kind = failure.Fault line kind

abbrev pub failure_of : ScriptFault → Failure
failure_of fault = failure_at fault.line fault.kind

-- the failure of a boot that is refused
abbrev pub failure_of_boot : BootRefused → Failure
failure_of_boot boot.Pages = failure.Pages
failure_of_boot boot.Pool = failure.Pool
failure_of_boot boot.Vps = failure.Vps
failure_of_boot boot.Memory = failure.Memory

-- a text is a script without a fault, and its machine boots
pub record CanRun (text : List ℕ) : Type 0 where
  pub said : Said Global
  pub is : script_of text ≡ Ok said
  pub boots : boot_fault said.config ≡ None

-- the script can't be read, or there is no memory for it
abbrev pub IsUnread : Failure → Type 0
IsUnread why = (why ≡ failure.Unreadable) ⊎ (why ≡ failure.Memory)

-- the failure of a run: why the lines didn't all run, or what the settlement found
abbrev pub failure_by : RunError → Failure
failure_by (unfinished.Host refused.HistoryFull) = failure.HistoryFull
failure_by (unfinished.Host refused.Memory) = failure.Memory
failure_by (unfinished.Settlement fault.Missing) = failure.Missing
failure_by (unfinished.Settlement fault.Differs) = failure.Differs

-- the failure of a print: the writer takes no more, or the host is out of memory
abbrev pub failure_of_print : PrintFault → Failure
failure_of_print (print.Write written) = failure.Write
failure_of_print print.Memory = failure.Memory

-- why a text wasn't printed: the writer takes no more, or there is no memory for the table
abbrev pub IsUnprinted : Bool → Failure → Type 0
IsUnprinted with_table why = (why ≡ failure.Write) ⊎ (IsTrue with_table × (why ≡ failure.Memory))
