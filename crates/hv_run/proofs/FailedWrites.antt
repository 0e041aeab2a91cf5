-- Why a run ended, and its exit status.
use Rattle.std.proofs.Common.{◌≡◌, Bool, Option, None, Some, IsTrue, inl, inr, refl, ◌∙◌, ap}
use Rattle.hv_text.specs.declared.fault.PrintFault.{PrintFault}
use Rattle.hv_text.specs.declared.fault.PrintFault.TheVariants.{Memory, Write}
use Rattle.hv_phases.specs.Begun.{error_of}
use Rattle.hv_history.specs.declared.kept.HostRefused.{HostRefused}
use Rattle.hv_shared.specs.declared.fault.SettleFault.{SettleFault}
use Rattle.hv_history.specs.declared.kept.HostRefused.TheVariants as refused
use Rattle.hv_phases.specs.declared.run.RunError.{RunError}
use Rattle.hv_phases.specs.declared.run.RunError.TheVariants as unfinished
use Rattle.hv_shared.specs.declared.fault.SettleFault.TheVariants as fault
use Rattle.hv_run.specs.Failure.{IsUnprinted, exit_of, failure_by, failure_of_print}
use Rattle.hv_run.specs.declared.failure.Exit.TheVariants.{Host}
use Rattle.hv_run.specs.declared.failure.Failure.{Failure}

-- the failure of a print that failed, and its exit status
pub write_fails : (with_table : Bool) (failure : Failure) (fault : PrintFault) → failure ≡ failure_of_print fault → (fault ≡ Memory → IsTrue with_table) → IsUnprinted with_table failure
write_fails with_table failure (Write written) is table = inl is
write_fails with_table failure Memory is table = inr (table refl, is)

pub print_exit : (with_table : Bool) (failure : Failure) → IsUnprinted with_table failure → exit_of failure ≡ Host
print_exit with_table failure (inl is) = ap exit_of is
print_exit with_table failure (inr is) = ap exit_of is.1

-- and after a run that failed
run_exit : (why : RunError) → exit_of (failure_by why) ≡ Host
run_exit (unfinished.Host refused.HistoryFull) = refl
run_exit (unfinished.Host refused.Memory) = refl
run_exit (unfinished.Settlement fault.Missing) = refl
run_exit (unfinished.Settlement fault.Differs) = refl

pub run_fails : (failure : Failure) (why : RunError) → failure ≡ failure_by why → exit_of failure ≡ Host
run_fails failure why is = ap exit_of is ∙ run_exit why

-- a run without an error was neither stopped nor at fault
pub no_stop : (stop : Option HostRefused) (found : Option SettleFault) → error_of stop found ≡ None → stop ≡ None
no_stop None found none = refl
no_stop (Some why) found none = absurd (cc)

pub no_fault : (stop : Option HostRefused) (found : Option SettleFault) → error_of stop found ≡ None → found ≡ None
no_fault stop None none = refl
no_fault None (Some fault) none = absurd (cc)
no_fault (Some why) (Some fault) none = absurd (cc)
