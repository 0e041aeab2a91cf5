-- The exit status of a refusal of the command line.
use Rattle.std.specs.Prelude.{◌≡◌, ◌⊎◌}
use Rattle.hv_options.specs.declared.usage.Usage.{Usage}
use Rattle.hv_options.specs.declared.usage.Usage.TheVariants.{Help, Words, Memory}
use Rattle.hv_run.specs.declared.failure.Exit.{Exit}
use Rattle.hv_run.specs.declared.failure.Exit.TheVariants as exit

-- help exits with `Done`, or with `Host` if its text can't be written; a mistake exits with `Usage`, and lack
-- of memory with `Host`
abbrev pub IsExitOf : Usage → Exit → Type 0
IsExitOf (Help text) status = (status ≡ exit.Done) ⊎ (status ≡ exit.Host)
IsExitOf (Words text) status = status ≡ exit.Usage
IsExitOf Memory status = status ≡ exit.Host
