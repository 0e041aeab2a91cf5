-- Which configurations boot accepts.
use Rattle.std.specs.Prelude.{◌≡◌, ◌*◌, ◌==◌, ◌||◌, nat_lt, if◌then◌else◌, Option, Some, None}
use Rattle.hv_defs.specs.declared.sizes.TheConstants.{MAX_PAGES, MAX_VPS, VP_CHARGE}
use Rattle.hv_policy.specs.declared.config.BootRefused.{BootRefused}
use Rattle.hv_policy.specs.declared.config.BootRefused.TheVariants.{Pages, Pool, Vps, Memory}
use Rattle.hv_policy.specs.declared.config.Config.{Config}

-- the first fault of a configuration, if it has one
abbrev pub boot_fault : Config → Option BootRefused
boot_fault config =
    if (config.pages == 0) || nat_lt MAX_PAGES config.pages then Some Pages
    else if nat_lt config.pages config.pool then Some Pool
    else if (config.vps == 0) || nat_lt MAX_VPS config.vps || nat_lt config.pool (VP_CHARGE * config.vps) then
    Some Vps
    else None

-- boot refuses a configuration for its first fault, and one without a fault only for lack of memory
abbrev pub IsBootRefusal : Config → BootRefused → Type 0
IsBootRefusal config Pages = boot_fault config ≡ Some Pages
IsBootRefusal config Pool = boot_fault config ≡ Some Pool
IsBootRefusal config Vps = boot_fault config ≡ Some Vps
IsBootRefusal config Memory = boot_fault config ≡ None
