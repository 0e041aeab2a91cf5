-- The history of a run whose lines didn't all run.
use Rattle.std.specs.Prelude.{ℕ, ◌≡◌, ◌⊎◌, ◌+◌, List, [], ◌∷◌, ◌++◌, All, Bool, IsTrue, length, map, sum}
use Rattle.std.specs.Prelude.{Option, None, Some}
use Rattle.std.specs.declared.alloc.Global.{Global}
use Rattle.hv_history.specs.Kept.{Kept}
use Rattle.hv_history.specs.declared.entry.Entry.{Entry}
use Rattle.hv_history.specs.declared.kept.HostRefused.{HostRefused}
use Rattle.hv_phases.specs.Lines.{AreInOrder, ArePhased, AreRun, asked_by, callers_in}
use Rattle.hv_phases.specs.Turns.{IsPast}
use Rattle.hv_phases.specs.declared.run.RunError.{RunError}
use Rattle.hv_phases.specs.declared.run.RunError.TheVariants as error
use Rattle.hv_policy.specs.declared.config.Config.{Config}
use Rattle.hv_policy.specs.declared.event.Action.{Action}
use Rattle.hv_policy.specs.declared.event.Caller.{Caller}
use Rattle.hv_script.specs.declared.line.Line.{Line}
use Rattle.hv_shared.specs.ByCaller.{receipts_by}
use Rattle.hv_shared.specs.Merge.{receipts_of}
use Rattle.hv_shared.specs.PassValue.{PassValue}
use Rattle.hv_shared.specs.Settle.{IsFault, IsMadeOf}
use Rattle.hv_shared.specs.declared.fault.SettleFault.{SettleFault}
use Rattle.hv_shared.specs.declared.fault.SettleFault.TheVariants.{Differs}
use Rattle.hv_shared.specs.declared.receipts.Receipt.{Receipt}
use Rattle.hv_threads.specs.Perform.{IsStopped, IsWhole}

-- the receipts of a first part of these actions: of some to their end, and then of a part of the next one
abbrev pub AreBegun : Caller → List (Action Global) → List Receipt → Type 0
AreBegun by [] list = list ≡ []
AreBegun by (what ∷ more) list =
    IsStopped by what list ⊎ ((own : List Receipt) × (rest : List Receipt) × (list ≡ own ++ rest) × IsWhole by
    what own × AreBegun by more rest)

-- the receipts of a pass are those of a first part of what the lines ask of its processor
abbrev pub HasBegun : List (Line Global) → PassValue → Type 0
HasBegun lines pass = AreBegun pass.caller (asked_by pass.caller lines) pass.receipts

-- The first entries are those of the lines before, as in a whole run of these lines. Behind them each
-- processor performed a first part of what the next lines ask for, which are of one phase, up to its end.
-- Nothing was done of the lines after.
pub record IsFirstPart (serial : Bool) (lines : List (Line Global)) (history : List (Entry Global)) : Type 0
  where
    pub before : List (Line Global)
    pub block : List (Line Global)
    pub after : List (Line Global)
    pub all : before ++ (block ++ after) ≡ lines
    pub phase : ℕ
    pub one : All (λ line. line.phase ≡ phase) block
    pub past : IsPast phase after
    pub own : List (Entry Global)
    pub rest : List (Entry Global)
    pub parts : history ≡ own ++ rest
    pub run : AreRun before own
    pub phased : ArePhased before own
    pub in_order : IsTrue serial → AreInOrder 1 before own
    pub begun : (by : Caller) → AreBegun by (asked_by by block) (receipts_by by (1 + length own) rest)

-- The settlement found this fault. Each processor's receipts are those of a first part of what its lines ask
-- for, and the history has as many events as there are receipts. Either it has another configuration or
-- limit, or this first fault against the receipts; or it is their merge, but their numbers are out of order.
pub record IsUnsettled (config : Config) (limit : ℕ) (lines : List (Line Global)) (fault : SettleFault)
    (k : Kept Global) : Type 0 where
  pub passes : List PassValue
  pub callers : map (λ pass. pass.caller) passes ≡ callers_in [] lines
  pub begun : All (HasBegun lines) passes
  pub count : length k.history ≡ sum (map (λ pass. length pass.receipts) passes)
  pub found : IsFault config limit k (receipts_of passes) fault ⊎ (IsMadeOf config limit k
      (receipts_of passes) × (fault ≡ Differs))

-- the history was settled, was begun with this configuration and limit, and is a first part of the lines
pub record IsSettledPart (config : Config) (limit : ℕ) (serial : Bool) (lines : List (Line Global))
    (k : Kept Global) : Type 0 where
  pub same_config : k.config ≡ config
  pub same_limit : k.limit ≡ limit
  pub part : IsFirstPart serial lines k.history

-- why a run isn't whole: the host's refusal, or else the settlement's fault
abbrev pub error_of : Option HostRefused → Option SettleFault → Option RunError
error_of (Some why) fault = Some (error.Host why)
error_of None (Some fault) = Some (error.Settlement fault)
error_of None None = None
