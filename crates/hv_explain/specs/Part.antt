-- What was told before a command ended early.
use Rattle.std.specs.Prelude.{ℕ, ◌≡◌, ◌≢◌, ◌⊎◌, List, [], ◌++◌, Option, Ok}
use Rattle.std.specs.Io.KnownBytes.{Appends}
use Rattle.std.specs.declared.alloc.Global.{Global}
use Rattle.hv_check.specs.Takes.{Takes}
use Rattle.hv_explain.specs.First.{AreBegun}
use Rattle.hv_explain.specs.Written.{AreTold, Telling}
use Rattle.hv_history.specs.Kept.{Kept, IsRun}
use Rattle.hv_policy.specs.declared.config.Config.{Config}
use Rattle.hv_run.specs.Written.{HasPart}
use Rattle.hv_run.specs.declared.failure.Failure.{Failure}
use Rattle.hv_run.specs.declared.failure.Failure.TheVariants.{Write}
use Rattle.hv_script.specs.Script.{Said, script_of}
use Rattle.hv_script.specs.declared.line.Line.{Line}
use Rattle.hv_text.specs.Audit.{entries_text}

-- the writer gets a first part of a text of this kind
pub record HasPutPart (Kind : List ℕ → Type 0) (before after : Option (List ℕ)) : Type 0 where
  pub text : List ℕ
  pub kind : Kind text
  pub part : HasPart text before after

-- as `HasPutPart`, and all of the text unless the failure is that of a write
pub record HasPutUntil (failure : Failure) (Kind : List ℕ → Type 0) (before after : Option (List ℕ)) : Type 0
  where
    pub text : List ℕ
    pub kind : Kind text
    pub part : HasPart text before after
    pub whole : failure ≢ Write → Appends before after text

-- The text has a text for each event of a run from a boot. The events are the first ones that the lines ask
-- for, in order. Each text is told of the event, its number, its reply and its effect.
pub record TellsFirst (tells : Telling) (config : Config) (limit : ℕ) (lines : List (Line Global))
    (text : List ℕ) : Type 0 where
  pub kept : Kept Global
  pub run : IsRun kept
  pub config_is : kept.config ≡ config
  pub limit_is : kept.limit ≡ limit
  pub begun : AreBegun lines kept.history
  pub told : AreTold tells config [] kept.history text

-- the text is empty, or tells of the first events of a script
abbrev pub TellsPart : Telling → Said Global → List ℕ → Type 0
TellsPart tells said text = (text ≡ []) ⊎ TellsFirst tells said.config said.limit said.lines text

-- as `TellsFirst`, for the events whose lines an audit begins with
pub record FollowsFirst (tells : Telling) (said : Said Global) (audit text : List ℕ) : Type 0 where
  pub kept : Kept Global
  pub run : IsRun kept
  pub config : kept.config ≡ said.config
  pub limit : kept.limit ≡ said.limit
  pub left : List (Line Global)
  pub takes : Takes said.lines kept.history left
  pub rest : List ℕ
  pub begins : audit ≡ entries_text 1 kept.history ++ rest
  pub told : AreTold tells said.config [] kept.history text

abbrev pub FollowsPart : Telling → Said Global → List ℕ → List ℕ → Type 0
FollowsPart tells said audit text = (text ≡ []) ⊎ FollowsFirst tells said audit text

-- as `TellsPart` and `FollowsPart`, for the script with this text
abbrev pub TellsPartOf : Telling → List ℕ → List ℕ → Type 0
TellsPartOf tells script text =
    (text ≡ []) ⊎ ((said : Said Global) × (script_of script ≡ Ok said) × TellsPart tells said text)

abbrev pub FollowsPartOf : Telling → List ℕ → List ℕ → List ℕ → Type 0
FollowsPartOf tells script audit text =
    (text ≡ []) ⊎ ((said : Said Global) × (script_of script ≡ Ok said) × FollowsPart tells said audit text)
