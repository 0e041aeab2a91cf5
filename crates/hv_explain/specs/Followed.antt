-- An audit whose events were explained.
use Rattle.std.specs.Prelude.{ℕ, ◌≡◌, ◌+◌, true, List, [], ◌∷◌, ◌++◌, length, codes, Option, Ok}
use Rattle.std.specs.Io.KnownBytes.{Appends}
use Rattle.std.specs.declared.alloc.Global.{Global}
use Rattle.hv_check.specs.Legal.{IsLegal}
use Rattle.hv_check.specs.Takes.{HasTaken}
use Rattle.hv_explain.specs.Written.{AreTold, HasWritten, Telling}
use Rattle.hv_history.specs.Kept.{Kept, IsRun}
use Rattle.hv_history.specs.declared.entry.Entry.{Entry}
use Rattle.hv_phases.specs.Schedule.{StandsFor}
use Rattle.hv_phases.specs.declared.schedule.Schedule.{Schedule}
use Rattle.hv_script.specs.Script.{Said, script_of}
use Rattle.hv_script.specs.declared.line.Line.{Line}
use Rattle.hv_text.specs.Audit.{entry_text}

-- The audit is legal, and may end early. The writer got a text for each event of its run in turn, which is
-- told of the event, its number, its reply and its effect.
pub record HasFollowed (tells : Telling) (said : Said Global) (audit : List ℕ)
    (before after : Option (List ℕ)) : Type 0 where
  pub legal : IsLegal true true said audit
  pub text : List ℕ
  pub told : AreTold tells legal.kept.config [] legal.kept.history text
  pub wrote : Appends before after text

-- as `HasFollowed`, for the script with this text
pub record HasFollowedText (tells : Telling) (script audit : List ℕ) (before after : Option (List ℕ)) : Type 0
  where
    pub said : Said Global
    pub is : script_of script ≡ Ok said
    pub followed : HasFollowed tells said audit before after

-- one more event was taken and explained: the next one of its processor. The text begins with its line
pub record IsFollowed (tells : Telling) (old_kept new_kept : Kept Global) (old new : Schedule)
    (text rest : List ℕ) (before after : Option (List ℕ)) : Type 0 where
  pub entry : Entry Global
  pub run : IsRun new_kept
  pub told : HasWritten tells (entry ∷ []) old_kept new_kept before after
  pub next : (lines : List (Line Global)) → StandsFor old lines → HasTaken lines entry new
  pub line : text ≡ entry_text (length old_kept.history + 1) entry ++ (codes "\n" ++ rest)
