-- Lines of a script, one after the other.
use Rattle.std.proofs.Common.{◌≡◌, ℕ, ◌<◌, List, [], ◌∷◌, ◌++◌, length, refl, sym, ap, ◌∙◌, subst, Option, None, Global}
use Rattle.std.specs.Io.KnownBytes.{Keeps}
use Rattle.std.proofs.KnownBytes.{Appends-kept, Appends-nil}
use Rattle.hv_history.specs.Kept.{IsRun, Kept}
use Rattle.hv_policy.specs.declared.config.Config.{Config}
use Rattle.hv_history.specs.declared.entry.Entry.{Entry}
use Rattle.hv_phases.specs.Lines.{AreInOrder}
use Rattle.hv_script.specs.Script.{Said}
use Rattle.hv_script.specs.declared.line.Line.{Line}
use Rattle.hv_explain.specs.Written.{AreTold, HasExplained, HasWritten, HasWrittenLines, HasWrittenUpTo, Telling}
use Rattle.hv_explain.proofs.RunLines.{AreMost, IsRunning, running_ends, running_first, running_more, running_stops}
use Rattle.hv_explain.proofs.WrittenLines.{told_then}

-- the lines so far were run, and their events told
pub record HasToldUpTo (tells : Telling) (at : Option ℕ) (lines left : List (Line Global)) (old now : Kept Global) (v w : Option (List ℕ)) : Type 0 where
  pub running : IsRunning at lines left old now
  pub told : HasWritten tells now.history old now v w

module _ (tells : Telling) (at : Option ℕ) (lines : List (Line Global)) (old : Kept Global) (v : Option (List ℕ)) where
  pub told_first : old.history ≡ [] → HasToldUpTo tells at lines lines old old v v
  told_first none = record {
    running = running_first at lines lines old refl none;
    told = record {
      history = ap (λ (l : List (Entry Global)). l ++ old.history) (sym none);
      config = refl;
      limit = refl;
      text = [];
      told = subst (λ (es : List (Entry Global)). AreTold tells old.config old.history es []) (sym none) refl;
      wrote = Appends-nil v;
    };
  }

  -- one line more
  pub told_more : (left rest : List (Line Global)) (line : Line Global) (most : ℕ) (now new : Kept Global) (u w : Option (List ℕ)) → left ≡ line ∷ rest → AreMost at (length now.history) most
      → 0 < most
      → HasToldUpTo tells at lines left old now v u → HasWrittenUpTo tells line.by line.action most now new u w → HasToldUpTo tells at lines rest old new v w
  told_more left rest line most now new u w is room some so_far more = record {
    running = running_more at lines left rest line old now most is room new more.did some so_far.running;
    told = subst (λ (es : List (Entry Global)). HasWritten tells es old new v w) (sym more.did.history)
        (told_then tells now.history more.did.own old now new v u w so_far.told more.told);
  }

  -- the event was reached, or all lines were run
  pub told_stops : (left : List (Line Global)) (most : ℕ) (now : Kept Global) (u : Option (List ℕ)) → AreMost at (length now.history) most → most ≡ 0
      → HasToldUpTo tells at lines left old now v u → HasWrittenLines tells at lines old now v u
  told_stops left most now u room none so_far = record { ran = running_stops at lines left old now most room none so_far.running; told = so_far.told }

  pub told_ends : (left : List (Line Global)) (now : Kept Global) (u : Option (List ℕ)) → left ≡ [] → HasToldUpTo tells at lines left old now v u → HasWrittenLines tells at lines old now v u
  told_ends left now u none so_far = record { ran = running_ends at lines left old now so_far.running none; told = so_far.told }

-- the whole of a script's lines, from a boot on
pub explained : (tells : Telling) (s : Said Global) (lines : List (Line Global)) (old new : Kept Global) (u v w : Option (List ℕ)) → lines ≡ s.lines → old.history ≡ [] → old.config ≡ s.config
    → old.limit ≡ s.limit
    → IsRun new → HasWrittenLines tells None lines old new u v → Keeps v w → HasExplained tells s u w
explained tells s lines old new u v w is empty config limit run told kept =
    record {
      kept = new;
      run = run;
      config = told.ran.config ∙ config;
      limit = told.ran.limit ∙ limit;
      order = subst (λ (ls : List (Line Global)). AreInOrder 1 ls new.history) is told.ran.order;
      text = told.told.text;
      told = subst (λ (k : Config). AreTold tells k [] new.history told.told.text) (sym told.told.config)
          (subst (λ (p : List (Entry Global)). AreTold tells old.config p new.history told.told.text) empty told.told.told);
      wrote = Appends-kept u v w told.told.text told.told.wrote kept;
    }
