-- The end of an audit, and steps one after another.
use Rattle.std.proofs.Common.{◌≡◌, ℕ, ◌+◌, ◌<◌, ◌≢◌, ◌^◌, [], ◌∷◌, refl, sym, ap, ◌∙◌, subst, arith, append-nil, length, Bool, true, false, inl, inr, Global}
use Rattle.hv_history.specs.Kept.{IsRun, Kept}
use Rattle.hv_check.specs.From.{HasMoved, IsEnding, IsLastLine, IsLegalFrom, IsLegalFromWith, IsNoLine, IsOver}
use Rattle.hv_check.specs.Legal.{AreLines, IsEnd}
use Rattle.hv_phases.specs.Schedule.{IsBegun, IsIdle, StandsFor}
use Rattle.hv_check.specs.Takes.{Takes}
use Rattle.hv_check.specs.declared.ending.Ending.{Ending}
use Rattle.hv_check.specs.declared.ending.Ending.TheVariants.{Good, Bad}
use Rattle.hv_phases.specs.declared.schedule.Schedule.{Schedule}
use Rattle.hv_check.proofs.RemainingActions.{Entries}
use Rattle.hv_check.proofs.AfterLine.{all_over}
use Rattle.hv_check.proofs.LineTexts.{Bytes}
use Rattle.hv_phases.proofs.AskedOfProcessor.{Lines}

-- an audit that may end early
pub early_end : (schedule : Schedule) (events : ℕ) (text : Bytes) → text ≡ [] → IsEnding true schedule events text Good
early_end schedule events text none = λ lines stands. (tt, inl none)

pub last_prefix : (schedule : Schedule) (events : ℕ) (text : Bytes) (ending : Ending) → text ≢ [] → IsLastLine events text ending → IsEnding true schedule events text ending
last_prefix schedule events text Good some is = λ lines stands. (tt, inr is)
last_prefix schedule events text (Bad wrong) some is = λ lines stands over end. elim end [ inl none ↦ some none | inr last ↦ is last ]

-- one that may not
pub last_whole : (schedule : Schedule) (events : ℕ) (text : Bytes) (ending : Ending) → IsBegun schedule → IsIdle schedule → IsLastLine events text ending → IsEnding false schedule events text ending
last_whole schedule events text Good begun idle is = λ lines stands. (all_over schedule lines stands idle begun, is)
last_whole schedule events text (Bad wrong) begun idle is = λ lines stands over last. is last

-- the end of what is left
module _ (kept : Kept Global) (schedule : Schedule) (text : Bytes) (prefix : Bool) (events : ℕ) (count : events ≡ length kept.history) (few : length kept.history < 2 ^ 32) (run : IsRun kept)
    (rules : Bool) (lines : Lines) (stands : StandsFor schedule lines) where
  pub ends_well : IsEnding prefix schedule events text Good → IsLegalFrom prefix rules kept lines text
  ends_well good =
      let is = good lines stands in
      record {
        kept = kept;
        run = run;
        config = refl;
        limit = refl;
        more = [];
        history = sym (append-nil kept.history);
        left = lines;
        takes = refl;
        over = is.0;
        told = subst (λ (n : ℕ). IsEnd prefix n text) count is.1;
      }

  pub ends_with : IsEnding prefix schedule events text Good → IsLegalFromWith prefix rules kept lines text events
  unfolding ends_well
  ends_with good = record { legal = ends_well good; count = sym count }

  pub ends_badly : ((lines : Lines) → StandsFor schedule lines → IsOver prefix lines → IsEnd prefix events text → ⊥) → IsNoLine text → IsLegalFrom prefix rules kept lines text → ⊥
  ends_badly bad no_line is = with_more is.more is.takes is.told
    where
      with_more : (more : Entries) → Takes lines more is.left → AreLines prefix rules (length kept.history) more text → ⊥
      with_more [] takes told = bad lines stands (subst (IsOver prefix) takes is.over) (subst (λ (n : ℕ). IsEnd prefix n text) (sym count) told)
      with_more (e ∷ es) takes told = no_line rules (length kept.history + 1) e told.0 (omega (arith, few)) told.1

-- nothing was taken
pub not_moved : (rules : Bool) (k : Kept Global) (schedule : Schedule) (lines : Lines) (text : Bytes) → StandsFor schedule lines → HasMoved rules k k schedule lines text text
not_moved rules k schedule lines text stands = record { left = lines; stands = stands; forth = λ prefix is. is; back = λ prefix is. is; one = λ prefix is. refl }

-- a line more
pub moved_on : (rules : Bool) (a b c : Kept Global) (mid new : Schedule) (lines : Lines) (text behind rest : Bytes) (first : HasMoved rules a b mid lines text behind)
    → HasMoved rules b c new first.left
    behind rest
    → HasMoved rules a c new lines text rest
moved_on rules a b c mid new lines text behind rest first then = record {
  left = then.left;
  stands = then.stands;
  forth = λ prefix is. then.forth prefix (first.forth prefix is);
  back = λ prefix is. first.back prefix (then.back prefix is);
  one = λ prefix is. first.one prefix (then.back prefix is) ∙ then.one prefix is;
}

-- and a phase that begins
pub moved_begun : (rules : Bool) (a b : Kept Global) (old new : Schedule) (lines : Lines) (text rest : Bytes) (first : HasMoved rules a b old lines text rest) → StandsFor new first.left
    → HasMoved rules a b new lines text rest
moved_begun rules a b old new lines text rest first stands = record { left = first.left; stands = stands; forth = first.forth; back = first.back; one = first.one }

-- the number of events of what is legal behind a line
pub counted_back : (rules : Bool) (a b : Kept Global) (new : Schedule) (lines : Lines) (text rest : Bytes) (moved : HasMoved rules a b new lines text rest) (prefix : Bool) (events : ℕ)
    → IsLegalFromWith prefix rules b moved.left rest events
    → IsLegalFromWith prefix rules a lines text events
counted_back rules a b new lines text rest moved prefix events is = record {
  legal = moved.back prefix is.legal;
  count = ap (λ (k : Kept Global). length k.history) (moved.one prefix is.legal) ∙ is.count;
}
