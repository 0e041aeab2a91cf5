-- Passes that were opened, and those that left the map.
use Rattle.std.proofs.Common.{◌≡◌, ℕ, zero, suc, ◌<◌, ◌≤◌, ◌+◌, List, [], ◌∷◌, ◌++◌, length, length-append, get_or, refl, sym, ap, ◌∙◌, subst, arith, nat_lt}
use Rattle.std.proofs.Common.{Bool, true, false, map, sum, ◌⊎◌, Option, Some, All, Global}
use Rattle.std.proofs.Math.ListN.{get_or-append}
use Rattle.std.proofs.Math.Seq.{get_or-append_seam}
use Rattle.std.proofs.lemmas.Bool.Decides.{nat_tests}
use Rattle.std.proofs.lemmas.List.{get_or-map, get_or_default, length-map}
use Rattle.std.proofs.lemmas.List.Elements.{All-nil}
use Rattle.hv_history.specs.Kept.{Kept}
use Rattle.hv_history.specs.declared.entry.Entry.{Entry}
use Rattle.hv_history.specs.declared.kept.HostRefused.{HostRefused}
use Rattle.hv_policy.specs.declared.config.Config.{Config}
use Rattle.hv_policy.specs.declared.event.Caller.{Caller}
use Rattle.hv_phases.specs.Begun.{AreBegun, HasBegun, IsFirstPart, IsUnsettled}
use Rattle.hv_phases.specs.Lines.{asked_by, callers_in}
use Rattle.hv_phases.specs.PassMap.{Each, HasBegunBy, HasDone, HasRunAll, HasRunPart, HasPass, HasRunTo, HaveLeft, HavePart, HaveRun, HaveStayed, IsPartOf}
use Rattle.hv_phases.specs.PassMap.{IsWithin, RunnerMap, last_in, pass_at}
use Rattle.hv_phases.proofs.AskedOfProcessor.{Lines}
use Rattle.hv_phases.proofs.FirstParts.{nothing_begun}
use Rattle.hv_phases.proofs.GroupsDone.{done_part}
use Rattle.hv_phases.proofs.LinesTaken.{some_phase}
use Rattle.hv_phases.proofs.PhasedHistories.{Begins, IsCutOff, first_part}
use Rattle.hv_phases.proofs.SettledRun.{counted}
use Rattle.hv_script.specs.declared.line.Line.{Line}
use Rattle.hv_shared.specs.ByCaller.{AreDifferent}
use Rattle.hv_shared.specs.Merge.{receipts_of, shares_of}
use Rattle.hv_shared.specs.PassValue.{PassValue}
use Rattle.hv_shared.specs.Settle.{IsFault, IsMadeOf}
use Rattle.hv_shared.specs.Shared.{AreOpened}
use Rattle.hv_shared.specs.declared.fault.SettleFault.{SettleFault}
use Rattle.hv_shared.specs.declared.fault.SettleFault.TheVariants.{Differs}
use Rattle.hv_shared.specs.declared.receipts.Receipt.{Receipt}

-- lists of the same elements
same_lists : {X : Type 0} (xs ys : List X) → length xs ≡ length ys → ((k : ℕ) (d : X) → k < length xs → get_or xs k d ≡ get_or ys k d) → xs ≡ ys
same_lists [] [] many each = refl
same_lists [] (y ∷ ys) many each = absurd (omega (arith, many))
same_lists (x ∷ xs) [] many each = absurd (omega (arith, many))
same_lists (x ∷ xs) (y ∷ ys) many each =
    let first : x ≡ y = each zero x (omega arith) in
    let rest = same_lists xs ys (omega (arith, many)) (λ k d less. each (suc k) d (omega (arith, less))) in
    (λ i. first i ∷ rest i)

module _ {L S : Type 0} (runners : RunnerMap L S) (callers : List Caller) where
  -- the passes of the first of these processors left, and the others are there
  pub record AreLeft (at : ℕ) (passes : List PassValue) (now : RunnerMap L S) : Type 0 where
    pub count : length passes ≡ at
    pub within : at ≤ length callers
    pub each : (k : ℕ) (by : Caller) (pass : PassValue) → k < at → pass_at runners (get_or callers k by) ≡ Some (get_or passes k pass)
    pub rest : (k : ℕ) (by : Caller) → at ≤ k → k < length callers → pass_at now (get_or callers k by) ≡ pass_at runners (get_or callers k by)

  pub none_left : (passes : List PassValue) → passes ≡ [] → AreLeft 0 passes runners
  none_left passes none = record {
    count = ap length none;
    within = omega arith;
    each = λ k by pass less. absurd (omega (arith, less));
    rest = λ k by low
        less. refl;
  }

  -- one more left
  pub one_left : (at : ℕ) (d : Caller) (passes : List PassValue) (pass : PassValue) (now new : RunnerMap L S) → at < length callers → AreDifferent callers
      → AreLeft at passes now
      → Some pass ≡ pass_at now (get_or callers at d) → ((c : Caller) → (c ≡ get_or callers at d → ⊥) → pass_at new c ≡ pass_at now c)
      → AreLeft (at + 1) (passes ++ pass ∷ []) new
  one_left at d passes pass now new there once so_far found others = record {
    count = (let count = so_far.count in let many = length-append passes (pass ∷ []) in omega (arith, count, many));
    within = omega (arith, there);
    each = λ k by p less. place k by p (nat_lt k at) refl less;
    rest = λ k by low less.
        others (get_or callers k by) (λ same. absurd (let one = once k at by less there (same ∙ get_or_default callers at d by there) in omega
        (arith, one, low)))
        ∙ so_far.rest k by (omega (arith, low)) less;
  }
    where
      place : (k : ℕ) (by : Caller) (p : PassValue) (t : Bool) → nat_lt k at ≡ t → k < at + 1
          → pass_at runners (get_or callers k by) ≡ Some (get_or (passes ++ pass ∷ []) k p)
      place k by p true is less =
          let before : k < at = grind (arith, nat_tests) in
          let count = so_far.count in
          so_far.each k by p before ∙ ap Some (sym (get_or-append passes (pass ∷ []) p k (omega (arith, before, count))))
      place k by p false is less =
          let same : k ≡ at = grind (arith, nat_tests) in
          let count = so_far.count in
          let k_is : k ≡ length passes = omega (arith, same, count) in
          ap (λ (n : ℕ). pass_at runners (get_or callers n by)) same
          ∙ ap (pass_at runners) (get_or_default callers at by d there)
          ∙ sym (so_far.rest at d (omega arith) there)
          ∙ sym found
          ∙ ap Some (sym (ap (λ (n : ℕ). get_or (passes ++ pass ∷ []) n p) k_is ∙ get_or-append_seam passes pass [] p))

  -- all of them
  pub all_left : (at : ℕ) (passes : List PassValue) (now : RunnerMap L S) → length callers ≤ at → AreLeft at passes now → HaveLeft runners callers passes
  all_left at passes now low so_far = record {
    count = (let count = so_far.count in let high = so_far.within in omega (arith, count, low, high));
    each = λ k by pass less. so_far.each k by pass (omega (arith, low, less));
  }

module _ {L S : Type 0} (runners : RunnerMap L S) (callers : List Caller) (passes : List PassValue) (left : HaveLeft runners callers passes) where
  -- what holds in the map holds of each pass
  pub left_all : (Q : Option HostRefused → Caller → PassValue → Type 0) (P : PassValue → Type 0)
      → ((stop : Option HostRefused) (by : Caller) (pass : PassValue) → Q stop by pass → P pass)
      → Each Q runners → All P passes
  left_all Q P then each k pass less =
      let count = left.count in
      then _ (get_or callers k pass.caller) (get_or passes k pass) (each (get_or callers k pass.caller) (get_or passes k pass)
      (left.each k pass.caller pass (omega (arith, less, count))))

  -- they are the processors' in order
  pub left_callers : (lines : Lines) → Each (HasBegunBy lines) runners → map (λ pass. pass.caller) passes ≡ callers
  left_callers lines each =
      let count = left.count in
      let many = length-map passes (λ (p : PassValue). p.caller) in
      same_lists (map (λ (p : PassValue). p.caller) passes) callers (omega (arith, count, many)) (λ k d less.
      let p : PassValue = record { caller = d; receipts = []; share = 0; room = 0 } in
      let there : k < length callers = omega (arith, less, many, count) in
      get_or-map (λ (p : PassValue). p.caller) passes k p d (omega (arith, less, many))
      ∙ (each (get_or callers k d) (get_or passes k p) (left.each k d p there)).caller)

  module _ (serial : Bool) (lines taken rest : Lines) (last : ℕ) (run : HasRunTo serial lines taken rest last runners) where
    pub left_run : HaveRun serial lines taken rest passes
    left_run = record {
      past = run.past;
      order = run.order;
      rises = run.rises;
      each = left_all (HasDone (IsWithin (last_in run.past) last) run.past taken) (IsPartOf run.past taken) (done_part run.past taken last) run.each;
    }

  pub left_part : (serial : Bool) (lines : Lines) → HasRunPart serial lines runners → HavePart serial lines passes
  left_part serial lines part = record {
    taken = part.taken;
    rest = part.rest;
    phase = part.phase;
    one = part.one;
    ends = part.ends;
    run = left_run serial lines part.taken part.rest part.last part.run;
  }

  pub left_whole : (serial : Bool) (lines : Lines) → HasRunAll serial lines runners → HaveRun serial lines [] [] passes
  left_whole serial lines all = left_run serial lines [] [] all.0 all.1

module _ (callers : List Caller) (passes : List PassValue) (opened : AreOpened callers passes) (lines : Lines) where
  pub opened_counted : All (λ pass. pass.share ≡ length pass.receipts) passes
  opened_counted k p less = opened.none k p less ∙ sym (ap length (opened.empty k p less))

  pub opened_begun : All (HasBegun lines) passes
  opened_begun k p less =
      let pass = get_or passes k p in
      subst (AreBegun pass.caller (asked_by pass.caller lines)) (sym (opened.empty k p less)) (nothing_begun pass.caller (asked_by pass.caller lines))

  pub opened_part : (serial : Bool) → HavePart serial lines passes
  opened_part serial =
      let phase = some_phase lines in
      record {
        taken = [];
        rest = lines;
        phase = phase.0;
        one = All-nil (λ (l : Line Global). l.phase ≡ phase.0);
        ends = phase.1;
        run = record {
          past = [];
          order = refl;
          rises = tt;
          each = λ k p less. record {
            before = [];
            own = [];
            receipts = opened.empty k p less;
            behind = refl;
            begun = refl;
            above = All-nil (λ (r : Receipt). 0 < r.number);
          };
        };
      }

  -- each is in the map
  pub opened_there : {L S : Type 0} → (old new : RunnerMap L S) → All (λ pass. HasPass old pass.caller) passes → HaveStayed old new → All (HasPass new) callers
  opened_there old new all stayed k d less =
      let p : PassValue = record { caller = d; receipts = []; share = 0; room = 0 } in
      let many = length-map passes (λ (p : PassValue). p.caller) in
      let count = ap length opened.in_order in
      let there : k < length passes = omega (arith, less, many, count) in
      let is : get_or callers k d ≡ (get_or passes k p).caller =
      ap (λ (l : List Caller). get_or l k d) (sym opened.in_order) ∙ get_or-map (λ (p : PassValue). p.caller) passes k p d there in
      subst (HasPass new) (sym is) (stayed (get_or passes k p).caller (all k p there))

-- a run without events
pub none_run : (serial : Bool) (lines : Lines) (history : List (Entry Global)) → history ≡ [] → IsFirstPart serial lines history
none_run serial lines history none =
    let phase = some_phase lines in
    let cut : IsCutOff [] (Begins []) history = record { own = []; rest = []; parts = none; behind = λ c. refl; more = λ c. refl } in
    first_part serial [] [] lines lines history phase.0 tt refl (All-nil (λ (l : Line Global). l.phase ≡ phase.0)) phase.1 cut

-- a run whose settlement failed
pub unsettled_of : (config : Config) (limit : ℕ) (lines : Lines) (passes : List PassValue) (k : Kept Global) (fault : SettleFault)
    → map (λ pass. pass.caller) passes ≡ callers_in [] lines
    → All (HasBegun lines) passes → All (λ pass. pass.share ≡ length pass.receipts) passes → length k.history ≡ sum (shares_of passes)
    → IsFault config limit k (receipts_of passes) fault ⊎ (IsMadeOf config limit k (receipts_of passes) × (fault ≡ Differs))
    → IsUnsettled config limit lines fault k
unsettled_of config limit lines passes k fault callers begun shares count found = record {
  passes = passes;
  callers = callers;
  begun = begun;
  count = count ∙ counted passes shares;
  found = found;
}
