-- Lines that are run one after another, up to an event.
use Rattle.std.proofs.Common.{◌≡◌, ℕ, ◌+◌, ◌-◌, ◌<◌, ◌≤◌, ◌⊎◌, inl, inr, min, List, [], ◌∷◌, ◌++◌, length, refl, sym, ap, ◌∙◌, subst, arith, append-nil, append_assoc}
use Rattle.std.proofs.Common.{length-append, All, IfSome, Option, None, Some, Global}
use Rattle.std.proofs.lemmas.List.Elements.{All-nil}
use Rattle.hv_history.specs.Kept.{Kept}
use Rattle.hv_history.specs.declared.entry.Entry.{Entry}
use Rattle.hv_phases.proofs.PhasedHistories.{order-push}
use Rattle.hv_phases.specs.Lines.{AreInOrder}
use Rattle.hv_script.specs.declared.line.Line.{Line}
use Rattle.hv_shared.specs.ByCaller.{receipts_by}
use Rattle.hv_threads.specs.Perform.{IsStopped, IsWhole}
use Rattle.hv_threads.proofs.ActOutcomes.{none_stopped}
use Rattle.hv_threads.proofs.OwnReceipts.{IsBy}
use Rattle.hv_threads.specs.Acted.{AreUpTo, HasActed}
use Rattle.hv_explain.specs.First.{AreBegun, AreFirst, HasRun, IsPart}

-- some lines were run, each to its end
pub record HasRunSome (at : Option ℕ) (lines left : List (Line Global)) (entries : List (Entry Global)) : Type 0 where
  pub done : List (Line Global)
  pub split : lines ≡ done ++ left
  pub order : AreInOrder 1 done entries
  pub within : IfSome at (λ n. length entries ≤ n)

-- or the last event has happened
abbrev pub HasReached : Option ℕ → List (Line Global) → List (Entry Global) → Type 0
HasReached at lines entries = AreBegun lines entries × (at ≡ Some (length entries))

-- the lines so far were run
pub record IsRunning (at : Option ℕ) (lines left : List (Line Global)) (old now : Kept Global) : Type 0 where
  pub so_far : HasRunSome at lines left now.history ⊎ HasReached at lines now.history
  pub config : now.config ≡ old.config
  pub limit : now.limit ≡ old.limit

-- the most events that may follow
pub record AreMost (at : Option ℕ) (before most : ℕ) : Type 0 where
  pub none : at ≡ None → most ≡ 4294967295
  pub some : (n : ℕ) → at ≡ Some n → most ≡ min (n - before) 4294967295

none_so_far : (at : Option ℕ) (entries : List (Entry Global)) → entries ≡ [] → IfSome at (λ n. length entries ≤ n)
none_so_far None entries none = tt
none_so_far (Some n) entries none = let e = ap length none in omega arith

pub running_first : (at : Option ℕ) (lines left : List (Line Global)) (old : Kept Global) → left ≡ lines → old.history ≡ [] → IsRunning at lines left old old
running_first at lines left old is none = record {
  so_far = inl (record { done = []; split = sym is; order = none; within = none_so_far at old.history none });
  config = refl;
  limit = refl;
}

reached : (at : Option ℕ) (lines : List (Line Global)) (entries : List (Entry Global)) → HasReached at lines entries → AreFirst at lines entries
reached at lines entries has = subst (λ (a : Option ℕ). AreFirst a lines entries) (sym has.1) (inr (has.0, refl))

-- nothing of the lines that are left
pub none_begun : (n : ℕ) (left : List (Line Global)) → IsPart n left []
none_begun n [] = refl
none_begun n (line ∷ left) = (All-nil (IsBy line.by), none_stopped line.by line.action)

-- no event may follow
module _ (at : Option ℕ) (lines left : List (Line Global)) (old now : Kept Global) (most : ℕ) (room : AreMost at (length now.history) most) where
  stops_here : (at_is : Option ℕ) → at ≡ at_is → most ≡ 0 → HasRunSome at lines left now.history → HasReached at lines now.history
  stops_here None same none some = let m = room.none same in absurd (omega arith)
  stops_here (Some n) same none some =
      let m = room.some n same in
      let le : length now.history ≤ n = subst (λ (a : Option ℕ). IfSome a (λ n. length now.history ≤ n)) same some.within in
      let n_is : n ≡ length now.history = omega arith in (
        record {
          done = some.done;
          left = left;
          own = now.history;
          part = [];
          split = some.split;
          all = sym (append-nil now.history);
          order = some.order;
          next = none_begun (length now.history + 1) left;
        },
        same ∙ ap (λ (k : ℕ). Some k) n_is,
      )

  stops : most ≡ 0 → HasRunSome at lines left now.history ⊎ HasReached at lines now.history → AreFirst at lines now.history
  stops none (inl some) = reached at lines now.history (stops_here at refl none some)
  stops none (inr has) = reached at lines now.history has

  pub running_stops : most ≡ 0 → IsRunning at lines left old now → HasRun at lines old now
  running_stops none running = record { order = stops none running.so_far; config = running.config; limit = running.limit }

-- the next line
module _ (at : Option ℕ) (lines left rest : List (Line Global)) (line : Line Global) (old now : Kept Global) (most : ℕ) (is : left ≡ line ∷ rest)
    (room : AreMost at (length now.history) most) where
  module _ (new : Kept Global) (did : HasActed line.by line.action most now new) where
    count : length new.history ≡ length now.history + length did.own
    count = ap length did.history ∙ length-append now.history did.own

    within_next : (at_is : Option ℕ) → at ≡ at_is → IfSome at_is (λ n. length now.history ≤ n) → IfSome at_is (λ n. length new.history ≤ n)
    within_next None same le = tt
    within_next (Some n) same le = let m = room.some n same in let c = count in let w = did.within in let b : length now.history ≤ n = le in omega arith

    -- it came to its end
    whole_next : HasRunSome at lines left now.history → ((n : ℕ) → IsWhole line.by line.action (receipts_by line.by n did.own)) → HasRunSome at lines rest new.history
    whole_next some whole = record {
      done = some.done ++ line ∷ [];
      split = some.split ∙ ap (λ (l : List (Line Global)). some.done ++ l) is ∙ sym (append_assoc some.done (line ∷ []) rest);
      order = subst (AreInOrder 1 (some.done ++ line ∷ [])) (sym did.history) (order-push 1 some.done now.history line did.own some.order did.by_it (whole (1 + length now.history)));
      within = within_next at refl some.within;
    }

    last_number : (at_is : Option ℕ) → at ≡ at_is → length did.own ≡ most → IfSome at_is (λ n. length now.history ≤ n) → at_is ≡ Some (length new.history)
    last_number None same own le = let m = room.none same in let f = did.few in absurd (omega arith)
    last_number (Some n) same own le =
        let m = room.some n same in
        let f = did.few in
        let c = count in
        let b : length now.history ≤ n = le in
        let n_is : n ≡ length new.history = omega arith in
        ap (λ (k : ℕ). Some k) n_is

    -- it would go on
    part_next : HasRunSome at lines left now.history → length did.own ≡ most → ((n : ℕ) → IsStopped line.by line.action (receipts_by line.by n did.own)) → HasReached at lines new.history
    part_next some own part = (
      record {
        done = some.done;
        left = line ∷ rest;
        own = now.history;
        part = did.own;
        split = some.split ∙ ap (λ (l : List (Line Global)). some.done ++ l) is;
        all = did.history;
        order = some.order;
        next = (did.by_it, part (length now.history + 1));
      },
      last_number at refl own some.within,
    )

    goes_on : HasRunSome at lines left now.history → AreUpTo line.by line.action most did.own → HasRunSome at lines rest new.history ⊎ HasReached at lines new.history
    goes_on some (inl whole) = inl (whole_next some whole)
    goes_on some (inr part) = inr (part_next some part.0 part.1)

    -- after the last event there is no room
    runs : 0 < most → HasRunSome at lines left now.history ⊎ HasReached at lines now.history → HasRunSome at lines rest new.history ⊎ HasReached at lines new.history
    runs more (inl some) = goes_on some did.ended
    runs more (inr has) = let m = room.some (length now.history) has.1 in absurd (omega arith)

    pub running_more : 0 < most → IsRunning at lines left old now → IsRunning at lines rest old new
    running_more more running = record { so_far = runs more running.so_far; config = did.config ∙ running.config; limit = did.limit ∙ running.limit }

all_run : (at at_is : Option ℕ) (lines left : List (Line Global)) (entries : List (Entry Global)) → at ≡ at_is → left ≡ [] → HasRunSome at lines left entries → AreFirst at_is lines entries
all_run at at_is lines left entries same none some =
    let order = subst (λ (ls : List (Line Global)). AreInOrder 1 ls entries) (sym (some.split ∙ ap (λ (l : List (Line Global)). some.done ++ l) none ∙ append-nil some.done)) some.order in
    by_case at_is (subst (λ (a : Option ℕ). IfSome a (λ n. length entries ≤ n)) same some.within) order
  where
    by_case : (a : Option ℕ) → IfSome a (λ n. length entries ≤ n) → AreInOrder 1 lines entries → AreFirst a lines entries
    by_case None le order = order
    by_case (Some n) le order = inl (order, le)

ends_as : (at : Option ℕ) (lines left : List (Line Global)) (entries : List (Entry Global)) → left ≡ [] → HasRunSome at lines left entries ⊎ HasReached at lines entries → AreFirst at lines entries
ends_as at lines left entries none (inl some) = all_run at at lines left entries refl none some
ends_as at lines left entries none (inr has) = reached at lines entries has

pub running_ends : (at : Option ℕ) (lines left : List (Line Global)) (old now : Kept Global) → IsRunning at lines left old now → left ≡ [] → HasRun at lines old now
running_ends at lines left old now running none = record { order = ends_as at lines left now.history none running.so_far; config = running.config; limit = running.limit }
