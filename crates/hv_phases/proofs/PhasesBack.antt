-- What threads did of their works, which comes back.
use Rattle.std.proofs.Common.{◌≡◌, ℕ, ◌<◌, List, ◌++◌, length, get_or, drop, drop_at, refl, sym, ap, ◌∙◌, subst, arith, append-nil, inl}
use Rattle.std.proofs.Common.{inr, ◌⊎◌, None, All, Contains, map}
use Rattle.std.proofs.lemmas.List.{get_or-map, length-map}
use Rattle.hv_policy.specs.declared.event.Caller.{Caller}
use Rattle.hv_phases.specs.PassMap.{AreGoing, AreWithin, Did, HasBack, HasKey, HasPass, HasRunWorks, HasWorkOf, HasWorked, IsAny, IsWithin, RunnerMap}
use Rattle.hv_phases.specs.PassMap.{back_of_done, back_of_work, stop_at, stop_of}
use Rattle.hv_phases.proofs.AskedOfProcessor.{Actions}
use Rattle.hv_phases.proofs.FirstParts.{account_begun}
use Rattle.hv_phases.proofs.ListPlaces.{one_of_map, some_of, there_at}
use Rattle.hv_phases.proofs.RunnerMaps.{Back}
use Rattle.hv_shared.specs.declared.receipts.Receipt.{Receipt}
use Rattle.hv_threads.specs.Perform.{AreWhole}
use Rattle.hv_threads.specs.Phase.{EachDone, IsAccount, IsDone}
use Rattle.hv_threads.specs.declared.phase.Done.{Done}
use Rattle.hv_threads.specs.declared.phase.End.{End}
use Rattle.hv_threads.specs.declared.phase.End.TheVariants.{Finished, Host}
use Rattle.hv_threads.specs.declared.phase.Work.{Work}

-- a thread did all actions, or a first part of them where it was stopped
account_did : (by : Caller) (acts : Actions) (done : ℕ) (end : End) (list : List Receipt) → IsAccount by acts done end list → Did (stop_of end) by acts list
account_did by acts done Finished list a =
    let actions : a.did ≡ acts = sym (append-nil a.did) ∙ ap (λ (l : Actions). a.did ++ l) (sym a.ended.0) ∙ a.in_order in
    let more : a.whole ≡ list = sym (append-nil a.whole) ∙ ap (λ (l : List Receipt). a.whole ++ l) (sym a.ended.1) ∙ sym a.all in
    subst (λ (like : Actions). AreWhole by like list) actions (subst (AreWhole by a.did) more a.are_whole)
account_did by acts done (Host why) list a = account_begun by acts done (Host why) list a

module _ {L : Type 0} (works : List (Work L)) (dones : List (Done L)) (did : EachDone works dones) where
  -- the work of an outcome
  pub some_work : (k : ℕ) → k < length dones → Work L
  some_work k less = some_of works (let c = did.count in omega (arith, less, c))

  abbrev pub work_at : (k : ℕ) → k < length dones → Work L
  work_at k less = get_or works k (some_work k less)

  pub done_at : (k : ℕ) (d : Done L) (less : k < length dones) → IsDone (work_at k less) (get_or dones k d).pass (get_or dones k d).done (get_or dones k d).end
  done_at k d less = did.each k (some_work k less) d (let c = did.count in omega (arith, less, c))

  there : (k : ℕ) (less : k < length dones) → Contains works (work_at k less)
  there k less = there_at works k (some_work k less) (let c = did.count in omega (arith, less, c))

  -- the numbers of what was gained
  pub held_within : (counts : List ℕ) (low high : ℕ) → counts ≡ map (λ w. length w.pass.receipts) works → AreWithin low high counts dones
      → (k : ℕ) (d : Done L) (less : k < length dones)
      → All (IsWithin low high) (done_at k d less).more
  held_within counts low high counted within k d less =
      let w = work_at k less in
      let own = done_at k d less in
      let c = did.count in
      let count : get_or counts k 0 ≡ length w.pass.receipts =
      ap (λ (ns : List ℕ). get_or ns k 0) counted ∙ get_or-map (λ (x : Work L). length x.pass.receipts) works k (some_work k less) 0 (omega (arith, less, c)) in
      let more : drop (get_or counts k 0) (get_or dones k d).pass.receipts ≡ own.more =
      ap (λ (n : ℕ). drop n (get_or dones k d).pass.receipts) count ∙ ap (drop (length w.pass.receipts)) own.gained.receipts
      ∙ drop_at w.pass.receipts own.more (length w.pass.receipts) refl in
      subst (All (IsWithin low high)) more (within k d less)

  pub held_any : (k : ℕ) (d : Done L) (less : k < length dones) → All IsAny (done_at k d less).more
  held_any k d less = λ i r l. tt

  module _ {S : Type 0} where
    module _ (P : Receipt → Type 0) (held : (k : ℕ) (d : Done L) (less : k < length dones) → All P (done_at k d less).more) where
      pub works_run : (old new : RunnerMap L S) → HasBack (map back_of_done dones) old new → HasRunWorks P works old new
      works_run old new back = record {
        from = λ by pass at.
            elim (back.from by pass at) [
              | inl same ↦ inl same
              | inr here ↦
                  let one = one_of_map back_of_done dones (pass, stop_at new by) here.0 in
                  let d = one.0 in
                  let k = one.1.0 in
                  let less = one.1.1 in
                  let is : get_or dones k d ≡ d = one.1.2 in
                  let own = done_at k d less in
                  let worked : HasWorked P (work_at k less) (stop_of (get_or dones k d).end) (get_or dones k d).pass = record {
                    more = own.more;
                    gained = own.gained;
                    did = account_did (work_at k less).pass.caller (work_at k less).actions.items (get_or dones k d).done (get_or dones k d).end own.more
                        own.account;
                    held = held k d less;
                  } in
                  let W = λ (b : Back). HasWorked P (work_at k less) b.1 b.0 in
                  inr (
                    work_at k less,
                    there k less,
                    sym own.gained.caller ∙ ap (λ (x : Done L). x.pass.caller) is ∙ ap (λ (b : Back). b.0.caller) one.2 ∙ here.1,
                    subst W one.2 (subst (λ (x : Done L). W (back_of_done x)) is worked),
                  )
            ];
      }

    -- the map has the places of the passes that come back
    pub dones_keys : (old : RunnerMap L S) → All (λ w. HasKey old w.pass.caller) works → All (λ d. HasKey old d.pass.caller) dones
    dones_keys old keys k d less =
        let c = did.count in
        subst (HasKey old) (sym (done_at k d less).gained.caller) (keys k (some_work k less) (omega (arith, less, c)))

    -- and then these
    pub dones_stayed : (old new : RunnerMap L S) → HasBack (map back_of_done dones) old new → (by : Caller) → HasPass old by ⊎ HasWorkOf works by
        → HasPass new by
    dones_stayed old new back by (inl had) = back.stayed by had
    dones_stayed old new back by (inr of) =
        let c = did.count in
        let k = of.1.0 in
        let less : k < length dones = let l = of.1.1 in omega (arith, l, c) in
        let d : Done L = some_of dones (omega (arith, less)) in
        let b : Back = back_of_done d in
        let has : HasPass new (get_or dones k d).pass.caller =
        subst (λ (x : Back). HasPass new x.0.caller) (get_or-map back_of_done dones k d b less)
        (back.there k b (let many = length-map dones back_of_done in omega (arith, less, many))) in
        let own = did.each k of.0 d of.1.1 in
        subst (HasPass new) (own.gained.caller ∙ ap (λ (w : Work L). w.pass.caller) of.1.2 ∙ of.2) has

    pub dones_going : (old new : RunnerMap L S) → HasBack (map back_of_done dones) old new → All (λ d. d.end ≡ Finished) dones → AreGoing old → AreGoing new
    dones_going old new back finished going by =
        elim (back.stops by) [
          | inl same ↦ same ∙ going by
          | inr here ↦
              let one = one_of_map back_of_done dones (here.0, stop_at new by) here.1 in
              let is : one.0.end ≡ Finished = subst (λ (d : Done L). d.end ≡ Finished) one.1.2 (finished one.1.0 one.0 one.1.1) in
              sym (ap (λ (b : Back). b.1) one.2) ∙ ap stop_of is
        ]

-- works that no thread has begun went back
pub works_stayed : {L S : Type 0} → (works : List (Work L)) (old new : RunnerMap L S) → HasBack (map back_of_work works) old new → (by : Caller)
    → HasPass old by ⊎ HasWorkOf works by → HasPass new by
works_stayed works old new back by (inl had) = back.stayed by had
works_stayed {L} works old new back by (inr of) =
    let k = of.1.0 in
    let less = of.1.1 in
    let b : Back = back_of_work of.0 in
    let has : HasPass new (get_or works k of.0).pass.caller =
    subst (λ (x : Back). HasPass new x.0.caller) (get_or-map back_of_work works k of.0 b less)
    (back.there k b (let many = length-map works back_of_work in omega (arith, less, many))) in
    subst (HasPass new) (ap (λ (w : Work L). w.pass.caller) of.1.2 ∙ of.2) has
