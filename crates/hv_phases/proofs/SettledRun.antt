-- A settled run of lines.
use Rattle.std.proofs.Common.{◌≡◌, ℕ, ◌<◌, List, [], ◌∷◌, length, get_or, ◌++◌, append-nil, refl, sym, ap, ◌∙◌, subst, arith, Bool, true, false, map, sum, All}
use Rattle.std.proofs.Common.{Contains, Global}
use Rattle.std.proofs.lemmas.Bool.{false≢true}
use Rattle.std.specs.Set.{is_member}
use Rattle.std.proofs.lemmas.List.{length-map, get_or-map}
use Rattle.std.proofs.lemmas.List.Elements.{All-head, All-nil, All-tail}
use Rattle.std.proofs.lemmas.Map.Made.{is_member-Decides}
use Rattle.hv_history.specs.declared.entry.Entry.{Entry}
use Rattle.hv_policy.specs.declared.event.Caller.{Caller}
use Rattle.hv_phases.specs.Begun.{AreBegun, HasBegun, IsFirstPart}
use Rattle.hv_phases.specs.PassMap.{AreCallersOf, HavePart, HaveRun, last_in, lines_in}
use Rattle.hv_phases.specs.Lines.{asked_by}
use Rattle.hv_phases.proofs.AskedOfProcessor.{All-first, All-second, Lines, asked_by_none, decides}
use Rattle.hv_phases.proofs.FirstParts.{begun_by}
use Rattle.hv_phases.proofs.GroupsInOrder.{behind_none}
use Rattle.hv_phases.proofs.PhasedHistories.{Begins, HasPart, IsCutOff, IsGrouped, cut_off, cut_whole, first_part}
use Rattle.hv_script.specs.declared.line.Line.{Line}
use Rattle.hv_shared.proofs.Callers.{receipts_of_pass, no_receipts}
use Rattle.hv_shared.specs.ByCaller.{is_caller, receipts_by}
use Rattle.hv_shared.specs.Merge.{IsMerge, receipts_of, shares_of}
use Rattle.hv_shared.specs.PassValue.{PassValue}
use Rattle.hv_shared.specs.declared.receipts.Receipt.{Receipt}

module _ (serial : Bool) (lines taken rest : Lines) (passes : List PassValue) (history : List (Entry Global)) (ran : HaveRun serial lines taken rest passes)
    (begun : All (HasBegun lines) passes)
    (of : AreCallersOf lines (map (λ pass. pass.caller) passes)) (merge : IsMerge history (receipts_of passes)) where
  abbrev callers : List Caller
  callers = map (λ (p : PassValue). p.caller) passes

  many : length (receipts_of passes) ≡ length callers
  many = length-map passes (λ (p : PassValue). p.receipts) ∙ sym (length-map passes (λ (p : PassValue). p.caller))

  -- of each pass, by its place
  each : (P : Caller → List Receipt → Type 0) → All (λ pass. P pass.caller pass.receipts) passes → (j : ℕ) (d : Caller) → j < length callers
      → P (get_or callers j d) (get_or (receipts_of passes) j [])
  each P all j d h =
      let there : j < length passes = let m = length-map passes (λ (p : PassValue). p.caller) in omega (arith, h, m) in
      let p : PassValue = record { caller = d; receipts = []; share = 0; room = 0 } in
      let by_is = get_or-map (λ (p : PassValue). p.caller) passes j p d there in
      let list_is = get_or-map (λ (p : PassValue). p.receipts) passes j p [] there in
      subst (λ (c : Caller). P c (get_or (receipts_of passes) j [])) (sym by_is) (subst (P (get_or passes j p).caller) (sym list_is) (all j p there))

  own : (j : ℕ) (d : Caller) → j < length callers → All (λ r. r.event.by ≡ get_or callers j d) (get_or (receipts_of passes) j [])
  own j d h = begun_by (get_or callers j d) (asked_by (get_or callers j d) lines) (get_or (receipts_of passes) j [])
      (each (λ (c : Caller) (list : List Receipt). AreBegun c (asked_by c lines) list) begun j d h)

  part_at : (j : ℕ) (d : Caller) → j < length callers → HasPart ran.past (Begins taken) (get_or callers j d) (get_or (receipts_of passes) j [])
  part_at = each (HasPart ran.past (Begins taken)) (λ k p less. let i = ran.each k p less in (i.before, i.own, i.receipts, i.behind, i.begun, i.above))

  named_past : All (λ line. Contains callers line.by) (lines_in ran.past)
  named_past = All-first (λ (l : Line Global). Contains callers l.by) (lines_in ran.past) (taken ++ rest)
      (subst (All (λ (l : Line Global). Contains callers l.by)) (sym ran.order) of.named)

  named_taken : All (λ line. Contains callers line.by) taken
  named_taken =
      All-first (λ (l : Line Global). Contains callers l.by) taken rest
      (All-second (λ (l : Line Global). Contains callers l.by) (lines_in ran.past) (taken ++ rest) (subst (All (λ (l : Line Global). Contains callers l.by))
      (sym ran.order) of.named))

  part : (c : Caller) (t : Bool) → is_member is_caller callers c ≡ t → HasPart ran.past (Begins taken) c (receipts_by c 1 history)
  part c true told =
      let there = (is_member-Decides decides callers c).0 told in
      let k = there.0 in
      let is : get_or callers k c ≡ c = there.2 in
      subst (HasPart ran.past (Begins taken) c) (sym (receipts_of_pass callers (receipts_of passes) history many merge own of.different k c there.1 (sym is)))
      (subst (λ (x : Caller). HasPart ran.past (Begins taken) x (get_or (receipts_of passes) k [])) is (part_at k c there.1))
  part c false told =
      let none : Contains callers c → ⊥ = λ there. false≢true (sym told ∙ (is_member-Decides decides callers c).1 there) in
      subst (HasPart ran.past (Begins taken) c) (sym (no_receipts callers (receipts_of passes) history many merge own c none)) (
        [],
        [],
        refl,
        behind_none c callers ran.past named_past none,
        subst (λ like. AreBegun c like []) (sym (asked_by_none c callers taken named_taken none)) refl,
        All-nil (λ (r : Receipt). last_in ran.past < r.number),
      )

  pub cut : IsCutOff ran.past (Begins taken) history
  cut = cut_off serial ran.past (Begins taken) history ran.rises (λ c. part c (is_member is_caller callers c) refl)

-- all lines were run
pub settled : (serial : Bool) (lines : Lines) (passes : List PassValue) (history : List (Entry Global)) → HaveRun serial lines [] [] passes
    → All (HasBegun lines) passes
    → AreCallersOf lines (map (λ pass. pass.caller) passes) → IsMerge history (receipts_of passes) → IsGrouped serial lines history
settled serial lines passes history ran begun of merge =
    subst (λ (ls : Lines). IsGrouped serial ls history) (sym (append-nil (lines_in ran.past)) ∙ ran.order)
    (cut_whole serial ran.past history ran.rises (cut serial lines [] [] passes history ran begun of merge))

-- or a first part of them
pub settled_part : (serial : Bool) (lines : Lines) (passes : List PassValue) (history : List (Entry Global)) → HavePart serial lines passes
    → All (HasBegun lines) passes
    → AreCallersOf lines (map (λ pass. pass.caller) passes) → IsMerge history (receipts_of passes) → IsFirstPart serial lines history
settled_part serial lines passes history part begun of merge =
    first_part serial part.run.past part.taken part.rest lines history part.phase part.run.rises part.run.order part.one part.ends
    (cut serial lines part.taken part.rest passes history part.run begun of merge)

-- the shares count the receipts
shares_are : (passes : List PassValue) → All (λ pass. pass.share ≡ length pass.receipts) passes → shares_of passes ≡ map (λ pass. length pass.receipts) passes
shares_are [] all = refl
shares_are (p ∷ ps) all =
    let P : PassValue → Type 0 = λ (p : PassValue). p.share ≡ length p.receipts in
    let first : p.share ≡ length p.receipts = All-head P p ps all in
    let rest = shares_are ps (All-tail P p ps all) in
    (λ i. first i ∷ rest i)

pub counted : (passes : List PassValue) → All (λ pass. pass.share ≡ length pass.receipts) passes
    → sum (shares_of passes) ≡ sum (map (λ pass. length pass.receipts) passes)
counted passes all = ap sum (shares_are passes all)
