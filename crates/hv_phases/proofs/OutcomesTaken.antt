-- Outcomes of threads that are taken back one by one, from the last to the first.
use Rattle.std.proofs.Common.{◌≡◌, ℕ, ◌≤◌, ◌<◌, ◌+◌, Bool, true, false, List, [], ◌∷◌, ◌++◌, length, length-append, get_or, drop, append_assoc, refl, sym, ap}
use Rattle.std.proofs.Common.{◌∙◌, subst, arith, nat_lt, All, Option, Some, is_some, map}
use Rattle.std.proofs.Math.Seq.{get_or-append_seam}
use Rattle.std.proofs.lemmas.Bool.{false≢true}
use Rattle.std.proofs.lemmas.Bool.Decides.{nat_tests}
use Rattle.std.proofs.lemmas.List.Elements.{All-cons, All-weaker}
use Rattle.hv_history.specs.declared.kept.HostRefused.{HostRefused}
use Rattle.hv_policy.specs.declared.event.Caller.{Caller}
use Rattle.hv_phases.specs.PassMap.{HasBack, HasKey, IsSame, IsWithin, RunnerMap, back_of_done, pass_at, stop_at, stop_of}
use Rattle.hv_phases.proofs.RunnerMaps.{back_more}
use Rattle.hv_shared.specs.declared.receipts.Receipt.{Receipt}
use Rattle.hv_threads.specs.declared.phase.Done.{Done}
use Rattle.hv_threads.specs.declared.phase.End.{End}
use Rattle.hv_threads.specs.declared.phase.End.TheVariants.{Finished, Host}

-- a thread that the host didn't stop finished
pub is_finished : (end : End) (stop : Option HostRefused) → stop ≡ stop_of end → is_some stop ≡ false → end ≡ Finished
is_finished Finished stop is none = refl
is_finished (Host why) stop is none = absurd (false≢true (sym none ∙ ap is_some is))

module _ {L : Type 0} (all left rest back : List (Done L)) (done : Done L) (is : left ≡ rest ++ done ∷ []) (order : left ++ back ≡ all) where
  -- those that are left, and those that were taken
  pub still_all : rest ++ done ∷ back ≡ all
  still_all = sym (append_assoc rest (done ∷ []) back) ∙ ap (λ (l : List (Done L)). l ++ back) (sym is) ∙ order

  pub one_fewer : length left ≡ length rest + 1
  one_fewer = ap length is ∙ length-append rest (done ∷ [])

  -- the new numbers of those that were taken
  pub within_more : (counts : List ℕ) (last now high from : ℕ) (list : List Receipt) → now ≤ high → All (IsWithin last high) (drop from list)
      → list ≡ done.pass.receipts
      → from ≡ get_or counts (length rest) 0
      → ((k : ℕ) (d : Done L) → length left ≤ k → k < length all → All (IsWithin last now) (drop (get_or counts k 0) (get_or all k d).pass.receipts))
      → (k : ℕ) (d : Done L)
      → length rest ≤ k → k < length all → All (IsWithin last high) (drop (get_or counts k 0) (get_or all k d).pass.receipts)
  within_more counts last now high from list up here same count so_far k d low less = place (nat_lt (length rest) k) refl
    where
      place : (t : Bool) → nat_lt (length rest) k ≡ t → All (IsWithin last high) (drop (get_or counts k 0) (get_or all k d).pass.receipts)
      place true told =
          let many = one_fewer in
          let above : length rest < k = grind (arith, nat_tests) in
          All-weaker (IsWithin last now) (IsWithin last high) (λ r w. (w.0, omega (arith, w.1, up))) (drop (get_or counts k 0) (get_or all k d).pass.receipts)
          (so_far k d (omega (arith, many, above)) less)
      place false told =
          let k_is : k ≡ length rest = grind (arith, nat_tests) in
          let done_is : get_or all k d ≡ done =
          ap (λ (n : ℕ). get_or all n d) k_is ∙ ap (λ (l : List (Done L)). get_or l (length rest) d) (sym still_all) ∙ get_or-append_seam rest done back d in
          let dropped : drop from list ≡ drop (get_or counts k 0) (get_or all k d).pass.receipts =
          ap (λ (n : ℕ). drop n list) (count ∙ ap (λ (n : ℕ). get_or counts n 0) (sym k_is))
          ∙ ap (drop (get_or counts k 0)) (same ∙ ap (λ (x : Done L). x.pass.receipts) (sym done_is)) in
          subst (All (IsWithin last high)) dropped here

  -- their passes are back in the map
  pub taken_more : {S : Type 0} → (old mid new : RunnerMap L S) (stop : Option HostRefused) → stop ≡ stop_of done.end → HasBack (map back_of_done back) old mid
      → (pass_at new done.pass.caller ≡ Some done.pass) × (stop_at new done.pass.caller ≡ stop) → ((c : Caller) → (c ≡ done.pass.caller → ⊥) → IsSame mid new c)
      → ((c : Caller) → HasKey mid c → HasKey new c) → HasBack (map back_of_done (done ∷ back)) old new
  taken_more old mid new stop is_stop so_far own others keys =
      back_more (back_of_done done) (map back_of_done back) old mid new so_far (own.0, own.1 ∙ is_stop) others keys

  -- and finished
  pub finished_more : (stop : Option HostRefused) → stop ≡ stop_of done.end → is_some stop ≡ false → All (λ d. d.end ≡ Finished) back
      → All (λ d. d.end ≡ Finished) (done ∷ back)
  finished_more stop is_stop none so_far = All-cons (λ (d : Done L). d.end ≡ Finished) done back (is_finished done.end stop is_stop none) so_far
