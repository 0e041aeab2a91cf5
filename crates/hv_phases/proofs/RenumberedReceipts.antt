-- Receipts of the same entries under other numbers.
use Rattle.std.proofs.Common.{◌≡◌, ℕ, ◌+◌, ◌-◌, ◌≤◌, List, [], ◌∷◌, refl, ap, ◌∙◌, subst, arith, Bool, true, false, map, if◌then◌else◌, Global}
use Rattle.std.proofs.lemmas.List.{map-append}
use Rattle.hv_abi.specs.declared.frame.Frame.{Frame}
use Rattle.hv_history.specs.Run.{AreElements as AreAsked}
use Rattle.hv_history.specs.declared.entry.Entry.{Entry}
use Rattle.hv_policy.specs.declared.event.Action.{Action}
use Rattle.hv_policy.specs.declared.event.Caller.{Caller}
use Rattle.hv_phases.proofs.AskedOfProcessor.{by_kind}
use Rattle.hv_shared.specs.ByCaller.{is_caller, receipts_by}
use Rattle.hv_shared.specs.Drive.{entry_in}
use Rattle.hv_shared.specs.Pass.{receipt}
use Rattle.hv_shared.specs.declared.receipts.Receipt.{Receipt}
use Rattle.hv_threads.specs.Perform.{AreWhole, IsAccess, IsCall}

module _ (n m : ℕ) where
  -- the receipt with its number counted from m in place of n
  abbrev moved : Receipt → Receipt
  moved r = receipt ((r.number - n) + m) r.event r.reply

  same_entries : (rs : List Receipt) → map entry_in rs ≡ map entry_in (map moved rs)
  same_entries [] = refl
  same_entries (r ∷ rs) = ap (λ (es : List (Entry Global)). entry_in r ∷ es) (same_entries rs)

  access_moved : (by : Caller) (what : Action Global) (rs : List Receipt) → IsAccess by what rs → IsAccess by what (map moved rs)
  access_moved by what rs access = record { number = (access.number - n) + m; reply = access.reply; all = ap (map moved) access.all }

  call_moved : (by : Caller) (frame : Frame Global) (rs : List Receipt) → IsCall by frame rs → IsCall by frame (map moved rs)
  call_moved by frame rs call =
      let w = call.whole in
      record {
        last = call.last;
        reply = call.reply;
        whole = record {
          before = map moved w.before;
          number = (w.number - n) + m;
          elements = subst (λ (es : List (Entry Global)). AreAsked by frame es call.last) (same_entries w.before) w.elements;
          all = ap (map moved) w.all ∙ map-append moved w.before _;
          ends = w.ends;
        };
      }

  whole_moved : (by : Caller) (actions : List (Action Global)) (rs : List Receipt) → AreWhole by actions rs → AreWhole by actions (map moved rs)
  whole_moved by [] rs none = ap (map moved) none
  whole_moved by (what ∷ actions) rs some = (
    map moved some.0,
    map moved some.1,
    ap (map moved) some.2 ∙ map-append moved some.0 some.1,
    by_kind (λ (W : List Receipt → Type 0). (list : List Receipt) → W list → W (map moved list)) by (call_moved by) (access_moved by) what some.0 some.3,
    whole_moved by actions some.1 some.4,
  )

  moved_if : (b : Bool) (i j : ℕ) (e : Entry Global) (xs ys : List Receipt) → (i - n) + m ≡ j → map moved xs ≡ ys
      → map moved (if b then receipt i e.event e.reply ∷ xs else xs) ≡ (if b then receipt j e.event e.reply ∷ ys else ys)
  moved_if true i j e xs ys first rest = λ k. receipt (first k) e.event e.reply ∷ rest k
  moved_if false i j e xs ys first rest = rest

  receipts_moved : (by : Caller) (i j : ℕ) (es : List (Entry Global)) → n ≤ i → i + m ≡ j + n → map moved (receipts_by by i es) ≡ receipts_by by j es
  receipts_moved by i j [] low same = refl
  receipts_moved by i j (e ∷ es) low same =
      moved_if (is_caller by e.event.by) i j e (receipts_by by (i + 1) es) (receipts_by by (j + 1) es) (omega (arith, low, same))
      (receipts_moved by (i + 1) (j + 1) es (omega (arith, low)) (omega (arith, same)))

  -- what a caller did is whole whatever the first number is
  pub whole_at : (by : Caller) (actions : List (Action Global)) (es : List (Entry Global)) → AreWhole by actions (receipts_by by n es) → AreWhole by actions (receipts_by by m es)
  whole_at by actions es whole = subst (AreWhole by actions) (receipts_moved by n m es (omega arith) (omega arith)) (whole_moved by actions (receipts_by by n es) whole)
