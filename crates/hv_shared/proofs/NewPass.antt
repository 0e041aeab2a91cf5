-- One pass more is made.
use Rattle.std.proofs.Common.{◌≡◌, ℕ, ◌+◌, ◌<◌, List, [], ◌∷◌, ◌++◌, length, take, get_or, sym, ap, ◌∙◌}
use Rattle.std.proofs.lemmas.List.{map-append, take_more}
use Rattle.std.proofs.lemmas.List.Elements.{All-push}
use Rattle.hv_policy.specs.declared.event.Caller.{Caller}
use Rattle.hv_shared.specs.PassValue.{PassValue}
use Rattle.hv_shared.specs.Shared.{AreOpened}

pub opened_more : (callers : List Caller) (i : ℕ) (c : Caller) (passes : List PassValue) (p : PassValue) → i < length callers → c ≡ get_or callers i c → AreOpened (take i callers) passes
    → p.caller ≡ c → p.receipts ≡ [] → p.share ≡ 0 → AreOpened (take (i + 1) callers) (passes ++ p ∷ [])
opened_more callers i c passes p h is opened by receipts share =
    record {
      in_order =
          map-append (λ (x : PassValue). x.caller) passes (p ∷ []) ∙ ap (λ (cs : List Caller). cs ++ p.caller ∷ []) opened.in_order
          ∙ ap (λ (x : Caller). take i callers ++ x ∷ []) (by ∙ is) ∙ sym (take_more callers i c h);
      empty = All-push (λ (x : PassValue). x.receipts ≡ []) passes p opened.empty receipts;
      none = All-push (λ (x : PassValue). x.share ≡ 0) passes p opened.none share;
    }
