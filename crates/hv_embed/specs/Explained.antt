-- Explanations: an event and its reply in words.
use Rattle.std.specs.Prelude.{◌≡◌, ◌≤◌, ◌==◌, ◌&&◌, ◌||◌, ℕ, Bool, true, false, nat_lt, nat_le, List, length}
use Rattle.hv_words.specs.Words.{IsQuotable}
use Rattle.hv_embed.specs.Texts.{IsPut}
use Rattle.hv_embed.specs.declared.explain.TheConstants.{EXPLANATION}
use Rattle.hv_embed.specs.declared.handle.HvMachine.{HvMachine}
use Rattle.hv_embed.specs.declared.layout.HvReply.{HvReply}
use Rattle.hv_embed.specs.declared.layout.TheConstants.{SERVED, MORE, DENIED, FAULT}
use Rattle.hv_embed.specs.declared.status.TheConstants.{EMPTY, NONE}

-- a rule has this number
abbrev pub is_rule : ℕ → Bool
is_rule number = nat_lt 0 number && nat_le number 27

-- whether a machine may give this reply to a hypercall, or to an access
abbrev pub is_call_reply : HvReply → Bool
is_call_reply a = (a.kind == SERVED) || (a.kind == MORE) || ((a.kind == DENIED) && is_rule a.rule)

abbrev pub is_access_reply : HvReply → Bool
is_access_reply a = (a.kind == SERVED) || ((a.kind == FAULT) && is_rule a.rule)

-- a text of at most `EXPLANATION` bytes, which ends no line and no quote, is written
pub record IsTold (status : ℕ) (old new : List ℕ) (old_len new_len : ℕ) : Type 0 where
  pub text : List ℕ
  pub few : length text ≤ EXPLANATION
  pub quotable : IsQuotable text
  pub put : IsPut text status old new old_len new_len

-- an event is explained if the handle has a machine, and if there is such an event and such a reply
pub record IsExplained (m : HvMachine) (is_there : Bool) (status : ℕ) (old new : List ℕ)
    (old_len new_len : ℕ) : Type 0 where
  pub empty : m.live ≡ false → status ≡ EMPTY
  pub none : m.live ≡ true → is_there ≡ false → status ≡ NONE
  pub told : m.live ≡ true → is_there ≡ true → IsTold status old new old_len new_len
