-- Two histories side by side.
use Rattle.std.specs.Prelude.{◌≡◌, ℕ, if◌then◌else◌, Bool, List, [], ◌∷◌, ◌++◌}
use Rattle.hv_security.specs.Alike.{AreLowEquivalent}
use Rattle.hv_security.specs.Turns.{AreMatched, Turn, events_here, events_there}
use Rattle.hv_policy.specs.Step.{run}
use Rattle.hv_policy.specs.declared.reply.Reply.{Reply}
use Rattle.hv_history.specs.Kept.{Kept}
use Rattle.hv_history.specs.Row.{events_of}
use Rattle.hv_history.specs.declared.entry.Entry.{Entry}

-- the replies to the events of members
abbrev pub replies_to : {A : Type 0} → (ℕ → Bool) → List (Entry A) → List Reply
replies_to members [] = []
replies_to members (entry ∷ entries) =
    if members entry.event.by.part then entry.reply ∷ replies_to members entries else replies_to members
    entries

-- Two histories run side by side for members, each from some entry on. The states before that are alike for
-- them. Then, turn by turn, members act alike and are acted on alike, and their events see alike what they
-- look at outside.
pub record AreSideBySide {A : Type 0} (members : ℕ → Bool) (here there : Kept A) : Type 0 where
  pub before : List (Entry A)
  pub after : List (Entry A)
  pub before_there : List (Entry A)
  pub after_there : List (Entry A)
  pub turns : List (Turn A)
  pub is : here.history ≡ before ++ after
  pub is_there : there.history ≡ before_there ++ after_there
  pub events : events_of after ≡ events_here turns
  pub events_too : events_of after_there ≡ events_there turns
  pub alike : AreLowEquivalent members (run here.config (events_of before)).0
      (run there.config (events_of before_there)).0
  pub matched : AreMatched members turns (run here.config (events_of before)).0
      (run there.config (events_of before_there)).0
