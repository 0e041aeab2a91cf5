-- A machine with its history, and the invariant that the history is a run.
use Rattle.std.specs.Prelude.{ℕ, ◌≡◌, ◌≤◌, List, [], ◌∷◌, ◌++◌, length, None}
use Rattle.hv_abi.specs.declared.frame.Frame.{Frame}
use Rattle.hv_policy.specs.BootFault.{boot_fault}
use Rattle.hv_policy.specs.Next.{GoesOn}
use Rattle.hv_policy.specs.Result.{HasResult}
use Rattle.hv_policy.specs.Step.{NamesAsked, run}
use Rattle.hv_policy.specs.declared.config.Config.{Config}
use Rattle.hv_policy.specs.declared.event.Action.TheVariants.{Hypercall}
use Rattle.hv_policy.specs.declared.event.Event.{Event}
use Rattle.hv_policy.specs.declared.reply.Reply.{Reply}
use Rattle.hv_machine.specs.IsFlat.{IsFlat}
use Rattle.hv_machine.specs.Sound.{IsSound}
use Rattle.hv_machine.specs.State.{State}
use Rattle.hv_history.specs.Justified.{IsJustified, operations_in, states_in}
use Rattle.hv_history.specs.Row.{events_of, replies_of}
use Rattle.hv_history.specs.declared.entry.Entry.{Entry}

-- the configuration at boot, the most events there may be, the events with their replies, and the machine
pub record Kept (A : Type 0) : Type 0 where
  pub config : Config
  pub limit : ℕ
  pub history : List (Entry A)
  pub machine : State

-- Invariant: the history is a run of the flat machine from a configuration that boots. The machine stands for
-- the state in which the run ends, each reply is the run's, and there are at most as many events as the
-- limit. Each page of the configuration is in one page set of one partition, and no other page is in any. A
-- partition uses no more than its pool, and has no privilege that its parent lacks. The history accounts for
-- each port, connection, message and event flag.
pub record IsRun {A : Type 0} (k : Kept A) : Type 0 where
  pub machine : IsFlat k.machine (run k.config (events_of k.history)).0
  pub replies : replies_of k.history ≡ (run k.config (events_of k.history)).1
  pub within : length k.history ≤ k.limit
  pub boots : boot_fault k.config ≡ None
  pub pages : k.machine.pages ≡ k.config.pages
  pub sound : IsSound k.machine
  pub justified : IsJustified (states_in k.config k.history) (operations_in k.history) k.machine.rows

-- the history has gained one event at its end, with its reply; configuration and limit are unchanged
pub record HasGained {A : Type 0} (event : Event A) (reply : Reply) (old new : Kept A) : Type 0 where
  pub history : new.history ≡ old.history ++ record { event = event; reply = reply } ∷ []
  pub config : new.config ≡ old.config
  pub limit : new.limit ≡ old.limit

-- The history has gained one event at its end, with this reply. A reply that names a rule names one that
-- applies, a reply to a hypercall has a result value, and a call continues with the element after the one
-- that was served.
pub record IsTaken {A : Type 0} (event : Event A) (reply : Reply) (old new : Kept A) : Type 0 where
  pub gained : HasGained event reply old new
  pub asked : NamesAsked event reply
  pub result : (frame : Frame A) → event.what ≡ Hypercall frame → HasResult reply
  pub next : GoesOn event.what reply
