-- What is told of a run's events, one after another.
use Rattle.std.specs.Prelude.{ℕ, ◌≡◌, ◌+◌, ◌-◌, List, [], ◌∷◌, ◌++◌, length, codes, decimal, All, Option}
use Rattle.std.specs.Prelude.{IfNone, IfSome, Ok, slice_get}
use Rattle.std.specs.Io.KnownBytes.{Appends}
use Rattle.std.specs.declared.alloc.Global.{Global}
use Rattle.hv_abi.specs.declared.frame.Frame.{Frame}
use Rattle.hv_admit.specs.Effect.{Tells}
use Rattle.hv_admit.specs.declared.effect.Effect.{Effect}
use Rattle.hv_explain.specs.First.{HasRun}
use Rattle.hv_history.specs.Kept.{HasGained, Kept, IsRun}
use Rattle.hv_history.specs.Row.{events_of}
use Rattle.hv_history.specs.Run.{GoesOnAt, IsMore, element, start_of}
use Rattle.hv_history.specs.declared.entry.Entry.{Entry}
use Rattle.hv_phases.specs.Lines.{AreInOrder}
use Rattle.hv_policy.specs.Flat.{Flat}
use Rattle.hv_policy.specs.Step.{run}
use Rattle.hv_policy.specs.declared.config.Config.{Config}
use Rattle.hv_policy.specs.declared.event.Action.{Action}
use Rattle.hv_policy.specs.declared.event.Caller.{Caller}
use Rattle.hv_policy.specs.declared.reply.Reply.{Reply}
use Rattle.hv_script.specs.Script.{Said, script_of}
use Rattle.hv_script.specs.declared.line.Line.{Line}
use Rattle.hv_text.specs.Audit.{caller_text}
use Rattle.hv_threads.specs.Acted.{HasActed}
use Rattle.hv_words.specs.Words.{IsPlain}

-- whether a text may be told of an event with this number, reply and effect
abbrev pub Telling : Type 1
Telling = ℕ → Entry Global → Effect → List ℕ → Type 0

-- the start of an event's line, as the audit has it: its number and its processor
unfoldable pub head_text : ℕ → Caller → List ℕ
head_text number by = decimal number ++ codes " " ++ caller_text by ++ codes " "

-- an explanation is a line: its start, words without a line feed, and a line feed
abbrev pub IsExplanation : ℕ → Caller → List ℕ → Type 0
IsExplanation number by text = (words : List ℕ) × IsPlain words ×
    (text ≡ head_text number by ++ words ++ codes "\n")

abbrev pub explains : Telling
explains number e effect text = IsExplanation number e.event.by text

-- the last of these events, if there is one
abbrev pub last_of : List (Entry Global) → Option (Entry Global)
last_of entries = slice_get entries (length entries - 1)

-- the flat machine after these events from boot
abbrev pub state_after : Config → List (Entry Global) → Flat
state_after config past = (run config (events_of past)).0

-- the writer gets a text of this kind
pub record HasPut (Kind : List ℕ → Type 0) (before after : Option (List ℕ)) : Type 0 where
  pub text : List ℕ
  pub kind : Kind text
  pub wrote : Appends before after text

-- the text is told of the event that follows these, and of the effect of its step
pub record IsTold (tells : Telling) (config : Config) (past : List (Entry Global)) (e : Entry Global)
    (text : List ℕ) : Type 0 where
  pub effect : Effect
  pub step : Tells effect (state_after config past) (state_after config (past ++ e ∷ []))
  pub told : tells (1 + length past) e effect text

-- a text for each of the events that follow these, in order
abbrev pub AreTold : Telling → Config → List (Entry Global) → List (Entry Global) → List ℕ → Type 0
AreTold tells config past [] text = text ≡ []
AreTold tells config past (e ∷ es) text =
    (own : List ℕ) × (rest : List ℕ) × IsTold tells config past e own × (text ≡ own ++ rest) ×
    AreTold tells config (past ++ e ∷ []) es rest

-- the history gains an event with this reply, and the effect is that of its step
pub record HasHappened (by : Caller) (what : Action Global) (reply : Reply) (effect : Effect)
    (old new : Kept Global) : Type 0 where
  pub gained : HasGained (record { by = by; what = what }) reply old new
  pub step : Tells effect (state_after old.config old.history) (state_after new.config new.history)

-- the history gains these entries, and the writer gets a text for each
pub record HasWritten (tells : Telling) (more : List (Entry Global)) (old new : Kept Global)
    (before after : Option (List ℕ)) : Type 0 where
  pub history : new.history ≡ old.history ++ more
  pub config : new.config ≡ old.config
  pub limit : new.limit ≡ old.limit
  pub text : List ℕ
  pub told : AreTold tells old.config old.history more text
  pub wrote : Appends before after text

-- an event with its reply
abbrev pub entry_of : Caller → Action Global → Reply → Entry Global
entry_of by what reply = record { event = record { by = by; what = what }; reply = reply }

-- as `HasWritten`, for one event
abbrev pub HasWrittenOne : Telling → Caller → Action Global → Reply → Kept Global → Kept Global → Option
    (List ℕ) → Option (List ℕ) → Type 0
HasWrittenOne tells by what reply old new before after = HasWritten tells (entry_of by what reply ∷ []) old
    new before after

-- as `HasWritten`, for the element of a call at the frame's start index. `next` is the index of the next
-- element if the call continues
pub record HasWrittenElement (tells : Telling) (by : Caller) (frame : Frame Global) (next : Option ℕ)
    (old new : Kept Global) (before after : Option (List ℕ)) : Type 0 where
  pub reply : Reply
  pub told : HasWritten tells (record { event = element by frame; reply = reply } ∷ []) old new before after
  pub goes : IfSome next (λ n. (n ≡ start_of frame + 1) × GoesOnAt n reply)
  pub ends : IfNone next (IsMore reply → ⊥)

-- as `HasWritten`, for what a processor asks for, to its end or up to `most` events
pub record HasWrittenUpTo (tells : Telling) (by : Caller) (what : Action Global) (most : ℕ)
    (old new : Kept Global) (before after : Option (List ℕ)) : Type 0 where
  pub did : HasActed by what most old new
  pub told : HasWritten tells did.own old new before after

-- as `HasWritten`, for the lines of a script from its boot, one after another, up to this event
pub record HasWrittenLines (tells : Telling) (at : Option ℕ) (lines : List (Line Global))
    (old new : Kept Global) (before after : Option (List ℕ)) : Type 0 where
  pub ran : HasRun at lines old new
  pub told : HasWritten tells new.history old new before after

-- The writer gets a text for each event of a history. The history is a run from the script's boot, with at
-- most as many events as its limit. The events are those that the script's lines ask for, in order, each
-- line's to its end. Each text is told of the event, its number, its reply and its effect.
pub record HasExplained (tells : Telling) (said : Said Global) (before after : Option (List ℕ)) : Type 0 where
  pub kept : Kept Global
  pub run : IsRun kept
  pub config : kept.config ≡ said.config
  pub limit : kept.limit ≡ said.limit
  pub order : AreInOrder 1 said.lines kept.history
  pub text : List ℕ
  pub told : AreTold tells kept.config [] kept.history text
  pub wrote : Appends before after text

-- as `HasExplained`, for the script with this text
pub record HasExplainedText (tells : Telling) (script : List ℕ) (before after : Option (List ℕ)) : Type 0
  where
    pub said : Said Global
    pub is : script_of script ≡ Ok said
    pub told : HasExplained tells said before after
