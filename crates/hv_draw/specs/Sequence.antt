-- The text of a sequence chart.
use Rattle.std.specs.Prelude.{ℕ, ◌≡◌, ◌⊎◌, ◌++◌, ◌==◌, ◌&&◌, ◌||◌, List, [], ◌∷◌, codes, decimal, Bool}
use Rattle.std.specs.Prelude.{true, false, Option, None, Some}
use Rattle.std.specs.Borrow.{Bor}
use Rattle.std.specs.Io.KnownBytes.{Appends}
use Rattle.std.specs.Option.{option_map_or}
use Rattle.std.specs.declared.alloc.Global.{Global}
use Rattle.hv_abi.specs.CallRow.{kind_of}
use Rattle.hv_abi.specs.InputValue.{input_value}
use Rattle.hv_abi.specs.declared.call_kind.CallKind.{CallKind}
use Rattle.hv_abi.specs.declared.call_kind.CallKind.TheVariants as call
use Rattle.hv_defs.specs.declared.registers.TheConstants.{EOM}
use Rattle.hv_admit.specs.declared.effect.Effect.{Effect}
use Rattle.hv_admit.specs.declared.effect.Effect.TheVariants as effect
use Rattle.hv_check.specs.Legal.{IsLegalOf}
use Rattle.hv_explain.specs.Followed.{HasFollowedText}
use Rattle.hv_explain.specs.Written.{HasExplainedText, Telling}
use Rattle.hv_history.specs.declared.entry.Entry.{Entry}
use Rattle.hv_policy.specs.Rule.{rule_name}
use Rattle.hv_policy.specs.declared.event.Action.{Action}
use Rattle.hv_policy.specs.declared.event.Action.TheVariants.{Hypercall, ReadMsr, WriteMsr, ReadSlot}
use Rattle.hv_policy.specs.declared.event.Action.TheVariants.{ClearSlot, ReadFlags, ClearFlag, TakeInterrupt}
use Rattle.hv_policy.specs.declared.event.Caller.{Caller}
use Rattle.hv_policy.specs.declared.reply.Reply.{Reply}
use Rattle.hv_policy.specs.declared.reply.Reply.TheVariants.{Served, More, Denied, Fault}
use Rattle.hv_run.specs.Written.{HasPart}
use Rattle.hv_text.specs.Audit.{caller_text}
use Rattle.hv_defs.specs.Registers.{name_of_msr}
use Rattle.hv_words.specs.Words.{IsQuotable}
use Rattle.hv_draw.specs.Choice.{is_chosen}
use Rattle.hv_draw.specs.Head.{IsHead}
use Rattle.hv_draw.specs.Shapes.{shapes_text}
use Rattle.hv_draw.specs.declared.choice.Choice.{Choice}
use Rattle.hv_draw.specs.declared.shapes.Shapes.{Shapes}

-- whether a call of this kind posts a message, signals, or makes or ends a partition, a processor, a port or
-- a connection
abbrev pub is_call_drawn : CallKind → Bool
is_call_drawn call.CreatePartition = true
is_call_drawn call.InitializePartition = true
is_call_drawn call.FinalizePartition = true
is_call_drawn call.DeletePartition = true
is_call_drawn call.CreateVp = true
is_call_drawn call.DeleteVp = true
is_call_drawn call.CreatePort = true
is_call_drawn call.DeletePort = true
is_call_drawn call.ConnectPort = true
is_call_drawn call.DisconnectPort = true
is_call_drawn call.PostMessage = true
is_call_drawn call.SignalEvent = true
is_call_drawn call.GetPartitionProperty = false
is_call_drawn call.SetPartitionProperty = false
is_call_drawn call.GetPartitionId = false
is_call_drawn call.GetNextChildPartition = false
is_call_drawn call.DepositMemory = false
is_call_drawn call.WithdrawMemory = false
is_call_drawn call.GetMemoryBalance = false
is_call_drawn call.GetVpRegisters = false
is_call_drawn call.SetVpRegisters = false

-- whether the model-specific register with this number is EOM
abbrev pub is_eom : ℕ → Bool
is_eom msr = option_map_or (λ name. name == EOM) (name_of_msr msr) false

-- whether an event that asks for this has a row, whatever its effect is: such a call, or an access to a slot
-- or to flags, a taken interrupt, or a write of EOM
abbrev pub asks_row : Action Global → Bool
asks_row (Hypercall frame) = option_map_or is_call_drawn (kind_of (input_value frame.rcx).call) false
asks_row (ReadMsr msr) = false
asks_row (WriteMsr msr value) = is_eom msr
asks_row (ReadSlot sint) = true
asks_row (ClearSlot sint) = true
asks_row (ReadFlags sint) = true
asks_row (ClearFlag sint flag) = true
asks_row TakeInterrupt = true

-- whether the effect is at one processor: a message, an event flag or a vector
abbrev pub is_synic : Effect → Bool
is_synic effect.Nothing = false
is_synic (effect.Synic s) = true
is_synic (effect.Page page owner pooled) = false
is_synic (effect.Pages from to) = false
is_synic (effect.Processor part vp) = false
is_synic (effect.Partition part) = false

-- whether an event has a row
abbrev pub has_row : Action Global → Effect → Bool
has_row what effect = asks_row what || is_synic effect

-- the beginning of a row: the event's number and its processor
unfoldable pub opening_text : ℕ → Caller → List ℕ
opening_text number by = codes "<g id=\"e" ++ decimal number ++ codes "\" data-vp=\"" ++ caller_text by ++
    codes "\" class=\""

-- the class of a row: whether the event was served, or which rule refused it
abbrev pub class_text : Reply → List ℕ
class_text (Served output) = codes "served"
class_text (More next output) = codes "served"
class_text (Denied rule status reps) = codes "refused " ++ rule_name rule
class_text (Fault rule) = codes "refused " ++ rule_name rule

-- a class more if one more message waits
abbrev pub waits_text : Option ℕ → List ℕ
waits_text None = []
waits_text (Some sint) = codes " waits"

-- the processor at which an event changed a message, an event flag or a vector, if there is one
abbrev pub reach_text : Effect → List ℕ
reach_text effect.Nothing = []
reach_text (effect.Synic s) = waits_text s.waiting ++ codes "\" data-at=\"" ++ decimal s.part ++ codes "." ++
    decimal s.vp
reach_text (effect.Page page owner pooled) = []
reach_text (effect.Pages from to) = []
reach_text (effect.Processor part vp) = []
reach_text (effect.Partition part) = []

-- the row of an event, with words about it and its shapes, which have a text
unfoldable pub row_text : ℕ → Caller → Reply → Effect → List ℕ → Shapes → List ℕ → List ℕ
row_text number by reply effect words shapes label =
    opening_text number by ++ class_text reply ++ reach_text effect ++ codes "\"><title>" ++ words ++ codes
    "</title>" ++ shapes_text number shapes label ++ codes "</g>\n"

-- the text is the row of an event, which is one line. Its words and the text of its shapes stand for
-- themselves, so that they don't end the row
pub record IsRow (number : ℕ) (e : Entry Global) (effect : Effect) (text : List ℕ) : Type 0 where
  pub words : List ℕ
  pub shapes : Shapes
  pub label : List ℕ
  pub quotable_words : IsQuotable words
  pub quotable_label : IsQuotable label
  pub is : text ≡ row_text number e.event.by e.reply effect words shapes label

-- whether a chart shows an event: it has a row, and is chosen
abbrev pub is_shown : Choice → ℕ → Caller → Action Global → Effect → Bool
is_shown choice number by what effect = has_row what effect && is_chosen choice number by effect

-- what a chart has of an event: its row, or nothing if it doesn't show it
abbrev pub charts : Choice → Telling
charts choice number e effect text =
    (is_shown choice number e.event.by e.event.what effect ≡ true → IsRow number e effect text) ×
    (is_shown choice number e.event.by e.event.what effect ≡ false → text ≡ [])

-- what a chart says if it has no rows
abbrev pub none_text : List ℕ → List ℕ
none_text [] = codes "<text x=\"20\" y=\"60\">nothing was sent, made or ended</text>\n"
none_text (byte ∷ rows) = []

-- the text is a chart with these rows: a head, the rows and an end
pub record IsChart (rows text : List ℕ) : Type 0 where
  pub head : List ℕ
  pub is_head : IsHead head
  pub is : text ≡ head ++ none_text rows ++ rows ++ codes "</svg>\n"

-- the writer gets a chart with these rows
pub record HasChart (rows : List ℕ) (before after : Option (List ℕ)) : Type 0 where
  pub text : List ℕ
  pub chart : IsChart rows text
  pub wrote : Appends before after text

-- the writer gets a first part of a chart with these rows, or nothing
pub record HasCut (rows : List ℕ) (before after : Option (List ℕ)) : Type 0 where
  pub text : List ℕ
  pub chart : IsChart rows text
  pub wrote : HasPart text before after

abbrev pub HasChartPart : List ℕ → Option (List ℕ) → Option (List ℕ) → Type 0
HasChartPart rows before after = (after ≡ before) ⊎ HasCut rows before after

-- a text is told of the events of the script with this text, or of its audit's events
abbrev pub AreRows : Telling → List ℕ → Option (Bor (List ℕ)) → List ℕ → List ℕ → Type 0
AreRows tells script None before after = HasExplainedText tells script (Some before) (Some after)
AreRows tells script (Some audit) before after =
    HasFollowedText tells script audit.now (Some before) (Some after)

-- the writer gets a chart of the run of the script with this text, or of its audit's events: the row of each
-- event that the chart shows, in order
pub record HasSequence (script : List ℕ) (audit : Option (Bor (List ℕ))) (choice : Choice)
    (before after : Option (List ℕ)) : Type 0 where
  pub rows : List ℕ
  pub told : AreRows (charts choice) script audit [] rows
  pub chart : HasChart rows before after

-- the audit is legal, if there is one
abbrev pub IsTaken : List ℕ → Option (Bor (List ℕ)) → Type 0
IsTaken script None = Unit {0}
IsTaken script (Some audit) = IsLegalOf true true script audit.now

-- as `HasSequence`, for a first part of the chart
pub record HasSequenceCut (script : List ℕ) (audit : Option (Bor (List ℕ))) (choice : Choice)
    (before after : Option (List ℕ)) : Type 0 where
  pub rows : List ℕ
  pub told : AreRows (charts choice) script audit [] rows
  pub chart : HasCut rows before after

-- the writer gets nothing, or a first part of such a chart
abbrev pub HasSequencePart : List ℕ → Option (Bor (List ℕ)) → Choice → Option (List ℕ) → Option (List ℕ)
    → Type 0
HasSequencePart script audit choice before after =
    (after ≡ before) ⊎ HasSequenceCut script audit choice before after
