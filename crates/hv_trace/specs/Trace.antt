-- The objects of a trace, in JSON.
use Rattle.std.specs.Prelude.{ℕ, ◌≡◌, ◌++◌, List, Option, None, Some, codes, decimal}
use Rattle.std.specs.declared.alloc.Global.{Global}
use Rattle.hex.specs.Hex.{encode_lower}
use Rattle.hv_abi.specs.CallRow.{kind_of}
use Rattle.hv_abi.specs.InputValue.{input_value}
use Rattle.hv_abi.specs.Status.{status_name}
use Rattle.hv_abi.specs.declared.call_kind.CallKind.{CallKind}
use Rattle.hv_abi.specs.declared.status.Status.{Status}
use Rattle.hv_abi.specs.declared.status.Status.TheVariants.{Success}
use Rattle.hv_admit.specs.declared.effect.Effect.{Effect}
use Rattle.hv_explain.specs.Written.{Telling}
use Rattle.hv_history.specs.declared.entry.Entry.{Entry}
use Rattle.hv_policy.specs.Result.{completed_reps}
use Rattle.hv_policy.specs.Rule.{rule_name}
use Rattle.hv_policy.specs.declared.event.Action.{Action}
use Rattle.hv_policy.specs.declared.event.Action.TheVariants as action
use Rattle.hv_policy.specs.declared.event.Caller.{Caller}
use Rattle.hv_policy.specs.declared.reply.Reply.{Reply}
use Rattle.hv_policy.specs.declared.reply.Reply.TheVariants.{Served, More, Denied, Fault}
use Rattle.hv_policy.specs.declared.rule.Rule.{Rule}
use Rattle.hv_trace.specs.Effect.{effect_text, processor_text}
use Rattle.hv_trace.specs.Members.{AreMembers}
use Rattle.hv_words.specs.Names.{call_name}
use Rattle.hv_words.specs.Words.{IsQuotable}

-- which event it is: its number, its processor, and the line of the script that asks for it
unfoldable pub place_text : ℕ → Caller → ℕ → List ℕ
place_text number by line =
    codes "{\"event\":" ++ decimal number ++ codes ",\"vp\":" ++ processor_text by.part by.vp ++ codes
    ",\"line\":" ++ decimal line

-- the name of a call, or null
abbrev pub name_text : Option CallKind → List ℕ
name_text None = codes "null"
name_text (Some kind) = codes "\"" ++ call_name kind ++ codes "\""

-- a hypercall: the name of the call with its code
unfoldable pub call_text : ℕ → List ℕ
call_text rcx = codes ",\"kind\":\"hypercall\",\"name\":" ++ name_text (kind_of (input_value rcx).call)

-- an access: its name
abbrev pub access_text : List ℕ → List ℕ
access_text name = codes ",\"kind\":\"access\",\"name\":\"" ++ name ++ codes "\""

-- what an event asks for: its kind and its name
abbrev pub asked_text : Action Global → List ℕ
asked_text (action.Hypercall frame) = call_text frame.rcx
asked_text (action.ReadMsr msr) = access_text (codes "ReadMsr")
asked_text (action.WriteMsr msr value) = access_text (codes "WriteMsr")
asked_text (action.ReadSlot sint) = access_text (codes "ReadSlot")
asked_text (action.ClearSlot sint) = access_text (codes "ClearSlot")
asked_text (action.ReadFlags sint) = access_text (codes "ReadFlags")
asked_text (action.ClearFlag sint flag) = access_text (codes "ClearFlag")
asked_text action.TakeInterrupt = access_text (codes "TakeInterrupt")

-- the status of a hypercall
unfoldable pub status_text : Status → List ℕ
status_text status = codes ",\"status\":\"HV_STATUS_" ++ status_name status ++ codes "\""

-- its status and the reps completed
unfoldable pub result_text : Status → ℕ → List ℕ
result_text status reps = status_text status ++ codes ",\"reps\":" ++ decimal reps

-- an access has none
abbrev pub no_result_text : List ℕ
no_result_text = codes ",\"status\":null,\"reps\":null"

-- those of an action that was served
abbrev pub served_text : Action Global → List ℕ
served_text (action.Hypercall frame) = result_text Success (completed_reps frame.rcx)
served_text (action.ReadMsr msr) = no_result_text
served_text (action.WriteMsr msr value) = no_result_text
served_text (action.ReadSlot sint) = no_result_text
served_text (action.ClearSlot sint) = no_result_text
served_text (action.ReadFlags sint) = no_result_text
served_text (action.ClearFlag sint flag) = no_result_text
served_text action.TakeInterrupt = no_result_text

-- the output of an event that no rule refused
unfoldable pub output_text : List ℕ → List ℕ
output_text output = codes ",\"rule\":null,\"reason\":null,\"output\":\"" ++ encode_lower output ++ codes "\""

-- the rule that refused an event, and the reason
unfoldable pub rule_text : Rule → List ℕ → List ℕ
rule_text rule reason =
    (codes ",\"rule\":\"" ++ rule_name rule) ++ (codes "\",\"reason\":\"" ++ reason ++ codes
    "\",\"output\":\"\"")

-- the reply to an action, with the reason if a rule refused it
abbrev pub reply_text : Action Global → Reply → List ℕ → List ℕ
reply_text what (Served output) reason = codes ",\"reply\":\"served\"" ++ served_text what ++ output_text
    output
reply_text what (More next output) reason = codes ",\"reply\":\"more\"" ++ result_text Success next ++
    output_text output
reply_text what (Denied rule status reps) reason = codes ",\"reply\":\"denied\"" ++ result_text status reps ++
    rule_text rule reason
reply_text what (Fault rule) reason = codes ",\"reply\":\"fault\"" ++ no_result_text ++ rule_text rule reason

-- an event with its reply and its effect
unfoldable pub event_text : Action Global → Reply → Effect → List ℕ → List ℕ → List ℕ
event_text what reply effect fields reason =
    asked_text what ++ (codes ",\"fields\":{" ++ fields ++ codes "}") ++ reply_text what reply reason ++
    (codes ",\"effect\":" ++ effect_text effect ++ codes "}\n")

-- the object of an event, in a line
abbrev pub object_text : ℕ → ℕ → Entry Global → Effect → List ℕ → List ℕ → List ℕ
object_text number line e effect fields reason = place_text number e.event.by line ++ event_text e.event.what
    e.reply effect fields reason

-- The text is the object of an event, in a line. It is an object of JSON: besides fixed texts, numbers and
-- hexadecimal digits it has members between the braces of the fields, and words that stand for themselves
-- between the quotation marks of the reason
pub record IsObject (number : ℕ) (e : Entry Global) (effect : Effect) (text : List ℕ) : Type 0 where
  pub line : ℕ
  pub fields : List ℕ
  pub reason : List ℕ
  pub members : AreMembers fields
  pub quotable : IsQuotable reason
  pub is : text ≡ object_text number line e effect fields reason

-- what a trace has of an event
abbrev pub traces : Telling
traces number e effect text = IsObject number e effect text
