-- A run in the Chrome trace event form, an array in JSON.
use Rattle.std.specs.Prelude.{ℕ, ◌≡◌, List, [], ◌∷◌, ◌++◌, Option, codes, decimal}
use Rattle.std.specs.Io.KnownBytes.{Appends}
use Rattle.std.specs.Option.{option_map_or}
use Rattle.std.specs.declared.alloc.Global.{Global}
use Rattle.hv_abi.specs.Check.{call_of}
use Rattle.hv_explain.specs.Written.{HasExplainedText, Telling}
use Rattle.hv_policy.specs.Rule.{rule_name}
use Rattle.hv_policy.specs.declared.event.Action.{Action}
use Rattle.hv_policy.specs.declared.event.Action.TheVariants.{Hypercall, ReadMsr, WriteMsr, ReadSlot}
use Rattle.hv_policy.specs.declared.event.Action.TheVariants.{ClearSlot, ReadFlags, ClearFlag, TakeInterrupt}
use Rattle.hv_policy.specs.declared.event.Caller.{Caller}
use Rattle.hv_policy.specs.declared.reply.Reply.{Reply}
use Rattle.hv_policy.specs.declared.reply.Reply.TheVariants.{Served, More, Denied, Fault}
use Rattle.hv_trace.specs.declared.perfetto.note.Moment.{Moment}
use Rattle.hv_trace.specs.declared.perfetto.note.Note.{Note}
use Rattle.hv_trace.specs.declared.perfetto.note.Note.TheVariants as note
use Rattle.hv_words.specs.Names.{call_name}
use Rattle.hv_words.specs.Words.{IsQuotable}

-- the name of a call or an access
abbrev pub action_name : Action Global → List ℕ
action_name (Hypercall frame) = option_map_or call_name (call_of frame) (codes "unknown call")
action_name (ReadMsr msr) = codes "ReadMsr"
action_name (WriteMsr msr value) = codes "WriteMsr"
action_name (ReadSlot sint) = codes "ReadSlot"
action_name (ClearSlot sint) = codes "ClearSlot"
action_name (ReadFlags sint) = codes "ReadFlags"
action_name (ClearFlag sint flag) = codes "ClearFlag"
action_name TakeInterrupt = codes "TakeInterrupt"

-- a mark and a number
abbrev pub number_text : List ℕ → ℕ → List ℕ
number_text mark number = mark ++ decimal number

-- the process and the thread of a virtual processor: its partition's id, and its index there
unfoldable pub lane_text : Caller → List ℕ
lane_text by = number_text (codes ",\"pid\":") by.part ++ number_text (codes ",\"tid\":") by.vp

-- the rest of a name and the reply of an event that this rule refused. It has the color of a failure
unfoldable pub refused_text : List ℕ → List ℕ → List ℕ
refused_text kind rule =
    codes " " ++ rule ++ codes "\",\"cname\":\"terrible\",\"args\":{\"reply\":\"" ++ kind ++ codes
    "\",\"rule\":\"" ++ rule

-- the rest of a name, and the reply
abbrev pub answer_text : Reply → List ℕ
answer_text (Served output) = codes "\",\"args\":{\"reply\":\"served"
answer_text (More next output) = codes "\",\"args\":{\"reply\":\"more"
answer_text (Denied rule status reps) = refused_text (codes "denied") (rule_name rule)
answer_text (Fault rule) = refused_text (codes "fault") (rule_name rule)

-- a mark and the time of an event: its number in milliseconds, written in microseconds, as viewers take them
unfoldable pub time_text : List ℕ → ℕ → List ℕ
time_text mark number = number_text mark number ++ codes "000"

-- the start of a slice: the event's time, and its processor
unfoldable pub start_text : ℕ → Caller → List ℕ
start_text number by =
    time_text (codes "{\"ph\":\"X\",\"cat\":\"hvpm\",\"ts\":") number ++ codes ",\"dur\":900" ++ lane_text by

-- the name of an event, and its reply
unfoldable pub title_text : Action Global → Reply → List ℕ
title_text what reply = codes ",\"name\":\"" ++ action_name what ++ answer_text reply

-- words about an event
abbrev pub words_text : List ℕ → List ℕ
words_text words = codes "\",\"text\":\"" ++ words ++ codes "\"}}"

-- the slice of an event
unfoldable pub slice_text : ℕ → Caller → Action Global → Reply → List ℕ → List ℕ
slice_text number by what reply words = start_text number by ++ title_text what reply ++ words_text words

-- the name of a partition's process
unfoldable pub process_text : ℕ → List ℕ
process_text part =
    number_text (codes ",{\"ph\":\"M\",\"name\":\"process_name\",\"pid\":") part ++
    number_text (codes ",\"args\":{\"name\":\"partition ") part ++ codes "\"}}"

-- the name of a processor's thread
unfoldable pub thread_text : Caller → List ℕ
thread_text by =
    codes ",{\"ph\":\"M\",\"name\":\"thread_name\"" ++ lane_text by ++
    number_text (codes ",\"args\":{\"name\":\"vp ") by.vp ++ codes "\"}}"

-- the start of an arrow's end, with the arrow's number
unfoldable pub id_text : List ℕ → ℕ → List ℕ
id_text head id = head ++ number_text (codes ",\"id\":") id

-- an end of an arrow at an event. Viewers look for a slice of its category there
unfoldable pub end_text : List ℕ → ℕ → Moment → List ℕ
end_text head id at =
    id_text head id ++ time_text (codes ",\"ts\":") at.number ++ lane_text at.by ++
    codes ",\"cat\":\"hvpm\",\"name\":\"reaches\"}"

-- the start of a counter of a partition
unfoldable pub counter_text : ℕ → ℕ → List ℕ
counter_text at part =
    time_text (codes ",{\"ph\":\"C\",\"ts\":") at ++ number_text (codes ",\"pid\":") part

-- the pages of a partition after an event
unfoldable pub pages_text : ℕ → ℕ → ℕ → ℕ → List ℕ
pages_text at part loose pooled =
    counter_text at part ++ number_text (codes ",\"name\":\"pages\",\"args\":{\"loose\":") loose ++
    number_text (codes ",\"pooled\":") pooled ++ codes "}}"

-- the messages that wait at a processor after an event
unfoldable pub waiting_text : ℕ → Caller → ℕ → List ℕ
waiting_text at by messages =
    counter_text at by.part ++ number_text (codes ",\"name\":\"messages waiting at vp ") by.vp ++
    number_text (codes "\",\"args\":{\"messages\":") messages ++ codes "}}"

-- what isn't a slice, after a comma
abbrev pub note_text : Note → List ℕ
note_text (note.Process part) = process_text part
note_text (note.Thread by) = thread_text by
note_text (note.Arrow id from to) =
    end_text (codes ",{\"ph\":\"s\"") id from ++ end_text (codes ",{\"ph\":\"f\",\"bp\":\"e\"") id to
note_text (note.Pages at part loose pooled) = pages_text at part loose pooled
note_text (note.Waiting at by messages) = waiting_text at by messages

abbrev pub notes_text : List Note → List ℕ
notes_text [] = []
notes_text (n ∷ ns) = note_text n ++ notes_text ns

-- the line of an event: its slice, and notes
unfoldable pub line_text : ℕ → Caller → Action Global → Reply → List ℕ → List Note → List ℕ
line_text number by what reply words notes =
    codes "," ++ slice_text number by what reply words ++ notes_text notes ++ codes "\n"

-- What a chart has of an event: a line with one slice. The words stand for themselves, so that they don't
-- end the slice
abbrev pub charts : Telling
charts number e effect text = (words : List ℕ) × (notes : List Note) × IsQuotable words ×
    (text ≡ line_text number e.event.by e.event.what e.reply words notes)

-- the start of the array, with the name of the root's process
abbrev pub opening_text : List ℕ
opening_text = codes
    "[{\"ph\":\"M\",\"name\":\"process_name\",\"pid\":1,\"args\":{\"name\":\"partition 1\"}}\n"

abbrev pub closing_text : List ℕ
closing_text = codes "]\n"

-- The writer gets an array: an opening line, a line for each event of the script's run, in order, and a
-- closing line
pub record HasCharted (script : List ℕ) (before after : Option (List ℕ)) : Type 0 where
  pub opened : Option (List ℕ)
  pub told : Option (List ℕ)
  pub opens : Appends before opened opening_text
  pub events : HasExplainedText charts script opened told
  pub closes : Appends told after closing_text
