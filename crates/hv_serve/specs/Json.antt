-- The answer to a line in JSON.
use Rattle.std.specs.Prelude.{ℕ, ◌≡◌, ◌≢◌, ◌==◌, ◌+◌, ◌-◌, ◌++◌, List, [], ◌∷◌, length, map, take, All, codes}
use Rattle.std.specs.Prelude.{if◌then◌else◌, decimal}
use Rattle.std.specs.Prelude.{Option, None, Some}
use Rattle.hv_history.specs.declared.entry.Entry.{Entry}
use Rattle.hv_text.specs.Audit.{entry_text}
use Rattle.hv_serve.specs.Outcome.{why_text}
use Rattle.hv_serve.specs.declared.help.TheConstants.{HELP}
use Rattle.hv_serve.specs.declared.outcome.Outcome.{Outcome}
use Rattle.hv_serve.specs.declared.outcome.Outcome.TheVariants.{Done, Table, Peek, Explain, Help, Fault}
use Rattle.hv_serve.specs.declared.outcome.Outcome.TheVariants.{Named, Boot, Host}

-- a byte in a string: a line feed, a quotation mark and a backslash are escaped
abbrev pub escaped : ℕ → List ℕ
escaped byte =
    if byte == 10 then codes "\\n"
    else (if byte == 34 then codes "\\\"" else (if byte == 92 then codes "\\\\" else byte ∷ []))

abbrev pub all_escaped : List ℕ → List ℕ
all_escaped [] = []
all_escaped (byte ∷ text) = escaped byte ++ all_escaped text

-- a text as a string
abbrev pub string_of : List ℕ → List ℕ
string_of text = codes "\"" ++ all_escaped text ++ codes "\""

-- the audit's lines of entries, numbered from this number on, as strings: each after a comma
abbrev pub more_events : {A : Type 0} → ℕ → List (Entry A) → List ℕ
more_events number [] = []
more_events number (entry ∷ entries) =
    codes "," ++ string_of (entry_text number entry) ++ more_events (number + 1) entries

-- and with a comma between each two
abbrev pub events_value : {A : Type 0} → ℕ → List (Entry A) → List ℕ
events_value number [] = []
events_value number (entry ∷ entries) =
    string_of (entry_text number entry) ++ more_events (number + 1) entries

-- a text as a string, or null if there is none
abbrev pub text_value : Option (List ℕ) → List ℕ
text_value None = codes "null"
text_value (Some text) = string_of text

-- why the line wasn't done, or null
abbrev pub fault_value : Outcome → Option (List ℕ) → List ℕ
fault_value Done shown = codes "null"
fault_value Table shown = codes "null"
fault_value (Peek peek) shown = codes "null"
fault_value Explain shown = codes "null"
fault_value Help shown = codes "null"
fault_value (Fault kind) shown = string_of (why_text (Fault kind))
fault_value (Named fault) shown = text_value shown
fault_value (Boot why) shown = string_of (why_text (Boot why))
fault_value (Host why) shown = string_of (why_text (Host why))

-- the member for what the line asks for, if it asks for something
abbrev pub shown_member : Outcome → Option (List ℕ) → List ℕ
shown_member Done shown = []
shown_member Table shown = codes ",\"table\":" ++ text_value shown
shown_member (Peek peek) shown = codes ",\"peek\":" ++ text_value shown
shown_member Explain shown = codes ",\"explain\":" ++ text_value shown
shown_member Help shown = codes ",\"help\":" ++ string_of HELP.now
shown_member (Fault kind) shown = []
shown_member (Named fault) shown = []
shown_member (Boot why) shown = []
shown_member (Host why) shown = []

-- a byte of the objects of events, each in a line. A comma takes the place of the line feed between two
abbrev pub separated : ℕ → ℕ
separated byte = if byte == 10 then 44 else byte

-- objects, each in a line, as the elements of an array
abbrev pub elements : List ℕ → List ℕ
elements objects = map separated (take (length objects - 1) objects)

-- The object that answers the line with this number, with its events, its outcome and what it shows. The
-- events come twice: as lines of the audit, and as the objects that a trace has of them
unfoldable pub object_text : ℕ → List ℕ → List ℕ → Outcome → Option (List ℕ) → List ℕ
object_text number events objects outcome shown =
    codes "{\"line\":" ++ decimal number ++ codes ",\"events\":[" ++ events
    ++ (codes "],\"trace\":[" ++ elements objects) ++ codes "],\"fault\":"
    ++ fault_value outcome shown ++ shown_member outcome shown ++ codes "}\n"

-- the line before all answers
abbrev pub greeting_text : List ℕ
greeting_text = codes "{\"program\":\"hvpm\",\"version\":\"0.1.0\"}\n"

-- the number of events, after all answers
unfoldable pub end_object : ℕ → List ℕ
end_object count = codes "{\"end\":true,\"events\":" ++ decimal count ++ codes "}\n"

-- the text is one line
pub record IsOneLine (text : List ℕ) : Type 0 where
  pub line : List ℕ
  pub is : text ≡ line ++ codes "\n"
  pub one : All (λ byte. byte ≢ 10) line
