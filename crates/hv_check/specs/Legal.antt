-- When an audit is a legal run of a script.
use Rattle.std.specs.Prelude.{ℕ, ◌≡◌, ◌≢◌, ◌⊎◌, ◌+◌, Bool, true, false, List, [], ◌∷◌, ◌++◌, All}
use Rattle.std.specs.Prelude.{codes, decimal, length, Ok}
use Rattle.std.specs.declared.alloc.Global.{Global}
use Rattle.hv_history.specs.Kept.{Kept, IsRun}
use Rattle.hv_history.specs.declared.entry.Entry.{Entry}
use Rattle.hv_phases.specs.Lines.{ArePhased, AreRun}
use Rattle.hv_policy.specs.declared.event.Action.{Action}
use Rattle.hv_policy.specs.declared.reply.Reply.{Reply}
use Rattle.hv_policy.specs.declared.reply.Reply.TheVariants.{Served, More, Denied, Fault}
use Rattle.hv_script.specs.Script.{Said, script_of}
use Rattle.hv_script.specs.declared.line.Line.{Line}
use Rattle.hv_text.specs.Audit.{audit_text, caller_text, entry_text, reply_text, result_text, what_text}
use Rattle.hv_check.specs.Takes.{Takes}

-- the answer to an event, without the name of a rule
abbrev pub bare_reply_text : Action Global → Reply → List ℕ
bare_reply_text what (Served output) = reply_text what (Served output)
bare_reply_text what (More next output) = reply_text what (More next output)
bare_reply_text what (Denied rule status reps) = codes "denied" ++ result_text what (Denied rule status reps)
bare_reply_text what (Fault rule) = codes "fault"

-- the line of an event with its number, without the name of a rule and without its line feed
unfoldable pub bare_text : ℕ → Entry Global → List ℕ
bare_text number entry =
    decimal number ++ codes " " ++ caller_text entry.event.by ++ codes " " ++ what_text entry.event.what ++
    codes " " ++ bare_reply_text entry.event.what entry.reply

-- nothing, or a space and bytes with no line feed
abbrev pub IsName : List ℕ → Type 0
IsName tail = (tail ≡ []) ⊎ ((name : List ℕ) × (tail ≡ codes " " ++ name) × All (λ byte. byte ≢ 10) name)

-- what may follow such a line in place of a rule's name: after a refusal, any name; otherwise nothing
abbrev pub IsTail : Reply → List ℕ → Type 0
IsTail (Served output) tail = tail ≡ []
IsTail (More next output) tail = tail ≡ []
IsTail (Denied rule status reps) tail = IsName tail
IsTail (Fault rule) tail = IsName tail

-- a text begins with the line of an event, with any name of a rule, and `rest` follows it
pub record IsBareLine (number : ℕ) (entry : Entry Global) (text rest : List ℕ) : Type 0 where
  pub tail : List ℕ
  pub name : IsTail entry.reply tail
  pub all : text ≡ bare_text number entry ++ (tail ++ (codes "\n" ++ rest))

-- a text begins with the line of an event, and `rest` follows it. The names of rules are compared, or not
abbrev pub IsLine : Bool → ℕ → Entry Global → List ℕ → List ℕ → Type 0
IsLine true number entry text rest = text ≡ entry_text number entry ++ (codes "\n" ++ rest)
IsLine false number entry text rest = IsBareLine number entry text rest

-- the last line of an audit, which gives the number of events
abbrev pub end_text : ℕ → List ℕ
end_text events = codes "events " ++ decimal events ++ codes "\n"

-- an audit ends with the number of events. One that may end early may lack that line
abbrev pub IsEnd : Bool → ℕ → List ℕ → Type 0
IsEnd false events text = text ≡ end_text events
IsEnd true events text = (text ≡ []) ⊎ (text ≡ end_text events)

-- the lines of events that follow `before` other events, and the end
abbrev pub AreLines : (prefix rules : Bool) → ℕ → List (Entry Global) → List ℕ → Type 0
AreLines prefix rules before [] text = IsEnd prefix before text
AreLines prefix rules before (e ∷ es) text =
    (rest : List ℕ) × IsLine rules (before + 1) e text rest × AreLines prefix rules (before + 1) es rest

-- each processor's events are those that its lines ask for, in order, each to its end, phase by phase
pub record AreDone (lines : List (Line Global)) (history : List (Entry Global)) : Type 0 where
  pub run : AreRun lines history
  pub phased : ArePhased lines history

-- all lines are done; or, if an audit may end early, some of them, and each event is the next one of its
-- processor
abbrev pub AreTaken : Bool → List (Line Global) → List (Entry Global) → Type 0
AreTaken false lines history = AreDone lines history
AreTaken true lines history = (left : List (Line Global)) × Takes lines history left

-- the bytes are the audit of a history
abbrev pub IsAudit : (prefix rules : Bool) → List (Entry Global) → List ℕ → Type 0
IsAudit false true history bytes = bytes ≡ audit_text history
IsAudit false false history bytes = AreLines false false 0 history bytes
IsAudit true rules history bytes = AreLines true rules 0 history bytes

-- Some history is a run from the script's boot, with at most as many events as its limit. Each processor's
-- events are those that its lines ask for, in order, each to its end, phase by phase. The bytes are the audit
-- of this history. With `prefix` the lines may be done in part, and the audit may end after any event.
-- Without `rules` the names of rules are not compared.
pub record IsLegal (prefix rules : Bool) (said : Said Global) (bytes : List ℕ) : Type 0 where
  pub kept : Kept Global
  pub run : IsRun kept
  pub config : kept.config ≡ said.config
  pub limit : kept.limit ≡ said.limit
  pub lines : AreTaken prefix said.lines kept.history
  pub told : IsAudit prefix rules kept.history bytes

-- the audit is legal, as that of a run with this number of events
pub record IsLegalWith (prefix rules : Bool) (said : Said Global) (bytes : List ℕ) (events : ℕ) : Type 0 where
  pub legal : IsLegal prefix rules said bytes
  pub count : length legal.kept.history ≡ events

-- the bytes are a legal audit of the script with this text
pub record IsLegalOf (prefix rules : Bool) (script bytes : List ℕ) : Type 0 where
  pub said : Said Global
  pub is : script_of script ≡ Ok said
  pub legal : IsLegal prefix rules said bytes

-- and that of a run with this number of events
pub record IsLegalOfWith (prefix rules : Bool) (script bytes : List ℕ) (events : ℕ) : Type 0 where
  pub said : Said Global
  pub is : script_of script ≡ Ok said
  pub legal : IsLegalWith prefix rules said bytes events
