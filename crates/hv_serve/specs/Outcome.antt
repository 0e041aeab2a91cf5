-- The text for a line that wasn't done.
use Rattle.std.specs.Prelude.{ℕ, ◌++◌, List, [], codes, decimal}
use Rattle.hv_asm.specs.declared.fault.AsmFault.{AsmFault}
use Rattle.hv_asm.specs.declared.fault.AsmFault.TheVariants as asm
use Rattle.hv_history.specs.declared.kept.HostRefused.TheVariants as host
use Rattle.hv_policy.specs.declared.config.BootRefused.{BootRefused}
use Rattle.hv_policy.specs.declared.config.BootRefused.TheVariants as refused
use Rattle.hv_script.specs.declared.fault.FaultKind.{FaultKind}
use Rattle.hv_script.specs.declared.fault.FaultKind.TheVariants as kind
use Rattle.hv_serve.specs.declared.outcome.Outcome.{Outcome}
use Rattle.hv_serve.specs.declared.outcome.Outcome.TheVariants.{Done, Table, Peek, Explain, Help, Fault}
use Rattle.hv_serve.specs.declared.outcome.Outcome.TheVariants.{Named, Boot, Host}

-- a fault's text
abbrev pub kind_text : FaultKind → List ℕ
kind_text kind.Long = codes "too long"
kind_text kind.Byte = codes "bad byte"
kind_text kind.NoBoot = codes "no boot"
kind_text kind.BootTwice = codes "second boot"
kind_text kind.Processor = codes "bad processor"
kind_text kind.Word = codes "unknown word"
kind_text kind.Count = codes "word count"
kind_text kind.Number = codes "bad number"
kind_text kind.Hex = codes "bad hex"
kind_text kind.TooMany = codes "too many processors"
kind_text kind.Memory = codes "memory"

-- the text of a fault of a line by names
abbrev pub named_text : AsmFault → List ℕ
named_text (asm.Script kind) = kind_text kind
named_text asm.UnknownField = codes "unknown field"
named_text asm.MissingField = codes "missing field"
named_text asm.FieldTwice = codes "field twice"
named_text asm.NoFastForm = codes "no fast form"

-- why a line wasn't done
abbrev pub why_text : Outcome → List ℕ
why_text Done = []
why_text Table = []
why_text (Peek peek) = []
why_text Explain = []
why_text Help = []
why_text (Fault kind) = kind_text kind
why_text (Named fault) = named_text fault
why_text (Boot refused.Pages) = codes "boot refused: pages"
why_text (Boot refused.Pool) = codes "boot refused: pool"
why_text (Boot refused.Vps) = codes "boot refused: vps"
why_text (Boot refused.Memory) = codes "memory"
why_text (Host host.HistoryFull) = codes "history full"
why_text (Host host.Memory) = codes "memory"

-- the answer that says why the line with this number wasn't done
unfoldable pub fault_text : ℕ → Outcome → List ℕ
fault_text number outcome = codes "fault: line " ++ decimal number ++ codes ": " ++ why_text outcome ++ codes
    "\n"

-- the answer to a line by names that has a fault, with these words of it
unfoldable pub named_fault_text : ℕ → List ℕ → List ℕ
named_fault_text number words = codes "fault: line " ++ decimal number ++ codes ": " ++ words ++ codes "\n"

-- the outcome of a line with this fault: out of memory is the host's refusal
abbrev pub outcome_by : FaultKind → Outcome
outcome_by kind.Memory = Host host.Memory
outcome_by kind = Fault kind

-- and that of a line by names
abbrev pub outcome_by_names : AsmFault → Outcome
outcome_by_names (asm.Script kind.Memory) = Host host.Memory
outcome_by_names fault = Named fault

-- the outcome of a boot that is refused: out of memory is the host's refusal
abbrev pub outcome_of_boot : BootRefused → Outcome
outcome_of_boot refused.Memory = Host host.Memory
outcome_of_boot why = Boot why
