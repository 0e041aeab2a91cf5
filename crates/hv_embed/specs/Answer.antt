-- The arguments and replies of C, beside the policy's events and replies.
use Rattle.std.specs.Prelude.{◌≡◌, ◌++◌, ℕ, List, length, take, codes, if◌then◌else◌}
use Rattle.std.specs.Global.{Global}
use Rattle.std.specs.Option.{option_map_or}
use Rattle.hv_abi.specs.CallRow.{input_len, kind_of, row_of}
use Rattle.hv_abi.specs.InputValue.{input_value}
use Rattle.hv_abi.specs.declared.frame.Frame.{Frame}
use Rattle.hv_privs.specs.Privileges.{of}
use Rattle.hv_policy.specs.Result.{result_of}
use Rattle.hv_policy.specs.Rule.{rule_number}
use Rattle.hv_policy.specs.declared.config.BootRefused.{BootRefused}
use Rattle.hv_policy.specs.declared.config.BootRefused.TheVariants as boot
use Rattle.hv_policy.specs.declared.config.Config.{Config}
use Rattle.hv_policy.specs.declared.event.Action.{Action}
use Rattle.hv_policy.specs.declared.event.Action.TheVariants.{Hypercall}
use Rattle.hv_policy.specs.declared.event.Caller.{Caller}
use Rattle.hv_policy.specs.declared.event.Event.{Event}
use Rattle.hv_policy.specs.declared.reply.Reply.{Reply}
use Rattle.hv_policy.specs.declared.reply.Reply.TheVariants.{Served, More, Denied, Fault}
use Rattle.hv_text.specs.Audit.{entry_text}
use Rattle.hv_embed.specs.declared.layout.HvCaller.{HvCaller}
use Rattle.hv_embed.specs.declared.layout.HvConfig.{HvConfig}
use Rattle.hv_embed.specs.declared.layout.HvRegisters.{HvRegisters}
use Rattle.hv_embed.specs.declared.layout.HvReply.{HvReply}
use Rattle.hv_embed.specs.declared.layout.TheConstants.{SERVED, MORE, DENIED, FAULT}
use Rattle.hv_embed.specs.declared.status.TheConstants as status

-- the configuration that C requests
abbrev pub config_of : HvConfig → Config
config_of c = record { pages = c.pages; pool = c.pool; vps = c.vps; mask = of c.mask }

-- the processor that C names
abbrev pub caller_of : HvCaller → Caller
caller_of by = record { part = by.part; vp = by.vp }

-- the length of a call's input list. A fast call has none, and no unknown code has one
abbrev pub list_len : ℕ → ℕ
list_len rcx =
    if (input_value rcx).fast then 0
    else option_map_or (λ kind. input_len (row_of kind) (input_value rcx).reps)
    (kind_of (input_value rcx).call) 0

-- the frame of a call, whose input list is at the start of these bytes
abbrev pub frame_of : HvRegisters → List ℕ → Frame Global
frame_of registers input = record {
  rcx = registers.rcx;
  rdx = registers.rdx;
  r8 = registers.r8;
  input = take (list_len registers.rcx) input;
}

-- an event of the processor that C names
abbrev pub event_of : HvCaller → Action Global → Event Global
event_of by what = record { by = caller_of by; what = what }

-- the result value of a call; an access has none
abbrev pub result_in : Action Global → Reply → ℕ
result_in (Hypercall frame) reply = result_of frame reply
result_in _ reply = 0

-- a reply for C has exactly these output bytes
pub record HasOutput (a : HvReply) (output : List ℕ) : Type 0 where
  pub len : a.output_len ≡ length output
  pub bytes : take a.output_len a.output ≡ output

-- a reply for C says how the event ended, the rule that refused it, or 0, the element at which the call
-- continues, or 0, and the output
abbrev pub Says : HvReply → Reply → Type 0
Says a (Served output) = (a.kind ≡ SERVED) × (a.rule ≡ 0) × (a.next ≡ 0) × HasOutput a output
Says a (More next output) = (a.kind ≡ MORE) × (a.rule ≡ 0) × (a.next ≡ next) × HasOutput a output
Says a (Denied rule status reps) = (a.kind ≡ DENIED) × (a.rule ≡ rule_number rule) × (a.next ≡ 0) ×
    (a.output_len ≡ 0)
Says a (Fault rule) = (a.kind ≡ FAULT) × (a.rule ≡ rule_number rule) × (a.next ≡ 0) × (a.output_len ≡ 0)

-- a reply for C is that of the policy's reply to an event
pub record IsAnswer (a : HvReply) (what : Action Global) (reply : Reply) : Type 0 where
  pub says : Says a reply
  pub result : a.result ≡ result_in what reply

-- the audit's line of an event with its reply, ending in a line feed
abbrev pub line_text : ℕ → Event Global → Reply → List ℕ
line_text number event reply = entry_text number (record { event = event; reply = reply }) ++ codes "\n"

-- the status of a boot that is refused
abbrev pub refusal_status : BootRefused → ℕ
refusal_status boot.Pages = status.PAGES
refusal_status boot.Pool = status.POOL
refusal_status boot.Vps = status.VPS
refusal_status boot.Memory = status.MEMORY
