-- A virtual processor as contracts see it.
use Rattle.std.specs.Prelude.{ℕ, zero, suc, ◌==◌, not, Bool, false, cond, Option, None, Some, refl}
use Rattle.std.specs.Coded.{Coded, code_by, coded×, coded_bool, coded_ℕ}
use Rattle.std.specs.FinMap as map
use Rattle.std.specs.FinSet as set
use Rattle.std.specs.Ordering.{nat_cmp}
use Rattle.hv_defs.specs.Flags.{FlagSet, flags_code}
use Rattle.hv_defs.specs.Registers.{after_write, kept, row_of, start_registers, takes_messages}
use Rattle.hv_defs.specs.Vectors.{VectorSet, highest, raised, vectors_code, without}
use Rattle.hv_defs.specs.declared.registers.TheConstants.{EOM}
use Rattle.hv_defs.specs.declared.sizes.TheConstants.{SINTS}
use Rattle.hv_mail.specs.Mail as mail
use Rattle.hv_mail.specs.Mail.{Mail, at, has_next, mail_code, with_at, with_last, with_next}
use Rattle.hv_mail.specs.declared.message.Message.{Message}

-- the value of each register, by its name; the messages at its SINTs; the event flags that are set, as (SINT,
-- flag); the vectors that are pending; and whether room for a message is reserved
pub record VpState : Type 0 where
  pub registers : map.FinMap nat_cmp ℕ
  pub mail : Mail
  pub flags : FlagSet
  pub pending : VectorSet
  pub room : Bool

-- such a state is stored as the tuple of its fields
abbrev pub vp_code : Coded VpState
vp_code =
    code_by (map.FinMap nat_cmp ℕ × (Mail × (FlagSet × (VectorSet × Bool))))
    (coded× (map.code coded_ℕ coded_ℕ) (coded× mail_code
    (coded× flags_code (coded× vectors_code coded_bool))))
    (λ v. (v.registers, (v.mail, (v.flags, (v.pending, v.room)))))
    (λ t. record { registers = t.0; mail = t.1.0; flags = t.1.1.0; pending = t.1.1.1.0; room = t.1.1.1.1 })
    (λ _. refl)

-- a new processor
abbrev pub new_vp : ℕ → VpState
new_vp index = record {
  registers = start_registers index;
  mail = map.empty;
  flags = set.empty;
  pending =
      set.empty;
  room = false;
}

-- the processor after a SINT raised its vector, if it did
abbrev pub raised_if : Bool → ℕ → VpState → VpState
raised_if did sint v = record v { pending = cond did (raised v.registers sint v.pending) v.pending }

-- Show at a SINT: if none is shown and one waits, the oldest is shown and the SINT raises its vector
abbrev pub shown : ℕ → VpState → VpState
shown sint v = raised_if (has_next (at v.mail sint)) sint
    (record v { mail = with_at v.mail sint (with_next (at v.mail sint)) })

-- Show at each SINT below a number
unfoldable pub shown_each : ℕ → VpState → VpState
shown_each zero v = v
shown_each (suc sint) v = shown sint (shown_each sint v)

-- a message ends: if the processor takes messages, Show at each SINT
abbrev pub ended : VpState → VpState
ended v = cond (takes_messages v.registers) (shown_each SINTS v) v

abbrev pub ended_if : Bool → VpState → VpState
ended_if is v = cond is (ended v) v

-- the processor after a write to the register with this name, if the register takes the value; a write of EOM
-- ends a message
abbrev pub written : ℕ → ℕ → VpState → VpState
written name value v = ended_if (name == EOM) (record v
    { registers = after_write v.registers name (kept (row_of name) value) })

-- the processor after a write to a model-specific register, by the name that it has in a call
abbrev pub written_msr : Option ℕ → ℕ → VpState → VpState
written_msr None value v = v
written_msr (Some name) value v = written name value v

-- the processor after a post: the message goes last at its SINT, and then Show there
abbrev pub posted : ℕ → Message → VpState → VpState
posted sint message v =
    raised_if (has_next (with_last (at v.mail sint) message)) sint
    (record v { mail = with_at v.mail sint (mail.posted (at v.mail sint) message); room = false })

-- the processor after the message that a SINT shows is removed
abbrev pub slot_cleared : ℕ → VpState → VpState
slot_cleared sint v = record v { mail = with_at v.mail sint (mail.cleared (at v.mail sint)) }

-- the processor after a flag of a SINT is set; if the flag was clear, the SINT raises its vector
abbrev pub signalled : ℕ → ℕ → VpState → VpState
signalled sint flag v =
    raised_if (not (set.contains v.flags (sint, flag))) sint
    (record v { flags = set.insert v.flags (sint, flag) })

-- the processor after a flag of a SINT is cleared
abbrev pub flag_cleared : ℕ → ℕ → VpState → VpState
flag_cleared sint flag v = record v { flags = set.remove v.flags (sint, flag) }

-- the processor after its highest pending vector is taken
abbrev pub interrupted : VpState → VpState
interrupted v = record v { pending = without v.pending (highest v.pending) }
