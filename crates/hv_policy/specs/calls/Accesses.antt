-- The accesses of a processor to its own MSRs, slots, event flags and interrupts.
use Rattle.std.specs.Prelude.{ℕ, ◌&&◌, is_some, nat_lt, [], ◌∷◌}
use Rattle.std.specs.FinMap.{get}
use Rattle.std.specs.FinSet as set
use Rattle.std.specs.Int.{w64, to_le_bytes}
use Rattle.hv_defs.specs.Registers.{name_of_msr}
use Rattle.hv_defs.specs.Vectors as vectors
use Rattle.hv_defs.specs.declared.sizes.TheConstants.{EVENT_FLAGS, SINTS}
use Rattle.hv_policy.specs.Change.{with_vp, write_msr}
use Rattle.hv_policy.specs.Mail.{cleared, place_at, slot_at}
use Rattle.hv_policy.specs.Met.{may_access_msr, takes_msr}
use Rattle.hv_policy.specs.Policy.{AccessPolicy}
use Rattle.hv_policy.specs.Reading.{flags_at, msr_of, vector_of}
use Rattle.hv_policy.specs.declared.rule.Rule.TheVariants.{MsrKnown, MsrPrivilege, MsrWrite, Operand}

-- Reads a model-specific register.
abbrev pub read_msr : ℕ → AccessPolicy
read_msr msr = record {
  asks = λ f caller. (MsrKnown, is_some (name_of_msr msr)) ∷
      (MsrPrivilege, may_access_msr f caller (name_of_msr msr)) ∷ [];
  output = λ f by. to_le_bytes w64 (msr_of (get f.vp (by.part, by.vp)) (name_of_msr msr));
  effect = λ f by. f;
}

-- Writes a model-specific register.
abbrev pub write_msr_to : ℕ → ℕ → AccessPolicy
write_msr_to msr value = record {
  asks = λ f caller.
      (MsrKnown, is_some (name_of_msr msr)) ∷ (MsrPrivilege, may_access_msr f caller (name_of_msr msr))
      ∷ (MsrWrite, takes_msr (name_of_msr msr) value) ∷ [];
  output = λ f by. [];
  effect = λ f by. write_msr by.part by.vp (name_of_msr msr) value f;
}

-- Reads the message slot of a SINT.
abbrev pub read_slot : ℕ → AccessPolicy
read_slot sint = record {
  asks = λ f caller. (Operand, nat_lt sint SINTS) ∷ [];
  output = λ f by. slot_at (place_at by sint) f.mail;
  effect = λ f by. f;
}

-- Removes the message that a SINT shows. None is shown in its place.
abbrev pub clear_slot : ℕ → AccessPolicy
clear_slot sint = record {
  asks = λ f caller. (Operand, nat_lt sint SINTS) ∷ [];
  output = λ f by. [];
  effect = λ f by. record f { mail = cleared (place_at by sint) f.mail };
}

-- Reads the event flags of a SINT.
abbrev pub read_flags : ℕ → AccessPolicy
read_flags sint = record {
  asks = λ f caller. (Operand, nat_lt sint SINTS) ∷ [];
  output = λ f by. flags_at (get f.vp (by.part, by.vp)) sint;
  effect = λ f by. f;
}

-- Clears an event flag of a SINT.
abbrev pub clear_flag : ℕ → ℕ → AccessPolicy
clear_flag sint flag = record {
  asks = λ f caller. (Operand, nat_lt sint SINTS && nat_lt flag EVENT_FLAGS) ∷ [];
  output = λ f by. [];
  effect = λ f by. record f {
    vp = with_vp f.vp (by.part, by.vp)
        (λ row. record row { flags = set.remove row.flags (sint, flag) });
  };
}

-- Takes the highest pending vector, which is not pending afterwards.
abbrev pub take_interrupt : AccessPolicy
take_interrupt = record {
  asks = λ f caller. [];
  output = λ f by. vector_of (get f.vp (by.part, by.vp)) ∷ [];
  effect = λ f by.
      record f {
        vp = with_vp f.vp (by.part, by.vp)
            (λ row. record row { pending = vectors.without row.pending (vectors.highest row.pending) });
      };
}

-- A hypercall is no access. Its policy is that of its call.
abbrev pub no_access : AccessPolicy
no_access = record { asks = λ f caller. []; output = λ f by. []; effect = λ f by. f }
