-- How a rep call continues.
use Rattle.std.specs.Prelude.{ℕ, ◌≡◌, ◌+◌, ◌<◌}
use Rattle.hv_defs.specs.Bits.{bits}
use Rattle.hv_defs.specs.declared.sizes.TheConstants.{REPS_END}
use Rattle.hv_policy.specs.declared.event.Action.{Action}
use Rattle.hv_policy.specs.declared.event.Action.TheVariants.{Hypercall}
use Rattle.hv_policy.specs.declared.reply.Reply.{Reply}
use Rattle.hv_policy.specs.declared.reply.Reply.TheVariants.{More}

-- the next element of an action: only a call has one, the element after its start index
abbrev pub IsNextOf : {A : Type 0} → Action A → ℕ → Type 0
IsNextOf (Hypercall frame) next = (next ≡ bits frame.rcx 48 12 + 1) × (next < REPS_END)
IsNextOf access next = ⊥

-- a reply that says that its call continues names the next element
abbrev pub GoesOn : {A : Type 0} → Action A → Reply → Type 0
GoesOn what (More next output) = IsNextOf what next
GoesOn what reply = Unit {0}
