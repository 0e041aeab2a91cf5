-- A full handle crosses threads as a box of a machine does, and an empty one has nothing.
use Rattle.std.proofs.Common.{Bool, true, false, Global}
use mir.Raw.{raw}
use base.Shift.{Keyless}
use denote.Memory.{lone}
use denote.Struct.Struct.{exits_of}
use denote.Struct.Owning.{shape, fields, to}
use denote.RawPtr.{Ptr}
use denote.Param.Send.{IsSend, AllSend, owning_send, struct_send, sendable}
use Rattle.std.proofs.Crossing as heap
use Rattle.std_alloc.proofs.SendSync.{quiet, lies}
use Rattle.std_heap.proofs.Global.TheSendSync as handle
use Rattle.hv_machine.specs.State.{State}
use Rattle.hv_embed.proofs.Crosses.{machine-send}
use Rattle.hv_embed.specs.Holds.{machine_owns, machine_row}
use Rattle.hv_embed.specs.contracts.raw_machine.RawMachine.{the_row, the_type}

owned : (full : Bool) (alloc : Global) (p : Ptr) (m : State) → Keyless (machine_owns full alloc p m)
owned true alloc p m = (lies machine_row machine-send p m, heap.frees.frees alloc (raw (lone machine_row.mir)) p)
owned false alloc p m = tt

pub send : IsSend the_row
send =
    let all : AllSend (fields the_type) = (search sendable, (handle.the_field_send, tt)) in
    owning_send the_type all (λ d. owned d.full d.alloc d.at d.machine)
    (λ k. quiet (to the_type) (exits_of k (fields the_type)) ((struct_send (shape the_type) all).leaving k))
