-- What the walks use of the logic, and the box that a full handle and the parts own.
pub use mathlib.Core.Path.{◌≡◌, refl, sym, subst, ap, ◌∙◌}
pub use mathlib.Core.List.{List, [], ◌∷◌, ◌++◌}
pub use seplogic.Ra.Ura.{Ura}
pub use mir.Val.{Val, vstruct, vptr, of_list, has_ty}
pub use base.Logic.{SProp, ent, emp, id⊢}
pub use base.Fml.{ftrue, fsep, flft}
pub use prog.Wp.{WpFn}
pub use types.Logic.{sem}
pub use types.Kit.{Item, ‵, raw, ◌⊛◌, some, later, at_ret, ◌$◌, ◌∵◌, !, qed, by, move, keep, drop, use1, join, split, split3, pick, rewrite}
pub use types.Kit.{fsplit, fjoin, fpick, feq_i, feq_l, suffices, await, done}
pub use types.Part.{whole, sub, agg}
pub use types.Run.{stop, fld, no_more, and_then, of_opd, first, blocks, exec, returns, enter}
pub use types.ByLocal.{alloc_all, pass_all, free_all, look_at, get, get_in, sets, lands_as, lands_last, env}
pub use contract.Monad.{fact}
pub use contract.Running.{tables}
pub use denote.Exit.{yes, no}
pub use denote.RattleType.{RattleType, owns}
pub use denote.RawPtr.{Ptr, block_ptr, null_ptr, ptr_val}
pub use denote.Signature.{Slot, plain, type_at}
pub use denote.Steps.{heard, nothing, only}
pub use denote.Triple.Spec.{triple_of}
pub use denote.Triple.Walked.{says, Stays, stay_dropped, walk_of, ends_at, Goes-dropped}
pub use Rattle.std.proofs.alloc.Calls.{α, token, Fits, handle_tells, Goes-blank}
pub use Rattle.std.proofs.raw_atomic.Walks.{proved_at}
pub use Rattle.std_alloc.proofs.BoxSteps.Form.{Bx, D, B, word, box_ty, box_typed}
pub use Rattle.std_alloc.proofs.BoxSteps.Steps.{box_out, box_in}
use mir.Syntax.{impl, tnil, dnil}
use Rattle.std_heap.specs.contracts.Global as Heap
use Rattle.std_heap.specs.contracts.GlobalAllocator.TheImpl.{ghosts, dict}
use Rattle.std_heap.proofs.Global.TheLaws as heap
use Rattle.hv_embed.proofs.machine_state.MachineState.TheLaws as machine_state
use Rattle.hv_embed.specs.Holds.{machine_row}
use Rattle.hv_embed.specs.contracts.parts.Parts as Parts
use Rattle.hv_embed.specs.contracts.raw_machine.RawMachine as RawMachine

abbrev pub E : Bx
E = record { row = machine_row; laws = machine_state.the_row_laws; al = record { row = Heap.the_row; laws = heap.the_row_laws; g = ghosts; d = dict; drops = impl [] tnil dnil } }

abbrev pub FromParts : Slot 0
FromParts = plain (λ _. Parts.the_row machine_row Heap.the_row ghosts)

abbrev pub FromHeld : Slot 0
FromHeld = plain (λ _. RawMachine.the_row)
