-- The copies for a hold of several elements of a call.
use Rattle.std.specs.Prelude.{ℕ, ◌≡◌, ◌+◌, ◌-◌, ◌&&◌, min, if◌then◌else◌, Option, None, Some, List, [], ◌∷◌}
use Rattle.std.specs.Prelude.{length}
use Rattle.std.specs.declared.alloc.Global.{Global}
use Rattle.hv_defs.specs.Bits.{bits}
use Rattle.hv_abi.specs.CallRow.{kind_of, row_of}
use Rattle.hv_abi.specs.Check.{is_input_valid}
use Rattle.hv_abi.specs.declared.call_kind.CallKind.{CallKind}
use Rattle.hv_abi.specs.declared.frame.Frame.{Frame}
use Rattle.hv_history.specs.Run.{element, restart, start_of}
use Rattle.hv_policy.specs.declared.event.Caller.{Caller}
use Rattle.hv_policy.specs.declared.event.Event.{Event}

-- the number of elements of this call from its start index to its last, at most `most`; 1 for a simple call,
-- for an unknown call, and for an input value that the call doesn't take
abbrev pub elements_of : Option CallKind → ℕ → ℕ → ℕ
elements_of None rcx most = 1
elements_of (Some kind) rcx most =
    if (row_of kind).rep && is_input_valid (row_of kind) rcx then min (bits rcx 32 12 - bits rcx 48 12) most
    else 1

-- the number of elements of the call that an input value names, at most `most`
abbrev pub elements_in : ℕ → ℕ → ℕ
elements_in rcx most = elements_of (kind_of (bits rcx 0 16)) rcx most

-- the events in which this caller asks for the element at the frame's start index, then for each next one
abbrev pub AreAsking : Caller → Frame Global → List (Event Global) → Type 0
AreAsking by frame [] = Unit {0}
AreAsking by frame (e ∷ es) = (e ≡ element by frame) × AreAsking by (restart frame (start_of frame + 1)) es

-- one copy of each element of a call from the frame's start index on, at most `most`
pub record AreCopies (by : Caller) (frame : Frame Global) (most : ℕ) (copies : List (Event Global)) : Type 0
  where
    pub count : length copies ≡ elements_in frame.rcx most
    pub asking : AreAsking by frame copies
