-- The packed form of an event with its reply, and the entry that it stands for.
use Rattle.std.specs.Prelude.{ℕ, ◌≡◌, ◌+◌, ◌≤◌, ◌<◌, List, [], map, take, drop, slice_index_or, All}
use Rattle.hv_defs.specs.declared.sizes.TheConstants.{REPS_END}
use Rattle.hv_policy.specs.Parts.{next_in, reply_of}
use Rattle.hv_policy.specs.declared.answer.Answer.{Answer}
use Rattle.hv_policy.specs.declared.event.Action.{Action}
use Rattle.hv_policy.specs.declared.event.Action.TheVariants as action
use Rattle.hv_policy.specs.declared.event.Caller.{Caller}
use Rattle.hv_policy.specs.declared.event.Event.{Event}
use Rattle.hv_policy.specs.declared.reply.Reply.{Reply}
use Rattle.hv_history.specs.declared.entry.Request.{Request}
use Rattle.hv_history.specs.declared.entry.Request.TheVariants as asked
use Rattle.hv_history.specs.declared.entry.Entry.{Entry}
use Rattle.hv_history.specs.declared.row.Row.{Row}
use Rattle.hv_history.specs.declared.row.TheConstants.{MOST_OUTPUT}

-- RCX of a call; an access has none
abbrev pub rcx_in : {A : Type 0} → Action A → ℕ
rcx_in (action.Hypercall frame) = frame.rcx
rcx_in access = 0

-- the action with this RCX, where it is a call
abbrev pub with_rcx : {A : Type 0} → Action A → ℕ → Action A
with_rcx (action.Hypercall frame) rcx = action.Hypercall (record frame { rcx = rcx })
with_rcx access rcx = access

-- the event with this RCX, where it is a call
abbrev pub asking : {A : Type 0} → Event A → ℕ → Event A
asking event rcx = record { by = event.by; what = with_rcx event.what rcx }

-- the action of a request, with these bytes as the input list of a call
abbrev pub action_of : {A : Type 0} → Request → List ℕ → Action A
action_of (asked.Hypercall rcx rdx r8) input = action.Hypercall
    (record { rcx = rcx; rdx = rdx; r8 = r8; input = input })
action_of (asked.ReadMsr msr) input = action.ReadMsr msr
action_of (asked.WriteMsr msr value) input = action.WriteMsr msr value
action_of (asked.ReadSlot sint) input = action.ReadSlot sint
action_of (asked.ClearSlot sint) input = action.ClearSlot sint
action_of (asked.ReadFlags sint) input = action.ReadFlags sint
action_of (asked.ClearFlag sint flag) input = action.ClearFlag sint flag
action_of asked.TakeInterrupt input = action.TakeInterrupt

-- an event with its reply
abbrev pub entry_from : {A : Type 0} → Caller → Request → List ℕ → Answer → List ℕ → Entry A
entry_from by asked input answer output = record {
  event = record { by = by; what = action_of asked input };
  reply = reply_of answer output;
}

-- the head at a place; every place that a row names has one
abbrev pub head_at : {A : Type 0} → List (Event A) → ℕ → Event A
head_at heads at = slice_index_or heads at (record
    { by = record { part = 0; vp = 0 }; what = action.TakeInterrupt })

-- `len` bytes from a place on
abbrev pub bytes_at : List ℕ → ℕ → ℕ → List ℕ
bytes_at bytes start len = take len (drop start bytes)

-- the entry of a row, with its head among the heads and its output among the bytes
abbrev pub entry_of : {A : Type 0} → List (Event A) → List ℕ → Row → Entry A
entry_of heads outputs row = record {
  event = asking (head_at heads row.head) row.rcx;
  reply = reply_of row.answer (bytes_at outputs row.output row.output_len);
}

abbrev pub entries_of : {A : Type 0} → List (Event A) → List ℕ → List Row → List (Entry A)
entries_of heads outputs rows = map (entry_of heads outputs) rows

abbrev pub events_of : {A : Type 0} → List (Entry A) → List (Event A)
events_of entries = map (λ entry. entry.event) entries

-- each entry is of this event, but for its RCX
abbrev pub DifferInRcx : {A : Type 0} → Event A → List (Entry A) → Type 0
DifferInRcx event entries = All (λ entry. asking entry.event 0 ≡ asking event 0) entries

abbrev pub replies_of : {A : Type 0} → List (Entry A) → List Reply
replies_of entries = map (λ entry. entry.reply) entries

-- invariant of a row: its head exists, its output is within the bytes and no longer than an output may be,
-- and if its call continues, the next element has an index
pub record IsPlaced (heads outputs : ℕ) (row : Row) : Type 0 where
  pub head : row.head < heads
  pub output : row.output + row.output_len ≤ outputs
  pub most : row.output_len ≤ MOST_OUTPUT
  pub index : next_in (reply_of row.answer []) < REPS_END

abbrev pub ArePlaced : ℕ → ℕ → List Row → Type 0
ArePlaced heads outputs rows = All (IsPlaced heads outputs) rows
