-- What a history stands for.
use Rattle.std.specs.Prelude.{ℕ, ◌-◌, ◌/◌, List, min, vec_len, vec_capacity}
use Rattle.hv_history.specs.Row.{entries_of, entry_from}
use Rattle.hv_history.specs.declared.entry.Entry.{Entry}
use Rattle.hv_history.specs.declared.entry.EntryRef.{EntryRef}
use Rattle.hv_history.specs.declared.row.History.{History}
use Rattle.hv_history.specs.declared.row.TheConstants.{MOST_OUTPUT}

-- the events with their replies, in their order
abbrev pub entries : {A : Type 0} → History A → List (Entry A)
entries h = entries_of h.heads.items h.outputs.items h.rows.items

-- the borrowed event with its reply
abbrev pub entry_by : {A : Type 0} → EntryRef → Entry A
entry_by e = entry_from e.by e.asked e.input.now e.answer e.output.now

-- the number of further events for which there is room: each takes a row, a head and at most 256 bytes of
-- output
abbrev pub room_of : {A : Type 0} → History A → ℕ
room_of h = min (min (vec_capacity h.rows - vec_len h.rows) (vec_capacity h.heads - vec_len h.heads))
    ((vec_capacity h.outputs - vec_len h.outputs) / MOST_OUTPUT)
