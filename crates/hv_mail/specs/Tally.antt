-- How many messages of each port are kept.
use Rattle.std.specs.Prelude.{ℕ, ◌+◌, ◌*◌, ◌/◌, ◌%◌, ◌^◌, ◌==◌, ◌&&◌, Bool, true, false, if◌then◌else◌}
use Rattle.std.specs.Prelude.{nat_lt, Option, is_some}
use Rattle.hv_mail.specs.declared.tree.Tree.{Tree, Empty, Full'}

-- whether they are one port of one birth
abbrev pub is_key : ℕ × ℕ → ℕ × ℕ → Bool
is_key one other = (one.0 == other.0) && (one.1 == other.1)

-- the way to a port's node: from each node it leads low if it is even, else high, and its half leads on
abbrev pub way_of : ℕ × ℕ → ℕ
way_of key = key.0 * 2 ^ 64 + key.1

module _ {A : Type 0} where
  -- the number of a port's messages on a way
  abbrev pub on_way : Tree A → ℕ → ℕ × ℕ → ℕ
  on_way Empty way key = 0
  on_way (Full' ptr its count low high) way key =
      (if is_key its key then count else 0)
      + (if way % 2 == 0 then on_way low (way / 2) key else on_way high (way / 2) key)

  -- the number of a port's messages
  abbrev pub kept_in : Tree A → ℕ → ℕ → ℕ
  kept_in tree port born = on_way tree (way_of (port, born)) (port, born)

  -- the number of all messages
  abbrev pub total : Tree A → ℕ
  total Empty = 0
  total (Full' ptr its count low high) = count + total low + total high

  -- whether a tree has no node
  abbrev pub is_empty : Tree A → Bool
  is_empty Empty = true
  is_empty (Full' ptr its count low high) = false

  -- whether nothing is counted at the node, if there is one, and there are no nodes below
  abbrev pub is_idle : Tree A → Bool
  is_idle Empty = true
  is_idle (Full' ptr its count low high) = (count == 0) && is_empty low && is_empty high

-- 1 at the port and birth of a message, and 0 at all others
abbrev pub one_at : ℕ → ℕ → ℕ → ℕ → ℕ
one_at port born p b = if is_key (port, born) (p, b) then 1 else 0

-- whether there is a node to spare, and fewer messages are kept than can be counted
abbrev pub has_room : {N : Type 0} → Option N → ℕ → Bool
has_room spare kept = is_some spare && nat_lt kept (2 ^ 63)
