-- What a partition has, in the flat state, and in the tree's row of the partition.
use Rattle.std.specs.Prelude.{ℕ, ◌&&◌, Bool, true, false, nat_lt, List}
use Rattle.std.specs.FinMap as map
use Rattle.std.specs.FinSet as set
use Rattle.hv_partition.specs.Partition.{PartitionState, pages_in}
use Rattle.hv_partition.specs.declared.kind.PageKind.{PageKind}
use Rattle.hv_partition.specs.declared.kind.PageKind.TheVariants.{Loose, Pooled}
use Rattle.hv_policy.specs.Flat.{Flat}
use Rattle.hv_admit.specs.Tie.{is_held}
use Rattle.hv_embed.specs.declared.layout.TheConstants.{FIRST}
use Rattle.hv_embed.specs.declared.next.Links.{Links}
use Rattle.hv_embed.specs.declared.next.Links.TheVariants.{Ports, Connections}

-- whether a partition has a processor with this index. No index is `FIRST` or above
abbrev pub is_vp : Flat → (part index : ℕ) → Bool
is_vp f part index = nat_lt index FIRST && map.contains_key f.vp (part, index)

-- whether a partition has a port, or a connection, with this id
abbrev pub is_link : Links → Flat → (part id : ℕ) → Bool
is_link Ports f part id = map.contains_key f.port (part, id)
is_link Connections f part id = map.contains_key f.conn (part, id)

-- whether a partition has a page in its pool (`true`), or loose (`false`)
abbrev pub is_page : Flat → (part : ℕ) → Bool → (page : ℕ) → Bool
is_page f part pooled page = is_held part pooled (map.get f.page page)

-- the same of the tree's row of a partition
abbrev pub has_vp : PartitionState → ℕ → Bool
has_vp p index = nat_lt index FIRST && map.contains_key p.vps.vps index

abbrev pub has_id : Links → PartitionState → ℕ → Bool
has_id Ports p id = map.contains_key p.ports.rows id
has_id Connections p id = map.contains_key p.conns.rows id

abbrev pub holds : PageKind → PartitionState → ℕ → Bool
holds kind p page = set.contains (pages_in kind p).pages page

abbrev pub is_held_by : PartitionState → Bool → ℕ → Bool
is_held_by p true page = holds Pooled p page
is_held_by p false page = holds Loose p page

-- the ids of its ports or connections, in rising order
abbrev pub ids_of : Links → PartitionState → List ℕ
ids_of Ports p = map.keys p.ports.rows
ids_of Connections p = map.keys p.conns.rows

-- whether pages of a kind are pooled
abbrev pub is_pooled : PageKind → Bool
is_pooled Loose = false
is_pooled Pooled = true
