-- The bytes of a table.
use Rattle.std.specs.Prelude.{ℕ, ◌==◌, ◌&&◌, not, List, [], ◌∷◌, ◌++◌, map, codes, decimal, count_by, Option}
use Rattle.std.specs.Prelude.{None, Some}
use Rattle.std.specs.FinMap.{entries, len}
use Rattle.hv_defs.specs.declared.life.Life.{Life}
use Rattle.hv_defs.specs.declared.life.Life.TheVariants.{Created, Active, Finalized}
use Rattle.hv_policy.specs.Count.{conn_count, in_use, pooled_count, port_count, vp_count}
use Rattle.hv_policy.specs.Flat.{Flat, PartRow}
use Rattle.hv_privs.specs.Privileges.{bits_of}
use Rattle.hv_text.specs.Audit.{hex_64}

-- the root has no parent
abbrev pub parent_text : Option ℕ → List ℕ
parent_text None = codes "-"
parent_text (Some parent) = decimal parent

abbrev pub life_text : Life → List ℕ
life_text Created = codes "Created"
life_text Active = codes "Active"
life_text Finalized = codes "Finalized"

-- the numbers of a partition's loose pages, pooled pages, pages in use, processors, ports and connections
pub record Counts : Type 0 where
  pub loose : ℕ
  pub pooled : ℕ
  pub in_use : ℕ
  pub vps : ℕ
  pub ports : ℕ
  pub conns : ℕ

-- the first part of the line of the partition with this id, up to the mask
abbrev pub head_text : ℕ → PartRow → List ℕ
head_text id row =
    codes "partition " ++ decimal id ++ codes " parent " ++ parent_text row.parent ++ codes " " ++ life_text
    row.life
    ++ codes " mask " ++ hex_64 (bits_of row.mask)

-- the counts, as they stand in that line
abbrev pub counts_text : Counts → List ℕ
counts_text counts =
    codes " loose " ++ decimal counts.loose ++ codes " pooled " ++ decimal counts.pooled ++ codes " inuse "
    ++ decimal counts.in_use
    ++ codes " vps " ++ decimal counts.vps ++ codes " ports " ++ decimal counts.ports ++ codes " connections "
    ++ decimal counts.conns

-- the whole line, without its line feed
unfoldable pub partition_text : ℕ → PartRow → Counts → List ℕ
partition_text id row counts = head_text id row ++ counts_text counts

-- a partition as a line shows it: its id, its row and its counts
abbrev pub Line : Type 0
Line = ℕ × (PartRow × Counts)

-- the lines of partitions, each with its line feed
abbrev pub lines_text : List Line → List ℕ
lines_text [] = []
lines_text (line ∷ lines) = partition_text line.0 line.1.0 line.1.1 ++ codes "\n" ++ lines_text lines

-- the lines of partitions, and then a number of pages
unfoldable pub text_of : List Line → ℕ → List ℕ
text_of lines pages = lines_text lines ++ codes "pages " ++ decimal pages ++ codes "\n"

-- the number of a partition's loose pages
abbrev pub loose_count : Flat → ℕ → ℕ
loose_count f id = count_by (λ e. (e.1.owner == id) && not e.1.pooled) (entries f.page)

-- a partition's counts, each over all rows of the state
abbrev pub counts_of : Flat → ℕ → Counts
counts_of f id = record {
  loose = loose_count f id;
  pooled = pooled_count f id;
  in_use = in_use f id;
  vps = vp_count f id;
  ports = port_count f id;
  conns = conn_count f id;
}

-- the table of a state: a line for each partition by rising id, then the number of pages
unfoldable pub table_text : Flat → List ℕ
table_text f = text_of (map (λ e. (e.0, (e.1, counts_of f e.0))) (entries f.part)) (len f.page)
