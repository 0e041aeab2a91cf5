-- A script that was run and drawn.
use Rattle.std.proofs.Common.{◌≡◌, ℕ, List, ◌++◌, length, ap, ◌∙◌, subst, IfErr, IsOk, OnOk, Option, Result, Ok, Err, Global}
use Rattle.hv_history.specs.Kept.{IsRun, Kept}
use Rattle.hv_partition.specs.Partition.{PartitionState}
use Rattle.hv_run.specs.Failure.{exit_of}
use Rattle.hv_run.specs.declared.failure.Exit.TheVariants.{Host, Script}
use Rattle.hv_run.specs.declared.failure.Failure.{Failure}
use Rattle.hv_script.specs.Script.{Said}
use Rattle.hv_admit.specs.Room.{roomless}
use Rattle.std.specs.FinMap.{keys}
use Rattle.hv_tree.specs.Rows.{Rows}
use Rattle.hv_explain.specs.First.{AreFirst, HasRun}
use Rattle.hv_draw.proofs.Blocks.{all_rows}
use Rattle.hv_draw.specs.Drawn.{HasPicture, HasState, IsGraph}
use Rattle.hv_draw.specs.Graph.{AreBlocks, HasBlocks, end_text, head_text, rows_in}
use Rattle.hv_draw.specs.declared.choice.Only.{Only}

-- the state after the lines of a script
pub drawn_of : (said : Said Global) (at : Option ℕ) (only : Option Only) (start kept : Kept Global) (old new : Option (List ℕ)) → start.config ≡ said.config → start.limit ≡ said.limit
    → HasRun at said.lines start kept → IsRun kept → HasPicture only kept old new → HasState said (AreFirst at said.lines) only old new
drawn_of said at only start kept old new config limit ran run drawn = record {
  kept = kept;
  run = run;
  config = ran.config ∙ config;
  limit = ran.limit ∙ limit;
  these = ran.order;
  drawn = drawn;
}

-- what holds in any case
pub in_any : {T E : Type 0} (r : Result T E) (P : Type 0) → P → OnOk r P
in_any (Ok value) P holds = holds
in_any (Err error) P holds = tt

-- what ended well ran and was drawn
pub both_ok : {T E S F : Type 0} (result drawn : Result T E) (ran : Result S F) (P Q R : Type 0) → OnOk result (IsOk ran) → OnOk result (IsOk drawn) → OnOk ran P → OnOk drawn Q
    → (P → Q → R) → OnOk result R
both_ok (Err e) drawn ran P Q R is_ran is_drawn p q both = tt
both_ok (Ok v) (Ok w) (Ok u) P Q R is_ran is_drawn p q both = both p q
both_ok (Ok v) (Ok w) (Err f) P Q R is_ran is_drawn p q both = cc
both_ok (Ok v) (Err f) ran P Q R is_ran is_drawn p q both = cc

-- a failure with the host's status isn't the script's
pub silent_host : {T : Type 0} (r : Result T Failure) (P : Type 0) → IfErr r (λ failure. exit_of failure ≡ Host) → IfErr r (λ failure. exit_of failure ≡ Script → P)
silent_host (Ok value) P host = tt
silent_host (Err failure) P host = λ script.
    let is : exit_of failure ≡ Host = host in
    let other : exit_of failure ≡ Script = script in
    cc

-- the graph of what is kept, with what stands behind its blocks
pub graph_of : (kept : Kept Global) (tree : Rows PartitionState) (ids : List ℕ) (count events : ℕ) (t0 t1 t2 t3 links : List ℕ) → roomless tree ≡ kept.machine.rows → ids ≡ keys tree
    → count ≡ length ids → events ≡ length kept.history → t0 ≡ head_text count → HasBlocks tree (rows_in tree ids) t0 t1 → t2 ≡ t1 ++ links → t3 ≡ t2 ++ end_text events → IsGraph kept t3
graph_of kept tree ids count events t0 t1 t2 t3 links shown are many all head has e2 e3 = record {
  tree = tree;
  shown = shown;
  blocks = has.own;
  behind = links;
  are = subst (λ es. AreBlocks tree es has.own) (ap (rows_in tree) are ∙ all_rows tree) has.blocks;
  all = e3 ∙ ap (λ (l : List ℕ). l ++ end_text events) (e2 ∙ ap (λ (l : List ℕ). l ++ links) has.added)
      ∙ ap (λ (l : List ℕ). l ++ has.own ++ links ++ end_text events) (head ∙ ap head_text (many ∙ ap length are))
      ∙ ap (λ (n : ℕ). head_text (length (keys tree)) ++ has.own ++ links ++ end_text n) all;
}
