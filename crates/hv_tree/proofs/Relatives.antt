-- How a node that was found stands to another one, in the rows.
use Rattle.std.proofs.Common.{◌≡◌, ◌≢◌, ℕ, ◌<◌, true, false, Option, None, Some, sym, ap, ◌∙◌, refl, length, arith, option_map}
use Rattle.std.specs.FinMap.{contains_key}
use Rattle.std.specs.Vec.{vec_len}
use Rattle.std.proofs.lemmas.List.{length-map}
use Rattle.hv_tree.specs.declared.node.Branch.{Branch}
use Rattle.hv_tree.specs.declared.node.Node.{Node, out-Node}
use Rattle.hv_tree.specs.Index.{IsKept}
use Rattle.hv_tree.specs.Lines.{lines}
use Rattle.hv_tree.specs.Nest.{has_row, look}
use Rattle.hv_tree.specs.Put.{content_of}
use Rattle.hv_tree.specs.Rows.{Rows, children, content, parent}
use Rattle.hv_tree.specs.Way.{IsReached, children_of, id_of}
use Rattle.hv_tree.proofs.ChangedNode.{kids-reached}
use Rattle.hv_tree.proofs.ChildRows.{found_has}
use Rattle.hv_tree.proofs.TreeInvariant.{got, laid}
use Rattle.hv_tree.proofs.ChildrenOfRow.{count-seen}
use Rattle.hv_tree.proofs.Levels.{top-lines}
use Rattle.hv_tree.proofs.NestedRows.{nest}
use Rattle.hv_tree.proofs.TreeAsMap.{IsShown, get_none, has-seen, parent-indexed, root_top}
use Rattle.hv_tree.proofs.WayFound.{falls, has-named, lost}

module _ {T A : Type 0} {n : ℕ} {m : Rows T} (up : ℕ → Option ℕ) (b : Branch T A) (k : IsKept (lines b) n up) (s : IsShown (lines b) n m) where
  -- what a node that was found says of its row
  pub content-reached : (q : ℕ) (node : Node T A) → IsReached up q b node → content m q ≡ Some (content_of node)
  content-reached q node r = sym (got s up q b node refl r)

  pub count-reached : (q : ℕ) (node : Node T A) → IsReached up q b node → vec_len (out-Node T A node).children ≡ length (children m q)
  count-reached q node r =
      let kids = kids-reached up q b node r in
      omega (arith, (out-Node T A node).children.ok.0, ap length kids, length-map (children_of node) (λ k. id_of k.value), count-seen s q)

  pub few-reached : (q : ℕ) (node : Node T A) → IsReached up q b node → vec_len (out-Node T A node).children < 4294967296
  few-reached q node r = omega (arith, count-reached q node r, count-seen s q, k.sound.few q)

  -- what the index says of a row
  pub parent-kept : (q : ℕ) → up q ≡ parent m q
  parent-kept q = k.indexed q ∙ parent-indexed s q

  pub named-there : (q p : ℕ) → up q ≡ Some p → contains_key m q ≡ true
  named-there q p e = has-seen s q ∙ has-named up b (laid k) q p e

  pub root-there : (q : ℕ) → q ≡ id_of b → contains_key m q ≡ true
  root-there q e =
      let is = ap (λ x. option_map (λ r. r.0) (look x (lines b))) (e ∙ sym (top-lines b)) ∙ root_top (lines b) (nest b).topped in
      has-seen s q ∙ found_has q (lines b) (λ r. r.0) None (sym is)

  pub not-there : (q : ℕ) → q ≢ id_of b → up q ≡ None → contains_key m q ≡ false
  not-there q off e = has-seen s q ∙ lost up b (laid k) q off e

  -- no row is its own parent
  pub no-loop : (q : ℕ) → parent m q ≢ Some q
  no-loop q e = omega (arith, falls up b (laid k) q q (parent-kept q ∙ e))

  pub content-none : (q : ℕ) → has_row q (lines b) ≡ false → content m q ≡ None
  content-none q lacks = get_none s q (λ r. r.1) lacks
