-- The blocks of partitions, one after another.
use Rattle.std.proofs.Common.{
  ◌≡◌,
  ℕ,
  zero,
  suc,
  ◌+◌,
  ◌≤◌,
  List,
  [],
  ◌∷◌,
  ◌++◌,
  All,
  length,
  map,
  refl,
  sym,
  ap,
  ◌∙◌,
  subst,
  arith,
  append-nil,
  append_assoc,
  drop,
  slice_get,
  Option,
  None,
  Some,
  is_some,
}
use Rattle.std.specs.FinMap.{entries, get, keys}
use Rattle.std.specs.Option.{IsSome, option_map_or}
use Rattle.std.proofs.lemmas.List.{drop_all}
use Rattle.std.proofs.lemmas.List.Elements.{All-from_get_or}
use Rattle.std.proofs.lemmas.Option.{none-some, same_Some}
use Rattle.hv_partition.specs.Partition.{PartitionState}
use Rattle.hv_tree.specs.Rows.{HasDepth, Row, Rows, children}
use Rattle.hv_text.proofs.Rows.{entry-found, row-of}
use Rattle.hv_draw.specs.Graph.{AreBlocks, HasBlock, HasBlocks, edge_text, fill_text, name_text, node_text, opening_text, pages_text, rank_text, rows_in, use_text}

dropped : {X : Type 0} (xs : List X) (i : ℕ) (x : X) → slice_get xs i ≡ Some x → drop i xs ≡ x ∷ drop (i + 1) xs
dropped [] i x is = absurd (none-some x is)
dropped (y ∷ ys) zero x is = ap (λ z. z ∷ ys) (same_Some y x is)
dropped (y ∷ ys) (suc i) x is =
    let at : suc (i + 1) ≡ suc i + 1 = omega arith in
    dropped ys i x is ∙ ap (λ l. x ∷ l) (ap (λ (n : ℕ). drop n (y ∷ ys)) at)

-- an id with a row stands before the others
first_row : (tree : Rows PartitionState) (id : ℕ) (row : Row PartitionState) (ids : List ℕ) → get tree id ≡ Some row → rows_in tree (id ∷ ids) ≡ (id, row) ∷ rows_in tree ids
first_row tree id row ids is = ap (λ (o : Option (Row PartitionState)). option_map_or (λ row. (id, row) ∷ rows_in tree ids) o (rows_in tree ids)) is

-- the blocks so far were added, and those of the ids that are left decide of all
pub record AreSoFar (tree : Rows PartitionState) (ids : List ℕ) (i : ℕ) (old now : List ℕ) : Type 0 where
  pub own : List ℕ
  pub added : now ≡ old ++ own
  pub decides : (rest : List ℕ) → AreBlocks tree (rows_in tree (drop i ids)) rest → AreBlocks tree (rows_in tree ids) (own ++ rest)

pub none_yet : (tree : Rows PartitionState) (ids text : List ℕ) → AreSoFar tree ids 0 text text
none_yet tree ids text = record { own = []; added = sym (append-nil text); decides = λ rest are. are }

pub one_more : (tree : Rows PartitionState) (ids : List ℕ) (i id : ℕ) (row : Row PartitionState) (old now new : List ℕ) → AreSoFar tree ids i old now → slice_get ids i ≡ Some id
    → get tree id ≡ Some row → HasBlock tree (id, row) now new → AreSoFar tree ids (i + 1) old new
one_more tree ids i id row old now new at is is_row has = record {
  own = at.own ++ has.own;
  added = has.added ∙ ap (λ (l : List ℕ). l ++ has.own) at.added ∙ append_assoc old at.own has.own;
  decides = λ rest are.
      let here : AreBlocks tree ((id, row) ∷ rows_in tree (drop (i + 1) ids)) (has.own ++ rest) = (has.own, rest, refl, has.block, are) in
      let all : rows_in tree (drop i ids) ≡ (id, row) ∷ rows_in tree (drop (i + 1) ids) = ap (rows_in tree) (dropped ids i id is) ∙ first_row tree id row (drop (i + 1) ids) is_row in
      subst (AreBlocks tree (rows_in tree ids)) (sym (append_assoc at.own has.own rest)) (at.decides (has.own ++ rest) (subst (λ es. AreBlocks tree es (has.own ++ rest)) (sym all) here));
}

pub all_of_them : (tree : Rows PartitionState) (ids : List ℕ) (i : ℕ) (old now : List ℕ) → AreSoFar tree ids i old now → length ids ≤ i → HasBlocks tree (rows_in tree ids) old now
all_of_them tree ids i old now at le = record {
  own = at.own;
  blocks =
      subst (AreBlocks tree (rows_in tree ids)) (append-nil at.own) (at.decides [] (subst (λ ids. AreBlocks tree (rows_in tree ids) []) (sym (drop_all i ids le)) refl));
  added = at.added;
}

-- the row of an id that has one
pub row_of : (tree : Rows PartitionState) (id : ℕ) → IsSome (get tree id) → (row : Row PartitionState) × (get tree id ≡ Some row)
row_of tree id is = by (get tree id) refl is
  where
    by : (o : Option (Row PartitionState)) → get tree id ≡ o → IsSome o → (row : Row PartitionState) × (get tree id ≡ Some row)
    by None at some = absurd (cc)
    by (Some row) at some = (row, at)

-- the rows of all ids are all rows
found_again : (tree : Rows PartitionState) (es : List (ℕ × Row PartitionState)) → ((i : ℕ) (e : ℕ × Row PartitionState) → slice_get es i ≡ Some e → get tree e.0 ≡ Some e.1)
    → rows_in tree (map (λ e. e.0) es) ≡ es
found_again tree [] found = refl
found_again tree (e ∷ es) found =
    first_row tree e.0 e.1 (map (λ e. e.0) es) (found 0 e refl) ∙ ap (λ l. (e.0, e.1) ∷ l) (found_again tree es (λ i d is. found (suc i) d is))

pub all_rows : (tree : Rows PartitionState) → rows_in tree (keys tree) ≡ entries tree
all_rows tree = found_again tree (entries tree) (entry-found tree)

-- each key has a row
pub all_there : (tree : Rows PartitionState) (ids : List ℕ) → ids ≡ keys tree → All (λ id. IsSome (get tree id)) ids
all_there tree ids is = All-from_get_or (λ id. IsSome (get tree id)) ids 0 (λ i lt. ap is_some (row-of tree ids i is lt).2)

-- three and four parts behind a text
pub three : (t0 t1 t2 t3 a b c : List ℕ) → t1 ≡ t0 ++ a → t2 ≡ t1 ++ b → t3 ≡ t2 ++ c → t3 ≡ t0 ++ (a ++ b ++ c)
three t0 t1 t2 t3 a b c e1 e2 e3 =
    e3 ∙ ap (λ (l : List ℕ). l ++ c) (e2 ∙ ap (λ (l : List ℕ). l ++ b) e1 ∙ append_assoc t0 a b) ∙ append_assoc t0 (a ++ b) c

pub four : (t0 t1 t2 t3 t4 a b c d : List ℕ) → t1 ≡ t0 ++ a → t2 ≡ t1 ++ b → t3 ≡ t2 ++ c → t4 ≡ t3 ++ d → t4 ≡ t0 ++ (a ++ b ++ c ++ d)
four t0 t1 t2 t3 t4 a b c d e1 e2 e3 e4 =
    e4 ∙ ap (λ (l : List ℕ). l ++ d) (three t0 t1 t2 t3 a b c e1 e2 e3) ∙ append_assoc t0 (a ++ b ++ c) d

-- nine parts behind a text
parts : (old a b c d e f g h i : List ℕ) → old ++ a ++ b ++ c ++ d ++ e ++ f ++ g ++ h ++ i ≡ old ++ ((a ++ b ++ c ++ d ++ e ++ f ++ g) ++ (h ++ i))
parts [] a b c d e f g h i = append_assoc (a ++ b ++ c ++ d ++ e ++ f ++ g) h i
parts (x ∷ old) a b c d e f g h i = ap (λ (l : List ℕ). x ∷ l) (parts old a b c d e f g h i)

-- a block is its edge, its node, what is inside and its end
module _ (tree : Rows PartitionState) (id depth : ℕ) (row : Row PartitionState) (inside end t0 t1 t2 t3 t4 t5 t6 t7 t8 t9 : List ℕ) where
  pub block_of : HasDepth tree id depth → t1 ≡ t0 ++ edge_text row.0 id → t2 ≡ t1 ++ opening_text id → t3 ≡ t2 ++ name_text id row.1 → t4 ≡ t3 ++ rank_text depth row.1
      → t5 ≡ t4 ++ pages_text row.1 → t6 ≡ t5 ++ use_text (length (children tree id)) row.1 → t7 ≡ t6 ++ fill_text row.1 → t8 ≡ t7 ++ inside → t9 ≡ t8 ++ end → HasBlock tree (id, row) t0 t9
  block_of deep e1 e2 e3 e4 e5 e6 e7 e8 e9 = record {
    own = node_text id depth (length (children tree id)) row ++ (inside ++ end);
    block = record { depth = depth; is_depth = deep; more = inside ++ end; all = refl };
    added = e9 ∙ ap (λ (l : List ℕ). l ++ end) (e8 ∙ ap (λ (l : List ℕ). l ++ inside) (e7 ∙ ap (λ (l : List ℕ). l ++ fill_text row.1) (e6
        ∙ ap (λ (l : List ℕ). l ++ use_text (length (children tree id)) row.1) (e5
        ∙ ap (λ (l : List ℕ). l ++ pages_text row.1) (e4
        ∙ ap (λ (l : List ℕ). l ++ rank_text depth row.1) (e3
        ∙ ap (λ (l : List ℕ). l ++ name_text id row.1) (e2
        ∙ ap (λ (l : List ℕ). l ++ opening_text id) e1)))))))
        ∙ parts t0 (edge_text row.0 id) (opening_text id) (name_text id row.1) (rank_text depth row.1) (pages_text row.1) (use_text (length (children tree id)) row.1) (fill_text row.1) inside end;
  }
