use Rattle.std.proofs.Common.{◌≡◌, ℕ, ◌+◌, List, [], ◌∷◌, ◌++◌, codes, decimal, map, is_some, length, sym, append_assoc, append-nil, ap, arith}
use Rattle.std.proofs.lemmas.List.{drop_all, length-map}
use Rattle.std.proofs.lemmas.Result.{err_from_is_err_and, on_ok_weaker}
use Rattle.std.specs.FinMap.{entries}
use Rattle.hv_partition.specs.Partition.{PartitionState}
use Rattle.hv_tree.specs.Rows.{Row, Rows}
use Rattle.hv_text.specs.Rows.{pages_in, pages_of, row_line, rows_text}
use Rattle.hv_text.specs.Table.{partition_text, text_of}
use Rattle.hv_text.proofs.Rows.{row-of}
use Rattle.hv_text.proofs.WrittenText.{drop-at, sent-all, sent-none}
use Rattle.hv_text.proofs.table_text.put_rows.Goals as goal

-- the next line, and what is left after it
opened : (tree : Rows PartitionState) (es rest : List (ℕ × Row PartitionState)) (e : ℕ × Row PartitionState) (pages next : ℕ) (line : List ℕ) → es ≡ e ∷ rest → next ≡ pages_of e.1.1
    → line ≡ partition_text e.0 (row_line tree e).1.0 (row_line tree e).1.1 ++ codes "\n"
    → text_of (map (row_line tree) es) (pages + pages_in es) ≡ line ++ text_of (map (row_line tree) rest) (pages + next + pages_in rest)
unfolding text_of
opened tree es rest e pages next line is count shown =
    let sum : pages + (pages_of e.1.1 + pages_in rest) ≡ pages + next + pages_in rest = omega arith in
    rw (is, shown) (rw sum (simp append_assoc))

-- the last line, and nothing after it
closed : (tree : Rows PartitionState) (es : List (ℕ × Row PartitionState)) (pages : ℕ) (line : List ℕ) → es ≡ [] → line ≡ codes "pages " ++ decimal pages ++ codes "\n"
    → text_of (map (row_line tree) es) (pages + pages_in es) ≡ line ++ []
unfolding text_of
closed tree es pages line is last =
    let none : pages + 0 ≡ pages = omega arith in
    rw (is, none, last) (sym (append-nil _))

pub loop-id-init : goal.loop-id-init
unfolding rows_text
loop-id-init g c =
    let none : 0 + pages_in (entries c.args.tree.now) ≡ pages_in (entries c.args.tree.now) = omega arith in
    record { sent = rw none (sent-none _ _); few = omega arith; most = omega arith }

pub set_row-pages-requires : goal.set_row-pages-requires
set_row-pages-requires g c = ap is_some (row-of c.args.tree.now c.args.ids.now c.loop-id.id-index c.requires c.loop-id-test.true).2

pub loop-id-preserved : goal.loop-id-preserved
loop-id-preserved g c =
    let tree = c.args.tree.now in
    let row = row-of tree c.args.ids.now c.loop-id.id-index c.requires c.loop-id-test.true in
    let next = opened tree _ _ _ c.loop-id.pages _ _ (drop-at (entries tree) _ _ row.1) (c.set_row-pages.ensures.pages row.0 row.2) (c.set_row-pages.ensures.text row.0 row.2) in
    record {
      sent = c.in_ok-put.ensures.ok _ _ _ (rw next at c.loop-id.invariant.sent);
      few = omega (arith, c.loop-id.invariant.few, c.put.ensures.few);
      most = omega (arith, c.loop-id.invariant.most, c.set_row-pages.ensures.few);
    }

pub returns-in_err-put-clause-cut : goal.returns-in_err-put-clause-cut
returns-in_err-put-clause-cut g c =
    let tree = c.args.tree.now in
    let row = row-of tree c.args.ids.now c.loop-id.id-index c.requires c.loop-id-test.true in
    let next = opened tree _ _ _ c.loop-id.pages _ _ (drop-at (entries tree) _ _ row.1) (c.set_row-pages.ensures.pages row.0 row.2) (c.set_row-pages.ensures.text row.0 row.2) in
    let p = err_from_is_err_and c.from_residual.result c.from_residual.ensures.1 in
    rw (p.1, p.2) (c.in_err-put.ensures.cut _ _ _ (rw next at c.loop-id.invariant.sent))

pub returns-clause-ok : goal.returns-clause-ok
returns-clause-ok g c =
    let past = drop_all c.loop-id.id-index (entries c.args.tree.now) (omega (arith, ap length c.requires, length-map (entries c.args.tree.now) (λ e. e.0))) in
    let line = rw (c.push_wide.ensures.text, c.push_text.ensures, c.clear.ensures) at c.push_text-2.ensures in
    on_ok_weaker c.put-2.result (sent-all _ _ _ _) (c.put-2.ensures.ok _ _ [] (rw (closed c.args.tree.now _ c.loop-id.pages _ past line) at c.loop-id.invariant.sent))

pub returns-clause-cut : goal.returns-clause-cut
returns-clause-cut g c =
    let past = drop_all c.loop-id.id-index (entries c.args.tree.now) (omega (arith, ap length c.requires, length-map (entries c.args.tree.now) (λ e. e.0))) in
    let line = rw (c.push_wide.ensures.text, c.push_text.ensures, c.clear.ensures) at c.push_text-2.ensures in
    c.put-2.ensures.cut _ _ [] (rw (closed c.args.tree.now _ c.loop-id.pages _ past line) at c.loop-id.invariant.sent)
