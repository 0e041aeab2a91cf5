use Rattle.std.proofs.Common.{rules, ◌≡◌, ℕ, ◌<◌, ◌+◌, Some, ◌∙◌, ap, arith, length, refl, slice_get, sym}
use Rattle.std.proofs.lemmas.Option.{same_Some}
use borrow.Author.Count.{below_more}
use Rattle.hv_history.proofs.Rows.{entry_at}
use Rattle.hv_history.specs.History.{entries}
use Rattle.hv_history.specs.Row.{asking, head_at}
use Rattle.hv_history.proofs.row.History.common.Goals as goal
use Rattle.hv_history.proofs.row.History.common.Goals.{else-ne-via-then-ne+else-not-are_alike, else-ne-via-else-ne}

pub loop-i-preserved : goal.loop-i-preserved
loop-i-preserved g c =
    let h = c.args.self.now in
    let o = c.args.other.now in
    let l = c.loop-i in
    let one = c.index.result.now in
    let two = c.index-in-loop-i.result.now in
    let here = c.requires.here in
    let there = c.requires.there in
    let test = c.loop-i-test.true in
    let own_less : c.args.at + l.i < length (entries h) = omega arith in
    let their_less : c.args.place + l.i < length (entries o) = omega arith in
    let own = entry_at h.heads.items h.outputs.items h.rows.items (c.args.at + l.i) one own_less c.index.ensures in
    let theirs = entry_at o.heads.items o.outputs.items o.rows.items (c.args.place + l.i) two their_less c.index-in-loop-i.ensures in
    let same : slice_get (entries h) (c.args.at + l.i) ≡ slice_get (entries o) (c.args.place + l.i) = own ∙ ap Some (c.if-not-is_row_of.ensures.0 refl) ∙ sym theirs in
    let alike : asking (head_at h.heads.items one.head) 0 ≡ asking (head_at o.heads.items two.head) 0 =
    elim c.else-ne.branch [
      | else-ne-via-then-ne+else-not-are_alike w ↦ search rules
      | else-ne-via-else-ne w ↦ search rules
    ] in
    record {
      same = below_more (λ (k : ℕ). slice_get (entries h) (c.args.at + k) ≡ slice_get (entries o) (c.args.place + k)) l.i l.invariant.same same;
      alike = λ a b is.
          let pair = same_Some (one.head, two.head) (a, b) is in
          ap (λ (p : ℕ × ℕ). asking (head_at h.heads.items p.0) 0) (sym pair) ∙ alike ∙ ap (λ (p : ℕ × ℕ). asking (head_at o.heads.items p.1) 0) pair;
    }
