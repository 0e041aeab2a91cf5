use Rattle.std.proofs.Common.{◌≡◌, ℕ, ◌<◌, ◌∙◌, ap, arith, length, subst, sym}
use Rattle.hv_policy.specs.Parts.{reply_of}
use Rattle.hv_policy.specs.declared.event.Event.{Event}
use Rattle.hv_history.proofs.Rows.{head_is, same_access, same_under}
use Rattle.hv_history.specs.Row.{asking, head_at, with_rcx}
use Rattle.hv_history.specs.declared.entry.Entry.{Entry}
use Rattle.hv_history.proofs.row.History.is_row_of.Goals as goal
use Rattle.hv_history.proofs.row.History.is_row_of.Goals.{then-one-two, else-one-two}

pub returns-then-is_access : goal.returns-then-is_access
returns-then-is_access g c =
    let heads = c.args.self.now.heads in
    let one = c.args.one.now in
    let two = c.args.two.now in
    let a = head_at heads.items one.head in
    let b = head_at c.args.other.now.heads.items two.head in
    let there = c.requires.one.head in
    let asked : asking a one.rcx ≡ asking b two.rcx =
    elim c.if-one-two.branch [
      | then-one-two w ↦ same_under a b one.rcx two.rcx c.requires.alike w.if-one-two.true
      | else-one-two w ↦
          let less : one.head < length heads.items = omega (arith, heads.ok.0) in
          let here = head_is heads.items one.head w.index.result.now less w.index.ensures in
          let access = subst (λ (e : Event g.row.A.Denot). (rcx : ℕ) → with_rcx e.what rcx ≡ e.what) (sym here) (w.is_access.ensures.access (sym w.value-is ∙ c.if-is_access.true)) in
          same_access a b one.rcx two.rcx c.requires.alike access
    ] in
    let own = c.output_of.ensures in
    let theirs = c.output_of-then-is_access.ensures in (
      λ t. let reply = ap (reply_of one.answer) (sym own) ∙ c.are_equal_replies.ensures.0 t ∙ ap (reply_of two.answer) theirs in λ i. record { event = asked i; reply = reply i },
      λ same. c.are_equal_replies.ensures.1 (ap (reply_of one.answer) own ∙ ap (λ (e : Entry g.row.A.Denot). e.reply) same ∙ ap (reply_of two.answer) (sym theirs)),
    )
