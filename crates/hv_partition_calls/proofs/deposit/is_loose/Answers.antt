use Rattle.std.proofs.Common.{◌≡◌, ◌≤◌, inl, inr, sym, ap, ◌∙◌, rules, arith, false}
use Rattle.std.proofs.lemmas.Bool.{cases_lt}
use Rattle.hv_pages.specs.PageSet.{PagesAndRoom}
use Rattle.hv_partition.specs.Partition.{PartitionState}
use Rattle.hv_admit.proofs.FoundRow.{content_row}
use Rattle.hv_admit.proofs.StateInvariant.{beyond}
use Rattle.hv_admit.specs.Tie.{holds}
use Rattle.hv_partition_calls.proofs.PoolLookups.{loose_held}
use Rattle.hv_partition_calls.proofs.deposit.is_loose.Goals as goal

pub returns-in-Ok : goal.returns-in-Ok
returns-in-Ok g c tree f id at law flat =
    let (r, is, same) = content_row tree id c.args.partition.now (sym at) in
    let number : c.in-Ok.page ≡ c.args.page = search rules in
    let pages : c.pages.result.now.pages ≡ r.1.loose.pages = ap {A = PagesAndRoom} (λ p. p.pages) (c.pages.ensures ∙ ap {A = PartitionState} (λ p. p.loose) (sym same)) in
    c.holds.ensures ∙ rw (pages, number) (sym (loose_held tree f flat id c.args.page ∙ ap (holds false c.args.page) is))

pub returns-in-Err : goal.returns-in-Err
returns-in-Err g c tree f id at law flat =
    let bounded = law.bounded in
    let large : law.pages ≤ c.args.page = (elim (cases_lt c.args.page 4294967296) [ inl lt ↦ absurd (c.in-Err.ensures lt) | inr le ↦ omega arith ]) in
    sym (loose_held tree f flat id c.args.page ∙ beyond tree law.flat law.tied law.pages law.lawful id c.args.page false large)
