use Rattle.std.proofs.Common.{◌≡◌, ◌==◌, length, true, false, arith, rules, sym, ◌∙◌}
use Rattle.std.proofs.lemmas.Bool.Decides.{nat_tests}
use Rattle.hv_script.proofs.WordLemmas.{no_room, none_kept, put_behind}
use Rattle.hv_script.proofs.cut.keep.Goals as goal
use Rattle.hv_script.proofs.cut.keep.Goals.{then-count-lt-KEPT, else-count-lt-KEPT}

pub returns-then-is_empty-clause-kept : goal.returns-then-is_empty-clause-kept
returns-then-is_empty-clause-kept c =
    let none : (length c.args.run.now == 0) ≡ true = sym c.is_empty.ensures ∙ c.if-is_empty.true in
    none_kept c.args.first.now c.args.count c.args.run.now (search rules) (grind (arith, nat_tests, none))

pub returns-clause-kept : goal.returns-clause-kept
returns-clause-kept c =
    let full : (length c.args.run.now == 0) ≡ false = sym c.is_empty.ensures ∙ c.if-is_empty.false in
    elim c.if-count-lt-KEPT.branch [
      | then-count-lt-KEPT w ↦ rw w.first-is (put_behind c.args.first.now c.args.count c.args.run (search rules) w.if-count-lt-KEPT.true (grind (arith, nat_tests, full)))
      | else-count-lt-KEPT w ↦ rw w.first-is (no_room c.args.first.now c.args.count c.args.run.now (search rules) (omega (arith, w.if-count-lt-KEPT.false)))
    ]
