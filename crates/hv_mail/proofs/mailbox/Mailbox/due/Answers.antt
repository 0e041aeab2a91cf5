use Rattle.std.proofs.Common.{◌≡◌, ℕ, ◌&&◌, Bool, nat_lt, inl, inr, sym, ap, ◌∙◌, arith, le-ltb, lt-ltb}
use Rattle.std.proofs.lemmas.Bool.{cases_lt}
use Rattle.hv_mail.proofs.PartitionRelation.{keep_more, no_bit_above, none_set, rest_keeps, set_more}
use Rattle.hv_mail.specs.Mail.{at, has_next}
use Rattle.hv_mail.proofs.mailbox.Mailbox.due.Goals as goal
use Rattle.hv_mail.proofs.mailbox.Mailbox.due.Goals.{then-is_due, else-is_due}

pub loop-sint-init : goal.loop-sint-init
loop-sint-init g c k low = none_set (λ n. has_next (at c.args.self.now.mail n)) k

pub loop-sint-preserved : goal.loop-sint-preserved
loop-sint-preserved g c k low =
    let sint = c.loop-sint.sint in
    let test : ℕ → Bool = λ n. has_next (at c.args.self.now.mail n) in
    elim c.if-is_due.branch [
      | then-is_due w ↦ rw w.due-is (set_more test c.loop-sint.due sint c.loop-sint-test.true c.loop-sint.invariant (sym c.is_due.ensures
          ∙ w.if-is_due.true) k low)
      | else-is_due w ↦ rw w.due-is (keep_more test c.loop-sint.due sint c.loop-sint-test.true c.loop-sint.invariant (sym c.is_due.ensures
          ∙ w.if-is_due.false) k low)
    ]

pub returns-then-not-is_busy_from : goal.returns-then-not-is_busy_from
returns-then-not-is_busy_from g c k =
    let test : ℕ → Bool = λ n. has_next (at c.args.self.now.mail n) in
    let none = c.is_busy_from.ensures.none c.if-not-is_busy_from.true in
    elim (cases_lt k 16) [
      | inl low ↦ rest_keeps test c.loop-sint.due c.loop-sint.sint c.loop-sint.invariant none k low ∙ sym (ap (λ b. b && test k) (lt-ltb k 16 low))
      | inr past ↦ no_bit_above c.loop-sint.due k (omega arith) past ∙ sym (ap (λ b. b && test k) (le-ltb k 16 past))
    ]

pub returns : goal.returns
returns g c k =
    let last : c.loop-sint.sint ≡ 16 = omega arith in
    elim (cases_lt k 16) [
      | inl low ↦ c.loop-sint.invariant k low ∙ ap (λ n. nat_lt k n && has_next (at c.args.self.now.mail k)) last
      | inr past ↦ no_bit_above c.loop-sint.due k (omega arith) past ∙ sym (ap (λ b. b && has_next (at c.args.self.now.mail k)) (le-ltb k 16 past))
    ]
