use Rattle.std.proofs.Common.{◌≡◌, ℕ, ◌+◌, ◌-◌, ◌<◌, ◌≤◌, ◌==◌, true, false, cond, sym, ap, ◌∙◌, arith, ne_eqb}
use Rattle.std.specs.Int.{bit_at}
use Rattle.std.proofs.lemmas.Nat.Bits.{shr_and_one}
use Rattle.hv_defs.specs.Registers.{takes_messages}
use Rattle.hv_mail.proofs.PartitionRelation.{no_bits_from}
use Rattle.hv_mail.specs.Mail.{all_next, at, has_next}
use Rattle.hv_vp.specs.Vp.{VpState, shown_each}
use Rattle.hv_vp.proofs.ShownMessages.{first_raised, next_raised, none_raised_from, all_raised}
use Rattle.hv_vp.proofs.vp.Vp.end_message.Goals.{then-shown-sint-eq1, else-shown-sint-eq1}
use Rattle.hv_vp.proofs.vp.Vp.end_message.Goals as goal

pub loop-sint-init : goal.loop-sint-init
loop-sint-init g c = first_raised 16 c.args.self.now _ c.advance_all-shown.new.self.mail c.self.view_is c.advance_all-shown.ensures.mail

pub loop-sint-preserved : goal.loop-sint-preserved
loop-sint-preserved g c =
    let first = c.args.self.now in
    let sint = c.loop-sint.sint in
    let bits = c.advance_all-shown.result in
    let told : (bit_at bits sint == 1) ≡ has_next (at first.mail sint) =
    c.advance_all-shown.ensures.shown sint c.loop-sint-test.true ∙ ap {A = VpState} (λ v. has_next (at v.mail sint)) c.self.view_is in
    elim c.if-shown-sint-eq1.branch [
      | then-shown-sint-eq1 w ↦
          let set : (bit_at bits sint == 1) ≡ true = ap (λ b. b == 1) (sym (shr_and_one bits sint) ∙ w.if-shown-sint-eq1.true) in
          w.self-is ∙ w.raise.ensures ∙ next_raised sint first c.loop-sint.self _ true c.loop-sint.invariant (sym set ∙ told)
      | else-shown-sint-eq1 w ↦
          let clear : (bit_at bits sint == 1) ≡ false = ne_eqb (bit_at bits sint) 1 (λ e. w.if-shown-sint-eq1.false (shr_and_one bits sint ∙ e)) in
          w.self-is ∙ next_raised sint first c.loop-sint.self _ false c.loop-sint.invariant (sym clear ∙ told)
    ]

pub returns-after-loop-sint : goal.returns-after-loop-sint
returns-after-loop-sint g c =
    let first = c.args.self.now in
    let last : c.loop-sint.sint ≡ 16 = omega arith in
    let takes : takes_messages first.registers ≡ true = sym c.ready_for_messages.ensures ∙ c.if-ready_for_messages.true in
    c.loop-sint.invariant ∙ ap (λ n. record (shown_each n first) { mail = all_next 16 first.mail }) last ∙ all_raised 16 first
    ∙ sym (ap (λ b. cond b (shown_each 16 first) first) takes)

pub returns-then-shown-sint-eq0 : goal.returns-then-shown-sint-eq0
returns-then-shown-sint-eq0 g c =
    let first = c.args.self.now in
    let sint = c.loop-sint.sint in
    let bits = c.advance_all-shown.result in
    let takes : takes_messages first.registers ≡ true = sym c.ready_for_messages.ensures ∙ c.if-ready_for_messages.true in
    let none : (k : ℕ) → sint ≤ k → k < sint + (16 - sint) → has_next (at first.mail k) ≡ false =
    λ k from to. sym (c.advance_all-shown.ensures.shown k (omega arith) ∙ ap {A = VpState} (λ v. has_next (at v.mail k)) c.self.view_is)
    ∙ ap (λ b. b == 1) (no_bits_from bits sint k c.if-shown-sint-eq0.true from) in
    none_raised_from (16 - sint) sint first c.loop-sint.self (all_next 16 first.mail) c.loop-sint.invariant none
    ∙ ap (λ n. record (shown_each n first) { mail = all_next 16 first.mail }) (omega arith) ∙ all_raised 16 first
    ∙ sym (ap (λ b. cond b (shown_each 16 first) first) takes)
