use Rattle.std.proofs.Common.{refl, arith, sym, ap, ◌∙◌}
use Rattle.hv_defs.specs.Vectors.{without}
use Rattle.hv_mail.specs.Words.{numbers_of}
use Rattle.hv_mail.proofs.Members.{bit_within, highest_of, highest_of-none, numbers_of-remove}
use Rattle.hv_mail.proofs.pending.Pending.take_highest.Goals as goal

pub returns-in_default-clause-vector : goal.returns-in_default-clause-vector
returns-in_default-clause-vector c = rw (← c.self.view_is) (sym (highest_of-none c.self.inside.words (c.in_default.ensures.none refl)))

pub returns-in_default-clause-vectors : goal.returns-in_default-clause-vectors
returns-in_default-clause-vectors c = rw (← c.self.view_is) (sym (ap (without (numbers_of c.self.inside.words)) (highest_of-none c.self.inside.words (c.in_default.ensures.none refl))))

pub returns-clause-vector : goal.returns-clause-vector
returns-clause-vector c =
    let within = bit_within c.self.inside.words c.in-Some.at c.in-Some.ensures.some in
    rw (← c.self.view_is) (sym (highest_of c.self.inside.words c.in-Some.at (omega arith) c.in-Some.ensures.some c.in-Some.ensures.highest))

pub returns-clause-vectors : goal.returns-clause-vectors
returns-clause-vectors c =
    let within = bit_within c.self.inside.words c.in-Some.at c.in-Some.ensures.some in
    rw (← c.self.view_is)
    (numbers_of-remove c.self.inside.words c.clear_bit.new.words c.in-Some.at c.clear_bit.ensures.bits
    ∙ sym (ap (without (numbers_of c.self.inside.words)) (highest_of c.self.inside.words c.in-Some.at (omega arith) c.in-Some.ensures.some c.in-Some.ensures.highest)))
