use Rattle.std.proofs.Common.{◌∙◌, ◌++◌, codes, refl, sym, subst, List, ℕ}
use Rattle.hv_trace.proofs.JoinedMembers.{one_member_more}
use Rattle.hv_words.specs.Words.{IsQuotable}
use Rattle.hv_trace.proofs.members.Members.add.Goals as goal

pub invariant_of-self : goal.invariant_of-self
invariant_of-self c =
    let value : List ℕ = c.args.mark.now ++ c.args.value.now ++ c.args.mark.now in
    let own : List ℕ = codes "\"" ++ c.as_slice-2.result.now ++ codes "\":" ++ value in
    let name = subst IsQuotable (sym c.as_slice-2.ensures.bytes) c.as_slice-2.ensures.quotable in
    one_member_more c.self.inside.text.items c.in-Ok.text.items own c.is_empty.result c.self.invariant c.is_empty.ensures
    (c.in-Ok.ensures ∙ (λ i. c.as_slice.ensures.value i ++ c.comma-comma.ensures i ++ own)) (c.as_slice-2.result.now, value, name, c.requires, refl)
