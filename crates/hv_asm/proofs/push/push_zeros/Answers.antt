use Rattle.std.proofs.Common.{◌≡◌, ◌∙◌, Ok, List, ℕ, ap, arith, rules, subst, take}
use Rattle.std.specs.Prelude.{replicate}
use Rattle.std.proofs.lemmas.List.{take-replicate}
use Rattle.hv_asm.specs.Made.{IsPushed}
use Rattle.hv_asm.proofs.push.push_zeros.Goals as goal

pub returns : goal.returns
returns c =
    let same : c.from.result ≡ c.args.count = search rules in
    subst (λ (l : List ℕ). IsPushed c.push_bytes.result c.args.list.now.items c.push_bytes.new.list.items (Ok l))
    (ap (λ (n : ℕ). take n (replicate 255 0)) same ∙ take-replicate c.args.count 255 0 (omega arith)) c.push_bytes.ensures
