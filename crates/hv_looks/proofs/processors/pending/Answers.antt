use Rattle.std.proofs.Common.{List, Option, Some, None, ap, refl, subst, sym, ℕ, ◌≡◌, ◌∙◌, option_map}
use Rattle.hv_defs.specs.Vectors.{VectorSet}
use Rattle.hv_machine.specs.Access.{access_event}
use Rattle.hv_mail.specs.Words.{numbers_of}
use Rattle.hv_policy.specs.declared.event.Access.TheVariants.{TakeInterrupt}
use Rattle.hv_looks.specs.Look.{ShowsServed, highest_of, pending_seen}
use Rattle.hv_looks.proofs.LooksAsAccesses.{pending_served}
use Rattle.hv_looks.proofs.processors.pending.Goals as goal

twice : (words : Option (List ℕ)) → option_map highest_of (option_map numbers_of words) ≡ option_map (λ words. highest_of (numbers_of words)) words
twice None = refl
twice (Some words) = refl

pub returns-clause-served : goal.returns-clause-served
returns-clause-served g c f flat =
    subst (λ (shown : Option (List ℕ)). ShowsServed {A = g.row.A.Denot} f (access_event c.args.of TakeInterrupt) shown)
    (ap (option_map highest_of) (sym (c.pending_in.ensures f (c.tree_of.ensures.tied f flat))) ∙ twice c.pending_in.result)
    (pending_served g.row.A.Denot f c.args.of)
