use Rattle.std.proofs.Common.{◌∙◌, ap}
use Rattle.hv_defs.specs.Flags.{flag_bytes}
use Rattle.hv_mail.proofs.FlagBytes.{flag_bytes-words}
use Rattle.hv_mail.proofs.flags.Flags.read.Goals as goal

pub returns : goal.returns
returns c =
    rw c.from.ensures at c.copy_words.ensures ∙ flag_bytes-words c.self.inside.words c.args.sint ∙ ap (λ flags. flag_bytes flags c.args.sint) c.self.view_is
