use Rattle.std.proofs.Common.{◌∙◌, ap, ap₂}
use Rattle.std.proofs.lemmas.Result.{IfOk-weaker}
use Rattle.clap.specs.Words.{App, app_of, with_subcommand}
use Rattle.hv_options.proofs.commands.with_others.Goals as goal

-- the subcommand of a shape
abbrev joined : App → App → App
joined a sub = with_subcommand a sub.top

pub returns : goal.returns
returns c =
    IfOk-weaker c.subcommand-3.result _ _ (λ m h. h.shape c.in_ok-asm.ensures.local
    ∙ ap₂ joined (c.in_ok-line-2.ensures.shape c.in_ok-draw.ensures.local
    ∙ ap₂ joined (c.in_ok-line.ensures.shape c.in_ok-serve.ensures.local
    ∙ ap (joined (app_of c.args.line)) c.in_ok-serve.ensures.shape) c.in_ok-draw.ensures.shape)
    c.in_ok-asm.ensures.shape)
    c.subcommand-3.ensures
