use Rattle.std.proofs.Common.{◌∙◌, ap, ap₂}
use Rattle.std.proofs.lemmas.Result.{IfOk-weaker}
use Rattle.clap.specs.Words.{App, app_of, with_subcommand}
use Rattle.hv_options.proofs.commands.with_audits.Goals as goal

-- the subcommand of a shape
abbrev joined : App → App → App
joined a sub = with_subcommand a sub.top

pub returns : goal.returns
returns c =
    IfOk-weaker c.subcommand-5.result _ _ (λ m h. h.shape c.in_ok-report.ensures.local
    ∙ ap₂ joined (c.in_ok-line-4.ensures.shape c.in_ok-trace.ensures.local
    ∙ ap₂ joined (c.in_ok-line-3.ensures.shape c.in_ok-explain.ensures.local
    ∙ ap₂ joined (c.in_ok-line-2.ensures.shape c.in_ok-check.ensures.local
    ∙ ap₂ joined (c.in_ok-line.ensures.shape c.in_ok-run.ensures.local
    ∙ ap (joined (app_of c.args.line)) c.in_ok-run.ensures.shape) c.in_ok-check.ensures.shape) c.in_ok-explain.ensures.shape)
    c.in_ok-trace.ensures.shape) c.in_ok-report.ensures.shape)
    c.subcommand-5.ensures
