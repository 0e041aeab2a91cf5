use Rattle.std.proofs.Common.{◌≡◌, ◌∙◌, true, ap}
use Rattle.std.proofs.lemmas.Result.{IfOk-weaker}
use Rattle.clap.specs.Simple.{app_of_fields}
use Rattle.clap.specs.Words.{App, app_of}
use Rattle.hv_options.specs.Commands.{with_audits, with_others}
use Rattle.hv_options.specs.Options.{bare_line}
use Rattle.hv_options.proofs.commands.program_line.Goals as goal

abbrev needing : App → App
needing a = record a { top = record a.top { subcommand_required = true } }

abbrev versioned : App → App
versioned a = record a { top = record a.top { has_version = true } }

pub returns : goal.returns
returns c =
    let bare_is : app_of c.subcommand_required-line.result ≡ bare_line =
    ap app_of_fields c.subcommand_required-line.ensures ∙ ap needing (ap app_of_fields c.about.ensures
    ∙ ap app_of_fields c.version.ensures ∙ ap versioned c.new.ensures.app) in
    IfOk-weaker c.with_others.result _ _ (λ m is. is ∙ ap with_others (c.in_ok-line.ensures ∙ ap with_audits bare_is)) c.with_others.ensures
