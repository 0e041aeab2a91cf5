use Rattle.std.proofs.Common.{◌≡◌, ◌∙◌, true, ap, ap₂}
use Rattle.std.proofs.lemmas.Result.{IfOk-weaker}
use Rattle.clap.specs.Simple.{app_of_fields}
use Rattle.clap.specs.Words.{App, app_of, with_subcommand}
use Rattle.hv_options.specs.Options.{bare_line}
use Rattle.hv_options.proofs.command_line.command.Goals as goal

abbrev needing : App → App
needing a = record a { top = record a.top { subcommand_required = true } }

abbrev versioned : App → App
versioned a = record a { top = record a.top { has_version = true } }

pub returns : goal.returns
returns c =
    let bare_is : app_of c.subcommand_required.result ≡ bare_line =
    ap app_of_fields c.subcommand_required.ensures ∙ ap needing (ap app_of_fields c.about.ensures
    ∙ ap app_of_fields c.version.ensures ∙ ap versioned c.new.ensures.app) in
    IfOk-weaker c.subcommand.result _ _ (λ m h. h.shape c.in_ok-run.ensures.local ∙ ap₂ with_subcommand bare_is (ap (λ (a : App). a.top) c.in_ok-run.ensures.shape)) c.subcommand.ensures
