use Rattle.std.proofs.Common.{◌≡◌, ◌∙◌, ap, ap₂}
use Rattle.std.proofs.lemmas.Result.{IfOk-weaker}
use Rattle.clap.specs.Simple.{app_of_fields}
use Rattle.clap.specs.Words.{app_of, with_rule}
use Rattle.hv_options.proofs.command_line.run_command.Goals as goal

pub returns-clause-shape : goal.returns-clause-shape
returns-clause-shape c =
    let named_is : app_of c.after_help.result ≡ app_of c.new.result = ap app_of_fields c.after_help.ensures ∙ ap app_of_fields c.about.ensures in
    IfOk-weaker c.arg-3.result _ _ (λ m h. h.shape c.table_flag.ensures.local
    ∙ ap₂ with_rule (c.in_ok-arg-2.ensures.shape c.serial_flag.ensures.local
    ∙ ap₂ with_rule (c.in_ok-arg.ensures.shape c.script_argument.ensures.local
    ∙ ap₂ with_rule (named_is ∙ c.new.ensures.app) c.script_argument.ensures.rule) c.serial_flag.ensures.rule) c.table_flag.ensures.rule) c.arg-3.ensures
