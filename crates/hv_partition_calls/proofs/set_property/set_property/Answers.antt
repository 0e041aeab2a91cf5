use Rattle.std.proofs.Common.{sym, ◌∙◌}
use Rattle.hv_partition_calls.proofs.ChangedProperties.{set_tied}
use Rattle.hv_partition_calls.proofs.set_property.set_property.Goals as goal

pub returns-else-setting : goal.returns-else-setting
returns-else-setting g c f flat is = set_tied c.args.tree.now f flat c.args.id c.give.new.tree c.args.setting.property c.args.value (sym is ∙ c.if-setting.false) c.give.ensures
