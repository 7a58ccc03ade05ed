use Rattle.std.proofs.Common.{◌∙◌, ap}
use Rattle.schema_index.specs.Numbers.{number_of}
use Rattle.correlation_read.specs.Binding.{alias_field}
use Rattle.correlation_read.proofs.Positions.{mapped_more}
use Rattle.correlation_read.proofs.bindings.numbers_for.Goals as goal

pub loop-alias-preserved : goal.loop-alias-preserved
loop-alias-preserved c =
    let fields = c.args.fields.now in
    mapped_more (λ a. number_of fields (alias_field c.args.rule.now a)) c.loop-alias.alias-index c.args.aliases.now c.alias-item.result
    c.loop-alias.all.items c.push.new.self.items c.find.result c.loop-alias-test.true c.alias-item.is c.loop-alias.invariant
    (c.find.ensures ∙ ap (number_of fields) c.alias_field.ensures) c.in_ok-push.ensures.items
