use Rattle.std.proofs.Common.{◌∙◌, ap}
use Rattle.correlation_read.specs.Sources.{group_from, numbers_for}
use Rattle.correlation_read.proofs.Positions.{mapped_more}
use Rattle.correlation_read.proofs.bindings.groups_from.Goals as goal

pub loop-rule-preserved : goal.loop-rule-preserved
loop-rule-preserved c =
    let all = c.args.all.now in
    mapped_more (λ rule. group_from all (numbers_for c.args.fields.now c.args.aliases.now rule)) c.loop-rule.rule-index c.args.rules.now c.rule-item.result
    c.loop-rule.groups c.push.new.self c.in_ok-group.group c.loop-rule-test.true c.rule-item.is c.loop-rule.invariant
    (c.in_ok-group.ensures.ok ∙ ap (group_from all) (c.deref.ensures.value ∙ c.in_ok-of_aliases.ensures.ok)) c.in_ok-push.ensures.ok
