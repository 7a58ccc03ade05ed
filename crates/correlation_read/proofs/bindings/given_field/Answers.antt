use Rattle.std.proofs.Common.{◌∙◌, sym, ap}
use Rattle.correlation_read.specs.Binding.{given_field, is_rule}
use Rattle.correlation_read.proofs.Positions.{find_here, find_on}
use Rattle.correlation_read.proofs.bindings.given_field.Goals as goal

pub returns-then-equals : goal.returns-then-equals
returns-then-equals c =
    sym (ap (given_field c.args.name.now) (
    c.loop-entry.invariant
    ∙ find_here (is_rule c.args.rule.now) c.loop-entry.entry-index c.args.entries.now c.entry-item.result c.loop-entry-test.true c.entry-item.is
    (sym c.equals.ensures ∙ c.if-equals.true)))

pub loop-entry-preserved : goal.loop-entry-preserved
loop-entry-preserved c =
    c.loop-entry.invariant
    ∙ find_on (is_rule c.args.rule.now) c.loop-entry.entry-index c.args.entries.now c.entry-item.result c.loop-entry-test.true c.entry-item.is
    (sym c.equals.ensures ∙ c.if-equals.false)
