use Rattle.std.proofs.Common.{◌+◌, drop, List}
use Rattle.event_schema.specs.declared.schema.Field.{Field}
use Rattle.sql_check.proofs.Literals.{operands_go, operands_end, next_literal}
use Rattle.sql_check.proofs.asked_tests.operands.Goals as goal

pub loop-literal-preserved : goal.loop-literal-preserved
loop-literal-preserved c =
    let at = c.loop-literal in
    λ (fields : List Field). operands_go fields at.values.items c.push.new.self.items (drop at.literal-index c.args.literals.now) (drop (at.literal-index + 1) c.args.literals.now) c.literal-item.result
    c.in_ok-literal_operand.field-0 _ (next_literal c.args.literals.now at.literal-index c.literal-item.result c.loop-literal-test.true c.literal-item.is) (at.invariant fields)
    (c.in_ok-literal_operand.ensures.ok fields) c.in_ok-push.ensures.items

pub returns-clause-ok : goal.returns-clause-ok
returns-clause-ok c =
    let at = c.loop-literal in
    λ (fields : List Field). operands_end fields at.values.items c.args.literals.now at.literal-index _ c.loop-literal-test.false (at.invariant fields)
