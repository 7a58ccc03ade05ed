use Rattle.std.proofs.Common.{List}
use Rattle.event_schema.specs.declared.schema.Field.{Field}
use Rattle.sql_check.proofs.Literals.{last_goes}
use Rattle.sql_check.proofs.asked_tests.listed_operands.Goals as goal

pub returns-clause-ok : goal.returns-clause-ok
returns-clause-ok c =
    λ (fields : List Field). last_goes fields _ _ _ c.in_ok-literal_operand.field-0 _ (c.in_ok-values.ensures.ok fields) (c.in_ok-literal_operand.ensures.ok fields) c.in_ok-push.ensures.items
