use Rattle.std.proofs.Common.{◌≡◌, ◌++◌, drop, map, List}
use Rattle.event_schema.specs.declared.schema.Field.{Field}
use Rattle.sql_lang.specs.Expression.{literal_operand}
use Rattle.sql_parse.specs.View.{literals_view}
use Rattle.sql_lang.specs.View.{operand_view}
use Rattle.sql_check.proofs.asked_tests.operands.Given as goal

abbrev pub invariant-loop-literal : goal.invariant-loop-literal
invariant-loop-literal l = (fields : List Field) → map operand_view l.values.items ++ map (literal_operand fields) (literals_view (drop l.literal-index l.literals))
    ≡ map (literal_operand fields) (literals_view l.literals)
