use Rattle.event_schema.specs.Rows.{field_values, first_value}
use Rattle.tests_of_queries.proofs.OnePattern.{found_or_not}
use Rattle.tests_of_queries.proofs.small.ReadySelector.law.Goals as goal

pub returns : goal.returns
returns c = λ pattern row. found_or_not pattern (first_value (field_values row 0))
