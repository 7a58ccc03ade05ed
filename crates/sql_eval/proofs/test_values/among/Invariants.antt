use Rattle.std.proofs.Common.{◌≡◌, drop, map}
use Rattle.event_schema.specs.Rows.{first_values}
use Rattle.sql_lang.specs.Meaning as meaning
use Rattle.sql_lang.specs.View.{operand_view, side_view}
use Rattle.sql_eval.specs.View.{truth_view}
use Rattle.sql_eval.proofs.test_values.among.Given as goal

abbrev pub invariant-loop-value : goal.invariant-loop-value
invariant-loop-value l =
    meaning.either (truth_view l.found) (meaning.among (side_view l.left).collate (meaning.operand_value (first_values l.event.values) (side_view l.left).operand) (map (meaning.operand_value (first_values l.event.values)) (map operand_view (drop l.value-index l.values))))
    ≡ meaning.among (side_view l.left).collate (meaning.operand_value (first_values l.event.values) (side_view l.left).operand) (map (meaning.operand_value (first_values l.event.values)) (map operand_view l.values))
