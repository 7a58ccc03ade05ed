use Rattle.std.proofs.Common.{ℕ, ◌≡◌, ◌++◌, List, drop}
use Rattle.event_schema.specs.Rows.{first_values}
use Rattle.sql_lang.specs.Meaning as meaning
use Rattle.sql_lang.specs.View.{exprs_view}
use Rattle.sql_eval.specs.Searches.{left_of, all_patterns}
use Rattle.sql_eval.specs.View.{truth_view}
use Rattle.sql_eval.proofs.value.+value.Given as goal

abbrev pub invariant-any_value-loop-index : goal.invariant-any_value-loop-index
invariant-any_value-loop-index l = record {
  texts : l.finders.texts ≡ l.fn.finders.texts;
  value : (rest : List (List ℕ)) → left_of l.fn.finders ≡ all_patterns (exprs_view l.parts) ++ rest
      → (meaning.either (truth_view l.found) (meaning.any_value (exprs_view (drop l.index l.parts)) (first_values l.event.values)) ≡ meaning.any_value (exprs_view l.parts) (first_values l.event.values))
      × (left_of l.finders ≡ all_patterns (exprs_view (drop l.index l.parts)) ++ rest);
}

abbrev pub invariant-all_value-loop-index : goal.invariant-all_value-loop-index
invariant-all_value-loop-index l = record {
  texts : l.finders.texts ≡ l.fn.finders.texts;
  value : (rest : List (List ℕ)) → left_of l.fn.finders ≡ all_patterns (exprs_view l.parts) ++ rest
      → (meaning.both (truth_view l.found) (meaning.all_value (exprs_view (drop l.index l.parts)) (first_values l.event.values)) ≡ meaning.all_value (exprs_view l.parts) (first_values l.event.values))
      × (left_of l.finders ≡ all_patterns (exprs_view (drop l.index l.parts)) ++ rest);
}
