use Rattle.std.proofs.Common.{◌≡◌, ◌++◌, [], drop}
use Rattle.sql_lang.specs.View.{exprs_view}
use Rattle.sql_eval.specs.Searches.{all_patterns}
use Rattle.sql_eval.proofs.searches.+gathering.Given as goal

abbrev pub invariant-gather_all-loop-part : goal.invariant-gather_all-loop-part
invariant-gather_all-loop-part l = record {
  ran : l.finders.texts ++ all_patterns (exprs_view (drop l.part-index l.parts)) ≡ l.fn.finders.texts ++ all_patterns (exprs_view l.parts);
  free : all_patterns (exprs_view l.parts) ≡ [] → all_patterns (exprs_view (drop l.part-index l.parts)) ≡ [];
}
