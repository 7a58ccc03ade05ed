use Rattle.std.proofs.Common.{ℕ, ◌≡◌, ◌++◌, List, drop}
use Rattle.sql_lang.specs.View.{exprs_view}
use Rattle.sql_eval.specs.Searches.{left_of, all_patterns}
use Rattle.sql_eval.proofs.value.+passing.Given as goal

abbrev pub invariant-pass_all-loop-part : goal.invariant-pass_all-loop-part
invariant-pass_all-loop-part l = record {
  texts : l.finders.texts ≡ l.fn.finders.texts;
  passes : (rest : List (List ℕ)) → left_of l.fn.finders ≡ all_patterns (exprs_view l.parts) ++ rest
      → left_of l.finders ≡ all_patterns (exprs_view (drop l.part-index l.parts)) ++ rest;
}
