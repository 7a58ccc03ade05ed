use Rattle.std.proofs.Common.{◌≡◌, drop}
use Rattle.std.specs.List.{list_any}
use Rattle.lucene_lang.specs.View.{parts_view}
use Rattle.lucene_eval.specs.Joined.{is_asked}
use Rattle.lucene_eval.proofs.selection.some_asked.Given as goal

abbrev pub invariant-loop-clause : goal.invariant-loop-clause
invariant-loop-clause l = list_any is_asked (parts_view (drop l.clause-index l.clauses)) ≡ list_any is_asked (parts_view l.clauses)
