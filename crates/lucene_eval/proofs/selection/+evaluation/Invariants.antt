use Rattle.std.proofs.Common.{◌≡◌, drop}
use Rattle.std.specs.List.{list_any, list_all}
use Rattle.lucene_lang.specs.View.{parts_view}
use Rattle.lucene_eval.specs.Joined.{agrees, is_hit}
use Rattle.lucene_eval.proofs.selection.+evaluation.Given as goal

abbrev pub invariant-all_agree-loop-clause : goal.invariant-all_agree-loop-clause
invariant-all_agree-loop-clause l =
    list_all (agrees l.fn.event.values) (parts_view (drop l.clause-index l.clauses)) ≡ list_all (agrees l.fn.event.values) (parts_view l.clauses)

abbrev pub invariant-one_hits-loop-clause : goal.invariant-one_hits-loop-clause
invariant-one_hits-loop-clause l =
    list_any (is_hit l.fn.event.values l.fn.negated) (parts_view (drop l.clause-index l.clauses)) ≡ list_any (is_hit l.fn.event.values l.fn.negated) (parts_view l.clauses)
