use Rattle.std.proofs.Common.{ap}
use Rattle.std.specs.Prelude.{not}
use Rattle.lucene_eval.proofs.Joins.{selects_and, selects_or, both_here, none_here}
use Rattle.lucene_eval.proofs.selection.+evaluation.Goals as goal

pub selects-returns-then-some_asked : goal.selects-returns-then-some_asked
selects-returns-then-some_asked t c =
    both_here c.some_asked.result c.all_agree.result _ _ _
    (selects_and c.args.event.now.values c.args.group.now c.as_slice-clauses.result.now c.as_slice-clauses.ensures.value c.in-And.is)
    c.some_asked.ensures c.all_agree.ensures c.if-some_asked.true

pub selects-returns-else-some_asked : goal.selects-returns-else-some_asked
selects-returns-else-some_asked t c =
    none_here c.some_asked.result _ _ _
    (selects_and c.args.event.now.values c.args.group.now c.as_slice-clauses.result.now c.as_slice-clauses.ensures.value c.in-And.is)
    c.some_asked.ensures c.if-some_asked.false

pub selects-returns-then-not-one_hits : goal.selects-returns-then-not-one_hits
selects-returns-then-not-one_hits t c =
    both_here (not c.one_hits.result) c.one_hits-then-not-one_hits.result _ _ _
    (selects_or c.args.event.now.values c.args.group.now c.as_slice-clauses.result.now c.as_slice-clauses.ensures.value c.in-Or.is)
    (ap not c.one_hits.ensures) c.one_hits-then-not-one_hits.ensures (ap not c.if-not-one_hits.true)

pub selects-returns-else-not-one_hits : goal.selects-returns-else-not-one_hits
selects-returns-else-not-one_hits t c =
    none_here (not c.one_hits.result) _ _ _
    (selects_or c.args.event.now.values c.args.group.now c.as_slice-clauses.result.now c.as_slice-clauses.ensures.value c.in-Or.is)
    (ap not c.one_hits.ensures) (ap not c.if-not-one_hits.false)
