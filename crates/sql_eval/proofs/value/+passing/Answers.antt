use Rattle.sql_eval.proofs.Valued.{none_left}
use Rattle.sql_eval.proofs.value.+passing.Goals as goal

pub pass_all-returns-then-is_done-clause-passes : goal.pass_all-returns-then-is_done-clause-passes
pass_all-returns-then-is_done-clause-passes t c = λ rest e. none_left _ rest _ (c.loop-part.invariant.passes rest e) (c.is_done.ensures c.if-is_done.true)
