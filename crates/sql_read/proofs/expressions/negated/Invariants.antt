use Rattle.std.proofs.Common.{◌≡◌}
use Rattle.sql_lang.specs.View.{expr_view}
use Rattle.sql_read.specs.Chains.{nots_on}
use Rattle.sql_read.proofs.expressions.negated.Given as goal

abbrev pub invariant-loop-turn : goal.invariant-loop-turn
invariant-loop-turn l = expr_view l.all ≡ nots_on l.turn (expr_view l.fn.expr)
