use Rattle.std.proofs.Common.{arith}
use Rattle.sql_lang.specs.Grammar as grammar
use Rattle.sql_parse.specs.View.{nots_view, ands_view}
use Rattle.sql_check.proofs.Deep.{nots_deep, and_turn, or_turn, next_viewed}
use Rattle.sql_check.proofs.depth.+depth.Goals as goal

pub and_front-loop-part-preserved : goal.and_front-loop-part-preserved
and_front-loop-part-preserved t c =
    λ (last : grammar.Nots). and_turn c.args.most c.nots_depth.result c.join.result _ _ _ (nots_view c.part-item.result) last c.loop-part.deep
    (next_viewed nots_view c.args.before.now c.loop-part.part-index c.part-item.result c.loop-part-test.true c.part-item.is) c.nots_depth.ensures c.join.ensures (c.loop-part.invariant last)

pub or_front-loop-part-preserved : goal.or_front-loop-part-preserved
or_front-loop-part-preserved t c =
    λ (last : grammar.Ands). or_turn c.args.most c.ands_depth.result c.join.result _ _ _ (ands_view c.part-item.result) last c.loop-part.deep
    (next_viewed ands_view c.args.before.now c.loop-part.part-index c.part-item.result c.loop-part-test.true c.part-item.is) c.ands_depth.ensures c.join.ensures (c.loop-part.invariant last)

pub nots_depth-returns : goal.nots_depth-returns
nots_depth-returns t c =
    let deep = nots_deep c.args.nots.now in
    let sum = c.saturating_add.ensures in
    omega (arith, c.core_depth-deep.ensures, sum, c.min.ensures, c.ranges.most.fits, deep)
