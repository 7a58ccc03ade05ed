use Rattle.std.proofs.Common.{◌≡◌, [], drop, ap, ◌∙◌}
use native.Mathlib.Omega.{arith}
use Rattle.std.proofs.Math.Seq.{drop-length}
use Rattle.pipeline_fill.proofs.Crossing.{fill_turn, fill_end}
use Rattle.pipeline_fill.proofs.fillings.fill.Goals as goal

pub loop-part-preserved : goal.loop-part-preserved
loop-part-preserved c =
    fill_turn c.args.change.now.vars.now c.args.change.now.step.now.action c.loop-part.fronts.items c.in_ok-fronts-2.fronts.items _ c.args.parts.now c.loop-part.part-index
    c.part-item.result c.loop-part.invariant c.loop-part-test.true c.part-item.is c.in_ok-fronts-2.ensures.ok

pub returns-clause-ok : goal.returns-clause-ok
returns-clause-ok c =
    let empty : drop c.loop-part.part-index c.args.parts.now ≡ [] =
    ap (λ n. drop n c.args.parts.now) (omega (arith, c.loop-part-test.false, c.loop-part.auto.part-index-end)) ∙ drop-length c.args.parts.now in
    fill_end c.args.change.now.vars.now c.args.change.now.step.now.action c.loop-part.fronts.items _ (drop c.loop-part.part-index c.args.parts.now) empty c.loop-part.invariant
