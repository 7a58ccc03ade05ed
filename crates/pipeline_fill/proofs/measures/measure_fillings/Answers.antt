use native.Mathlib.Omega.{arith}
use Rattle.std.proofs.Common.{sym, ◌∙◌}
use Rattle.pipeline_fill.specs.Filled.{lacks_values}
use Rattle.pipeline_fill.proofs.Products.{counted_turn, summed_turn, extended_turn}
use Rattle.pipeline_fill.proofs.Sums.{any_turn}
use Rattle.pipeline_fill.proofs.measures.measure_fillings.Goals as goal

pub loop-part-preserved : goal.loop-part-preserved
loop-part-preserved c =
    let added = c.extended_by-extent.ensures c.part-item.result c.in_ok-filling.ensures.ok.measured in
    record {
      few = omega (arith, c.times-tests.ensures);
      short = omega (arith, c.add-longest.ensures);
      product =
          counted_turn c.args.change.now.vars.now c.args.change.now.step.now.action c.args.parts.now c.loop-part.part-index c.part-item.result c.in_ok-filling.filling c.loop-part.tests c.count.result _ c.loop-part.invariant.product c.loop-part-test.true c.part-item.is c.in_ok-filling.ensures.ok
          c.count.ensures c.times-tests.ensures;
      sum =
          summed_turn c.args.change.now.vars.now c.args.change.now.step.now.action c.args.parts.now c.loop-part.part-index c.part-item.result c.in_ok-filling.filling c.loop-part.longest c.longest.result _ c.loop-part.invariant.sum c.loop-part-test.true c.part-item.is c.in_ok-filling.ensures.ok
          c.longest.ensures c.add-longest.ensures;
      narrow = omega (arith, added);
      all =
          extended_turn c.args.change.now.vars.now c.args.change.now.step.now.action c.args.parts.now c.loop-part.part-index c.part-item.result c.in_ok-filling.filling c.loop-part.tests c.loop-part.extent c.count.result _ _ c.loop-part.invariant.all c.loop-part-test.true c.part-item.is c.in_ok-filling.ensures.ok
          c.count.ensures c.times-tests.ensures c.extended_by-extent.ensures;
      lacking =
          any_turn (lacks_values c.args.change.now.vars.now c.args.change.now.step.now.action) c.args.parts.now c.loop-part.part-index c.part-item.result c.loop-part.lacking _ c.loop-part.invariant.lacking c.loop-part-test.true c.part-item.is
          (c.is_missing-lacking.ensures ∙ sym c.in_ok-filling.ensures.ok.lacks);
    }
