use Rattle.std.proofs.Common.{◌-◌, ◌^◌, refl}
use Rattle.rule_lowering.proofs.ChoiceLemmas.{five_more, all_places}
use Rattle.rule_lowering.proofs.test_count.count_choices.Goals as goal

pub loop-init : goal.loop-init
loop-init c = refl

pub loop-preserved : goal.loop-preserved
loop-preserved c = five_more c.loop.counter c.loop.count c.times-count.result (2 ^ 127 - 1) c.loop.invariant c.times-count.ensures

pub returns : goal.returns
returns c = all_places c.args.places c.loop.counter c.loop.count (2 ^ 127 - 1) c.loop-test.false c.loop.auto.counter-end c.loop.invariant
