use Rattle.std.proofs.Common.{arith}
use Rattle.sig_base.proofs.DigitLemmas.{capped_turn}
use Rattle.correlation_read.proofs.timespan.number_of.Goals as goal

pub loop-digit-preserved : goal.loop-digit-preserved
loop-digit-preserved c = record {
  reads = capped_turn 100000 c.loop-digit.value c.grown-value.result c.loop-digit.digit-index _ c.args.digits.now c.loop-digit-test.true c.grown-value.ensures c.loop-digit.invariant.reads;
  small = let is = c.grown-value.ensures in omega (arith, is);
}
