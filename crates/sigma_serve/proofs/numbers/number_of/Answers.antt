use Rattle.std.proofs.Common.{arith}
use Rattle.sig_base.proofs.DigitLemmas.{capped_turn}
use Rattle.sigma_serve.proofs.numbers.number_of.Goals as goal

pub loop-digit-preserved : goal.loop-digit-preserved
loop-digit-preserved c = record {
  reads = capped_turn 4294967296 c.loop-digit.value c.grown-value.result c.loop-digit.digit-index _ c.args.digits.now c.loop-digit-test.true c.grown-value.ensures c.loop-digit.invariant.reads;
  small = let is = c.grown-value.ensures in omega (arith, is);
}
