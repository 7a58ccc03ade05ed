use Rattle.std.proofs.Common.{◌-◌, ◌^◌, arith}
use Rattle.sig_conditions.specs.Formulas.{forms_of, numbered}
use Rattle.rule_lowering.proofs.LeafCounts.{forms_start}
use Rattle.rule_lowering.proofs.test_count.count_taken.Goals as goal

pub loop-number-init : goal.loop-number-init
loop-number-init c = record {
  most = omega arith;
  sum = forms_start (2 ^ 127 - 1) c.args.counts.now (forms_of (numbered c.args.taken.now));
}
