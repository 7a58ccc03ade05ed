use Rattle.std.proofs.Common.{◌-◌, ◌^◌, arith}
use Rattle.sig_conditions.specs.Formulas.{forms_of, forms_view}
use Rattle.rule_lowering.proofs.LeafCounts.{forms_start}
use Rattle.rule_lowering.proofs.test_count.+counter.Goals as goal

pub count_formulas-loop-part-init : goal.count_formulas-loop-part-init
count_formulas-loop-part-init t c = record {
  most = omega arith;
  sum = forms_start (2 ^ 127 - 1) c.args.counts.now (forms_of (forms_view c.args.parts.now));
}
