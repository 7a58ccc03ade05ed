use Rattle.std.proofs.Common.{◌≡◌, ◌≤◌, ◌+◌, ◌-◌, ◌^◌, min, drop}
use Rattle.sig_conditions.specs.Formulas.{forms_of, forms_view}
use Rattle.rule_lowering.specs.Counts.{forms_count}
use Rattle.rule_lowering.proofs.test_count.+counter.Given as goal

abbrev pub invariant-count_formulas-loop-part : goal.invariant-count_formulas-loop-part
invariant-count_formulas-loop-part l = record {
  most : l.count ≤ 2 ^ 127 - 1;
  sum : min (l.count + forms_count (2 ^ 127 - 1) l.counts (forms_of (forms_view (drop l.part-index l.parts)))) (2 ^ 127 - 1) ≡ forms_count (2 ^ 127 - 1) l.counts (forms_of (forms_view l.parts));
}
