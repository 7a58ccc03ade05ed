use Rattle.std.proofs.Common.{◌≡◌, ◌≤◌, ◌+◌, ◌-◌, ◌^◌, min, drop}
use Rattle.sig_conditions.specs.Formulas.{forms_of, numbered}
use Rattle.rule_lowering.specs.Counts.{forms_count}
use Rattle.rule_lowering.proofs.test_count.count_taken.Given as goal

abbrev pub invariant-loop-number : goal.invariant-loop-number
invariant-loop-number l = record {
  most : l.count ≤ 2 ^ 127 - 1;
  sum : min (l.count + forms_count (2 ^ 127 - 1) l.counts (forms_of (numbered (drop l.number-index l.taken)))) (2 ^ 127 - 1) ≡ forms_count (2 ^ 127 - 1) l.counts (forms_of (numbered l.taken));
}
