use Rattle.std.proofs.Common.{◌≡◌, ◌-◌, ◌^◌, min}
use Rattle.rule_lowering.proofs.test_count.count_choices.Given as goal

abbrev pub invariant-loop : goal.invariant-loop
invariant-loop l = l.count ≡ min (5 ^ l.counter) (2 ^ 127 - 1)
