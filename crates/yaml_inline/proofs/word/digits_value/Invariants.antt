use Rattle.std.proofs.Common.{◌≡◌, ◌≤◌, drop}
use Rattle.yaml_inline.proofs.Digits.{value_from}
use Rattle.yaml_inline.proofs.word.digits_value.Given as goal

abbrev pub invariant-loop-c : goal.invariant-loop-c
invariant-loop-c l = (l.value ≤ l.most) × (value_from l.value l.most (drop l.c-index l.chars) ≡ value_from 0 l.most l.chars)
