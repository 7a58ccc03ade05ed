use Rattle.std.proofs.Common.{◌≡◌, ◌+◌, drop}
use Rattle.yaml_inline.specs.Line.{plain_len}
use Rattle.yaml_inline.proofs.plain.plain_len.Given as goal

abbrev pub invariant-loop-at : goal.invariant-loop-at
invariant-loop-at l = l.at + plain_len l.in_flow (drop l.at l.rest) ≡ plain_len l.in_flow l.rest
