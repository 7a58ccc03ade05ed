use Rattle.std.proofs.Common.{◌≡◌, ◌++◌, drop}
use Rattle.generate_run.specs.Rules.{literal}
use Rattle.generate_run.proofs.rule.literal.Given as goal

abbrev pub invariant-loop-byte : goal.invariant-loop-byte
invariant-loop-byte l = l.parts.items ++ literal (drop l.byte-index l.bytes) ≡ literal l.bytes
