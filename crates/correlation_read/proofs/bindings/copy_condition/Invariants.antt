use Rattle.std.proofs.Common.{◌≡◌, take}
use Rattle.correlation_read.proofs.bindings.copy_condition.Given as goal

abbrev pub invariant-loop-test : goal.invariant-loop-test
invariant-loop-test l = l.tests ≡ take l.test-index l.condition
