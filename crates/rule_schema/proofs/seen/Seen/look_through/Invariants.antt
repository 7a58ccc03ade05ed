use Rattle.std.proofs.Common.{◌≡◌, drop}
use Rattle.rule_schema.specs.Compared.{value_names}
use Rattle.rule_schema.specs.Looked.{both, seen_of}
use Rattle.rule_schema.proofs.seen.Seen.look_through.Given as goal

abbrev pub invariant-loop-test : goal.invariant-loop-test
invariant-loop-test l = both l.seen (seen_of l.fields (value_names (drop l.test-index l.tests))) ≡ both l.fn.self (seen_of l.fields (value_names l.tests))
