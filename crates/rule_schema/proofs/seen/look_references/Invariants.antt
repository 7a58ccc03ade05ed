use Rattle.std.proofs.Common.{◌≡◌, drop}
use Rattle.rule_schema.specs.Compared.{values_names}
use Rattle.rule_schema.specs.Looked.{both, seen_of}
use Rattle.rule_schema.proofs.seen.look_references.Given as goal

abbrev pub invariant-loop-tests : goal.invariant-loop-tests
invariant-loop-tests l = both l.seen (seen_of l.fields (values_names (drop l.tests-index l.values))) ≡ seen_of l.fields (values_names l.values)
