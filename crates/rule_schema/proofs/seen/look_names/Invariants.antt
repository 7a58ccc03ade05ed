use Rattle.std.proofs.Common.{◌≡◌, drop}
use Rattle.rule_schema.specs.Looked.{both, seen_of}
use Rattle.rule_schema.proofs.seen.look_names.Given as goal

abbrev pub invariant-loop-name : goal.invariant-loop-name
invariant-loop-name l = both l.seen (seen_of l.fields (drop l.name-index l.names)) ≡ seen_of l.fields l.names
