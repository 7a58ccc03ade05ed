use Rattle.std.proofs.Common.{◌≡◌, take, drop, map}
use Rattle.std.specs.List.{list_all, AllZip}
use Rattle.correlation_read.specs.Binding as spec
use Rattle.correlation_read.proofs.bindings.find_rules.Given as goal

abbrev pub invariant-loop-text : goal.invariant-loop-text
invariant-loop-text l = record {
  cause : list_all (spec.is_there (map spec.names_of_head l.heads)) (drop l.text-index l.texts) ≡ list_all (spec.is_there (map spec.names_of_head l.heads)) l.texts;
  found : AllZip (spec.IsNumbered (map spec.names_of_head l.heads)) (take l.text-index l.texts) l.numbers;
}
