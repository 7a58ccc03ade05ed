use Rattle.std.proofs.Common.{◌≡◌, ◌++◌, length, map}
use Rattle.std.specs.Vec.Iter.{into_iter_items, into_iter_len}
use Rattle.rule_schema.specs.Gathered.{field_of}
use Rattle.rule_schema.proofs.schema.made_fields.Given as goal

abbrev pub invariant-loop-named : goal.invariant-loop-named
invariant-loop-named l = record {
  fields : l.fields ++ map field_of (into_iter_items l.named-iterator) ≡ map field_of (into_iter_items l.initial.named-iterator);
  left : into_iter_len l.named-iterator ≡ length (into_iter_items l.named-iterator);
}
