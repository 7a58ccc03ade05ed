use Rattle.std.proofs.Common.{◌≡◌, ◌++◌, map, filter, drop}
use Rattle.schema_index.specs.Numbers.{number_of, searched}
use Rattle.schema_index.proofs.numbers.search_fields.Given as goal

abbrev pub invariant-loop-field : goal.invariant-loop-field
invariant-loop-field l =
    l.numbers.items ++ map (λ field. number_of l.fields field.name) (filter (λ field. field.search) (drop l.field-index l.fields)) ≡ searched l.fields
