use Rattle.std.proofs.Common.{◌≡◌, drop}
use Rattle.rule_schema.specs.Looked.{kind_in}
use Rattle.rule_schema.proofs.seen.kind_among.Given as goal

abbrev pub invariant-loop-field : goal.invariant-loop-field
invariant-loop-field l = kind_in (drop l.field-index l.fields) l.name ≡ kind_in l.fields l.name
