use Rattle.std.proofs.Common.{◌∙◌, ap, not, nat_eq, length}
use Rattle.schema_index.specs.Numbers.{number_of}
use Rattle.rule_schema.proofs.Looking.{some_searched}
use Rattle.rule_schema.proofs.fit.has_searched.Goals as goal

pub returns : goal.returns
returns c =
    ap not (c.is_empty.ensures ∙ ap (λ ns. nat_eq (length ns) 0) (c.searched.ensures ∙ c.requires.searched))
    ∙ some_searched (λ field. number_of c.args.fields.now field.name) c.args.fields.now
