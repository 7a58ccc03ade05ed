use Rattle.rule_schema.proofs.NamesApart.{inferred_kept}
use Rattle.rule_schema.proofs.laws.inferred_schemas.Goals as goal

pub returns : goal.returns
returns c = inferred_kept
