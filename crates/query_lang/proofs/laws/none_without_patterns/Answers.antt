use Rattle.query_lang.proofs.Unrefused.{without_patterns}
use Rattle.query_lang.proofs.laws.none_without_patterns.Goals as goal

pub returns : goal.returns
returns c = without_patterns
