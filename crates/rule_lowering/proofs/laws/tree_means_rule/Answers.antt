use Rattle.rule_lowering.proofs.Meaning.{tree_means}
use Rattle.rule_lowering.proofs.laws.tree_means_rule.Goals as goal

pub returns : goal.returns
returns c = λ schema rule row. tree_means c.plain_fits.ensures.cased c.plain_fits.ensures.folded c.choices_fit.ensures c.patterns_fit.ensures schema rule row
