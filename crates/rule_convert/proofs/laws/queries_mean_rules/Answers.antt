use Rattle.rule_convert.proofs.Meaning.{query_means}
use Rattle.rule_convert.proofs.laws.queries_mean_rules.Goals as goal

pub returns : goal.returns
returns g c =
    query_means g.B.Lacking.missing g.B.Backend.text g.B.Backend.too_deep g.B.Lang.QueryLanguage.is_query g.B.Lang.QueryLanguage.is_within g.B.Lang.QueryLanguage.picks
    c.rules_are_whole.ensures c.whole_rules_stay_whole.ensures c.tree_means_rule.ensures c.tree_is_sound.ensures c.law.ensures.query
