use Rattle.rule_model.specs.Expressions.{rule_expressions}
use Rattle.rule_model.specs.Plain.{rule_view}
use Rattle.rule_convert.proofs.Judging.{given_none, rebuilt_as}
use Rattle.rule_convert.proofs.conversion.convert_filled.Goals as goal

pub returns-in-None : goal.returns-in-None
returns-in-None g c =
    let rule = rule_view c.args.rule.now in
    rebuilt_as (rule_expressions rule) _ _ _ _
    (λ unbuilt judged. given_none g.B.Lacking.missing g.B.Backend.text g.B.Backend.too_deep (λ s. s.now) c.args.given unbuilt c.args.limits.now rule c.convert_made.result
    c.in-None.is judged) c.convert_made.ensures
