use Rattle.std.proofs.Common.{refl}
use Rattle.std.specs.Prelude.{Result}
use Rattle.rule_regex.specs.Building.{Builds}
use Rattle.rule_model.specs.Expressions.{rule_expressions}
use Rattle.rule_model.specs.Plain.{rule_view}
use Rattle.sig_base.proofs.Firsts.{from_error}
use Rattle.sig_base.specs.declared.refusal.Fault.{Fault}
use Rattle.rule_regex.proofs.BuiltRows.{no_memory}
use Rattle.rule_regex.proofs.searches.build_items.Goals as goal

pub returns-in_err-expressions-clause-builds : goal.returns-in_err-expressions-clause-builds
returns-in_err-expressions-clause-builds g c =
    let refused = g.B.Builder.refused c.args.builder.now in
    from_error (λ (r : Result (Unit {0}) Fault). Builds {X = Unit {0}} (λ done. Unit {0}) (rule_expressions (rule_view c.args.rule.now)) refused refused r)
    c.from_residual.result c.in_err-expressions.field-0.0 _ c.from_residual.ensures.1 (λ y p. p)
    (no_memory {X = Unit {0}} (λ done. Unit {0}) (rule_expressions (rule_view c.args.rule.now)) refused refused c.in_err-expressions.field-0.0 c.in_err-expressions.ensures.err refl)
