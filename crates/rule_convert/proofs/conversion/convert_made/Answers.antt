use Rattle.std.proofs.Common.{ℕ, ◌≡◌, List, []}
use Rattle.std.specs.Prelude.{None}
use Rattle.event_schema.specs.declared.schema.Schema.{Schema}
use Rattle.rule_model.specs.Expressions.{rule_expressions}
use Rattle.rule_model.specs.Plain.{rule_view}
use Rattle.rule_schema.specs.Inferred.{inferred_schema}
use Rattle.rule_convert.specs.Queries.{query_of}
use Rattle.rule_convert.proofs.Judging.{unmade, unfit_made, written_made, rebuilt_as, rebuilt_none}
use Rattle.rule_convert.proofs.conversion.convert_made.Goals as goal

pub returns-in-Err : goal.returns-in-Err
returns-in-Err g c =
    let rule = rule_view c.args.rule.now in
    rebuilt_none (rule_expressions rule) _ _
    (unmade g.B.Lacking.missing g.B.Backend.text g.B.Backend.too_deep [] c.args.limits.now rule (λ (schema : Schema). schema ≡ inferred_schema rule) (λ (bytes : List ℕ). bytes ≡ query_of g.B.Backend.text None rule) c.in-Err.fault c.in-Err.ensures.made)

pub returns-in-Err-fit_indexed : goal.returns-in-Err-fit_indexed
returns-in-Err-fit_indexed g c =
    let rule = rule_view c.args.rule.now in
    rebuilt_none (rule_expressions rule) _ _
    (unfit_made g.B.Lacking.missing g.B.Backend.text g.B.Backend.too_deep [] c.args.limits.now rule c.in-Ok.schema
    (λ (bytes : List ℕ). bytes ≡ query_of g.B.Backend.text None rule) c.in-Err-fit_indexed.unfit c.in-Ok.ensures.made c.in-Err-fit_indexed.ensures)

pub returns : goal.returns
returns g c =
    let rule = rule_view c.args.rule.now in
    rebuilt_as (rule_expressions rule) _ _ _ _
    (λ unbuilt judged. written_made g.B.Lacking.missing g.B.Backend.text g.B.Backend.too_deep unbuilt c.args.limits.now rule c.in-Ok.schema c.write_rule.result
    c.in-Ok.ensures.made c.in-Ok-fit_indexed.ensures.0 judged) c.write_rule.ensures
