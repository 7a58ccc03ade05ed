use Rattle.std.proofs.Common.{List}
use Rattle.std.specs.Prelude.{◌≡◌, None}
use Rattle.event_schema.specs.declared.schema.Schema.{Schema}
use Rattle.pipeline_model.specs.declared.pipeline.Pipeline.{Pipeline}
use Rattle.rule_model.specs.Plain.{rule_view}
use Rattle.rule_run.proofs.Runs.{unfit_made_at, unschemed, unfit_made, fits_made}
use Rattle.rule_run.specs.Answers.{IsBare}
use Rattle.rule_run.specs.Runs.{IsFilledRule, IsFit}
use Rattle.rule_run.specs.declared.rule_under_schema.SchemedRule.{SchemedRule}
use Rattle.rule_schema.specs.Inferred.{inferred_schema}
use Rattle.sig_base.specs.declared.limits.Limits.{Limits}
use Rattle.sig_base.specs.declared.refusal.Place.{Place}
use Rattle.std.proofs.Common.{ℕ}
use Rattle.rule_run.proofs.rule_under_schema.rule_alone.Goals as goal

-- what is answered where there is such a rule
abbrev Alone : Limits → List Pipeline → List ℕ → List Place → SchemedRule → Type 0
Alone limits ps bytes values found = IsBare (IsFit values limits ps None bytes) found.rule × (found.schema ≡ inferred_schema (rule_view found.rule))

pub returns-in-Err : goal.returns-in-Err
returns-in-Err g c =
    unfit_made_at c.args.limits.now c.args.pipelines.now c.args.bytes.now _ _ None (λ (values : List Place). IsBare (IsFilledRule values c.args.limits.now c.args.pipelines.now c.args.bytes.now)) (Alone c.args.limits.now c.args.pipelines.now c.args.bytes.now)
    c.in-Err.fault c.in-Err.ensures

pub returns-in-Err-infer_schema : goal.returns-in-Err-infer_schema
returns-in-Err-infer_schema g c =
    unschemed c.args.limits.now c.args.pipelines.now c.args.bytes.now _ _ c.in-Ok.rule c.in-Ok.ensures (λ (schema : Schema). schema ≡ inferred_schema (rule_view c.in-Ok.rule)) (Alone c.args.limits.now c.args.pipelines.now c.args.bytes.now)
    c.in-Err-infer_schema.fault c.in-Err-infer_schema.ensures.made

pub returns-in-Err-fit_indexed : goal.returns-in-Err-fit_indexed
returns-in-Err-fit_indexed g c =
    unfit_made c.args.limits.now c.args.pipelines.now c.args.bytes.now _ _ c.in-Ok.rule c.in-Ok.ensures c.in-Ok-infer_schema.schema (Alone c.args.limits.now c.args.pipelines.now c.args.bytes.now) c.in-Err-fit_indexed.unfit
    c.in-Ok-infer_schema.ensures.made c.in-Err-fit_indexed.ensures

pub returns-in-Ok-fit_indexed : goal.returns-in-Ok-fit_indexed
returns-in-Ok-fit_indexed g c =
    fits_made c.args.limits.now c.args.pipelines.now c.args.bytes.now _ _ c.in-Ok.rule c.in-Ok.ensures c.in-Ok-infer_schema.schema c.in-Ok-infer_schema.ensures.made c.in-Ok-fit_indexed.ensures.0
