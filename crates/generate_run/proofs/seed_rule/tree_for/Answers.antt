use Rattle.std.proofs.Common.{◌≡◌, ◌∙◌, ap, sym, subst, None}
use Rattle.backend_core.specs.View.{tree_view}
use Rattle.event_schema.specs.declared.schema.Schema.{Schema}
use Rattle.generate_run.specs.Events as spec
use Rattle.generate_run.specs.Rules.{rule_of}
use Rattle.rule_lowering.specs.Refused.{leaves_refusal}
use Rattle.rule_lowering.specs.TreeOf.{tree_of}
use Rattle.rule_model.specs.Plain.{PlainRule, rule_view}
use Rattle.generate_run.proofs.Deciding.{judged_ok, judged_err}
use Rattle.generate_run.proofs.Unrefused.{leaves_none}
use Rattle.generate_run.proofs.seed_rule.tree_for.Goals as goal

pub returns-clause-ok : goal.returns-clause-ok
returns-clause-ok c =
    let same = ap (tree_of c.args.schema.now) c.requires.rule ∙ ap (λ (s : Schema). tree_of s (rule_of c.args.seed)) c.requires.schema in
    judged_ok (λ t. tree_view t ≡ tree_of c.args.schema.now (rule_view c.args.rule.now)) (λ t. tree_view t ≡ tree_of spec.schema (rule_of c.args.seed))
    (leaves_refusal c.args.limits.now c.args.schema.now (rule_view c.args.rule.now)) c.lower.result (λ t is. is ∙ same) c.lower.ensures.tree

pub returns-clause-err : goal.returns-clause-err
returns-clause-err c =
    let limits = c.args.limits.now in
    let same = ap (leaves_refusal limits c.args.schema.now) c.requires.rule ∙ ap (λ (s : Schema). leaves_refusal limits s (rule_of c.args.seed)) c.requires.schema in
    judged_err (λ t. tree_view t ≡ tree_of c.args.schema.now (rule_view c.args.rule.now)) (leaves_refusal limits c.args.schema.now (rule_view c.args.rule.now)) c.lower.result
    (same ∙ leaves_none limits c.args.seed c.requires.limits) c.lower.ensures.tree
