use Rattle.std.proofs.Common.{◌≡◌, ◌∙◌, ℕ, List, Err, Ok, Vec, Global, ap, refl, subst}
use Rattle.std.proofs.lemmas.Result.{IfOk-weaker}
use Rattle.query_lang.specs.declared.search.Search.{Search}
use Rattle.rule_regex.proofs.BuiltRows.{fault_so, no_memory}
use Rattle.rule_regex.specs.Building.{Builds}
use Rattle.rule_detections.specs.declared.expression.Expression.{Expression}
use Rattle.rule_model.specs.Expressions.{rule_expressions}
use Rattle.rule_model.specs.Plain.{rule_view}
use Rattle.sig_base.proofs.Firsts.{from_error}
use Rattle.detection_eval.specs.Ready.{StandsFor, ready_of, ready_view, searches_view, texts_of}
use Rattle.detection_eval.specs.declared.ready.Ready.{Ready}
use Rattle.detection_eval.proofs.Made.{then_made}
use Rattle.detection_eval.proofs.ready.Ready.make.Goals as goal

abbrev AreBuilt : List Expression → Vec Search Global → Type 0
AreBuilt expressions searches = searches_view searches.items ≡ texts_of expressions

pub returns-in_err-expressions : goal.returns-in_err-expressions
returns-in_err-expressions g c =
    let rule = rule_view c.args.rule.now in
    let es = rule_expressions rule in
    let refused = g.B.Builder.refused c.args.builder.now in
    let Stands : Ready → Type 0 = StandsFor c.args.schema.now.fields rule in
    record {
      answers = from_error (Builds Stands es refused refused) c.from_residual.result c.in_err-expressions.field-0.0 _ c.from_residual.ensures.1 (λ e p. p)
          (no_memory Stands es refused refused _ c.in_err-expressions.ensures.err refl);
    }

pub returns-in_err-searches : goal.returns-in_err-searches
returns-in_err-searches g c =
    let rule = rule_view c.args.rule.now in
    let es = rule_expressions rule in
    let before = g.B.Builder.refused c.args.builder.now in
    let after = g.B.Builder.refused c.build_searches.new.builder in
    let fault = c.in_err-searches.field-0.0 in
    let Stands : Ready → Type 0 = StandsFor c.args.schema.now.fields rule in
    let builds = subst (λ (xs : List Expression). Builds (AreBuilt xs) xs before after (Err fault)) (c.as_slice.ensures ∙ c.in_ok-expressions.ensures.ok) c.in_err-searches.ensures in
    record {
      answers = from_error (Builds Stands es before after) c.from_residual-in_err-searches.result fault _ c.from_residual-in_err-searches.ensures.1 (λ e p. p)
          (fault_so (AreBuilt es) Stands es before after fault builds);
    }

pub returns : goal.returns
returns g c =
    let rule = rule_view c.args.rule.now in
    let fields = c.args.schema.now.fields in
    let es = rule_expressions rule in
    let before = g.B.Builder.refused c.args.builder.now in
    let after = g.B.Builder.refused c.build_searches.new.builder in
    let searches = c.in_ok-searches.searches in
    let builds = subst (λ (xs : List Expression). Builds (AreBuilt xs) xs before after (Ok searches)) (c.as_slice.ensures ∙ c.in_ok-expressions.ensures.ok) c.in_ok-searches.ensures in
    record {
      answers = then_made (AreBuilt es) (StandsFor fields rule) es before after searches c.number_rule.result builds
          (λ own. IfOk-weaker c.number_rule.result (λ (ready : Ready). ready_view ready ≡ ready_of fields (searches_view searches.items) rule) (StandsFor fields rule)
          (λ ready is. record { is = is ∙ ap (λ (texts : List (List ℕ)). ready_of fields texts rule) own }) c.number_rule.ensures.ok)
          c.number_rule.ensures.err;
    }
