use Rattle.std.proofs.Common.{List, sym, subst}
use Rattle.std.specs.List.{AllZip}
use Rattle.detection_eval.specs.Ready as ready
use Rattle.detection_eval.specs.declared.ready.Ready.{Ready}
use Rattle.rule_model.specs.Plain.{rule_view}
use Rattle.rule_model.specs.declared.rule.Rule.{Rule}
use Rattle.sigma_serve.proofs.Hits.{bare_ready}
use Rattle.tests_of_serve.proofs.following.followed.Goals as goal

pub follow-status-requires-clause-ready : goal.follow-status-requires-clause-ready
follow-status-requires-clause-ready c =
    let fields = c.args.schema.now.fields in
    let found = c.requires.found in
    let all = bare_ready fields found.0 c.args.found.now.rules.items c.args.found.now.ready.items found.2.bare found.2.ready in
    subst (λ (rs : List Rule). AllZip (λ rule kept. ready.StandsFor fields (rule_view rule) kept) rs c.as_slice-2.result.now) (sym c.as_slice.ensures.value)
    (subst (λ (ks : List Ready). AllZip (λ rule kept. ready.StandsFor fields (rule_view rule) kept) c.args.found.now.rules.items ks) (sym c.as_slice-2.ensures.value) all)
