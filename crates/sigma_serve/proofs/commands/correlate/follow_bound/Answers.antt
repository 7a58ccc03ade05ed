use Rattle.std.proofs.Common.{List, sym, ap, map, subst}
use Rattle.std.specs.Prelude.{[]}
use Rattle.std.specs.List.{AllZip}
use Rattle.detection_eval.specs.Ready as ready
use Rattle.detection_eval.specs.declared.ready.Ready.{Ready}
use Rattle.rule_model.specs.Plain.{rule_view}
use Rattle.rule_model.specs.declared.rule.Rule.{Rule}
use Rattle.sigma_serve.proofs.Correlating.{lines_bare, lines_memory}
use Rattle.sigma_serve.proofs.Hits.{bare_ready}
use Rattle.sigma_serve.proofs.commands.correlate.follow_bound.Goals as goal

pub follow_events-requires : goal.follow_events-requires
follow_events-requires g c =
    let fields = c.args.schema.now.fields in
    let found = c.requires.found in
    let all = bare_ready fields found.0 c.args.found.now.rules.items c.args.found.now.ready.items found.2.bare found.2.ready in
    subst (λ (rs : List Rule). AllZip (λ rule kept. ready.StandsFor fields (rule_view rule) kept) rs c.as_slice-2.result.now) (sym c.as_slice.ensures.value)
    (subst (λ (ks : List Ready). AllZip (λ rule kept. ready.StandsFor fields (rule_view rule) kept) c.args.found.now.rules.items ks) (sym c.as_slice-2.ensures.value) all)

pub returns : goal.returns
returns g c rules correlations stands =
    lines_bare c.args.limits.now c.args.schema.now rules c.args.found.now.rules.items (map rule_view c.as_slice.result.now) c.args.bounds.items c.in-Ok.engine.bounds c.args.names.now
    c.follow_events.result (g.W.Outside.state c.args.outside.now) (g.W.Outside.state c.follow_events.new.outside) stands.bare
    (ap (λ (rs : List Rule). map rule_view rs) c.as_slice.ensures.value) c.in-Ok.ensures.bounds (c.follow_events.ensures.ends [] c.in-Ok.ensures.stands)

pub returns-in_default : goal.returns-in_default
returns-in_default g c rules correlations stands =
    lines_memory c.one_follower.ensures.each (record { schema = c.args.schema.now; rules = rules; bounds = c.args.bounds.items; names = c.args.names.now }) c.args.limits.now (g.W.Outside.state c.args.outside.now)
