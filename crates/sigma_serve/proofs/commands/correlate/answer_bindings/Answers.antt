use Rattle.std.proofs.Common.{List, ◌∙◌, subst, Ok, Err}
use Rattle.answer_writer.specs.Stands.{Writes}
use Rattle.correlation_files.specs.declared.bindings.Unbound.{Unbound}
use Rattle.sigma_serve.proofs.Correlating.{told_stop, followed_stop, followed_whole, lines_judged}
use Rattle.sigma_serve.specs.Sourced.{AreTold}
use Rattle.sigma_serve.proofs.commands.correlate.answer_bindings.Goals as goal

pub returns-in-Err : goal.returns-in-Err
returns-in-Err g c rules correlations stands =
    let b = c.requires.are rules correlations stands in
    let old = g.W.Outside.state c.args.outside.now in
    let new = g.W.Outside.state c.put_unbound.new.outside in
    told_stop c.args.limits.now c.args.schema.now rules correlations b.0 b.1 c.args.bindings.unbound.items b.4 c.one_follower.ensures.each c.in-Err.stop old new
    (subst (λ (us : List Unbound). Writes (AreTold us) (Err c.in-Err.stop) old new) c.as_slice.ensures.value c.in-Err.ensures)

pub follow_bound-requires-clause-limits : goal.follow_bound-requires-clause-limits
follow_bound-requires-clause-limits g c =
    let found = c.requires.found in
    let b = c.requires.are found.0 found.1 found.2 in
    b.5

pub follow_bound-requires-clause-few : goal.follow_bound-requires-clause-few
follow_bound-requires-clause-few g c =
    let found = c.requires.found in
    let b = c.requires.are found.0 found.1 found.2 in
    b.6

pub returns-in-Ok-follow_bound : goal.returns-in-Ok-follow_bound
returns-in-Ok-follow_bound g c rules correlations stands =
    let limits = c.args.limits.now in
    let schema = c.args.schema.now in
    let b = c.requires.are rules correlations stands in
    let old = g.W.Outside.state c.args.outside.now in
    let mid = g.W.Outside.state c.put_unbound.new.outside in
    let new = g.W.Outside.state c.follow_bound.new.outside in
    followed_whole limits schema rules correlations b.0 b.1 c.args.bindings.unbound.items b.4 c.in-Ok.refused c.in-Ok-follow_bound.more c.either.result old mid new c.either.ensures
    (subst (λ (us : List Unbound). Writes (AreTold us) (Ok c.in-Ok.refused) old mid) c.as_slice.ensures.value c.in-Ok.ensures)
    (lines_judged limits schema rules b.0 c.args.bindings.bounds.items c.as_slice-2.result.now (Ok c.in-Ok-follow_bound.more) mid new b.2 (c.as_slice-2.ensures.value ∙ b.3) (c.in-Ok-follow_bound.ensures rules correlations stands))

pub returns : goal.returns
returns g c rules correlations stands =
    let limits = c.args.limits.now in
    let schema = c.args.schema.now in
    let b = c.requires.are rules correlations stands in
    let old = g.W.Outside.state c.args.outside.now in
    let mid = g.W.Outside.state c.put_unbound.new.outside in
    let new = g.W.Outside.state c.follow_bound.new.outside in
    followed_stop limits schema rules correlations b.0 b.1 c.args.bindings.unbound.items b.4 c.in-Ok.refused c.in-Err-follow_bound.stop old mid new
    (subst (λ (us : List Unbound). Writes (AreTold us) (Ok c.in-Ok.refused) old mid) c.as_slice.ensures.value c.in-Ok.ensures)
    (lines_judged limits schema rules b.0 c.args.bindings.bounds.items c.as_slice-2.result.now (Err c.in-Err-follow_bound.stop) mid new b.2 (c.as_slice-2.ensures.value ∙ b.3) (c.in-Err-follow_bound.ensures rules correlations stands))
