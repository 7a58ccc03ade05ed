use Rattle.std.proofs.Common.{false}
use Rattle.answer_writer.specs.Input.{Needs}
use Rattle.sigma_serve.proofs.Filed.{there}
use Rattle.sigma_serve.proofs.Sourced.{sources_none, sources_next, sources_stop}
use Rattle.sigma_serve.proofs.sources.answer_sources.Goals as goal

pub loop-name-init : goal.loop-name-init
loop-name-init g c =
    let needs : Needs = record { names = c.args.names.now; events = false } in
    (sources_none c.args.limits.now c.args.pipelines.now c.args.schema.now needs (g.B.Builder.refused c.args.builder.now) c.args.found.now (g.W.Outside.state c.args.outside.now), λ found. found)

pub loop-name-preserved : goal.loop-name-preserved
loop-name-preserved g c =
    let needs : Needs = record { names = c.args.names.now; events = false } in (
      sources_next c.args.limits.now c.args.pipelines.now c.args.schema.now (g.B.Builder.refused c.args.builder.now) (g.B.Builder.refused c.loop-name.builder) (g.B.Builder.refused c.answer_source.new.builder) needs
          c.args.names.now c.loop-name.name-index c.name-item.result c.loop-name.refused c.in-Ok.more c.either-refused.result c.args.found.now c.loop-name.found c.answer_source.new.found
          (g.W.Outside.state c.args.outside.now) (g.W.Outside.state c.loop-name.outside) (g.W.Outside.state c.answer_source.new.outside)
          c.loop-name-test.true c.name-item.is c.either-refused.ensures c.loop-name.invariant.0
          (c.in-Ok.ensures.ends needs (there c.args.names.now c.loop-name.name-index c.name-item.result c.loop-name-test.true c.name-item.is)),
      λ found. c.in-Ok.ensures.kept (c.loop-name.invariant.1 found),
    )

pub returns-in-Err-clause-ends : goal.returns-in-Err-clause-ends
returns-in-Err-clause-ends g c =
    let needs : Needs = record { names = c.args.names.now; events = false } in
    sources_stop c.args.limits.now c.args.pipelines.now c.args.schema.now c.one_outcome.ensures.file (g.B.Builder.refused c.args.builder.now) (g.B.Builder.refused c.loop-name.builder) (g.B.Builder.refused c.answer_source.new.builder)
    needs c.args.names.now c.loop-name.name-index c.name-item.result c.loop-name.refused c.in-Err.stop c.args.found.now c.loop-name.found
    (g.W.Outside.state c.args.outside.now) (g.W.Outside.state c.loop-name.outside) (g.W.Outside.state c.answer_source.new.outside)
    c.loop-name-test.true c.name-item.is c.loop-name.invariant.0
    (c.in-Err.ensures.ends needs (there c.args.names.now c.loop-name.name-index c.name-item.result c.loop-name-test.true c.name-item.is))
