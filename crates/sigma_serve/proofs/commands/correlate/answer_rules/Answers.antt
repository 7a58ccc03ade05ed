use Rattle.std.specs.Prelude.{[]}
use Rattle.sigma_serve.proofs.Correlated.{files_stop, read_stop, read_whole}
use Rattle.sigma_serve.specs.Sourced.{IsFound}
use Rattle.sigma_serve.proofs.commands.correlate.answer_rules.Goals as goal

pub returns-in-Err : goal.returns-in-Err
returns-in-Err g c =
    files_stop c.args.limits.now c.args.pipelines.now c.args.schema.now c.each_answer.ensures.correlated (g.B.Builder.refused c.args.builder.now) (g.B.Builder.refused c.answer_sources.new.builder)
    c.args.rules.now c.in-Err.stop (g.W.Outside.state c.args.outside.now) (g.W.Outside.state c.answer_sources.new.outside) c.in-Err.ensures.ends

pub answer_found-requires : goal.answer_found-requires
answer_found-requires g c = c.in-Ok.ensures.kept ([], [], c.new-found.ensures c.args.schema.now)

pub returns-in-Ok-answer_found : goal.returns-in-Ok-answer_found
returns-in-Ok-answer_found g c =
    let schema = c.args.schema.now in
    let stands = c.new-found.ensures schema in
    let kept : IsFound schema c.answer_sources.new.found = c.in-Ok.ensures.kept ([], [], stands) in
    read_whole c.args.limits.now c.args.pipelines.now schema (g.B.Builder.refused c.args.builder.now) (g.B.Builder.refused c.answer_sources.new.builder)
    c.args.rules.now c.new-found.result c.answer_sources.new.found stands kept c.in-Ok.refused c.in-Ok-answer_found.more c.either.result
    (g.W.Outside.state c.args.outside.now) (g.W.Outside.state c.answer_sources.new.outside) (g.W.Outside.state c.answer_found.new.outside) c.either.ensures c.in-Ok.ensures.ends
    (c.in-Ok-answer_found.ensures kept.0 kept.1 kept.2)

pub returns : goal.returns
returns g c =
    let schema = c.args.schema.now in
    let stands = c.new-found.ensures schema in
    let kept : IsFound schema c.answer_sources.new.found = c.in-Ok.ensures.kept ([], [], stands) in
    read_stop c.args.limits.now c.args.pipelines.now schema (g.B.Builder.refused c.args.builder.now) (g.B.Builder.refused c.answer_sources.new.builder)
    c.args.rules.now c.new-found.result c.answer_sources.new.found stands kept c.in-Ok.refused c.in-Err-answer_found.stop
    (g.W.Outside.state c.args.outside.now) (g.W.Outside.state c.answer_sources.new.outside) (g.W.Outside.state c.answer_found.new.outside) c.in-Ok.ensures.ends
    (c.in-Err-answer_found.ensures kept.0 kept.1 kept.2)
