use Rattle.std.proofs.Common.{false}
use Rattle.answer_writer.specs.Input.{Needs}
use Rattle.sigma_serve.proofs.Filed.{there, files_none, files_next, files_stop}
use Rattle.sigma_serve.proofs.files.answer_files.Goals as goal

pub loop-name-init : goal.loop-name-init
loop-name-init g c =
    let limits = c.args.limits.now in
    let needs : Needs = record { names = c.args.names.now; events = false } in
    files_none (g.T.TreeCommand.gives c.args.command.now limits) limits (g.T.TreeCommand.pipelines c.args.command.now) needs (g.B.Builder.refused c.args.builder.now) (g.W.Outside.state c.args.outside.now)

pub loop-name-preserved : goal.loop-name-preserved
loop-name-preserved g c =
    let limits = c.args.limits.now in
    let needs : Needs = record { names = c.args.names.now; events = false } in
    files_next (g.T.TreeCommand.gives c.args.command.now limits) limits (g.T.TreeCommand.pipelines c.args.command.now) (g.B.Builder.refused c.args.builder.now) (g.B.Builder.refused c.loop-name.builder) (g.B.Builder.refused c.answer_file.new.builder) needs
    c.args.names.now c.loop-name.name-index c.name-item.result c.loop-name.found c.in-Ok.refused c.either-found.result
    (g.W.Outside.state c.args.outside.now) (g.W.Outside.state c.loop-name.outside) (g.W.Outside.state c.answer_file.new.outside)
    c.loop-name-test.true c.name-item.is c.either-found.ensures c.loop-name.invariant
    (c.in-Ok.ensures needs (there c.args.names.now c.loop-name.name-index c.name-item.result c.loop-name-test.true c.name-item.is))

pub returns-in-Err : goal.returns-in-Err
returns-in-Err g c =
    let limits = c.args.limits.now in
    let needs : Needs = record { names = c.args.names.now; events = false } in
    files_stop (g.T.TreeCommand.gives c.args.command.now limits) limits (g.T.TreeCommand.pipelines c.args.command.now) (c.each_file.ensures limits) (g.B.Builder.refused c.args.builder.now) (g.B.Builder.refused c.loop-name.builder)
    (g.B.Builder.refused c.answer_file.new.builder) needs c.args.names.now c.loop-name.name-index c.name-item.result c.loop-name.found c.in-Err.stop
    (g.W.Outside.state c.args.outside.now) (g.W.Outside.state c.loop-name.outside) (g.W.Outside.state c.answer_file.new.outside)
    c.loop-name-test.true c.name-item.is c.loop-name.invariant
    (c.in-Err.ensures needs (there c.args.names.now c.loop-name.name-index c.name-item.result c.loop-name-test.true c.name-item.is))
