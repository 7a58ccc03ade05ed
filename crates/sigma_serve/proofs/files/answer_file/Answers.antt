use Rattle.std.proofs.Common.{ℕ, List, false, subst}
use Rattle.answer_writer.specs.Stands.{Writes}
use Rattle.answer_writer.specs.State.{State}
use Rattle.sigma_serve.proofs.Documented.{file_left}
use Rattle.sigma_serve.proofs.Filed.{file_read, file_unread}
use Rattle.sigma_serve.specs.RuleFiles.{FileBySome}
use Rattle.sigma_serve.specs.UnderSchema.{is_ended}
use Rattle.sigma_serve.proofs.files.answer_file.Goals as goal

pub returns-in-Ok : goal.returns-in-Ok
returns-in-Ok g c needs there =
    let limits = c.args.limits.now in
    let name = c.args.name.now in
    let gives = g.T.TreeCommand.gives c.args.command.now limits in
    let ps = g.T.TreeCommand.pipelines c.args.command.now in
    let before = g.B.Builder.refused c.args.builder.now in
    let after = g.B.Builder.refused c.answer_bytes.new.builder in
    let ended = is_ended c.answer_bytes.result in
    let old = g.W.Outside.state c.args.outside.now in
    let new = g.W.Outside.state c.answer_bytes.new.outside in
    file_read gives limits ps name before after ended needs c.in-Ok.bytes c.answer_bytes.result old new there c.in-Ok.ensures.front
    (subst (λ (s : State). Writes (FileBySome gives limits ps before after ended name c.in-Ok.bytes) c.answer_bytes.result s new) c.in-Ok.ensures.same
    (subst (λ (l : List ℕ). Writes (FileBySome gives limits ps before after ended name l) c.answer_bytes.result (g.W.Outside.state c.read_file.new.outside) new) c.as_slice.ensures c.answer_bytes.ensures))

pub returns-in-Err : goal.returns-in-Err
returns-in-Err g c needs there =
    let limits = c.args.limits.now in
    let name = c.args.name.now in
    let gives = g.T.TreeCommand.gives c.args.command.now limits in
    let ps = g.T.TreeCommand.pipelines c.args.command.now in
    let texts = g.B.Builder.refused c.args.builder.now in
    file_unread gives limits ps name texts texts false (λ bytes. file_left gives limits ps name bytes (c.each_file.ensures limits) texts) needs c.in-Err.stop
    (g.W.Outside.state c.args.outside.now) (g.W.Outside.state c.read_file.new.outside) there c.in-Err.ensures.stops
