use Rattle.backend_core.specs.View.{tree_view}
use Rattle.sqlite_writer.proofs.Answered.{writes}
use Rattle.sqlite_writer.proofs.backend.SqliteBackend.write.Goals as goal

pub returns : goal.returns
returns c =
    let sound = c.requires.sound in
    writes c.args.limits.now c.args.schema.now (tree_view c.args.tree.now) c.args.place c.text.result (c.text.ensures.bytes sound) c.text.ensures.lacks
    (c.text.ensures.deep sound) c.text.ensures.long (c.text.ensures.refused sound)
