use Rattle.std.proofs.Common.{◌≡◌, ◌-◌, ◌^◌, ◌∙◌, subst}
use Rattle.backend_core.specs.View.{tree_view}
use Rattle.sqlite_writer.specs.Depths.{tree_depth}
use Rattle.sqlite_writer.proofs.Whole.{deep_is}
use Rattle.sqlite_writer.proofs.writer.query_depth.Goals as goal

pub returns : goal.returns
returns c = λ t is sound.
    let w = tree_view c.args.written.now in
    subst (λ fs. c.tree_depth.result ≡ tree_depth (2 ^ 64 - 1) fs w) c.as_slice.ensures c.tree_depth.ensures ∙ deep_is c.args.schema.now w t is sound
