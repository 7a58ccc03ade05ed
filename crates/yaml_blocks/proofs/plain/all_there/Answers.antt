use Rattle.std.proofs.Common.{◌∙◌, sym}
use Rattle.yaml_blocks.proofs.Turns.{nothing_not}
use Rattle.yaml_blocks.proofs.plain.all_there.Goals as goal

pub returns-then-not-is_comment : goal.returns-then-not-is_comment
returns-then-not-is_comment c = λ e.
    let at = c.loop-line in
    nothing_not c.args.lines.now at.line-index c.line-item.result c.loop-line-test.true c.line-item.is (sym c.is_comment.ensures ∙ c.if-not-is_comment.true) (at.invariant ∙ e)
