use Rattle.std.proofs.Common.{◌≡◌, ◌++◌, take}
use Rattle.std.specs.Prelude.{map}
use Rattle.yaml_blocks.specs.Blocks.{content}
use Rattle.yaml_blocks.specs.Chompings.{texts_view}
use Rattle.yaml_blocks.specs.Views.{lines_view}
use Rattle.yaml_blocks.proofs.content.push_contents.Given as goal

abbrev pub invariant-loop-at : goal.invariant-loop-at
invariant-loop-at l = texts_view l.texts.items ≡ texts_view l.fn.texts.items ++ map (content l.least) (lines_view (take l.at l.lines))
