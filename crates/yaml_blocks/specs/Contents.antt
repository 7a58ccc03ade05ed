-- What the readers of a block scalar's lines give.
use Rattle.std.specs.Prelude.{◌≡◌, ℕ, List, [], ◌≤◌, length, drop}
use Rattle.yaml_inline.specs.declared.line.Line as code
use Rattle.yaml_inline.specs.File.{Line}
use Rattle.yaml_blocks.specs.Blocks.{scalar_lines}
use Rattle.yaml_blocks.specs.Views.{lines_view}

-- what an empty line at the front counts as
abbrev pub none_of_line : Line → List ℕ
none_of_line l = []

-- the text lines of a block scalar, and how many lines belong to it
pub record ScalarLines (least : ℕ) (lines : List code.Line) (texts : List (List ℕ)) (count : ℕ) : Type 0 where
  pub texts_are : texts ≡ (scalar_lines least (lines_view lines)).0
  pub behind : lines_view (drop count lines) ≡ (scalar_lines least (lines_view lines)).1
  pub within : count ≤ length lines
