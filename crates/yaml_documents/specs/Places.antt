-- On which line a stop stands, and a refusal.
use Rattle.std.specs.Prelude.{◌≡◌, ℕ, suc, ◌≤◌, List, [], ◌∷◌, length}
use Rattle.yaml_tree.specs.Tree.{At}
use Rattle.yaml_inline.specs.File.{Line}
use Rattle.yaml_inline.specs.Line.{Stop, refused, unclosed}
use Rattle.yaml_blocks.specs.Laws.{StopsFirst}
use Rattle.yaml_blocks.specs.Documents.{IsRefusedAt, IsCode}

-- the place of a character of the line, or directly behind its last one
pub record IsOn (l : Line) (a : At) : Type 0 where
  pub line : a.line ≡ l.number
  pub counts : 1 ≤ a.column
  pub column : a.column ≤ suc (length l.text)

abbrev pub AreOn : Line → List (At × ℕ) → Type 0
AreOn l [] = Unit {0}
AreOn l (x ∷ xs) = IsOn l x.0 × AreOn l xs

-- the place of a stop, or the places of what stays open there
abbrev pub StandsOn : Line → Stop → Type 0
StandsOn l (refused c a) = IsOn l a
StandsOn l (unclosed n opens) = (n ≡ l.number) × AreOn l opens

-- A reading that stops does so on the first line up to which the lines have no tree.
abbrev pub StopsOnTheLine : Type 0
StopsOnTheLine = (depth : ℕ) (home : At) (ls : List Line) (s : Stop) (h : StopsFirst depth home ls s) → StandsOn h.line s

-- The place of a document's refusal lies on the line that it is refused at.
abbrev pub RefusedOnTheLine : Type 0
RefusedOnTheLine =
    (depth : ℕ) (ls front : List Line) (line : Line) (more : List Line) (p : ℕ × At) → IsRefusedAt depth ls front line more → IsCode depth front line more p → IsOn line p.1
