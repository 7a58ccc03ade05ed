-- Laws of the definitions: one tree, documents before documents, and the first line without one.
use Rattle.std.specs.Prelude.{◌≡◌, ℕ, List, [], ◌∷◌, ◌++◌, Ok, Err}
use Rattle.yaml_tree.specs.Tree.{At, Tree}
use Rattle.yaml_inline.specs.File.{Line}
use Rattle.yaml_inline.specs.Line.{Stop}
use Rattle.yaml_blocks.specs.Reading.{block_in}
use Rattle.yaml_blocks.specs.Lays.{Lays}
use Rattle.yaml_blocks.specs.Form.{Stops}

abbrev pub HasTree : ℕ → At → List Line → Type 0
HasTree depth home ls = (t : Tree) × Lays t depth home ls

-- The reading stops at the first line up to which the lines have no tree, whatever follows it.
pub record StopsFirst (depth : ℕ) (home : At) (ls : List Line) (s : Stop) : Type 0 where
  pub front : List Line
  pub line : Line
  pub more : List Line
  pub lines : ls ≡ front ++ line ∷ more
  pub before : (a b : List Line) → front ≡ a ++ b → HasTree depth home a
  pub dead : HasTree depth home (front ++ line ∷ []) → ⊥
  pub here : block_in depth 0 home (front ++ line ∷ []) ≡ Err s

abbrev pub OneTree : Type 0
OneTree = (depth : ℕ) (home : At) (ls : List Line) (t u : Tree) → Lays t depth home ls → Lays u depth home ls → t ≡ u

abbrev pub DocumentsBefore : Type 0
DocumentsBefore = (depth : ℕ) (home : At) (a b : List Line) → HasTree depth home (a ++ b) → HasTree depth home a

abbrev pub ReadsTrees : Type 0
ReadsTrees = (depth : ℕ) (home : At) (ls : List Line) (t : Tree) → block_in depth 0 home ls ≡ Ok t → Lays t depth home ls

abbrev pub ReadsAll : Type 0
ReadsAll = (depth : ℕ) (home : At) (ls : List Line) (t : Tree) → Lays t depth home ls → block_in depth 0 home ls ≡ Ok t

abbrev pub StopsThere : Type 0
StopsThere = (depth : ℕ) (home : At) (ls : List Line) (s : Stop) → block_in depth 0 home ls ≡ Err s → StopsFirst depth home ls s

-- where and why it stops, by cases
abbrev pub StopsByCases : Type 0
StopsByCases = (depth : ℕ) (home : At) (ls : List Line) (s : Stop) → block_in depth 0 home ls ≡ Err s → Stops depth ls s

abbrev pub CasesStop : Type 0
CasesStop = (depth : ℕ) (home : At) (ls : List Line) (s : Stop) → Stops depth ls s → block_in depth 0 home ls ≡ Err s
