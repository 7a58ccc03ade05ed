-- What is given for a document, and for the line that it is refused at.
use Rattle.std.specs.Prelude.{◌≡◌, ℕ, List, ◌∷◌, ◌++◌, length, map as list_map}
use Rattle.sig_base.specs.declared.refusal.Detail.TheVariants as detail
use Rattle.yaml_tree.specs.Tree.{At, Answer}
use Rattle.yaml_tree.specs.View.{place_view, document_view}
use Rattle.yaml_tree.specs.declared.tree.Document.{Document}
use Rattle.yaml_tree.specs.declared.tree.Document.TheVariants.{Tree, Refused}
use Rattle.yaml_inline.specs.File.{Line}
use Rattle.yaml_inline.specs.Line.{Stop, refused, unclosed}
use Rattle.yaml_blocks.specs.Documents.{stop_code, code_at}

abbrev pub answers_view : List Document → List Answer
answers_view ds = list_map document_view ds

-- a refused document tells nothing but a code and a place
abbrev pub IsPlain : Document → Type 0
IsPlain (Tree n) = Unit {0}
IsPlain (Refused r) = r.detail ≡ detail.None

-- the document is refused with this code at this place, and nothing more is told
abbrev pub IsRefused : ℕ × At → Document → Type 0
IsRefused p (Tree n) = ⊥
IsRefused p (Refused r) = (r.detail ≡ detail.None) × ((r.code, place_view r.place) ≡ p)

-- the number of the line that a stop names
abbrev pub number_of : Stop → ℕ
number_of (refused c a) = a.line
number_of (unclosed n opens) = n

-- one of the lines has this number
pub record HasNumber (ls : List Line) (n : ℕ) : Type 0 where
  pub front : List Line
  pub line : Line
  pub more : List Line
  pub lines : ls ≡ front ++ line ∷ more
  pub number : line.number ≡ n

-- the document is refused for this stop, at the line that the stop names
abbrev pub IsStopped : List Line → Stop → Document → Type 0
IsStopped ls s d = (front : List Line) (line : Line) (more : List Line) → ls ≡ front ++ line ∷ more → line.number ≡ number_of s → IsRefused (stop_code line more s) d

-- the document is refused at the line behind so many lines
abbrev pub IsRefusedBehind : ℕ → ℕ → List Line → Document → Type 0
IsRefusedBehind depth count ls d =
    (front : List Line) (line : Line) (more : List Line) → ls ≡ front ++ line ∷ more → length front ≡ count → IsRefused (code_at depth front line more) d
