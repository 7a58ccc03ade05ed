-- Documents as plain data, and what holds of a refusal.
use Rattle.std.specs.Prelude.{◌≡◌, ℕ, List, [], ◌∷◌, map as list_map, Option, Some, None}
use Rattle.std.specs.Borrow.{Bor}
use Rattle.sig_base.specs.declared.refusal.Place.{Place}
use Rattle.sig_base.specs.declared.refusal.Fault.{Fault}
use Rattle.sig_base.specs.declared.refusal.Fault.TheVariants.{Memory, Refused}
use Rattle.sig_base.specs.declared.refusal.Detail.TheVariants as detail
use Rattle.yaml_tree.specs.Tree.{At}
use Rattle.yaml_tree.specs.View.{place_view}
use Rattle.yaml_inline.specs.declared.line.Line as code
use Rattle.yaml_inline.specs.File.{Line}
use Rattle.yaml_inline.specs.Line.{at}
use Rattle.yaml_blocks.specs.Blocks.{skip_comments}
use Rattle.yaml_blocks.specs.Views.{lines_view}

abbrev pub documents_view : List (Bor (List code.Line)) → List (List Line)
documents_view ds = list_map (λ d. lines_view d.now) ds

-- column 1 of the first of these lines
abbrev pub first_place : List Line → Option At
first_place [] = None
first_place (l ∷ ls) = Some (at l 0)

-- there are as many documents as there may be, and the first line with content begins there of one more
abbrev pub IsOneMore : ℕ → ℕ → List Line → ℕ × At → Type 0
IsOneMore most count document p = (count ≡ most) × (first_place (skip_comments document) ≡ Some p.1) × (p.0 ≡ 7)

-- a code and a place
abbrev pub code_view : ℕ × Place → ℕ × At
code_view p = (p.0, place_view p.1)

-- a refusal has this code and place, and no detail; want of memory is free
abbrev pub IfRefused : Fault → (ℕ × At → Type 0) → Type 0
IfRefused Memory P = Unit {0}
IfRefused (Refused r) P = (r.detail ≡ detail.None) × P (r.code, place_view r.place)
