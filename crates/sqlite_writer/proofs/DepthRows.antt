-- How deep rows and lists in halves are, as code reckons them.
use Rattle.std.proofs.Common.{ℕ, ◌+◌, ◌≡◌, ◌≤◌, ◌<◌, refl, sym, ◌∙◌, ap, List, [], ◌∷◌, length, drop, get_or, None}
use Rattle.std.specs.Prelude.{Option, Some}
use Rattle.std.specs.declared.alloc.Global.{Global}
use Rattle.std.specs.declared.vec.Vec.{Vec}
use Rattle.event_schema.specs.declared.schema.Field.{Field}
use Rattle.backend_core.specs.View.{tree_view, plains_of}
use Rattle.backend_core.specs.declared.tree.Tree.{Tree}
use Rattle.backend_core.specs.declared.tree.Tree as trees
use Rattle.sqlite_writer.specs.Depths.{joined_depth, row_behind, row_depth, halved_depth, or_zero, tree_depth, parts_depth, items_depth}
use Rattle.backend_core.proofs.Joining.{view-All, view-Any}
use Rattle.sqlite_writer.proofs.Rows.{next_of, none_of}

module _ (most : ℕ) (fields : List Field) where
  items_are : (ts : List Tree) → parts_depth most fields (plains_of ts) ≡ items_depth most fields ts
  items_are [] = refl
  items_are (t ∷ ts) = ap (λ (ds : List ℕ). tree_depth most fields (tree_view t) ∷ ds) (items_are ts)

  pub depth_of_all : (v : Vec Tree Global) (tree : Tree) (ts : List Tree) → tree ≡ trees.All v → ts ≡ v.items
      → halved_depth most (items_depth most fields ts) ≡ tree_depth most fields (tree_view tree)
  depth_of_all v tree ts is same =
      ap (λ (us : List Tree). halved_depth most (items_depth most fields us)) same
      ∙ (ap (halved_depth most) (sym (items_are v.items))
      ∙ (sym (ap (tree_depth most fields) (view-All v)) ∙ ap (λ (t : Tree). tree_depth most fields (tree_view t)) (sym is)))

  pub depth_of_any : (v : Vec Tree Global) (tree : Tree) (ts : List Tree) → tree ≡ trees.Any v → ts ≡ v.items
      → halved_depth most (items_depth most fields ts) ≡ tree_depth most fields (tree_view tree)
  depth_of_any v tree ts is same =
      ap (λ (us : List Tree). halved_depth most (items_depth most fields us)) same
      ∙ (ap (halved_depth most) (sym (items_are v.items))
      ∙ (sym (ap (tree_depth most fields) (view-Any v)) ∙ ap (λ (t : Tree). tree_depth most fields (tree_view t)) (sym is)))

  pub row_goes : (ts : List Tree) (i : ℕ) (t : Tree) (before : Option ℕ) (d e : ℕ) (whole : Option ℕ) → i < length ts → t ≡ get_or ts i t
      → d ≡ tree_depth most fields (tree_view t) → e ≡ joined_depth most before d
      → row_behind most before (items_depth most fields (drop i ts)) ≡ whole → row_behind most (Some e) (items_depth most fields (drop (i + 1) ts)) ≡ whole
  row_goes ts i t before d e whole within at is joined h =
      ap (λ (x : ℕ). row_behind most (Some x) (items_depth most fields (drop (i + 1) ts))) (joined ∙ ap (joined_depth most before) is)
      ∙ (ap (row_behind most before) (sym (next_of (λ u. tree_depth most fields (tree_view u)) ts i t within at)) ∙ h)

  pub row_ends : (ts : List Tree) (i : ℕ) (before : Option ℕ) → length ts ≤ i
      → row_behind most before (items_depth most fields (drop i ts)) ≡ row_behind most None (items_depth most fields ts) → or_zero before ≡ row_depth most (items_depth most fields ts)
  row_ends ts i before past h =
      ap or_zero (ap (row_behind most before) (sym (none_of (λ u. tree_depth most fields (tree_view u)) ts i past)) ∙ h)
