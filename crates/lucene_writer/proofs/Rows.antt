-- The parts of a tree, one behind the other, are those of its vector.
use Rattle.std.proofs.Common.{ℕ, ◌+◌, ◌<◌, ◌≡◌, ◌≤◌, refl, sym, ◌∙◌, ap, Bool, true, false, ◌&&◌, List, [], ◌∷◌, ◌++◌, length, get_or, drop, append_assoc, append-nil}
use Rattle.std.specs.Prelude.{codes, not}
use Rattle.std.specs.declared.alloc.Global.{Global}
use Rattle.std.specs.declared.vec.Vec.{Vec}
use Rattle.std.proofs.lemmas.List.{drop_all, drop_more, at_drop_all}
use Rattle.event_schema.specs.declared.schema.Field.{Field}
use Rattle.backend_core.proofs.Joining.{view-All, view-Any}
use Rattle.backend_core.specs.View.{tree_view, plains_of}
use Rattle.backend_core.specs.declared.tree.Tree.{Tree}
use Rattle.backend_core.specs.declared.tree.Tree as trees
use Rattle.lucene_writer.specs.declared.place.Standing.{Standing}
use Rattle.lucene_writer.specs.declared.place.Standing.TheVariants.{Alone, InAnd}
use Rattle.lucene_writer.specs.Pieces.{piece_if, enclosed_if, is_whole, tree_text, parts_text, items_text, all_text, any_text, is_alone, never_text, is_denied, are_denied, all_denied}

-- a loop over the parts has come to its end
pub text_end : (fields : List Field) (at : Standing) (word : List ℕ) (behind : Bool) (ts : List Tree) (i : ℕ) (out whole : List ℕ) → length ts ≤ i
    → out ++ items_text fields at word behind (drop i ts) ≡ whole → out ≡ whole
text_end fields at word behind ts i out whole past h =
    let none = drop_all i ts past in
    sym (append-nil out) ∙ rw none at h

pub enclosed_text : (out first second third text whole : List ℕ) (so : Bool) → first ≡ out ++ piece_if so (codes "(") → second ≡ first ++ text
    → third ≡ second ++ piece_if so (codes ")") → whole ≡ enclosed_if so text → third ≡ out ++ whole
enclosed_text out first second third text whole so a b c d = rw (c, b, a, d) (simp append_assoc)

pub drop_at : {X : Type 0} (xs : List X) (i : ℕ) (x : X) → i < length xs → x ≡ get_or xs i x → drop i xs ≡ x ∷ drop (i + 1) xs
drop_at xs i x h is = drop_more xs i x h ∙ ap (λ y. y ∷ drop (i + 1) xs) (sym is)

pub denied_more : (ts : List Tree) (i : ℕ) (t : Tree) → i < length ts → t ≡ get_or ts i t → not (is_denied (tree_view t)) ≡ false
    → all_denied (drop i ts) ≡ all_denied (drop (i + 1) ts)
denied_more ts i t h is e = ap all_denied (drop_at ts i t h is) ∙ by (is_denied (tree_view t)) e where
  by : (b : Bool) → not b ≡ false → (b && all_denied (drop (i + 1) ts)) ≡ all_denied (drop (i + 1) ts)
  by true e = refl
  by false e = absurd cc

pub denied_here : (ts : List Tree) (i : ℕ) (t : Tree) → i < length ts → t ≡ get_or ts i t → not (is_denied (tree_view t)) ≡ true → all_denied (drop i ts) ≡ false
denied_here ts i t h is e = ap all_denied (drop_at ts i t h is) ∙ by (is_denied (tree_view t)) e where
  by : (b : Bool) → not b ≡ true → (b && all_denied (drop (i + 1) ts)) ≡ false
  by true e = absurd cc
  by false e = refl

pub denied_end : (ts : List Tree) (i : ℕ) → length ts ≤ i → all_denied (drop i ts) ≡ true
denied_end ts i h = at_drop_all all_denied ts i h

pub enclosed_both : (out first second third fourth lead text whole : List ℕ) (so : Bool) → first ≡ out ++ piece_if so (codes "(") → second ≡ first ++ lead
    → third ≡ second ++ text → fourth ≡ third ++ piece_if so (codes ")") → whole ≡ enclosed_if so (lead ++ text) → fourth ≡ out ++ whole
enclosed_both out first second third fourth lead text whole so a b c d e = rw (d, c, b, a, e) (simp append_assoc)

pub never_put : (out first second third : List ℕ) (at : Standing) (so : Bool) → so ≡ is_alone at → first ≡ out ++ piece_if so (codes "(")
    → second ≡ first ++ codes "*:* AND NOT *:*" → third ≡ second ++ piece_if so (codes ")") → third ≡ out ++ never_text at
never_put out first second third at so is a b c =
    enclosed_text out first second third (codes "*:* AND NOT *:*") (never_text at) so a b c (ap (λ (s : Bool). enclosed_if s (codes "*:* AND NOT *:*")) (sym is))

-- ---- the lists of a tree

items_are : (fields : List Field) (at : Standing) (word : List ℕ) (behind : Bool) (ts : List Tree)
    → parts_text fields at word behind (plains_of ts) ≡ items_text fields at word behind ts
items_are fields at word behind [] = refl
items_are fields at word behind (t ∷ ts) =
    ap (λ (text : List ℕ). piece_if behind word ++ (tree_text fields at (tree_view t) ++ text)) (items_are fields at word true ts)

pub denied_are : (ts : List Tree) → are_denied (plains_of ts) ≡ all_denied ts
denied_are [] = refl
denied_are (t ∷ ts) = ap (λ (b : Bool). is_denied (tree_view t) && b) (denied_are ts)

module _ (fields : List Field) (at : Standing) (v : Vec Tree Global) (tree : Tree) (ts : List Tree) where
  pub text_of_all : tree ≡ trees.All v → ts ≡ v.items → all_text fields at ts ≡ tree_text fields at (tree_view tree)
  text_of_all is same =
      ap (all_text fields at) same
      ∙ (ap (λ (b : Bool). enclosed_if (not (is_whole at)) (piece_if b (codes "*:* AND ") ++ items_text fields InAnd (codes " AND ") false v.items)) (sym (denied_are v.items))
      ∙ (ap (λ (text : List ℕ). enclosed_if (not (is_whole at)) (piece_if (are_denied (plains_of v.items)) (codes "*:* AND ") ++ text)) (sym (items_are fields InAnd (codes " AND ") false v.items))
      ∙ (sym (ap (tree_text fields at) (view-All v)) ∙ ap (λ (t : Tree). tree_text fields at (tree_view t)) (sym is))))

  pub text_of_any : tree ≡ trees.Any v → ts ≡ v.items → any_text fields at ts ≡ tree_text fields at (tree_view tree)
  text_of_any is same =
      ap (any_text fields at) same
      ∙ (ap (λ (text : List ℕ). enclosed_if (not (is_whole at)) text) (sym (items_are fields Alone (codes " OR ") false v.items))
      ∙ (sym (ap (tree_text fields at) (view-Any v)) ∙ ap (λ (t : Tree). tree_text fields at (tree_view t)) (sym is)))
