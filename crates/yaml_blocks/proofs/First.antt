-- One tree; documents before documents; and the first line up to which there is no tree.
use Rattle.std.proofs.Common.{◌≡◌, ℕ, List, [], ◌∷◌, ◌++◌, ◌⊎◌, inl, inr, Ok, Err, refl, sym, ap, ◌∙◌, subst, append_assoc, append-nil}
use Rattle.yaml_tree.specs.Tree.{At, Tree}
use Rattle.yaml_inline.specs.File.{Line}
use Rattle.yaml_inline.specs.Line.{Stop, Read}
use Rattle.yaml_blocks.specs.Reading.{block_in}
use Rattle.yaml_blocks.specs.Laws.{HasTree, StopsFirst, OneTree, DocumentsBefore, StopsThere}
use Rattle.yaml_blocks.proofs.Tools.{ok_same}
use Rattle.yaml_blocks.proofs.Sound.{reads_trees}
use Rattle.yaml_blocks.proofs.Complete.{reads_all}
use Rattle.yaml_blocks.proofs.Persist.{blocks_persist}

pub one_tree : OneTree
one_tree depth home ls t u first second = ok_same t u (sym (reads_all depth home ls t first) ∙ reads_all depth home ls u second)

-- the lines have a tree, or their reading stops
pub tree_or_stop : (depth : ℕ) (home : At) (ls : List Line) → HasTree depth home ls ⊎ ((s : Stop) × (block_in depth 0 home ls ≡ Err s))
tree_or_stop depth home ls = by (block_in depth 0 home ls) refl where
  by : (r : Read Tree) → block_in depth 0 home ls ≡ r → HasTree depth home ls ⊎ ((s : Stop) × (block_in depth 0 home ls ≡ Err s))
  by (Ok t) e = inl (t, reads_trees depth home ls t e)
  by (Err s) e = inr (s, e)

pub no_tree : (depth : ℕ) (home : At) (ls : List Line) (s : Stop) → block_in depth 0 home ls ≡ Err s → HasTree depth home ls → ⊥
no_tree depth home ls s e (t, laid) = let r = reads_all depth home ls t laid in cc

pub documents_before : DocumentsBefore
documents_before depth home a b (t, laid) =
    elim (tree_or_stop depth home a) [
      | inl h ↦ h
      | inr h ↦ absurd (no_tree depth home (a ++ b) h.0 (blocks_persist depth 0 home a b h.0 h.1) (t, laid))
    ]

-- Behind lines that have a tree, the reading of all stops at one of the lines that follow.
breaks_from : (depth : ℕ) (home : At) (front more : List Line) (s : Stop) → HasTree depth home front → block_in depth 0 home (front ++ more) ≡ Err s → StopsFirst depth home (front ++ more) s
breaks_from depth home front [] s tree e = absurd (no_tree depth home (front ++ []) s e (subst (HasTree depth home) (sym (append-nil front)) tree))
breaks_from depth home front (l ∷ ls) s tree e =
    let whole : (front ++ l ∷ []) ++ ls ≡ front ++ l ∷ ls = append_assoc front (l ∷ []) ls in
    let again : block_in depth 0 home ((front ++ l ∷ []) ++ ls) ≡ Err s = ap (block_in depth 0 home) whole ∙ e in
    elim (tree_or_stop depth home (front ++ l ∷ [])) [
      | inl h ↦ subst (λ (xs : List Line). StopsFirst depth home xs s) whole (breaks_from depth home (front ++ l ∷ []) ls s h again)
      | inr h ↦
          let same : Err h.0 ≡ Err s = sym (blocks_persist depth 0 home (front ++ l ∷ []) ls h.0 h.1) ∙ again in
          record {
            front = front;
            line = l;
            more = ls;
            lines = refl;
            before = λ a b is. documents_before depth home a b (subst (HasTree depth home) is tree);
            dead = no_tree depth home (front ++ l ∷ []) h.0 h.1;
            here = h.1 ∙ same;
          }
    ]

pub stops_there : StopsThere
stops_there depth home ls s e =
    elim (tree_or_stop depth home []) [
      | inl h ↦ breaks_from depth home [] ls s h e
      | inr h ↦ absurd (empty h.0 h.1)
    ] where
      empty : (u : Stop) → block_in depth 0 home [] ≡ Err u → ⊥
      empty u e = cc
