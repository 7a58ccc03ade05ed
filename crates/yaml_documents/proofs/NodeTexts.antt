-- A tree that is laid out in lines of scalar values has texts of scalar values.
use Rattle.std.proofs.Common.{ℕ, zero, suc, inl, inr, List, [], ◌∷◌, ◌++◌, drop, Bool, true, false, sym, subst}
use Rattle.std.specs.List.{AllByRecursion}
use Rattle.yaml_tree.specs.Tree.{At, Scalar, Tree, scalar, list, map, Elements, no_elements, element, Members, no_members, member}
use Rattle.yaml_tree.specs.Texts.{IsScalarText, HasScalarTexts, HaveScalarTexts, MembersHave}
use Rattle.yaml_inline.specs.File.{Line, skip_blanks}
use Rattle.yaml_inline.specs.Line.{body, is_comment}
use Rattle.yaml_inline.specs.Flow.{quoted, flow_node}
use Rattle.yaml_inline.specs.Key.{keyed}
use Rattle.yaml_blocks.specs.Blocks.{plain_text, block_scalar}
use Rattle.yaml_blocks.specs.Reading.{Item, items_of, offset}
use Rattle.yaml_blocks.specs.Lays.{IsFlow, IsScalar, LaysBlock, LaysElement, LaysValue, LaysNode, LaysElements, LaysMembers}
use Rattle.yaml_documents.proofs.Scalars.{AreScalars, all_of_scalars, given, drop_scalars, skip_scalars}
use Rattle.yaml_documents.proofs.FlowTexts.{resolved_text, TextHas, quoted_text, KeyHas, key_text, TreeHas, node_text as flow_node_text}
use Rattle.yaml_documents.proofs.BlockTexts.{LinesHave, body_scalars, rest_lines, plain_text-text, block_scalar-text, ItemHas, items_of-text}

scalar_text : (s : Scalar) (m : ℕ) (l : Line) (cs : List ℕ) (ls : List Line) → AreScalars cs → LinesHave ls → IsScalar s m l cs ls → IsScalarText s
scalar_text s m l cs ls h lines (inl (t, is, inl (quote, rest, read, behind))) =
    subst IsScalarText (sym is) (all_of_scalars t (given TextHas (quoted l cs) (t, rest) (quoted_text l cs h) read).0)
scalar_text s m l cs ls h lines (inl (t, is, inr (head, read))) =
    subst IsScalarText (sym is) (all_of_scalars t (given AreScalars (block_scalar m l cs ls) t (block_scalar-text m l cs ls lines) read))
scalar_text s m l cs ls h lines (inr (starts, known, t, read, is)) =
    subst IsScalarText (sym is) (resolved_text t (given AreScalars (plain_text m l cs ls) t (plain_text-text m l cs ls h lines) read))

flow_text : (t : Tree) (d : ℕ) (l : Line) (cs : List ℕ) (ls : List Line) → AreScalars cs → IsFlow t d l cs ls → HasScalarTexts t
flow_text t d l cs ls h (bracket, rest, read, behind) = (given TreeHas (flow_node d l cs) (t, rest) (flow_node_text d l cs h) read).0

-- ---- blocks, elements and values, over nodes that have such texts

abbrev NodeHas : Tree → ℕ → Type 0
NodeHas t d = (may : Bool) (m : ℕ) (l : Line) (cs : List ℕ) (ls : List Line) → AreScalars cs → LinesHave ls → LaysNode t d may m l cs ls → HasScalarTexts t

pub block_text : (t : Tree) (d : ℕ) → NodeHas t d → (m : ℕ) (home : At) (ls : List Line) → LinesHave ls → LaysBlock (λ may m l cs ls. LaysNode t d may m l cs ls) t m home ls
    → HasScalarTexts t
block_text t d texts m home ls h (inl (none, is)) = subst HasScalarTexts (sym is) tt
block_text t d texts m home ls h (inr (first, more, is, open_line, laid)) =
    let lines : LinesHave (first ∷ more) = subst LinesHave is (rest_lines is_comment ls h) in
    texts true m first (body first) more (body_scalars first lines.0) lines.1 laid

element_text : (t : Tree) (d : ℕ) → NodeHas t d → (i : ℕ) (x : Item) → ItemHas x → LaysElement (λ may m l cs ls. LaysNode t d may m l cs ls) t i x → HasScalarTexts t
element_text t d texts i x h (inl laid) = block_text t d texts _ _ x.inner h.1 laid.1
element_text t d texts i x h (inr laid) =
    texts _ _ _ (skip_blanks (drop 1 x.text)) x.inner (skip_scalars (drop 1 x.text) (drop_scalars 1 x.text h.0)) h.1 laid.1

value_text : (t : Tree) (d : ℕ) → NodeHas t d → (i : ℕ) (x : Item) (rest : List ℕ) → AreScalars rest → LinesHave x.inner
    → LaysValue (λ may m l cs ls. LaysNode t d may m l cs ls) t i x rest → HasScalarTexts t
value_text t d texts i x rest h lines (inl laid) = block_text t d texts _ _ x.inner lines laid.1
value_text t d texts i x rest h lines (inr laid) = texts _ _ _ (skip_blanks rest) x.inner (skip_scalars rest h) lines laid.1

-- ---- nodes, by induction on the tree

mutual
  pub node_text : (t : Tree) (d : ℕ) → NodeHas t d
  node_text (scalar a s) d may m l cs ls h lines laid = scalar_text s m l cs ls h lines laid.2
  node_text (list a es) zero may m l cs ls h lines laid = absurd laid
  node_text (list a es) (suc d) may m l cs ls h lines (inl laid) = flow_text (list a es) (suc d) l cs ls h laid.1
  node_text (list a es) (suc d) may m l cs ls h lines (inr laid) =
      elements_text es d (offset l cs) (items_of false l cs ls) (items_of-text false l cs ls h lines) laid.3
  node_text (map a ms) zero may m l cs ls h lines laid = absurd laid
  node_text (map a ms) (suc d) may m l cs ls h lines (inl laid) = flow_text (map a ms) (suc d) l cs ls h laid.1
  node_text (map a ms) (suc d) may m l cs ls h lines (inr laid) =
      members_text ms d (offset l cs) [] (items_of true l cs ls) (items_of-text true l cs ls h lines) laid.3

  elements_text : (es : Elements) (d i : ℕ) (xs : List Item) → AllByRecursion ItemHas xs → LaysElements es d i xs → HaveScalarTexts es
  elements_text no_elements d i xs h laid = tt
  elements_text (element t ts) d i xs h (x, others, is, dashed, laid, more) =
      let items : AllByRecursion ItemHas (x ∷ others) = subst (AllByRecursion ItemHas) is h in
      (element_text t d (node_text t d) i x items.0 laid, elements_text ts d i others items.1 more)

  members_text : (ms : Members) (d i : ℕ) (seen : List (List ℕ)) (xs : List Item) → AllByRecursion ItemHas xs → LaysMembers ms d i seen xs → MembersHave ms
  members_text no_members d i seen xs h laid = tt
  members_text (member k a t ms) d i seen xs h (x, others, is, rest, key, laid, more) =
      let items : AllByRecursion ItemHas (x ∷ others) = subst (AllByRecursion ItemHas) is h in
      let read : KeyHas (keyed k rest) = subst KeyHas key.key (key_text x.line x.text items.0.0) in
      (all_of_scalars k read.0, value_text t d (node_text t d) i x rest read.1 items.0.1 laid, members_text ms d i (seen ++ k ∷ []) others items.1 more)
