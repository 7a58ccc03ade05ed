-- The nodes of a tree are paid by the characters that it's laid out in: two for each.
use Rattle.std.proofs.Common.{◌≡◌, ℕ, zero, suc, ◌+◌, ◌*◌, ◌≤◌, max, Bool, true, false, ◌||◌, ◌==◌, inl, inr, List, [], ◌∷◌, ◌++◌, length, drop, refl, ap, arith}
use Rattle.std.proofs.lemmas.Bool.Decides.{nat_tests}
use Rattle.std.proofs.lemmas.Bool.{or_cases}
use Rattle.yaml_tree.specs.Tree.{At, Scalar, Tree, scalar, list, map, Elements, no_elements, element, Members, no_members, member}
use Rattle.yaml_inline.specs.File.{Line, begins, blank_or_end, skip_blanks}
use Rattle.yaml_inline.specs.Line.{body, is_comment, starts_plain}
use Rattle.yaml_inline.specs.Flow.{is_quote, is_bracket}
use Rattle.yaml_blocks.specs.Reading.{Item, items_of, offset}
use Rattle.yaml_blocks.specs.Lays.{IsFlow, IsScalar, LaysBlock, LaysElement, LaysValue, LaysNode, LaysElements, LaysMembers}
use Rattle.yaml_documents.specs.Nodes.{nodes, element_nodes, value_nodes}
use Rattle.yaml_blocks.proofs.Rests.{skip_within, body_within, dash_tail, key_within}
use Rattle.yaml_documents.proofs.Flows.{node_paid as flow_paid}
use Rattle.yaml_documents.proofs.Blocks.{weight, rest_within, item_weight, items_weight, items_of_within}

-- ---- where something begins there is a character

some_left : (begin : List ℕ → Bool) (cs : List ℕ) → begin [] ≡ false → begin cs ≡ true → 1 ≤ length cs
some_left begin [] none e = cc
some_left begin (c ∷ cs) none e = omega arith

scalar_some : (s : Scalar) (m : ℕ) (l : Line) (cs : List ℕ) (ls : List Line) → IsScalar s m l cs ls → 1 ≤ length cs
scalar_some s m l cs ls (inl (t, is, inl q)) = some_left is_quote cs refl q.0
scalar_some s m l cs ls (inl (t, is, inr b)) = some_left (λ xs. begins 124 xs || begins 62 xs) cs refl b.0
scalar_some s m l cs ls (inr p) = some_left starts_plain cs refl p.0

bracket_solid : (cs : List ℕ) → is_bracket cs ≡ true → blank_or_end cs ≡ false
bracket_solid [] e = cc
bracket_solid (c ∷ cs) e =
    elim (or_cases (c == 91) (c == 123) e) [
      | inl p ↦ let is : c ≡ 91 = grind (arith, nat_tests) in rw is refl
      | inr p ↦ let is : c ≡ 123 = grind (arith, nat_tests) in rw is refl
    ]

flow_nodes : (t : Tree) (d : ℕ) (l : Line) (cs : List ℕ) (ls : List Line) → IsFlow t d l cs ls → nodes t ≤ 2 * length cs
flow_nodes t d l cs ls h = omega (arith, flow_paid d l cs (t, h.1) (bracket_solid cs h.0) h.2)

-- ---- blocks, elements and values, over nodes that are paid

abbrev PaidNode : Tree → ℕ → Type 0
PaidNode t d = (may : Bool) (m : ℕ) (l : Line) (cs : List ℕ) (ls : List Line) → LaysNode t d may m l cs ls → nodes t ≤ 2 * length cs + 2 * weight ls

-- a block is one null, or has a line that pays
pub block_paid : (t : Tree) (d : ℕ) → PaidNode t d → (m : ℕ) (home : At) (ls : List Line) → LaysBlock (λ may m l cs ls. LaysNode t d may m l cs ls) t m home ls
    → nodes t ≤ max 1 (2 * weight ls)
block_paid t d paid m home ls (inl (none, is)) = omega (arith, ap nodes is)
block_paid t d paid m home ls (inr (first, more, is, open_line, laid)) =
    omega (arith, paid true m first (body first) more laid, body_within first, ap weight is, rest_within is_comment ls)

element_paid : (t : Tree) (d : ℕ) → PaidNode t d → (i : ℕ) (x : Item) → 1 ≤ length x.text → length (drop 1 x.text) + 1 ≤ length x.text
    → LaysElement (λ may m l cs ls. LaysNode t d may m l cs ls) t i x → nodes t + 1 ≤ 2 * item_weight x
element_paid t d paid i x some tail (inl h) = omega (arith, block_paid t d paid _ _ x.inner h.1)
element_paid t d paid i x some tail (inr h) = omega (arith, paid _ _ _ (skip_blanks (drop 1 x.text)) x.inner h.1, skip_within (drop 1 x.text))

value_paid : (t : Tree) (d : ℕ) → PaidNode t d → (i : ℕ) (x : Item) (rest : List ℕ) → length rest + 1 ≤ length x.text
    → LaysValue (λ may m l cs ls. LaysNode t d may m l cs ls) t i x rest → nodes t + 1 ≤ 2 * item_weight x
value_paid t d paid i x rest tail (inl h) = omega (arith, block_paid t d paid _ _ x.inner h.1)
value_paid t d paid i x rest tail (inr h) = omega (arith, paid _ _ _ (skip_blanks rest) x.inner h.1, skip_within rest)

-- ---- nodes, by induction on the tree

mutual
  -- A collection is paid by what its items leave: each has a dash or a colon for two nodes.
  pub node_paid : (t : Tree) (d : ℕ) → PaidNode t d
  node_paid (scalar a s) d may m l cs ls h = omega (arith, scalar_some s m l cs ls h.2)
  node_paid (list a es) zero may m l cs ls h = absurd h
  node_paid (list a es) (suc d) may m l cs ls (inl h) = omega (arith, flow_nodes (list a es) (suc d) l cs ls h.1)
  node_paid (list a es) (suc d) may m l cs ls (inr h) =
      omega (arith, elements_paid es d (offset l cs) (items_of false l cs ls) h.3, items_of_within false l cs ls)
  node_paid (map a ms) zero may m l cs ls h = absurd h
  node_paid (map a ms) (suc d) may m l cs ls (inl h) = omega (arith, flow_nodes (map a ms) (suc d) l cs ls h.1)
  node_paid (map a ms) (suc d) may m l cs ls (inr h) =
      omega (arith, members_paid ms d (offset l cs) [] (items_of true l cs ls) h.3, items_of_within true l cs ls)

  elements_paid : (es : Elements) (d i : ℕ) (xs : List Item) → LaysElements es d i xs → element_nodes es + length xs ≤ 2 * items_weight xs
  elements_paid no_elements d i xs h = omega (arith, ap length h)
  elements_paid (element t ts) d i xs (x, others, is, dashed, laid, more) =
      let tail = dash_tail x.text dashed.dash in
      let first = element_paid t d (node_paid t d) i x (omega arith) (omega arith) laid in
      omega (arith, first, elements_paid ts d i others more, ap length is, ap items_weight is)

  members_paid : (ms : Members) (d i : ℕ) (seen : List (List ℕ)) (xs : List Item) → LaysMembers ms d i seen xs → value_nodes ms + length xs ≤ 2 * items_weight xs
  members_paid no_members d i seen xs h = omega (arith, ap length h)
  members_paid (member k a t ms) d i seen xs (x, others, is, rest, key, laid, more) =
      let tail = key_within x.line x.text k rest key.key in
      let first = value_paid t d (node_paid t d) i x rest (omega arith) laid in
      omega (arith, first, members_paid ms d i (seen ++ k ∷ []) others more, ap length is, ap items_weight is)
