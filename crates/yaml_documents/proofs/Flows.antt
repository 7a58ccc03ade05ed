-- The nodes of flow collections are paid by the characters that they're read from: two for each.
use Rattle.std.proofs.Common.{◌≡◌, ℕ, zero, suc, ◌+◌, ◌*◌, ◌≤◌, true, false, not, ◌&&◌, ◌||◌, inl, inr, List, [], ◌∷◌, ◌++◌, length, drop, Ok, refl, ap, arith}
use Rattle.yaml_tree.specs.Tree.{At, null, text, Tree, scalar, list, Elements, no_elements, element, Members, no_members, member, Member}
use Rattle.yaml_inline.specs.File.{Line, begins, blank_or_end, skip_blanks, ends_line}
use Rattle.yaml_inline.specs.Line.{spot, starts_plain, plain_front, plain_rest, is_left_out}
use Rattle.yaml_inline.specs.Scalar.{resolved}
use Rattle.yaml_inline.specs.Flow.{Front, front_map, is_quote, fresh_key, after_element, is_bracket, flow_element, flow_elements, flow_value, flow_entry, flow_members, flow_scalar, map_from, flow_node}
use Rattle.yaml_inline.proofs.Flows.{length-tail}
use Rattle.yaml_inline.proofs.Nexts.{next_is, plain_rest_shorter}
use Rattle.yaml_blocks.proofs.Tools.{choose, allowed, bind_ok, inside_ok, ok_same}
use Rattle.yaml_documents.specs.Nodes.{nodes, element_nodes, value_nodes}
use Rattle.yaml_blocks.proofs.Rests.{skip_within, tail_within, quoted_within, fresh_key_within, after_within}

-- What was read has at most two nodes for each character that it took.
abbrev pub Paid : {A : Type 0} → (A → ℕ) → List ℕ → A × List ℕ → Type 0
Paid count cs p = count p.0 + 2 * length p.1 ≤ 2 * length cs

paid_same : {A : Type 0} (count : A → ℕ) (cs : List ℕ) (p q : A × List ℕ) → p ≡ q → Paid count cs p → Paid count cs q
paid_same {A = A} count cs p q e h = omega (arith, ap (λ (x : A × List ℕ). count x.0) e, ap (λ (x : A × List ℕ). length x.1) e)

front_ok : {A B : Type 0} (f : A → B) (r : Front A) (q : B × List ℕ) → front_map f r ≡ Ok q → (p : A × List ℕ) × (r ≡ Ok p) × ((f p.0, p.1) ≡ q)
front_ok f r q e = let (p, at, same) = bind_ok r _ q e in (p, at, ok_same (f p.0, p.1) q same)

-- something stands behind the blanks
next : (rest : List ℕ) → ends_line rest ≡ false → blank_or_end (skip_blanks rest) ≡ false
next rest e = (next_is rest (skip_blanks rest) e refl (skip_within rest)).solid

-- ---- over a reader whose nodes are paid

abbrev pub PaidNode : (Line → List ℕ → Front Tree) → Type 0
PaidNode node = (l : Line) (cs : List ℕ) (q : Tree × List ℕ) → blank_or_end cs ≡ false → node l cs ≡ Ok q → Paid nodes cs q

module _ (node : Line → List ℕ → Front Tree) (paid : PaidNode node) where
  element_paid : (l : Line) (cs : List ℕ) (q : Tree × List ℕ) → blank_or_end cs ≡ false → flow_element node l cs ≡ Ok q → Paid nodes cs q
  unfolding flow_element
  element_paid l cs q solid e =
      let (x, at, e1) = bind_ok (node l cs) _ q e in
      let (single, e2) = allowed (begins 58 (skip_blanks x.1) && not (is_bracket cs)) _ _ _ e1 in
      let (more, after, same) = bind_ok (after_element l 93 x.1) _ q e2 in
      let here : Paid nodes cs (x.0, more) = omega (arith, paid l cs x solid at, after_within l 93 x.1 more after) in
      paid_same nodes cs (x.0, more) q (ok_same (x.0, more) q same) here

  pub elements_paid : (n : ℕ) (l : Line) (rest : List ℕ) (q : Elements × List ℕ) → flow_elements node n l rest ≡ Ok q → Paid element_nodes rest q
  unfolding flow_elements
  elements_paid zero l rest q e = cc
  elements_paid (suc n) l rest q e =
      elim (choose (ends_line rest) _ _ _ e) [
        | inl h ↦ cc
        | inr h ↦ elim (choose (begins 93 (skip_blanks rest)) _ _ _ h.1) [
          | inl g ↦
              let here : Paid element_nodes rest (no_elements, drop 1 (skip_blanks rest)) = omega (arith, tail_within (skip_blanks rest), skip_within rest) in
              paid_same element_nodes rest (no_elements, drop 1 (skip_blanks rest)) q (ok_same (no_elements, drop 1 (skip_blanks rest)) q g.1) here
          | inr g ↦
              let (x, at, e1) = bind_ok (flow_element node l (skip_blanks rest)) _ q g.1 in
              let (others, behind, same) = front_ok _ _ q e1 in
              let first = element_paid l (skip_blanks rest) x (next rest h.0) at in
              let here : Paid element_nodes rest (element x.0 others.0, others.1) = omega (arith, first, elements_paid n l x.1 others behind, skip_within rest) in
              paid_same element_nodes rest (element x.0 others.0, others.1) q same here
        ]
      ]

  -- The colon pays for a null.
  value_paid : (l : Line) (home : At) (rest : List ℕ) (q : Tree × List ℕ) → flow_value node l home rest ≡ Ok q → nodes q.0 + 2 * length q.1 ≤ 2 * length rest + 1
  unfolding flow_value
  value_paid l home rest q e =
      elim (choose (ends_line rest) _ _ _ e) [
        | inl h ↦ cc
        | inr h ↦ elim (choose (begins 44 (skip_blanks rest) || begins 125 (skip_blanks rest)) _ _ _ h.1) [
          | inl g ↦
              let same = ok_same (scalar home null, skip_blanks rest) q g.1 in
              omega (arith, ap (λ (x : Tree × List ℕ). nodes x.0) same, ap (λ (x : Tree × List ℕ). length x.1) same, skip_within rest)
          | inr g ↦ omega (arith, paid l (skip_blanks rest) q (next rest h.0) g.1, skip_within rest)
        ]
      ]

  entry_paid : (seen : List (List ℕ)) (l : Line) (cs : List ℕ) (q : Member × List ℕ) → flow_entry node seen l cs ≡ Ok q → Paid (λ m. nodes m.value) cs q
  unfolding flow_entry
  entry_paid seen l cs q e =
      let (k, key, e1) = bind_ok (fresh_key seen l cs) _ q e in
      let (v, at, e2) = bind_ok (flow_value node l (spot l cs) k.1) _ q e1 in
      let (more, after, same) = bind_ok (after_element l 125 v.1) _ q e2 in
      let m : Member = record { key = k.0; place = spot l cs; value = v.0 } in
      let here : Paid (λ (m : Member). nodes m.value) cs (m, more) =
      omega (arith, fresh_key_within seen l cs k key, value_paid l (spot l cs) k.1 v at, after_within l 125 v.1 more after) in
      paid_same (λ (m : Member). nodes m.value) cs (m, more) q (ok_same (m, more) q same) here

  pub members_paid : (n : ℕ) (seen : List (List ℕ)) (l : Line) (rest : List ℕ) (q : Members × List ℕ) → flow_members node n seen l rest ≡ Ok q → Paid value_nodes rest q
  unfolding flow_members
  members_paid zero seen l rest q e = cc
  members_paid (suc n) seen l rest q e =
      elim (choose (ends_line rest) _ _ _ e) [
        | inl h ↦ cc
        | inr h ↦ elim (choose (begins 125 (skip_blanks rest)) _ _ _ h.1) [
          | inl g ↦
              let here : Paid value_nodes rest (no_members, drop 1 (skip_blanks rest)) = omega (arith, tail_within (skip_blanks rest), skip_within rest) in
              paid_same value_nodes rest (no_members, drop 1 (skip_blanks rest)) q (ok_same (no_members, drop 1 (skip_blanks rest)) q g.1) here
          | inr g ↦
              let (x, at, e1) = bind_ok (flow_entry node seen l (skip_blanks rest)) _ q g.1 in
              let (others, behind, same) = front_ok _ _ q e1 in
              let first = entry_paid seen l (skip_blanks rest) x at in
              let here : Paid value_nodes rest (member x.0.key x.0.place x.0.value others.0, others.1) =
              omega (arith, first, members_paid n (seen ++ x.0.key ∷ []) l x.1 others behind, skip_within rest) in
              paid_same value_nodes rest (member x.0.key x.0.place x.0.value others.0, others.1) q same here
        ]
      ]

-- ---- nodes

scalar_paid : (l : Line) (cs : List ℕ) (q : Tree × List ℕ) → blank_or_end cs ≡ false → flow_scalar l cs ≡ Ok q → Paid nodes cs q
unfolding flow_scalar
scalar_paid l cs q solid e =
    let (known, e1) = allowed (is_left_out cs) _ _ _ e in
    elim (choose (is_quote cs) _ _ _ e1) [
      | inl h ↦
          let (x, at, same) = front_ok _ _ q h.1 in
          let here : Paid nodes cs (scalar (spot l cs) (text x.0), x.1) = omega (arith, quoted_within l cs x at) in
          paid_same nodes cs (scalar (spot l cs) (text x.0), x.1) q same here
      | inr h ↦ elim (choose (starts_plain cs) _ _ _ h.1) [
        | inl g ↦
            let there : Tree × List ℕ = (scalar (spot l cs) (resolved (plain_front true cs)), plain_rest true cs) in
            let here : Paid nodes cs there = omega (arith, plain_rest_shorter true cs g.0 solid) in
            paid_same nodes cs there q (ok_same there q g.1) here
        | inr g ↦ cc
      ]
    ]

pub map_from-nodes : (bracket : At) (ms : Members) → nodes (map_from bracket ms) ≡ 1 + value_nodes ms
map_from-nodes bracket no_members = refl
map_from-nodes bracket (member k a t ms) = refl

pub node_paid : (d : ℕ) → PaidNode (flow_node d)
unfolding flow_node
node_paid zero l cs q solid e =
    let (other, e1) = allowed (is_bracket cs) _ _ _ e in
    scalar_paid l cs q solid e1
node_paid (suc d) l cs q solid e =
    elim (choose (begins 91 cs) _ _ _ e) [
      | inl h ↦
          let (x, at, same) = front_ok _ _ q (inside_ok _ _ _ q h.1) in
          let here : Paid nodes cs (list (spot l cs) x.0, x.1) =
          omega (arith, elements_paid (flow_node d) (node_paid d) (length cs) l (drop 1 cs) x at, length-tail 91 cs h.0) in
          paid_same nodes cs (list (spot l cs) x.0, x.1) q same here
      | inr h ↦ elim (choose (begins 123 cs) _ _ _ h.1) [
        | inl g ↦
            let (x, at, same) = front_ok _ _ q (inside_ok _ _ _ q g.1) in
            let here : Paid nodes cs (map_from (spot l cs) x.0, x.1) =
            omega (arith, members_paid (flow_node d) (node_paid d) (length cs) [] l (drop 1 cs) x at, length-tail 123 cs g.0, map_from-nodes (spot l cs) x.0) in
            paid_same nodes cs (map_from (spot l cs) x.0, x.1) q same here
        | inr g ↦ scalar_paid l cs q solid g.1
      ]
    ]
