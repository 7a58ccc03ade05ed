-- What the blocks' reading gives is laid out in the lines.
use Rattle.std.proofs.Common.{◌≡◌, ℕ, zero, suc, Bool, true, false, not, ◌&&◌, ◌||◌, ◌==◌, inl, inr, List, [], ◌∷◌, ◌++◌, drop, None, is_some, Ok, refl, sym, subst}
use Rattle.std.proofs.lemmas.Bool.{or_cases, and_parts, or_parts}
use Rattle.yaml_tree.specs.Tree.{At, Scalar, text, Tree, scalar, list, map, Elements, element, Members, no_members, member, Member}
use Rattle.yaml_inline.specs.File.{Line, begins, carries_nothing}
use Rattle.yaml_inline.specs.Line.{spot, body, bad_start, is_dash, is_left_out, starts_plain}
use Rattle.yaml_inline.specs.Scalar.{resolved}
use Rattle.yaml_inline.specs.Flow.{is_quote, is_bracket, flow_node, front_map, map_from, Front, is_seen}
use Rattle.yaml_inline.specs.Key.{Keyed, keyed, unkeyed, key_stop, key_at}
use Rattle.yaml_blocks.specs.Blocks.{skip_comments, alone}
use Rattle.yaml_blocks.specs.Reading.{Item, offset, is_level, key_of, item_key, key_in, behind_in, element_in, elements_in, entry_in, entries_in, scalar_or_flow_in, node_in, block_from, block_with, block_in, too_deep}
use Rattle.yaml_blocks.specs.Lays.{IsFlow, IsNoCollection, IsDashed, IsKeyed, LaysBlock, LaysElement, LaysValue, LaysNode, LaysElements, LaysMembers, Lays}
use Rattle.yaml_blocks.proofs.Tools.{choose, allowed, bind_ok, inside_ok, ok_same, none_of, not_false}
use Rattle.yaml_blocks.proofs.Cases.{lists, maps, node_cases, alone_ok}

-- ---- flow collections

front_ok : {A B : Type 0} (f : A → B) (r : Front A) (q : B × List ℕ) → front_map f r ≡ Ok q → (x : A) × (f x ≡ q.0)
front_ok f r q e = let (p, at, same) = bind_ok r _ q e in (p.0, cc)

-- a bracket makes a collection
map_from-scalar : (bracket a : At) (s : Scalar) (ms : Members) → map_from bracket ms ≡ scalar a s → ⊥
map_from-scalar bracket a s no_members e = cc
map_from-scalar bracket a s (member k b t ms) e = cc

flow_no_scalar : (d : ℕ) (l : Line) (cs : List ℕ) (a : At) (s : Scalar) (rest : List ℕ) → is_bracket cs ≡ true → flow_node d l cs ≡ Ok (scalar a s, rest) → ⊥
unfolding flow_node
flow_no_scalar zero l cs a s rest b e = let (clear, more) = allowed (is_bracket cs) _ _ _ e in cc
flow_no_scalar (suc d) l cs a s rest b e =
    elim (choose (begins 91 cs) _ _ _ e) [
      | inl h ↦ let (es, same) = front_ok _ _ _ (inside_ok _ _ _ _ h.1) in cc
      | inr h ↦ elim (choose (begins 123 cs) _ _ _ h.1) [
        | inl g ↦ let (ms, same) = front_ok _ _ _ (inside_ok _ _ _ _ g.1) in map_from-scalar _ a s ms same
        | inr g ↦ elim (or_cases (begins 91 cs) (begins 123 cs) b) [ inl p ↦ cc | inr p ↦ cc ]
      ]
    ]

flow_zero : (l : Line) (cs : List ℕ) (t : Tree) (rest : List ℕ) → is_bracket cs ≡ true → flow_node zero l cs ≡ Ok (t, rest) → ⊥
unfolding flow_node
flow_zero l cs t rest b e = let (clear, more) = allowed (is_bracket cs) _ _ _ e in cc

flow_lays : (t : Tree) (d : ℕ) (may : Bool) (m : ℕ) (l : Line) (cs : List ℕ) (ls : List Line) → IsNoCollection may l cs → IsFlow t d l cs ls → LaysNode t d may m l cs ls
flow_lays (scalar a s) d may m l cs ls none h = absurd (flow_no_scalar d l cs a s h.1 h.0 h.2)
flow_lays (list a es) zero may m l cs ls none h = flow_zero l cs (list a es) h.1 h.0 h.2
flow_lays (list a es) (suc d) may m l cs ls none h = inl (none, h)
flow_lays (map a ms) zero may m l cs ls none h = flow_zero l cs (map a ms) h.1 h.0 h.2
flow_lays (map a ms) (suc d) may m l cs ls none h = inl (none, h)

-- ---- what begins no block collection

scalar_or_flow_sound : (d : ℕ) (may : Bool) (m : ℕ) (l : Line) (cs : List ℕ) (ls : List Line) (t : Tree) → IsNoCollection may l cs → scalar_or_flow_in d m l cs ls ≡ Ok t → LaysNode t d may m l cs ls
unfolding scalar_or_flow_in
scalar_or_flow_sound d may m l cs ls t none e =
    let P : Tree → Type 0 = λ t. LaysNode t d may m l cs ls in
    elim (choose (is_left_out cs || (begins 37 cs && offset l cs == 0)) _ _ _ e) [
      | inl left ↦ cc
      | inr left ↦
          elim (choose (is_quote cs) _ _ _ left.1) [
            | inl q ↦
                let (p, at, more) = bind_ok _ _ _ q.1 in
                let (alone, same) = alone_ok l _ _ _ _ more in
                let laid : P (scalar (spot l cs) (text p.0)) = (none, refl, inl (p.0, refl, inl (q.0, p.1, at, alone))) in
                subst P same laid
            | inr q ↦ elim (choose (is_bracket cs) _ _ _ q.1) [
              | inl b ↦
                  let (p, at, more) = bind_ok _ _ _ b.1 in
                  let (alone, same) = alone_ok l _ _ _ _ more in
                  subst P same (flow_lays p.0 d may m l cs ls none (b.0, p.1, at, alone))
              | inr b ↦ elim (choose (begins 124 cs || begins 62 cs) _ _ _ b.1) [
                | inl k ↦
                    let (p, at, more) = bind_ok _ _ _ k.1 in
                    let laid : P (scalar (spot l cs) (text p)) = (none, refl, inl (p, refl, inr (k.0, at))) in
                    subst P (ok_same _ _ more) laid
                | inr k ↦ elim (choose (starts_plain cs) _ _ _ k.1) [
                  | inl s ↦
                      let (p, at, more) = bind_ok _ _ _ s.1 in
                      let laid : P (scalar (spot l cs) (resolved p)) = (none, refl, inr (s.0, (or_parts (is_left_out cs) _ left.0).0, p, at, refl)) in
                      subst P (ok_same _ _ more) laid
                  | inr s ↦ cc
                ]
              ]
            ]
          ]
    ]

-- ---- blocks, elements and entries, over nodes that are sound

abbrev pub NodesSound : ℕ → Type 0
NodesSound d = (may : Bool) (m : ℕ) (l : Line) (cs : List ℕ) (ls : List Line) (t : Tree) → node_in d may m l cs ls ≡ Ok t → LaysNode t d may m l cs ls

pub block_sound : (d : ℕ) → NodesSound d → (m : ℕ) (home : At) (ls : List Line) (t : Tree) → block_with (node_in d) m home ls ≡ Ok t
    → LaysBlock (λ may m l cs ls. LaysNode t d may m l cs ls) t m home ls
block_sound d sound m home ls t e = by (skip_comments ls) refl e where
  by : (xs : List Line) → skip_comments ls ≡ xs → block_from (node_in d) m home xs ≡ Ok t → LaysBlock (λ may m l cs ls. LaysNode t d may m l cs ls) t m home ls
  by [] is e = inl (is, sym (ok_same _ _ e))
  by (first ∷ more) is e =
      let (open_line, at) = allowed (is_some (bad_start first)) _ _ _ e in
      inr (first, more, is, none_of _ open_line, sound true m first (body first) more t at)

pub element_sound : (d : ℕ) → NodesSound d → (i : ℕ) (x : Item) (t : Tree) → element_in (block_with (node_in d)) (node_in d) i x ≡ Ok t
    → IsDashed i x × LaysElement (λ may m l cs ls. LaysNode t d may m l cs ls) t i x
unfolding element_in
element_sound d sound i x t e =
    let (open_line, e1) = allowed (is_some (bad_start x.line)) _ _ _ e in
    let (dash, e2) = allowed (not (is_level i x && is_dash x.text)) _ _ _ e1 in
    let there = and_parts _ _ (not_false _ dash) in
    let dashed : IsDashed i x = record { open_line = none_of _ open_line; level = there.0; dash = there.1 } in
    elim (choose (carries_nothing (drop 1 x.text)) _ _ _ e2) [
      | inl h ↦ (dashed, inl (h.0, block_sound d sound _ _ _ t h.1))
      | inr h ↦ (dashed, inr (h.0, sound _ _ _ _ _ t h.1))
    ]

elements_sound : (d : ℕ) → NodesSound d → (i : ℕ) (xs : List Item) (es : Elements) → elements_in (block_with (node_in d)) (node_in d) i xs ≡ Ok es → LaysElements es d i xs
elements_sound d sound i [] es e = subst (λ (es : Elements). LaysElements es d i []) (ok_same _ _ e) refl
elements_sound d sound i (x ∷ xs) es e =
    let (t, at, e1) = bind_ok (element_in (block_with (node_in d)) (node_in d) i x) _ es e in
    let (ts, more, same) = bind_ok (elements_in (block_with (node_in d)) (node_in d) i xs) _ es e1 in
    let first = element_sound d sound i x t at in
    let laid : LaysElements (element t ts) d i (x ∷ xs) = (x, xs, refl, first.0, first.1, elements_sound d sound i xs ts more) in
    subst (λ (es : Elements). LaysElements es d i (x ∷ xs)) (ok_same _ _ same) laid

-- a key that is read stands at the indentation of its map
pub item_key_ok : (i : ℕ) (x : Item) (k : List ℕ × List ℕ) → item_key i x.line x.text ≡ Ok k → (bad_start x.line ≡ None) × (is_level i x ≡ true) × (key_at x.line x.text ≡ keyed k.0 k.1)
unfolding item_key
item_key_ok i x k e =
    let (open_line, e1) = allowed (is_some (bad_start x.line)) _ _ _ e in
    let (level, e2) = allowed (not (is_level i x)) _ _ _ e1 in
    (none_of _ open_line, not_false _ level, by (key_at x.line x.text) refl e2) where
      by : (found : Keyed) → key_at x.line x.text ≡ found → key_of x.line found ≡ Ok k → key_at x.line x.text ≡ keyed k.0 k.1
      by (keyed name rest) at e = subst (λ (q : List ℕ × List ℕ). key_at x.line x.text ≡ keyed q.0 q.1) (ok_same (name, rest) k e) at
      by unkeyed at e = cc
      by (key_stop s) at e = cc

pub key_sound : (i : ℕ) (seen : List (List ℕ)) (x : Item) (k : List ℕ × List ℕ) → key_in i seen x.line x.text ≡ Ok k → IsKeyed i seen k.0 k.1 (spot x.line x.text) x
unfolding key_in
key_sound i seen x k e =
    let (q, at, e1) = bind_ok (item_key i x.line x.text) _ k e in
    let (fresh, same) = allowed (is_seen q.0 seen) _ _ _ e1 in
    let there = item_key_ok i x q at in
    subst (λ (k : List ℕ × List ℕ). IsKeyed i seen k.0 k.1 (spot x.line x.text) x) (ok_same _ _ same)
    (record { open_line = there.0; level = there.1; key = there.2; fresh = fresh; place = refl })

-- what an entry that is read has
abbrev pub IsEntry : ℕ → ℕ → List (List ℕ) → Item → Member → Type 0
IsEntry d i seen x m = (rest : List ℕ) × IsKeyed i seen m.key rest m.place x × LaysValue (λ may n l cs ls. LaysNode m.value d may n l cs ls) m.value i x rest

pub entry_sound : (d : ℕ) → NodesSound d → (i : ℕ) (seen : List (List ℕ)) (x : Item) (m : Member) → entry_in (block_with (node_in d)) (node_in d) i seen x ≡ Ok m → IsEntry d i seen x m
unfolding entry_in
entry_sound d sound i seen x m e =
    let (k, key, e1) = bind_ok (key_in i seen x.line x.text) _ m e in
    let (t, at, same) = bind_ok (behind_in (block_with (node_in d)) (node_in d) false i (spot x.line x.text) x.line k.1 x.inner) _ m e1 in
    let made : Member = record { key = k.0; place = spot x.line x.text; value = t } in
    let laid : LaysValue (λ may m l cs ls. LaysNode t d may m l cs ls) t i x k.1 =
    elim (choose (carries_nothing k.1) _ _ _ at) [
      | inl h ↦ inl (h.0, block_sound d sound _ _ _ t h.1)
      | inr h ↦ inr (h.0, sound _ _ _ _ _ t h.1)
    ] in
    let whole : IsEntry d i seen x made = (k.1, key_sound i seen x k key, laid) in
    subst (IsEntry d i seen x) (ok_same made m same) whole

entries_sound : (d : ℕ) → NodesSound d → (i : ℕ) (seen : List (List ℕ)) (xs : List Item) (ms : Members)
    → entries_in (block_with (node_in d)) (node_in d) i seen xs ≡ Ok ms → LaysMembers ms d i seen xs
entries_sound d sound i seen [] ms e = subst (λ (ms : Members). LaysMembers ms d i seen []) (ok_same _ _ e) refl
entries_sound d sound i seen (x ∷ xs) ms e =
    let (m, at, e1) = bind_ok (entry_in (block_with (node_in d)) (node_in d) i seen x) _ ms e in
    let (others, more, same) = bind_ok (entries_in (block_with (node_in d)) (node_in d) i (seen ++ m.key ∷ []) xs) _ ms e1 in
    let first = entry_sound d sound i seen x m at in
    let laid : LaysMembers (member m.key m.place m.value others) d i seen (x ∷ xs) =
    (x, xs, refl, first.0, first.1, first.2, entries_sound d sound i (seen ++ m.key ∷ []) xs others more) in
    subst (λ (ms : Members). LaysMembers ms d i seen (x ∷ xs)) (ok_same _ _ same) laid

-- ---- nodes

pub nodes_sound : (d : ℕ) → NodesSound d
unfolding node_in
nodes_sound zero may m l cs ls t e =
    elim (node_cases too_deep too_deep zero may m l cs ls (Ok t) e) [
      | inl h ↦ scalar_or_flow_sound zero may m l cs ls t h.0 h.1
      | inr (inl h) ↦ cc
      | inr (inr (inl h)) ↦ cc
      | inr (inr (inr h)) ↦ cc
    ]
nodes_sound (suc d) may m l cs ls t e =
    elim (node_cases (lists d) (maps d) (suc d) may m l cs ls (Ok t) e) [
      | inl h ↦ scalar_or_flow_sound (suc d) may m l cs ls t h.0 h.1
      | inr (inl h) ↦
          let (es, at, same) = bind_ok _ _ _ h.2 in
          let laid : LaysNode (list (spot l cs) es) (suc d) may m l cs ls = inr (h.0, h.1, refl, elements_sound d (nodes_sound d) _ _ es at) in
          subst (λ (t : Tree). LaysNode t (suc d) may m l cs ls) (ok_same _ _ same) laid
      | inr (inr (inl h)) ↦
          let (ms, at, same) = bind_ok _ _ _ h.5 in
          let laid : LaysNode (map (spot l cs) ms) (suc d) may m l cs ls = inr (h.0, h.1, refl, entries_sound d (nodes_sound d) _ _ _ ms at) in
          subst (λ (t : Tree). LaysNode t (suc d) may m l cs ls) (ok_same _ _ same) laid
      | inr (inr (inr h)) ↦ cc
    ]

pub reads_trees : (depth : ℕ) (home : At) (ls : List Line) (t : Tree) → block_in depth 0 home ls ≡ Ok t → Lays t depth home ls
reads_trees depth home ls t e = block_sound depth (nodes_sound depth) 0 home ls t e
