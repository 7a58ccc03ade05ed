-- Where a block's reading stops, it stops in the same way whatever lines follow.
use Rattle.std.proofs.Common.{◌≡◌, ℕ, zero, suc, Bool, true, false, not, ◌&&◌, ◌||◌, ◌==◌, nat_lt, inl, inr, List, [], ◌∷◌, ◌++◌, drop, Some, is_some, Ok, Err, refl, ap, ◌∙◌}
use Rattle.std.specs.Prelude.{map as list_map}
use Rattle.yaml_tree.specs.Tree.{At, list, map, Elements, Members}
use Rattle.yaml_inline.specs.File.{Line, is_empty, begins, carries_nothing, ends_line}
use Rattle.yaml_inline.specs.Line.{spot, Stop, Read, ◌>>=◌, indent, body, bad_start, is_comment, is_empty_line, is_dash, is_left_out, starts_plain, plain_rest}
use Rattle.yaml_inline.specs.Flow.{quoted, is_quote, is_bracket, flow_node}
use Rattle.yaml_blocks.specs.Blocks.{rest_while, front_while, skip_comments, nothing_from, nothing_in, Parts, put_line, inside, divide, alone, Continuation, empty_line, comment_line, text_line, last_line, continuation, add_line, more_plain, plain_text, header_of, first_indent, is_content, lines_at, scalar_lines, block_scalar}
use Rattle.yaml_blocks.specs.Reading.{Item, item_of, items_of, offset, is_level, key_in, behind_in, element_in, elements_in, entry_in, entries_in, scalar_or_flow_in, node_in, block_from, block_with, block_in, too_deep}
use Rattle.yaml_blocks.proofs.Tools.{choose, bind_err}
use Rattle.yaml_blocks.proofs.Cases.{lists, maps, node_cases}
use Rattle.yaml_blocks.proofs.Complete.{node_scalar_or_flow, node_list, node_map}

-- ---- lines behind lines

pub rest_more : (p : Line → Bool) (a b : List Line) (x : Line) (xs : List Line) → rest_while p a ≡ x ∷ xs → rest_while p (a ++ b) ≡ x ∷ (xs ++ b)
rest_more p [] b x xs e = cc
rest_more p (l ∷ ls) b x xs e =
    elim (choose (p l) _ _ _ e) [
      | inl h ↦ rw h.0 (rest_more p ls b x xs h.1)
      | inr h ↦ let same : l ≡ x = cc in let others : ls ≡ xs = cc in rw (h.0, same, others) refl
    ]

nothing_more : (a b : List Line) (s : Stop) → nothing_in a ≡ Err s → nothing_in (a ++ b) ≡ Err s
unfolding nothing_in
nothing_more a b s e = by (skip_comments a) refl e where
  by : (xs : List Line) → skip_comments a ≡ xs → nothing_from xs ≡ Err s → nothing_from (skip_comments (a ++ b)) ≡ Err s
  by [] is e = cc
  by (x ∷ xs) is e = rw (rest_more is_comment a b x xs is) e

alone_more : {A : Type 0} (l : Line) (rest : List ℕ) (a b : List Line) (x : A) (s : Stop) → alone l rest a x ≡ Err s → alone l rest (a ++ b) x ≡ Err s
alone_more l rest a b x s e =
    elim (choose (ends_line rest) _ _ _ e) [
      | inl h ↦ elim (bind_err (nothing_in a) _ s h.1) [
        | inl g ↦ rw (h.0, nothing_more a b s g) refl
        | inr g ↦ cc
      ]
      | inr h ↦ rw h.0 h.1
    ]

-- ---- scalars over lines

add_line_more : (n : ℕ) (f : Continuation) (e e2 b b2 : Read (List ℕ)) (o o2 : Read (Unit {0})) (s : Stop)
    → (e ≡ Err s → e2 ≡ Err s) → (b ≡ Err s → b2 ≡ Err s) → (o ≡ Err s → o2 ≡ Err s) → add_line n f e b o ≡ Err s → add_line n f e2 b2 o2 ≡ Err s
add_line_more n empty_line e e2 b b2 o o2 s empty behind ended h = empty h
add_line_more n comment_line e e2 b b2 o o2 s empty behind ended h = elim (bind_err o _ s h) [ inl g ↦ rw (ended g) refl | inr g ↦ cc ]
add_line_more n (text_line t) e e2 b b2 o o2 s empty behind ended h = elim (bind_err b _ s h) [ inl g ↦ rw (behind g) refl | inr g ↦ cc ]
add_line_more n (last_line t) e e2 b b2 o o2 s empty behind ended h = elim (bind_err o _ s h) [ inl g ↦ rw (ended g) refl | inr g ↦ cc ]

more_plain_more : (m n : ℕ) (a b : List Line) (s : Stop) → more_plain m n a ≡ Err s → more_plain m n (a ++ b) ≡ Err s
unfolding more_plain
more_plain_more m n [] b s e = cc
more_plain_more m n (l ∷ ls) b s e =
    elim (bind_err (continuation m l) _ s e) [
      | inl h ↦ rw h refl
      | inr h ↦
          rw h.1
          (add_line_more n h.0 (more_plain m (suc n) ls) (more_plain m (suc n) (ls ++ b)) (more_plain m 0 ls) (more_plain m 0 (ls ++ b)) (nothing_in ls) (nothing_in (ls ++ b)) s
          (more_plain_more m (suc n) ls b s) (more_plain_more m 0 ls b s) (nothing_more ls b s) h.2)
    ]

plain_text_more : (m : ℕ) (l : Line) (cs : List ℕ) (a b : List Line) (s : Stop) → plain_text m l cs a ≡ Err s → plain_text m l cs (a ++ b) ≡ Err s
unfolding plain_text
plain_text_more m l cs a b s e =
    elim (choose (is_empty (plain_rest false cs)) _ _ _ e) [
      | inl h ↦ elim (bind_err (more_plain m 0 a) _ s h.1) [
        | inl g ↦ rw (h.0, more_plain_more m 0 a b s g) refl
        | inr g ↦ cc
      ]
      | inr h ↦ rw h.0 (alone_more l _ a b _ s h.1)
    ]

-- the lines behind a block scalar, where something stands there
behind_more : (p : Line → Bool) (a b : List Line) (s : Stop) → nothing_in (rest_while p a) ≡ Err s → nothing_in (rest_while p (a ++ b)) ≡ Err s
unfolding nothing_in
behind_more p a b s e = by (rest_while p a) refl e where
  by : (xs : List Line) → rest_while p a ≡ xs → nothing_in xs ≡ Err s → nothing_in (rest_while p (a ++ b)) ≡ Err s
  by [] is e = cc
  by (x ∷ xs) is e = rw (rest_more p a b x xs is) (nothing_more (x ∷ xs) b s e)

lines_more : (m : ℕ) (a b : List Line) (s : Stop) → nothing_in (scalar_lines m a).1 ≡ Err s → nothing_in (scalar_lines m (a ++ b)).1 ≡ Err s
unfolding scalar_lines nothing_in
lines_more m a b s e = by (rest_while is_empty_line a) refl e where
  at : (i : ℕ) (f g : List Line) (x : Line) (xs : List Line) (t : Bool) → nat_lt i m ≡ t → nothing_in (lines_at m (Some i) f (x ∷ xs)).1 ≡ Err s → nothing_in (lines_at m (Some i) g (x ∷ (xs ++ b))).1 ≡ Err s
  at i f g x xs true h e = rw h (nothing_more (x ∷ xs) b s (rw h at e))
  at i f g x xs false h e = rw h (behind_more (is_content i) (x ∷ xs) b s (rw h at e))

  by : (xs : List Line) → rest_while is_empty_line a ≡ xs → nothing_in (lines_at m (first_indent xs) (front_while is_empty_line a) xs).1 ≡ Err s
      → nothing_in (lines_at m (first_indent (rest_while is_empty_line (a ++ b))) (front_while is_empty_line (a ++ b)) (rest_while is_empty_line (a ++ b))).1 ≡ Err s
  by [] is e = cc
  by (x ∷ xs) is e = rw (rest_more is_empty_line a b x xs is) (at (indent x) (front_while is_empty_line a) (front_while is_empty_line (a ++ b)) x xs (nat_lt (indent x) m) refl e)

block_scalar_more : (m : ℕ) (l : Line) (cs : List ℕ) (a b : List Line) (s : Stop) → block_scalar m l cs a ≡ Err s → block_scalar m l cs (a ++ b) ≡ Err s
unfolding block_scalar
block_scalar_more m l cs a b s e =
    elim (bind_err (header_of l (drop 1 cs)) _ s e) [
      | inl h ↦ rw h refl
      | inr h ↦ elim (bind_err (nothing_in (scalar_lines m a).1) _ s h.2) [
        | inl g ↦ rw (h.1, lines_more m a b s g) refl
        | inr g ↦ cc
      ]
    ]

scalar_or_flow_more : (d m : ℕ) (l : Line) (cs : List ℕ) (a b : List Line) (s : Stop) → scalar_or_flow_in d m l cs a ≡ Err s → scalar_or_flow_in d m l cs (a ++ b) ≡ Err s
unfolding scalar_or_flow_in
scalar_or_flow_more d m l cs a b s e =
    elim (choose (is_left_out cs || (begins 37 cs && offset l cs == 0)) _ _ _ e) [
      | inl h ↦ rw h.0 h.1
      | inr left ↦
          elim (choose (is_quote cs) _ _ _ left.1) [
            | inl h ↦ elim (bind_err (quoted l cs) _ s h.1) [
              | inl g ↦ rw (left.0, h.0, g) refl
              | inr g ↦ rw (left.0, h.0, g.1) (alone_more l _ a b _ s g.2)
            ]
            | inr quote ↦
                elim (choose (is_bracket cs) _ _ _ quote.1) [
                  | inl h ↦ elim (bind_err (flow_node d l cs) _ s h.1) [
                    | inl g ↦ rw (left.0, quote.0, h.0, g) refl
                    | inr g ↦ rw (left.0, quote.0, h.0, g.1) (alone_more l _ a b _ s g.2)
                  ]
                  | inr bracket ↦
                      elim (choose (begins 124 cs || begins 62 cs) _ _ _ bracket.1) [
                        | inl h ↦ elim (bind_err (block_scalar m l cs a) _ s h.1) [
                          | inl g ↦ rw (left.0, quote.0, bracket.0, h.0, block_scalar_more m l cs a b s g) refl
                          | inr g ↦ cc
                        ]
                        | inr head ↦
                            elim (choose (starts_plain cs) _ _ _ head.1) [
                              | inl h ↦ elim (bind_err (plain_text m l cs a) _ s h.1) [
                                | inl g ↦ rw (left.0, quote.0, bracket.0, head.0, h.0, plain_text_more m l cs a b s g) refl
                                | inr g ↦ cc
                              ]
                              | inr h ↦ rw (left.0, quote.0, bracket.0, head.0, h.0) h.1
                            ]
                      ]
                ]
          ]
    ]

-- ---- a block's items

-- the items of lines that are divided, behind a first one
abbrev items_from : Line → List ℕ → Parts → List Item
items_from l cs d = record { line = l; text = cs; inner = d.lead } ∷ list_map item_of d.parts

-- The last item takes the lines that come first, and the other items follow.
abbrev grown : Item → List Item → List Line → List Item → List Item
grown x [] lead others = record x { inner = x.inner ++ lead } ∷ others
grown x (y ∷ ys) lead others = x ∷ grown y ys lead others

abbrev put_inner : Line → List Item → List Item
put_inner l [] = []
put_inner l (x ∷ xs) = record x { inner = l ∷ x.inner } ∷ xs

put_inner-grown : (l : Line) (x : Item) (xs : List Item) (lead : List Line) (others : List Item) → put_inner l (grown x xs lead others) ≡ grown (record x { inner = l ∷ x.inner }) xs lead others
put_inner-grown l x [] lead others = refl
put_inner-grown l x (y ∷ ys) lead others = refl

-- the items of a division of all lines are those of the division of the first ones, grown by that of the others
abbrev Grows : Line → List ℕ → Parts → Parts → Parts → Type 0
Grows l cs all first others =
    items_from l cs all ≡ grown (record { line = l; text = cs; inner = first.lead }) (list_map item_of first.parts) others.lead (list_map item_of others.parts)

put_grows : (i : Bool) (h : Line) (l : Line) (cs : List ℕ) (all first others : Parts) → ((l : Line) (cs : List ℕ) → Grows l cs all first others) → Grows l cs (put_line i h all) (put_line i h first) others
put_grows true h l cs all first others by = ap (put_inner h) (by l cs) ∙ put_inner-grown h _ (list_map item_of first.parts) _ _
put_grows false h l cs all first others by = ap (λ (xs : List Item). record { line = l; text = cs; inner = [] } ∷ xs) (by h (body h))

items-append : (in_map : Bool) (j : ℕ) (l : Line) (cs : List ℕ) (a b : List Line) → Grows l cs (divide in_map j (a ++ b)) (divide in_map j a) (divide in_map j b)
items-append in_map j l cs [] b = refl
items-append in_map j l cs (h ∷ t) b = put_grows (inside in_map j h) h l cs _ _ _ (λ l cs. items-append in_map j l cs t b)

-- ---- blocks and items, over nodes that persist

abbrev NodesPersist : ℕ → Type 0
NodesPersist d = (may : Bool) (m : ℕ) (l : Line) (cs : List ℕ) (a b : List Line) (s : Stop) → node_in d may m l cs a ≡ Err s → node_in d may m l cs (a ++ b) ≡ Err s

block_more : (d : ℕ) → NodesPersist d → (m : ℕ) (home : At) (a b : List Line) (s : Stop) → block_with (node_in d) m home a ≡ Err s → block_with (node_in d) m home (a ++ b) ≡ Err s
block_more d persist m home a b s e = by (skip_comments a) refl e where
  by : (xs : List Line) → skip_comments a ≡ xs → block_from (node_in d) m home xs ≡ Err s → block_from (node_in d) m home (skip_comments (a ++ b)) ≡ Err s
  by [] is e = cc
  by (x ∷ xs) is e =
      rw (rest_more is_comment a b x xs is)
      (elim (choose (is_some (bad_start x)) _ _ _ e) [
        | inl h ↦ rw h.0 h.1
        | inr h ↦ rw h.0 (persist true m x (body x) xs b s h.1)
      ])

element_more : (d : ℕ) → NodesPersist d → (i : ℕ) (x : Item) (lead : List Line) (s : Stop) → element_in (block_with (node_in d)) (node_in d) i x ≡ Err s
    → element_in (block_with (node_in d)) (node_in d) i (record x { inner = x.inner ++ lead }) ≡ Err s
unfolding element_in
element_more d persist i x lead s e =
    elim (choose (is_some (bad_start x.line)) _ _ _ e) [
      | inl h ↦ rw h.0 h.1
      | inr bar ↦
          elim (choose (not (is_level i x && is_dash x.text)) _ _ _ bar.1) [
            | inl h ↦ rw (bar.0, h.0) h.1
            | inr dash ↦
                elim (choose (carries_nothing (drop 1 x.text)) _ _ _ dash.1) [
                  | inl h ↦ rw (bar.0, dash.0, h.0) (block_more d persist _ _ x.inner lead s h.1)
                  | inr h ↦ rw (bar.0, dash.0, h.0) (persist _ _ _ _ x.inner lead s h.1)
                ]
          ]
    ]

behind_more_lines : (d : ℕ) → NodesPersist d → (may : Bool) (i : ℕ) (home : At) (l : Line) (rest : List ℕ) (a lead : List Line) (s : Stop)
    → behind_in (block_with (node_in d)) (node_in d) may i home l rest a ≡ Err s → behind_in (block_with (node_in d)) (node_in d) may i home l rest (a ++ lead) ≡ Err s
behind_more_lines d persist may i home l rest a lead s e =
    elim (choose (carries_nothing rest) _ _ _ e) [
      | inl h ↦ rw h.0 (block_more d persist _ _ a lead s h.1)
      | inr h ↦ rw h.0 (persist _ _ _ _ a lead s h.1)
    ]

entry_more : (d : ℕ) → NodesPersist d → (i : ℕ) (seen : List (List ℕ)) (x : Item) (lead : List Line) (s : Stop) → entry_in (block_with (node_in d)) (node_in d) i seen x ≡ Err s
    → entry_in (block_with (node_in d)) (node_in d) i seen (record x { inner = x.inner ++ lead }) ≡ Err s
unfolding entry_in
entry_more d persist i seen x lead s e =
    elim (bind_err (key_in i seen x.line x.text) _ s e) [
      | inl h ↦ rw h refl
      | inr h ↦ elim (bind_err (behind_in (block_with (node_in d)) (node_in d) false i (spot x.line x.text) x.line h.0.1 x.inner) _ s h.2) [
        | inl g ↦ rw (h.1, behind_more_lines d persist false i (spot x.line x.text) x.line h.0.1 x.inner lead s g) refl
        | inr g ↦ cc
      ]
    ]

elements_more : (d : ℕ) → NodesPersist d → (i : ℕ) (x : Item) (xs : List Item) (lead : List Line) (others : List Item) (s : Stop)
    → elements_in (block_with (node_in d)) (node_in d) i (x ∷ xs) ≡ Err s → elements_in (block_with (node_in d)) (node_in d) i (grown x xs lead others) ≡ Err s
elements_more d persist i x [] lead others s e =
    elim (bind_err (element_in (block_with (node_in d)) (node_in d) i x) _ s e) [
      | inl g ↦ rw (element_more d persist i x lead s g) refl
      | inr g ↦ cc
    ]
elements_more d persist i x (y ∷ ys) lead others s e =
    elim (bind_err (element_in (block_with (node_in d)) (node_in d) i x) _ s e) [
      | inl g ↦ rw g refl
      | inr g ↦ elim (bind_err (elements_in (block_with (node_in d)) (node_in d) i (y ∷ ys)) _ s g.2) [
        | inl f ↦ rw (g.1, elements_more d persist i y ys lead others s f) refl
        | inr f ↦ cc
      ]
    ]

entries_more : (d : ℕ) → NodesPersist d → (i : ℕ) (seen : List (List ℕ)) (x : Item) (xs : List Item) (lead : List Line) (others : List Item) (s : Stop)
    → entries_in (block_with (node_in d)) (node_in d) i seen (x ∷ xs) ≡ Err s → entries_in (block_with (node_in d)) (node_in d) i seen (grown x xs lead others) ≡ Err s
entries_more d persist i seen x [] lead others s e =
    elim (bind_err (entry_in (block_with (node_in d)) (node_in d) i seen x) _ s e) [
      | inl g ↦ rw (entry_more d persist i seen x lead s g) refl
      | inr g ↦ cc
    ]
entries_more d persist i seen x (y ∷ ys) lead others s e =
    elim (bind_err (entry_in (block_with (node_in d)) (node_in d) i seen x) _ s e) [
      | inl g ↦ rw g refl
      | inr g ↦ elim (bind_err (entries_in (block_with (node_in d)) (node_in d) i (seen ++ g.0.key ∷ []) (y ∷ ys)) _ s g.2) [
        | inl f ↦ rw (g.1, entries_more d persist i (seen ++ g.0.key ∷ []) y ys lead others s f) refl
        | inr f ↦ cc
      ]
    ]

-- ---- nodes

pub nodes_persist : (d : ℕ) → NodesPersist d
unfolding node_in
nodes_persist zero may m l cs a b s e =
    elim (node_cases too_deep too_deep zero may m l cs a (Err s) e) [
      | inl h ↦ node_scalar_or_flow too_deep too_deep zero may m l cs (a ++ b) h.0 ∙ scalar_or_flow_more zero m l cs a b s h.1
      | inr (inl h) ↦ node_list too_deep too_deep zero may m l cs (a ++ b) (Err s) h.0 h.1 h.2
      | inr (inr (inl h)) ↦ node_map too_deep too_deep zero may m l cs (a ++ b) (Err s) h.2 h.3 h.0 h.1 h.4 h.5
      | inr (inr (inr h)) ↦ rw (h.0, h.1, h.3) h.4
    ]
nodes_persist (suc d) may m l cs a b s e =
    elim (node_cases (lists d) (maps d) (suc d) may m l cs a (Err s) e) [
      | inl h ↦ node_scalar_or_flow (lists d) (maps d) (suc d) may m l cs (a ++ b) h.0 ∙ scalar_or_flow_more (suc d) m l cs a b s h.1
      | inr (inl h) ↦
          elim (bind_err (elements_in (block_with (node_in d)) (node_in d) (offset l cs) (items_of false l cs a)) _ s h.2) [
            | inl g ↦
                let more = elements_more d (nodes_persist d) (offset l cs) _ _ (divide false (offset l cs) b).lead (list_map item_of (divide false (offset l cs) b).parts) s g in
                node_list (lists d) (maps d) (suc d) may m l cs (a ++ b) (Err s) h.0 h.1
                (ap (λ (xs : List Item). elements_in (block_with (node_in d)) (node_in d) (offset l cs) xs >>= (λ ts. Ok (list (spot l cs) ts))) (items-append false (offset l cs) l cs a b)
                ∙ ap (λ (r : Read Elements). r >>= (λ ts. Ok (list (spot l cs) ts))) more)
            | inr g ↦ cc
          ]
      | inr (inr (inl h)) ↦
          elim (bind_err (entries_in (block_with (node_in d)) (node_in d) (offset l cs) [] (items_of true l cs a)) _ s h.5) [
            | inl g ↦
                let more = entries_more d (nodes_persist d) (offset l cs) [] _ _ (divide true (offset l cs) b).lead (list_map item_of (divide true (offset l cs) b).parts) s g in
                node_map (lists d) (maps d) (suc d) may m l cs (a ++ b) (Err s) h.2 h.3 h.0 h.1 h.4
                (ap (λ (xs : List Item). entries_in (block_with (node_in d)) (node_in d) (offset l cs) [] xs >>= (λ ms. Ok (map (spot l cs) ms))) (items-append true (offset l cs) l cs a b)
                ∙ ap (λ (r : Read Members). r >>= (λ ms. Ok (map (spot l cs) ms))) more)
            | inr g ↦ cc
          ]
      | inr (inr (inr h)) ↦ rw (h.0, h.1, h.3) h.4
    ]

pub blocks_persist : (d m : ℕ) (home : At) (a b : List Line) (s : Stop) → block_in d m home a ≡ Err s → block_in d m home (a ++ b) ≡ Err s
blocks_persist d m home a b s e = block_more d (nodes_persist d) m home a b s e
