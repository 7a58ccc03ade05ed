-- Where and why the blocks' reading stops, by cases; and that it stops in each case.
use Rattle.std.proofs.Common.{◌≡◌, ℕ, zero, suc, Bool, true, false, not, ◌&&◌, inl, inr, List, [], ◌∷◌, ◌++◌, drop, None, is_some, Ok, Err, refl, sym, ap, ◌∙◌}
use Rattle.std.proofs.lemmas.Bool.{and_parts}
use Rattle.yaml_tree.specs.Tree.{At, Tree, list, map, Elements, Members}
use Rattle.yaml_inline.specs.File.{Line, carries_nothing}
use Rattle.yaml_inline.specs.Line.{spot, Stop, Read, ◌>>=◌, body, bad_start, is_dash}
use Rattle.yaml_inline.specs.Flow.{is_seen}
use Rattle.yaml_inline.specs.Key.{Keyed, keyed, unkeyed, key_stop, key_at}
use Rattle.yaml_blocks.specs.Blocks.{skip_comments}
use Rattle.yaml_blocks.specs.Reading.{Item, items_of, offset, is_level, after_spaces, key_of, item_key, key_in, behind_in, element_in, elements_in, entry_in, entries_in, node_in, node_with, block_from, block_with, block_in, too_deep}
use Rattle.yaml_blocks.specs.Lays.{IsDashed, IsKeyed}
use Rattle.yaml_blocks.specs.Form.{StopsStart, StopsBlock, StopsBehindDash, StopsBehindKey, StopsElement, StopsEntry, StopsElements, StopsEntries, StopsNode, Stops}
use Rattle.yaml_blocks.proofs.Tools.{choose, bind_err, none_of, none_is, not_false, not_true}
use Rattle.yaml_blocks.proofs.Cases.{lists, maps, node_cases}
use Rattle.yaml_blocks.proofs.Sound.{nodes_sound, element_sound, item_key_ok, key_sound, entry_sound}
use Rattle.yaml_blocks.proofs.LineStopped.{block_key_stopped, block_key_stopping}
use Rattle.yaml_blocks.proofs.ScalarStopped.{scalar_or_flow_stopped, scalar_or_flow_stopping}
use Rattle.yaml_blocks.proofs.Complete.{node_scalar_or_flow, node_list, node_map, node_complete, element_complete, entry_complete}

-- ---- a stop is one of the cases

abbrev NodesStop : ℕ → Type 0
NodesStop d = (may : Bool) (m : ℕ) (l : Line) (cs : List ℕ) (ls : List Line) (s : Stop) → node_in d may m l cs ls ≡ Err s → StopsNode d may m l cs ls s

block_stopped : (d : ℕ) → NodesStop d → (m : ℕ) (home : At) (ls : List Line) (s : Stop) → block_with (node_in d) m home ls ≡ Err s → StopsBlock d (StopsNode d) m ls s
block_stopped d stop m home ls s e = by (skip_comments ls) refl e where
  by : (xs : List Line) → skip_comments ls ≡ xs → block_from (node_in d) m home xs ≡ Err s → StopsBlock d (StopsNode d) m ls s
  by [] is e = cc
  by (first ∷ more) is e =
      elim (choose (is_some (bad_start first)) _ _ _ e) [
        | inl h ↦ (first, more, is, inl (h.0, cc))
        | inr h ↦ (first, more, is, inr (none_of _ h.0, stop true m first (body first) more s h.1))
      ]

dash_stopped : (d : ℕ) → NodesStop d → (i : ℕ) (x : Item) (s : Stop)
    → behind_in (block_with (node_in d)) (node_in d) (after_spaces (drop 1 x.text)) i (spot x.line x.text) x.line (drop 1 x.text) x.inner ≡ Err s → StopsBehindDash d (StopsNode d) i x s
dash_stopped d stop i x s e =
    elim (choose (carries_nothing (drop 1 x.text)) _ _ _ e) [
      | inl h ↦ inl (h.0, block_stopped d stop _ _ _ s h.1)
      | inr h ↦ inr (h.0, stop _ _ _ _ _ s h.1)
    ]

key_stopped : (d : ℕ) → NodesStop d → (i : ℕ) (x : Item) (rest : List ℕ) (s : Stop)
    → behind_in (block_with (node_in d)) (node_in d) false i (spot x.line x.text) x.line rest x.inner ≡ Err s → StopsBehindKey d (StopsNode d) i x rest s
key_stopped d stop i x rest s e =
    elim (choose (carries_nothing rest) _ _ _ e) [
      | inl h ↦ inl (h.0, block_stopped d stop _ _ _ s h.1)
      | inr h ↦ inr (h.0, stop _ _ _ _ _ s h.1)
    ]

element_stopped : (d : ℕ) → NodesStop d → (i : ℕ) (x : Item) (s : Stop) → element_in (block_with (node_in d)) (node_in d) i x ≡ Err s → StopsElement d (StopsNode d) i x s
unfolding element_in
element_stopped d stop i x s e =
    elim (choose (is_some (bad_start x.line)) _ _ _ e) [
      | inl h ↦ inl (h.0, cc)
      | inr bar ↦
          elim (choose (not (is_level i x && is_dash x.text)) _ _ _ bar.1) [
            | inl h ↦ inr (inl (none_of _ bar.0, not_true _ h.0, cc))
            | inr dash ↦
                let there = and_parts _ _ (not_false _ dash.0) in
                let dashed : IsDashed i x = record { open_line = none_of _ bar.0; level = there.0; dash = there.1 } in
                inr (inr (dashed, dash_stopped d stop i x s dash.1))
          ]
    ]

elements_stopped : (d : ℕ) → NodesStop d → (i : ℕ) (xs : List Item) (s : Stop) → elements_in (block_with (node_in d)) (node_in d) i xs ≡ Err s → StopsElements d (StopsNode d) i xs s
elements_stopped d stop i [] s e = cc
elements_stopped d stop i (x ∷ xs) s e =
    elim (bind_err (element_in (block_with (node_in d)) (node_in d) i x) _ s e) [
      | inl g ↦ inl (element_stopped d stop i x s g)
      | inr g ↦ elim (bind_err (elements_in (block_with (node_in d)) (node_in d) i xs) _ s g.2) [
        | inl f ↦
            let whole = element_sound d (nodes_sound d) i x g.0 g.1 in
            inr (whole.0, g.0, whole.1, elements_stopped d stop i xs s f)
        | inr f ↦ cc
      ]
    ]

item_key_stopped : (d i : ℕ) (seen : List (List ℕ)) (x : Item) (s : Stop) → item_key i x.line x.text ≡ Err s → StopsEntry d (StopsNode d) i seen x s
unfolding item_key
item_key_stopped d i seen x s e =
    elim (choose (is_some (bad_start x.line)) _ _ _ e) [
      | inl h ↦ inl (h.0, cc)
      | inr bar ↦
          elim (choose (not (is_level i x)) _ _ _ bar.1) [
            | inl h ↦ inr (inl (none_of _ bar.0, not_true _ h.0, cc))
            | inr level ↦ by (key_at x.line x.text) refl (none_of _ bar.0) (not_false _ level.0) level.1
          ]
    ] where
      by : (found : Keyed) → key_at x.line x.text ≡ found → bad_start x.line ≡ None → is_level i x ≡ true → key_of x.line found ≡ Err s → StopsEntry d (StopsNode d) i seen x s
      by (key_stop t) at open_line level e = inr (inr (inl (open_line, level, block_key_stopped x.line x.text s (at ∙ ap key_stop cc))))
      by unkeyed at open_line level e = inr (inr (inr (inl (open_line, level, at, cc))))
      by (keyed k rest) at open_line level e = cc

entry_key_stopped : (d i : ℕ) (seen : List (List ℕ)) (x : Item) (s : Stop) → key_in i seen x.line x.text ≡ Err s → StopsEntry d (StopsNode d) i seen x s
unfolding key_in
entry_key_stopped d i seen x s e =
    elim (bind_err (item_key i x.line x.text) _ s e) [
      | inl h ↦ item_key_stopped d i seen x s h
      | inr h ↦ elim (choose (is_seen h.0.0 seen) _ _ _ h.2) [
        | inl g ↦
            let there = item_key_ok i x h.0 h.1 in
            inr (inr (inr (inr (inl (there.0, there.1, h.0.0, h.0.1, there.2, g.0, cc)))))
        | inr g ↦ cc
      ]
    ]

entry_stopped : (d : ℕ) → NodesStop d → (i : ℕ) (seen : List (List ℕ)) (x : Item) (s : Stop) → entry_in (block_with (node_in d)) (node_in d) i seen x ≡ Err s → StopsEntry d (StopsNode d) i seen x s
unfolding entry_in
entry_stopped d stop i seen x s e =
    elim (bind_err (key_in i seen x.line x.text) _ s e) [
      | inl h ↦ entry_key_stopped d i seen x s h
      | inr h ↦ elim (bind_err (behind_in (block_with (node_in d)) (node_in d) false i (spot x.line x.text) x.line h.0.1 x.inner) _ s h.2) [
        | inl g ↦ inr (inr (inr (inr (inr (h.0.0, h.0.1, key_sound i seen x h.0 h.1, key_stopped d stop i x h.0.1 s g)))))
        | inr g ↦ cc
      ]
    ]

-- the place of an entry that is read is its line's key
entries_stopped : (d : ℕ) → NodesStop d → (i : ℕ) (seen : List (List ℕ)) (xs : List Item) (s : Stop)
    → entries_in (block_with (node_in d)) (node_in d) i seen xs ≡ Err s → StopsEntries d (StopsNode d) i seen xs s
entries_stopped d stop i seen [] s e = cc
entries_stopped d stop i seen (x ∷ xs) s e =
    elim (bind_err (entry_in (block_with (node_in d)) (node_in d) i seen x) _ s e) [
      | inl g ↦ inl (entry_stopped d stop i seen x s g)
      | inr g ↦ elim (bind_err (entries_in (block_with (node_in d)) (node_in d) i (seen ++ g.0.key ∷ []) xs) _ s g.2) [
        | inl f ↦
            let whole = entry_sound d (nodes_sound d) i seen x g.0 g.1 in
            let key = whole.1 in
            let here : IsKeyed i seen g.0.key whole.0 (spot x.line x.text) x = record { open_line = key.open_line; level = key.level; key = key.key; fresh = key.fresh; place = refl } in
            inr (g.0.key, whole.0, here, g.0.value, whole.2, entries_stopped d stop i (seen ++ g.0.key ∷ []) xs s f)
        | inr f ↦ cc
      ]
    ]

nodes_stopped : (d : ℕ) → NodesStop d
unfolding node_in
nodes_stopped zero may m l cs ls s e =
    elim (node_cases too_deep too_deep zero may m l cs ls (Err s) e) [
      | inl h ↦ inl (inl (h.0, scalar_or_flow_stopped zero m l cs ls s h.1))
      | inr (inl h) ↦ inr (inl (h.0, h.1), cc)
      | inr (inr (inl h)) ↦ inr (inr (h.0, h.1, h.2, h.3, h.4), cc)
      | inr (inr (inr h)) ↦ inl (inr (h.0, h.1, block_key_stopped l cs s (h.3 ∙ ap key_stop cc)))
    ]
nodes_stopped (suc d) may m l cs ls s e =
    elim (node_cases (lists d) (maps d) (suc d) may m l cs ls (Err s) e) [
      | inl h ↦ inl (inl (h.0, scalar_or_flow_stopped (suc d) m l cs ls s h.1))
      | inr (inl h) ↦
          elim (bind_err (elements_in (block_with (node_in d)) (node_in d) (offset l cs) (items_of false l cs ls)) _ s h.2) [
            | inl g ↦ inr (inl ((h.0, h.1), elements_stopped d (nodes_stopped d) (offset l cs) (items_of false l cs ls) s g))
            | inr g ↦ cc
          ]
      | inr (inr (inl h)) ↦
          elim (bind_err (entries_in (block_with (node_in d)) (node_in d) (offset l cs) [] (items_of true l cs ls)) _ s h.5) [
            | inl g ↦ inr (inr ((h.0, h.1, h.2, h.3, h.4), entries_stopped d (nodes_stopped d) (offset l cs) [] (items_of true l cs ls) s g))
            | inr g ↦ cc
          ]
      | inr (inr (inr h)) ↦ inl (inr (h.0, h.1, block_key_stopped l cs s (h.3 ∙ ap key_stop cc)))
    ]

pub stops_by_cases : (depth : ℕ) (home : At) (ls : List Line) (s : Stop) → block_in depth 0 home ls ≡ Err s → Stops depth ls s
stops_by_cases depth home ls s e = block_stopped depth (nodes_stopped depth) 0 home ls s e

-- ---- each case is a stop

abbrev NodesCases : ℕ → Type 0
NodesCases d = (may : Bool) (m : ℕ) (l : Line) (cs : List ℕ) (ls : List Line) (s : Stop) → StopsNode d may m l cs ls s → node_in d may m l cs ls ≡ Err s

block_stopping : (d : ℕ) → NodesCases d → (m : ℕ) (home : At) (ls : List Line) (s : Stop) → StopsBlock d (StopsNode d) m ls s → block_with (node_in d) m home ls ≡ Err s
block_stopping d cases m home ls s (first, more, is, inl h) = rw (is, h.0, h.1) refl
block_stopping d cases m home ls s (first, more, is, inr h) = rw (is, none_is _ h.0) (cases true m first (body first) more s h.1)

dash_stopping : (d : ℕ) → NodesCases d → (i : ℕ) (x : Item) (s : Stop) → StopsBehindDash d (StopsNode d) i x s
    → behind_in (block_with (node_in d)) (node_in d) (after_spaces (drop 1 x.text)) i (spot x.line x.text) x.line (drop 1 x.text) x.inner ≡ Err s
dash_stopping d cases i x s (inl h) = rw h.0 (block_stopping d cases _ _ _ s h.1)
dash_stopping d cases i x s (inr h) = rw h.0 (cases _ _ _ _ _ s h.1)

key_stopping : (d : ℕ) → NodesCases d → (i : ℕ) (x : Item) (rest : List ℕ) (s : Stop) → StopsBehindKey d (StopsNode d) i x rest s
    → behind_in (block_with (node_in d)) (node_in d) false i (spot x.line x.text) x.line rest x.inner ≡ Err s
key_stopping d cases i x rest s (inl h) = rw h.0 (block_stopping d cases _ _ _ s h.1)
key_stopping d cases i x rest s (inr h) = rw h.0 (cases _ _ _ _ _ s h.1)

element_stopping : (d : ℕ) → NodesCases d → (i : ℕ) (x : Item) (s : Stop) → StopsElement d (StopsNode d) i x s → element_in (block_with (node_in d)) (node_in d) i x ≡ Err s
unfolding element_in
element_stopping d cases i x s (inl h) = rw (h.0, h.1) refl
element_stopping d cases i x s (inr (inl h)) = rw (none_is _ h.0, h.1, h.2) refl
element_stopping d cases i x s (inr (inr h)) = rw (none_is _ h.0.open_line, h.0.level, h.0.dash) (dash_stopping d cases i x s h.1)

elements_stopping : (d : ℕ) → NodesCases d → (i : ℕ) (xs : List Item) (s : Stop) → StopsElements d (StopsNode d) i xs s → elements_in (block_with (node_in d)) (node_in d) i xs ≡ Err s
elements_stopping d cases i [] s h = absurd h
elements_stopping d cases i (x ∷ xs) s (inl h) = rw (element_stopping d cases i x s h) refl
elements_stopping d cases i (x ∷ xs) s (inr (dashed, t, laid, more)) =
    rw (element_complete t d (node_complete t d) i x dashed laid, elements_stopping d cases i xs s more) refl

entry_stopping : (d : ℕ) → NodesCases d → (i : ℕ) (seen : List (List ℕ)) (x : Item) (s : Stop) → StopsEntry d (StopsNode d) i seen x s
    → entry_in (block_with (node_in d)) (node_in d) i seen x ≡ Err s
unfolding entry_in key_in item_key
entry_stopping d cases i seen x s (inl h) = rw (h.0, h.1) refl
entry_stopping d cases i seen x s (inr (inl h)) = rw (none_is _ h.0, h.1, h.2) refl
entry_stopping d cases i seen x s (inr (inr (inl h))) = rw (none_is _ h.0, h.1, block_key_stopping x.line x.text s h.2) refl
entry_stopping d cases i seen x s (inr (inr (inr (inl h)))) = rw (none_is _ h.0, h.1, h.2, h.3) refl
entry_stopping d cases i seen x s (inr (inr (inr (inr (inl h))))) = rw (none_is _ h.0, h.1, h.4, h.5, h.6) refl
entry_stopping d cases i seen x s (inr (inr (inr (inr (inr (k, rest, key, h)))))) =
    rw (none_is _ key.open_line, key.level, key.key, key.fresh, key_stopping d cases i x rest s h) refl

entries_stopping : (d : ℕ) → NodesCases d → (i : ℕ) (seen : List (List ℕ)) (xs : List Item) (s : Stop) → StopsEntries d (StopsNode d) i seen xs s
    → entries_in (block_with (node_in d)) (node_in d) i seen xs ≡ Err s
entries_stopping d cases i seen [] s h = absurd h
entries_stopping d cases i seen (x ∷ xs) s (inl h) = rw (entry_stopping d cases i seen x s h) refl
entries_stopping d cases i seen (x ∷ xs) s (inr (k, rest, key, t, laid, more)) =
    rw (entry_complete t d (node_complete t d) i seen k rest (spot x.line x.text) x key laid, entries_stopping d cases i (seen ++ k ∷ []) xs s more) refl

start_stopping : (a_list a_map : Line → List ℕ → List Line → Read Tree) (d : ℕ) (may : Bool) (m : ℕ) (l : Line) (cs : List ℕ) (ls : List Line) (s : Stop) → StopsStart d may m l cs ls s
    → node_with a_list a_map d may m l cs ls ≡ Err s
start_stopping a_list a_map d may m l cs ls s (inl h) = node_scalar_or_flow a_list a_map d may m l cs ls h.0 ∙ scalar_or_flow_stopping d m l cs ls s h.1
start_stopping a_list a_map d may m l cs ls s (inr h) = rw (h.0, h.1, block_key_stopping l cs s h.2) refl

nodes_stopping : (d : ℕ) → NodesCases d
unfolding node_in
nodes_stopping zero may m l cs ls s (inl h) = start_stopping too_deep too_deep zero may m l cs ls s h
nodes_stopping zero may m l cs ls s (inr (inl h, is)) = node_list too_deep too_deep zero may m l cs ls (Err s) h.0 h.1 (ap Err (sym is))
nodes_stopping zero may m l cs ls s (inr (inr h, is)) = node_map too_deep too_deep zero may m l cs ls (Err s) h.2 h.3 h.0 h.1 h.4 (ap Err (sym is))
nodes_stopping (suc d) may m l cs ls s (inl h) = start_stopping (lists d) (maps d) (suc d) may m l cs ls s h
nodes_stopping (suc d) may m l cs ls s (inr (inl (h, stop))) =
    node_list (lists d) (maps d) (suc d) may m l cs ls (Err s) h.0 h.1
    (ap (λ (r : Read Elements). r >>= (λ ts. Ok (list (spot l cs) ts))) (elements_stopping d (nodes_stopping d) (offset l cs) (items_of false l cs ls) s stop))
nodes_stopping (suc d) may m l cs ls s (inr (inr (h, stop))) =
    node_map (lists d) (maps d) (suc d) may m l cs ls (Err s) h.2 h.3 h.0 h.1 h.4
    (ap (λ (r : Read Members). r >>= (λ ms. Ok (map (spot l cs) ms))) (entries_stopping d (nodes_stopping d) (offset l cs) [] (items_of true l cs ls) s stop))

pub cases_stop : (depth : ℕ) (home : At) (ls : List Line) (s : Stop) → Stops depth ls s → block_in depth 0 home ls ≡ Err s
cases_stop depth home ls s h = block_stopping depth (nodes_stopping depth) 0 home ls s h
