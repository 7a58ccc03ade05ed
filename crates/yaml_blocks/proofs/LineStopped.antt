-- Where and why a reading stops on one line, by cases; and that it stops in each case.
use Rattle.std.proofs.Common.{◌≡◌, ℕ, zero, suc, ◌<◌, ◌≤◌, Bool, true, false, not, cond, ◌&&◌, ◌||◌, ◌==◌, ◌⊎◌, inl, inr, List, [], ◌∷◌, ◌++◌, length, drop, Ok, Err, refl, sym, ap, ◌∙◌, subst, arith}
use Rattle.std.proofs.lemmas.Bool.Decides.{nat_tests}
use Rattle.std.specs.Str.{bytes_eq}
use Rattle.std.proofs.lemmas.Bool.{or_parts}
use Rattle.yaml_tree.specs.Tree.{At, Tree, null, text, scalar, list, Elements, no_elements, element, Members, no_members, member, Member}
use Rattle.yaml_inline.specs.File.{Line, begins, blank_or_end, skip_blanks, ends_line}
use Rattle.yaml_inline.specs.Line.{spot, Stop, refused, syntax, Read, starts_plain, plain_front, plain_rest, is_left_out}
use Rattle.yaml_inline.specs.Scalar.{resolved, Quoted, closed, open_ended, bad_escape, single, double}
use Rattle.yaml_inline.specs.Flow.{Front, front_map, opened, inside_open, runs_out, quoted_as, is_quote, quoted, merge, behind_colon, flow_key, is_seen, fresh_key, after_element, is_bracket, flow_element, flow_elements, flow_value, flow_entry, flow_members, flow_scalar, map_from, flow_node}
use Rattle.yaml_inline.specs.Key.{key_stop, colon_then, quoted_key, key_at}
use Rattle.yaml_inline.proofs.Flows.{length-tail}
use Rattle.yaml_inline.proofs.Nexts.{next_is, plain_rest_shorter}
use Rattle.yaml_inline.proofs.Opens.{quote_not_left_out}
use Rattle.yaml_blocks.specs.LineStops.{quote_of, behind_quote, StopsQuoted, StopsKey, StopsWanting, StopsColon, StopsSeparator, StopsFlowKey, StopsFlowScalar, StopsFlowElement, StopsFlowElements, StopsFlowValue, StopsFlowEntry, StopsFlowEntries, StopsFlow}
use Rattle.yaml_blocks.proofs.Tools.{choose, allowed, bind_ok, inside_ok, bind_err, ok_same, not_false, not_true}
use Rattle.yaml_blocks.proofs.Rests.{skip_within, quoted_within, fresh_key_within, after_within}

-- ---- quotes

quoted_is : (l : Line) (cs : List ℕ) → quoted l cs ≡ quoted_as l cs (quote_of cs) (behind_quote cs)
unfolding quoted
quoted_is l cs = by (begins 39 cs) where
  by : (b : Bool) → cond b (quoted_as l cs 39 (single (drop 1 cs))) (quoted_as l cs 34 (double 0 (drop 1 cs))) ≡ quoted_as l cs (cond b 39 34) (cond b (single (drop 1 cs)) (double 0 (drop 1 cs)))
  by true = refl
  by false = refl

pub quoted_stopped : (l : Line) (cs : List ℕ) (s : Stop) → quoted l cs ≡ Err s → StopsQuoted l cs s
quoted_stopped l cs s e = by (behind_quote cs) refl (sym (quoted_is l cs) ∙ e) where
  by : (q : Quoted) → behind_quote cs ≡ q → quoted_as l cs (quote_of cs) q ≡ Err s → StopsQuoted l cs s
  by (closed t rest) is e = cc
  by open_ended is e = inl (is, cc)
  by (bad_escape n) is e = inr (n, is, cc)

pub quoted_stopping : (l : Line) (cs : List ℕ) (s : Stop) → StopsQuoted l cs s → quoted l cs ≡ Err s
quoted_stopping l cs s (inl h) = quoted_is l cs ∙ (ap (quoted_as l cs (quote_of cs)) h.0 ∙ ap Err (sym h.1))
quoted_stopping l cs s (inr h) = quoted_is l cs ∙ (ap (quoted_as l cs (quote_of cs)) h.1 ∙ ap Err (sym h.2))

-- ---- keys of block maps

colon_no_stop : (k cs : List ℕ) (s : Stop) → colon_then k cs ≡ key_stop s → ⊥
colon_no_stop k [] s e = cc
colon_no_stop k (c ∷ cs) s e = elim (choose (c == 58 && blank_or_end cs) _ _ _ e) [ inl h ↦ cc | inr h ↦ cc ]

pub block_key_stopped : (l : Line) (cs : List ℕ) (s : Stop) → key_at l cs ≡ key_stop s → StopsKey l cs s
unfolding key_at
block_key_stopped l cs s e =
    elim (choose (is_left_out cs) _ _ _ e) [
      | inl h ↦ inl (h.0, cc)
      | inr h ↦ elim (choose (is_quote cs) _ _ _ h.1) [
        | inl q ↦ inr (inl (q.0, by (quoted l cs) refl q.1))
        | inr q ↦ elim (choose (starts_plain cs && begins 58 (plain_rest false cs)) _ _ _ q.1) [
          | inl p ↦ elim (choose (bytes_eq (plain_front false cs) merge) _ _ _ p.1) [
            | inl m ↦ inr (inr (h.0, q.0, p.0, m.0, cc))
            | inr m ↦ absurd (colon_no_stop (plain_front false cs) (plain_rest false cs) s m.1)
          ]
          | inr p ↦ cc
        ]
      ]
    ]
  where
    by : (r : Front (List ℕ)) → quoted l cs ≡ r → quoted_key r ≡ key_stop s → StopsQuoted l cs s
    by (Ok q) at e = absurd (colon_no_stop q.0 (skip_blanks q.1) s e)
    by (Err t) at e = let same : t ≡ s = cc in quoted_stopped l cs s (subst (λ (u : Stop). quoted l cs ≡ Err u) same at)

pub block_key_stopping : (l : Line) (cs : List ℕ) (s : Stop) → StopsKey l cs s → key_at l cs ≡ key_stop s
unfolding key_at
block_key_stopping l cs s (inl h) = rw (h.0, h.1) refl
block_key_stopping l cs s (inr (inl h)) = rw (quote_not_left_out cs h.0, h.0, quoted_stopping l cs s h.1) refl
block_key_stopping l cs s (inr (inr h)) = rw (h.0, h.1, h.2, h.3, h.4) refl

-- ---- flow collections

wanting_stopped : {A : Type 0} (l : Line) (rest : List ℕ) (s : Stop) → (let r : Read A = cond (ends_line rest) (runs_out l) (Err (syntax l)) in r) ≡ Err s → StopsWanting l rest s
wanting_stopped l rest s e =
    elim (choose (ends_line rest) _ _ _ e) [
      | inl h ↦ inl (h.0, cc)
      | inr h ↦ inr (h.0, cc)
    ]

colon_stopped : (l : Line) (k rest : List ℕ) (s : Stop) → behind_colon l k rest ≡ Err s → StopsColon l rest s
unfolding behind_colon
colon_stopped l k rest s e =
    elim (choose (begins 58 (skip_blanks rest)) _ _ _ e) [
      | inl h ↦ cc
      | inr h ↦ (h.0, wanting_stopped l rest s h.1)
    ]

colon_stopping : (l : Line) (k rest : List ℕ) (s : Stop) → StopsColon l rest s → behind_colon l k rest ≡ Err s
unfolding behind_colon
colon_stopping l k rest s (none, inl h) = rw (none, h.0, h.1) refl
colon_stopping l k rest s (none, inr h) = rw (none, h.0, h.1) refl

after_stopped : (l : Line) (close : ℕ) (rest : List ℕ) (s : Stop) → after_element l close rest ≡ Err s → StopsSeparator close l rest s
unfolding after_element
after_stopped l close rest s e =
    elim (choose (begins 44 (skip_blanks rest)) _ _ _ e) [
      | inl h ↦ cc
      | inr h ↦ elim (choose (begins close (skip_blanks rest)) _ _ _ h.1) [
        | inl g ↦ cc
        | inr g ↦ (rw h.0 g.0, wanting_stopped l rest s g.1)
      ]
    ]

after_stopping : (l : Line) (close : ℕ) (rest : List ℕ) (s : Stop) → StopsSeparator close l rest s → after_element l close rest ≡ Err s
unfolding after_element
after_stopping l close rest s (none, inl h) = let n = or_parts (begins 44 (skip_blanks rest)) _ none in rw (n.0, n.1, h.0, h.1) refl
after_stopping l close rest s (none, inr h) = let n = or_parts (begins 44 (skip_blanks rest)) _ none in rw (n.0, n.1, h.0, h.1) refl

flow_key_stopped : (l : Line) (cs : List ℕ) (s : Stop) → flow_key l cs ≡ Err s → StopsFlowKey l cs s
unfolding flow_key
flow_key_stopped l cs s e =
    elim (choose (is_left_out cs) _ _ _ e) [
      | inl h ↦ inl (h.0, cc)
      | inr h ↦ elim (choose (is_quote cs) _ _ _ h.1) [
        | inl q ↦ elim (bind_err (quoted l cs) _ s q.1) [
          | inl g ↦ inr (inl (q.0, inl (quoted_stopped l cs s g)))
          | inr g ↦ inr (inl (q.0, inr (g.0, g.1, colon_stopped l g.0.0 g.0.1 s g.2)))
        ]
        | inr q ↦ elim (choose (not (starts_plain cs)) _ _ _ q.1) [
          | inl p ↦ inr (inr (inl (h.0, q.0, not_true _ p.0, cc)))
          | inr p ↦ elim (choose (bytes_eq (plain_front true cs) merge && begins 58 (plain_rest true cs)) _ _ _ p.1) [
            | inl m ↦ inr (inr (inr (inl (h.0, q.0, not_false _ p.0, m.0, cc))))
            | inr m ↦ inr (inr (inr (inr (h.0, q.0, not_false _ p.0, m.0, colon_stopped l (plain_front true cs) (plain_rest true cs) s m.1))))
          ]
        ]
      ]
    ]

flow_key_stopping : (l : Line) (cs : List ℕ) (s : Stop) → StopsFlowKey l cs s → flow_key l cs ≡ Err s
unfolding flow_key
flow_key_stopping l cs s (inl h) = rw (h.0, h.1) refl
flow_key_stopping l cs s (inr (inl (quote, inl h))) = rw (quote_not_left_out cs quote, quote, quoted_stopping l cs s h) refl
flow_key_stopping l cs s (inr (inl (quote, inr h))) = rw (quote_not_left_out cs quote, quote, h.1) (colon_stopping l h.0.0 h.0.1 s h.2)
flow_key_stopping l cs s (inr (inr (inl h))) = rw (h.0, h.1, h.2, h.3) refl
flow_key_stopping l cs s (inr (inr (inr (inl h)))) = rw (h.0, h.1, h.2, h.3, h.4) refl
flow_key_stopping l cs s (inr (inr (inr (inr h)))) = rw (h.0, h.1, h.2, h.3) (colon_stopping l (plain_front true cs) (plain_rest true cs) s h.4)

fresh_stopping : (seen : List (List ℕ)) (l : Line) (cs : List ℕ) (s : Stop)
    → StopsFlowKey l cs s ⊎ ((k : List ℕ × List ℕ) × (flow_key l cs ≡ Ok k) × (is_seen k.0 seen ≡ true) × (s ≡ refused 5 (spot l cs))) → fresh_key seen l cs ≡ Err s
unfolding fresh_key
fresh_stopping seen l cs s (inl h) = rw (flow_key_stopping l cs s h) refl
fresh_stopping seen l cs s (inr h) = rw (h.1, h.2, h.3) refl

fresh_stopped : (seen : List (List ℕ)) (l : Line) (cs : List ℕ) (s : Stop) → fresh_key seen l cs ≡ Err s
    → StopsFlowKey l cs s ⊎ ((k : List ℕ × List ℕ) × (flow_key l cs ≡ Ok k) × (is_seen k.0 seen ≡ true) × (s ≡ refused 5 (spot l cs)))
unfolding fresh_key
fresh_stopped seen l cs s e =
    elim (bind_err (flow_key l cs) _ s e) [
      | inl h ↦ inl (flow_key_stopped l cs s h)
      | inr h ↦ elim (choose (is_seen h.0.0 seen) _ _ _ h.2) [
        | inl g ↦ inr (h.0, h.1, g.0, cc)
        | inr g ↦ cc
      ]
    ]

flow_scalar_stopped : (l : Line) (cs : List ℕ) (s : Stop) → flow_scalar l cs ≡ Err s → StopsFlowScalar l cs s
unfolding flow_scalar
flow_scalar_stopped l cs s e =
    elim (choose (is_left_out cs) _ _ _ e) [
      | inl h ↦ inl (h.0, cc)
      | inr h ↦ elim (choose (is_quote cs) _ _ _ h.1) [
        | inl q ↦ elim (bind_err (quoted l cs) _ s q.1) [
          | inl g ↦ inr (inl (q.0, quoted_stopped l cs s g))
          | inr g ↦ cc
        ]
        | inr q ↦ elim (choose (starts_plain cs) _ _ _ q.1) [
          | inl p ↦ cc
          | inr p ↦ inr (inr (h.0, q.0, p.0, cc))
        ]
      ]
    ]

flow_scalar_stopping : (l : Line) (cs : List ℕ) (s : Stop) → StopsFlowScalar l cs s → flow_scalar l cs ≡ Err s
unfolding flow_scalar
flow_scalar_stopping l cs s (inl h) = rw (h.0, h.1) refl
flow_scalar_stopping l cs s (inr (inl h)) = rw (quote_not_left_out cs h.0, h.0, quoted_stopping l cs s h.1) refl
flow_scalar_stopping l cs s (inr (inr h)) = rw (h.0, h.1, h.2, h.3) refl

-- something stands behind the blanks
next : (rest : List ℕ) → ends_line rest ≡ false → blank_or_end (skip_blanks rest) ≡ false
next rest e = (next_is rest (skip_blanks rest) e refl (skip_within rest)).solid

-- what is left behind a node is shorter than what it was read from
abbrev Shortens : (Line → List ℕ → Front Tree) → Type 0
Shortens node = (l : Line) (cs : List ℕ) (q : Tree × List ℕ) → blank_or_end cs ≡ false → node l cs ≡ Ok q → length q.1 < length cs

module _ (node : Line → List ℕ → Front Tree) (N : Line → List ℕ → Stop → Type 0) (shorter : Shortens node) where
  element_shorter : (l : Line) (cs : List ℕ) (q : Tree × List ℕ) → blank_or_end cs ≡ false → flow_element node l cs ≡ Ok q → length q.1 < length cs
  unfolding flow_element
  element_shorter l cs q solid e =
      let (x, at, e1) = bind_ok (node l cs) _ q e in
      let (one, e2) = allowed (begins 58 (skip_blanks x.1) && not (is_bracket cs)) _ _ _ e1 in
      let (more, after, same) = bind_ok (after_element l 93 x.1) _ q e2 in
      omega (arith, shorter l cs x solid at, after_within l 93 x.1 more after, ap (λ (y : Tree × List ℕ). length y.1) (ok_same (x.0, more) q same))

  value_shorter : (l : Line) (home : At) (rest : List ℕ) (q : Tree × List ℕ) → flow_value node l home rest ≡ Ok q → length q.1 ≤ length rest
  unfolding flow_value
  value_shorter l home rest q e =
      elim (choose (ends_line rest) _ _ _ e) [
        | inl h ↦ cc
        | inr h ↦ elim (choose (begins 44 (skip_blanks rest) || begins 125 (skip_blanks rest)) _ _ _ h.1) [
          | inl g ↦ omega (arith, ap (λ (x : Tree × List ℕ). length x.1) (ok_same (scalar home null, skip_blanks rest) q g.1), skip_within rest)
          | inr g ↦ omega (arith, shorter l (skip_blanks rest) q (next rest h.0) g.1, skip_within rest)
        ]
      ]

  entry_shorter : (seen : List (List ℕ)) (l : Line) (cs : List ℕ) (q : Member × List ℕ) → flow_entry node seen l cs ≡ Ok q → length q.1 < length cs
  unfolding flow_entry
  entry_shorter seen l cs q e =
      let (k, key, e1) = bind_ok (fresh_key seen l cs) _ q e in
      let (v, at, e2) = bind_ok (flow_value node l (spot l cs) k.1) _ q e1 in
      let (more, after, same) = bind_ok (after_element l 125 v.1) _ q e2 in
      let m : Member = record { key = k.0; place = spot l cs; value = v.0 } in
      omega (arith, fresh_key_within seen l cs k key, value_shorter l (spot l cs) k.1 v at, after_within l 125 v.1 more after, ap (λ (y : Member × List ℕ). length y.1) (ok_same (m, more) q same))

  elements_shorter : (n : ℕ) (l : Line) (rest : List ℕ) (q : Elements × List ℕ) → flow_elements node n l rest ≡ Ok q → length q.1 ≤ length rest
  unfolding flow_elements
  elements_shorter zero l rest q e = cc
  elements_shorter (suc n) l rest q e =
      elim (choose (ends_line rest) _ _ _ e) [
        | inl h ↦ cc
        | inr h ↦ elim (choose (begins 93 (skip_blanks rest)) _ _ _ h.1) [
          | inl g ↦ omega (arith, ap (λ (x : Elements × List ℕ). length x.1) (ok_same (no_elements, drop 1 (skip_blanks rest)) q g.1), length-tail 93 (skip_blanks rest) g.0, skip_within rest)
          | inr g ↦
              let (x, at, e1) = bind_ok (flow_element node l (skip_blanks rest)) _ q g.1 in
              let (others, behind, same) = bind_ok (flow_elements node n l x.1) _ q e1 in
              omega (arith, element_shorter l (skip_blanks rest) x (next rest h.0) at, elements_shorter n l x.1 others behind, ap (λ (y : Elements × List ℕ). length y.1) (ok_same (element x.0 others.0, others.1) q same), skip_within rest)
        ]
      ]

  members_shorter : (n : ℕ) (seen : List (List ℕ)) (l : Line) (rest : List ℕ) (q : Members × List ℕ) → flow_members node n seen l rest ≡ Ok q → length q.1 ≤ length rest
  unfolding flow_members
  members_shorter zero seen l rest q e = cc
  members_shorter (suc n) seen l rest q e =
      elim (choose (ends_line rest) _ _ _ e) [
        | inl h ↦ cc
        | inr h ↦ elim (choose (begins 125 (skip_blanks rest)) _ _ _ h.1) [
          | inl g ↦ omega (arith, ap (λ (x : Members × List ℕ). length x.1) (ok_same (no_members, drop 1 (skip_blanks rest)) q g.1), length-tail 125 (skip_blanks rest) g.0, skip_within rest)
          | inr g ↦
              let (x, at, e1) = bind_ok (flow_entry node seen l (skip_blanks rest)) _ q g.1 in
              let (others, behind, same) = bind_ok (flow_members node n (seen ++ x.0.key ∷ []) l x.1) _ q e1 in
              omega (arith, entry_shorter seen l (skip_blanks rest) x at, members_shorter n (seen ++ x.0.key ∷ []) l x.1 others behind, ap (λ (y : Members × List ℕ). length y.1) (ok_same (member x.0.key x.0.place x.0.value others.0, others.1) q same), skip_within rest)
        ]
      ]

  module _ (stopped : (l : Line) (cs : List ℕ) (s : Stop) → node l cs ≡ Err s → N l cs s) where
    element_stopped : (l : Line) (cs : List ℕ) (s : Stop) → flow_element node l cs ≡ Err s → StopsFlowElement node N l cs s
    unfolding flow_element
    element_stopped l cs s e =
        elim (bind_err (node l cs) _ s e) [
          | inl h ↦ inl (stopped l cs s h)
          | inr h ↦ elim (choose (begins 58 (skip_blanks h.0.1) && not (is_bracket cs)) _ _ _ h.2) [
            | inl g ↦ inr (inl (h.0, h.1, g.0, cc))
            | inr g ↦ elim (bind_err (after_element l 93 h.0.1) _ s g.1) [
              | inl k ↦ inr (inr (h.0, h.1, g.0, after_stopped l 93 h.0.1 s k))
              | inr k ↦ cc
            ]
          ]
        ]

    elements_stopped : (n : ℕ) (l : Line) (rest : List ℕ) (s : Stop) → length rest < n → flow_elements node n l rest ≡ Err s → (es : Elements) × StopsFlowElements node N es l rest s
    unfolding flow_elements
    elements_stopped zero l rest s room e = absurd (omega arith)
    elements_stopped (suc n) l rest s room e =
        elim (choose (ends_line rest) _ _ _ e) [
          | inl h ↦ (no_elements, inl (h.0, cc))
          | inr h ↦ elim (choose (begins 93 (skip_blanks rest)) _ _ _ h.1) [
            | inl g ↦ cc
            | inr g ↦ elim (bind_err (flow_element node l (skip_blanks rest)) _ s g.1) [
              | inl k ↦ (no_elements, inr (h.0, g.0, element_stopped l (skip_blanks rest) s k))
              | inr k ↦ elim (bind_err (flow_elements node n l k.0.1) _ s k.2) [
                | inl m ↦
                    let less : length k.0.1 < n = omega (arith, element_shorter l (skip_blanks rest) k.0 (next rest h.0) k.1, skip_within rest) in
                    let more = elements_stopped n l k.0.1 s less m in
                    (element k.0.0 more.0, (h.0, g.0, k.0.1, k.1, more.1))
                | inr m ↦ cc
              ]
            ]
          ]
        ]

    value_stopped : (l : Line) (home : At) (rest : List ℕ) (s : Stop) → flow_value node l home rest ≡ Err s → StopsFlowValue node N l rest s
    unfolding flow_value
    value_stopped l home rest s e =
        elim (choose (ends_line rest) _ _ _ e) [
          | inl h ↦ inl (h.0, cc)
          | inr h ↦ elim (choose (begins 44 (skip_blanks rest) || begins 125 (skip_blanks rest)) _ _ _ h.1) [
            | inl g ↦ cc
            | inr g ↦ inr (h.0, g.0, stopped l (skip_blanks rest) s g.1)
          ]
        ]

    entry_stopped : (seen : List (List ℕ)) (l : Line) (cs : List ℕ) (s : Stop) → flow_entry node seen l cs ≡ Err s → StopsFlowEntry node N seen l cs s
    unfolding flow_entry
    entry_stopped seen l cs s e =
        elim (bind_err (fresh_key seen l cs) _ s e) [
          | inl h ↦ elim (fresh_stopped seen l cs s h) [
            | inl g ↦ inl g
            | inr g ↦ inr (inl g)
          ]
          | inr h ↦ elim (bind_err (flow_value node l (spot l cs) h.0.1) _ s h.2) [
            | inl g ↦ inr (inr (inl (h.0, h.1, value_stopped l (spot l cs) h.0.1 s g)))
            | inr g ↦ elim (bind_err (after_element l 125 g.0.1) _ s g.2) [
              | inl k ↦ inr (inr (inr (h.0, h.1, g.0, g.1, after_stopped l 125 g.0.1 s k)))
              | inr k ↦ cc
            ]
          ]
        ]

    members_stopped : (n : ℕ) (seen : List (List ℕ)) (l : Line) (rest : List ℕ) (s : Stop) → length rest < n → flow_members node n seen l rest ≡ Err s
        → (ms : Members) × StopsFlowEntries node N ms seen l rest s
    unfolding flow_members
    members_stopped zero seen l rest s room e = absurd (omega arith)
    members_stopped (suc n) seen l rest s room e =
        elim (choose (ends_line rest) _ _ _ e) [
          | inl h ↦ (no_members, inl (h.0, cc))
          | inr h ↦ elim (choose (begins 125 (skip_blanks rest)) _ _ _ h.1) [
            | inl g ↦ cc
            | inr g ↦ elim (bind_err (flow_entry node seen l (skip_blanks rest)) _ s g.1) [
              | inl k ↦ (no_members, inr (h.0, g.0, entry_stopped seen l (skip_blanks rest) s k))
              | inr k ↦ elim (bind_err (flow_members node n (seen ++ k.0.0.key ∷ []) l k.0.1) _ s k.2) [
                | inl m ↦
                    let less : length k.0.1 < n = omega (arith, entry_shorter seen l (skip_blanks rest) k.0 k.1, skip_within rest) in
                    let more = members_stopped n (seen ++ k.0.0.key ∷ []) l k.0.1 s less m in
                    (member k.0.0.key k.0.0.place k.0.0.value more.0, (h.0, g.0, k.0.1, k.1, more.1))
                | inr m ↦ cc
              ]
            ]
          ]
        ]

  module _ (stopping : (l : Line) (cs : List ℕ) (s : Stop) → N l cs s → node l cs ≡ Err s) where
    element_stopping : (l : Line) (cs : List ℕ) (s : Stop) → StopsFlowElement node N l cs s → flow_element node l cs ≡ Err s
    unfolding flow_element
    element_stopping l cs s (inl h) = rw (stopping l cs s h) refl
    element_stopping l cs s (inr (inl h)) = rw (h.1, h.2, h.3) refl
    element_stopping l cs s (inr (inr h)) = rw (h.1, h.2, after_stopping l 93 h.0.1 s h.3) refl

    elements_stopping : (es : Elements) (n : ℕ) (l : Line) (rest : List ℕ) (s : Stop) → length rest < n → StopsFlowElements node N es l rest s → flow_elements node n l rest ≡ Err s
    unfolding flow_elements
    elements_stopping es zero l rest s room h = absurd (omega arith)
    elements_stopping no_elements (suc n) l rest s room (inl h) = rw (h.0, h.1) refl
    elements_stopping no_elements (suc n) l rest s room (inr h) = rw (h.0, h.1, element_stopping l (skip_blanks rest) s h.2) refl
    elements_stopping (element t ts) (suc n) l rest s room (open_line, other, more, at, h) =
        let less : length more < n = omega (arith, element_shorter l (skip_blanks rest) (t, more) (next rest open_line) at, skip_within rest) in
        rw (open_line, other, at, elements_stopping ts n l more s less h) refl

    value_stopping : (l : Line) (home : At) (rest : List ℕ) (s : Stop) → StopsFlowValue node N l rest s → flow_value node l home rest ≡ Err s
    unfolding flow_value
    value_stopping l home rest s (inl h) = rw (h.0, h.1) refl
    value_stopping l home rest s (inr h) = rw (h.0, h.1) (stopping l (skip_blanks rest) s h.2)

    entry_stopping : (seen : List (List ℕ)) (l : Line) (cs : List ℕ) (s : Stop) → StopsFlowEntry node N seen l cs s → flow_entry node seen l cs ≡ Err s
    unfolding flow_entry
    entry_stopping seen l cs s (inl h) = rw (fresh_stopping seen l cs s (inl h)) refl
    entry_stopping seen l cs s (inr (inl h)) = rw (fresh_stopping seen l cs s (inr h)) refl
    entry_stopping seen l cs s (inr (inr (inl h))) = rw (h.1, value_stopping l (spot l cs) h.0.1 s h.2) refl
    entry_stopping seen l cs s (inr (inr (inr h))) = rw (h.1, h.3, after_stopping l 125 h.2.1 s h.4) refl

    members_stopping : (ms : Members) (n : ℕ) (seen : List (List ℕ)) (l : Line) (rest : List ℕ) (s : Stop) → length rest < n → StopsFlowEntries node N ms seen l rest s
        → flow_members node n seen l rest ≡ Err s
    unfolding flow_members
    members_stopping ms zero seen l rest s room h = absurd (omega arith)
    members_stopping no_members (suc n) seen l rest s room (inl h) = rw (h.0, h.1) refl
    members_stopping no_members (suc n) seen l rest s room (inr h) = rw (h.0, h.1, entry_stopping seen l (skip_blanks rest) s h.2) refl
    members_stopping (member k a t ms) (suc n) seen l rest s room (open_line, other, more, at, h) =
        let less : length more < n = omega (arith, entry_shorter seen l (skip_blanks rest) (record { key = k; place = a; value = t }, more) at, skip_within rest) in
        rw (open_line, other, at, members_stopping ms n (seen ++ k ∷ []) l more s less h) refl

-- ---- nodes

inside_err : {A : Type 0} (a : At) (c : ℕ) (r : Read A) (s : Stop) → inside_open a c r ≡ Err s → (t : Stop) × (r ≡ Err t) × (s ≡ opened a c t)
inside_err a c (Ok x) s e = cc
inside_err a c (Err t) s e = (t, refl, cc)

front_err : {A B : Type 0} (f : A → B) (r : Front A) (s : Stop) → front_map f r ≡ Err s → r ≡ Err s
front_err f r s e = elim (bind_err r _ s e) [ inl h ↦ h | inr h ↦ cc ]

flow_scalar_shorter : (l : Line) (cs : List ℕ) (q : Tree × List ℕ) → blank_or_end cs ≡ false → flow_scalar l cs ≡ Ok q → length q.1 < length cs
unfolding flow_scalar
flow_scalar_shorter l cs q solid e =
    let (known, e1) = allowed (is_left_out cs) _ _ _ e in
    elim (choose (is_quote cs) _ _ _ e1) [
      | inl h ↦
          let (x, at, same) = bind_ok (quoted l cs) _ q h.1 in
          omega (arith, quoted_within l cs x at, ap (λ (y : Tree × List ℕ). length y.1) (ok_same (scalar (spot l cs) (text x.0), x.1) q same))
      | inr h ↦ elim (choose (starts_plain cs) _ _ _ h.1) [
        | inl g ↦
            let there : Tree × List ℕ = (scalar (spot l cs) (resolved (plain_front true cs)), plain_rest true cs) in
            omega (arith, plain_rest_shorter true cs g.0 solid, ap (λ (y : Tree × List ℕ). length y.1) (ok_same there q g.1))
        | inr g ↦ cc
      ]
    ]

flow_shorter : (d : ℕ) → Shortens (flow_node d)
unfolding flow_node
flow_shorter zero l cs q solid e =
    let (other, e1) = allowed (is_bracket cs) _ _ _ e in
    flow_scalar_shorter l cs q solid e1
flow_shorter (suc d) l cs q solid e =
    elim (choose (begins 91 cs) _ _ _ e) [
      | inl h ↦
          let (x, at, same) = bind_ok (flow_elements (flow_node d) (length cs) l (drop 1 cs)) _ q (inside_ok _ _ _ q h.1) in
          omega (arith, elements_shorter (flow_node d) (λ l cs s. Unit {0}) (flow_shorter d) (length cs) l (drop 1 cs) x at, length-tail 91 cs h.0, ap (λ (y : Tree × List ℕ). length y.1) (ok_same (list (spot l cs) x.0, x.1) q same))
      | inr h ↦ elim (choose (begins 123 cs) _ _ _ h.1) [
        | inl g ↦
            let (x, at, same) = bind_ok (flow_members (flow_node d) (length cs) [] l (drop 1 cs)) _ q (inside_ok _ _ _ q g.1) in
            omega (arith, members_shorter (flow_node d) (λ l cs s. Unit {0}) (flow_shorter d) (length cs) [] l (drop 1 cs) x at, length-tail 123 cs g.0, ap (λ (y : Tree × List ℕ). length y.1) (ok_same (map_from (spot l cs) x.0, x.1) q same))
        | inr g ↦ flow_scalar_shorter l cs q solid g.1
      ]
    ]

no_bracket : (cs : List ℕ) → begins 91 cs ≡ false → begins 123 cs ≡ false → is_bracket cs ≡ false
no_bracket cs first second = rw first second

pub flow_stopped : (d : ℕ) (l : Line) (cs : List ℕ) (s : Stop) → flow_node d l cs ≡ Err s → StopsFlow d l cs s
unfolding flow_node
flow_stopped zero l cs s e =
    elim (choose (is_bracket cs) _ _ _ e) [
      | inl h ↦ inl (h.0, cc)
      | inr h ↦ inr (h.0, flow_scalar_stopped l cs s h.1)
    ]
flow_stopped (suc d) l cs s e =
    elim (choose (begins 91 cs) _ _ _ e) [
      | inl h ↦
          let (t, stop, is) = inside_err (spot l cs) 93 _ s h.1 in
          let room : length (drop 1 cs) < length cs = length-tail 91 cs h.0 in
          let more = elements_stopped (flow_node d) (StopsFlow d) (flow_shorter d) (flow_stopped d) (length cs) l (drop 1 cs) t room (front_err _ _ t stop) in
          inl (h.0, more.0, t, more.1, is)
      | inr h ↦ elim (choose (begins 123 cs) _ _ _ h.1) [
        | inl g ↦
            let (t, stop, is) = inside_err (spot l cs) 125 _ s g.1 in
            let room : length (drop 1 cs) < length cs = length-tail 123 cs g.0 in
            let more = members_stopped (flow_node d) (StopsFlow d) (flow_shorter d) (flow_stopped d) (length cs) [] l (drop 1 cs) t room (front_err _ _ t stop) in
            inr (inl (g.0, more.0, t, more.1, is))
        | inr g ↦ inr (inr (no_bracket cs h.0 g.0, flow_scalar_stopped l cs s g.1))
      ]
    ]

no_square : (cs : List ℕ) → begins 123 cs ≡ true → begins 91 cs ≡ false
no_square [] e = cc
no_square (c ∷ cs) e = let is : c ≡ 123 = grind (arith, nat_tests) in subst (λ (x : ℕ). (x == 91) ≡ false) (sym is) refl

pub flow_stopping : (d : ℕ) (l : Line) (cs : List ℕ) (s : Stop) → StopsFlow d l cs s → flow_node d l cs ≡ Err s
unfolding flow_node
flow_stopping zero l cs s (inl h) = rw (h.0, h.1) refl
flow_stopping zero l cs s (inr h) = rw h.0 (flow_scalar_stopping l cs s h.1)
flow_stopping (suc d) l cs s (inl (bracket, es, t, h, is)) =
    let inner = elements_stopping (flow_node d) (StopsFlow d) (flow_shorter d) (flow_stopping d) es (length cs) l (drop 1 cs) t (length-tail 91 cs bracket) h in
    rw (bracket, inner, is) refl
flow_stopping (suc d) l cs s (inr (inl (bracket, ms, t, h, is))) =
    let inner = members_stopping (flow_node d) (StopsFlow d) (flow_shorter d) (flow_stopping d) ms (length cs) [] l (drop 1 cs) t (length-tail 123 cs bracket) h in
    rw (no_square cs bracket, bracket, inner, is) refl
flow_stopping (suc d) l cs s (inr (inr h)) =
    let n = or_parts (begins 91 cs) _ h.0 in
    rw (n.0, n.1) (flow_scalar_stopping l cs s h.1)
