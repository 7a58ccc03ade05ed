-- What is laid out in the lines is what the blocks' reading gives.
use Rattle.std.proofs.Common.{◌≡◌, ℕ, zero, suc, Bool, true, false, not, ◌&&◌, ◌||◌, ◌==◌, inl, inr, List, [], ◌∷◌, ◌++◌, Ok, refl, sym, ap, ◌∙◌, subst, arith}
use Rattle.std.proofs.lemmas.Bool.Decides.{nat_tests}
use Rattle.std.proofs.lemmas.Bool.{or_cases, and_parts}
use Rattle.yaml_tree.specs.Tree.{At, Scalar, Tree, scalar, list, map, Elements, no_elements, element, Members, no_members, member}
use Rattle.yaml_inline.specs.File.{Line, begins}
use Rattle.yaml_inline.specs.Line.{spot, Read, ◌>>=◌, body, is_dash, is_left_out, is_indicator, starts_plain}
use Rattle.yaml_inline.specs.Flow.{is_quote, is_bracket}
use Rattle.yaml_inline.specs.Key.{keyed, key_at}
use Rattle.yaml_blocks.specs.Reading.{Item, offset, item_key, key_in, element_in, elements_in, entry_in, entries_in, scalar_or_flow_in, node_in, node_with, block_with, block_in, too_deep}
use Rattle.yaml_blocks.specs.Lays.{IsFlow, IsScalar, IsNoCollection, IsDashed, IsKeyed, LaysBlock, LaysElement, LaysValue, LaysNode, LaysElements, LaysMembers, Lays}
use Rattle.yaml_blocks.proofs.Tools.{none_is}
use Rattle.yaml_blocks.proofs.Cases.{lists, maps, alone_is}

-- ---- the first character decides

-- what begins with this character begins with no other
begins_one : (c : ℕ) (cs : List ℕ) → begins c cs ≡ true → (rest : List ℕ) × (cs ≡ c ∷ rest)
begins_one c [] e = cc
begins_one c (d ∷ ds) e = (ds, ap (λ (x : ℕ). x ∷ ds) (grind (arith, nat_tests)))

-- the test of a form that is left out, of a text that begins so
abbrev is_passed : List ℕ → ℕ → Bool
is_passed cs n = is_left_out cs || (begins 37 cs && n == 0)

pub quote_passed : (cs : List ℕ) (n : ℕ) → is_quote cs ≡ true → is_passed cs n ≡ false
quote_passed cs n e =
    elim (or_cases (begins 39 cs) (begins 34 cs) e) [
      | inl h ↦ let (rest, is) = begins_one 39 cs h in subst (λ (cs : List ℕ). is_passed cs n ≡ false) (sym is) refl
      | inr h ↦ let (rest, is) = begins_one 34 cs h in subst (λ (cs : List ℕ). is_passed cs n ≡ false) (sym is) refl
    ]

pub bracket_passed : (cs : List ℕ) (n : ℕ) → is_bracket cs ≡ true → (is_passed cs n ≡ false) × (is_quote cs ≡ false)
bracket_passed cs n e =
    elim (or_cases (begins 91 cs) (begins 123 cs) e) [
      | inl h ↦ let (rest, is) = begins_one 91 cs h in subst (λ (cs : List ℕ). (is_passed cs n ≡ false) × (is_quote cs ≡ false)) (sym is) (refl, refl)
      | inr h ↦ let (rest, is) = begins_one 123 cs h in subst (λ (cs : List ℕ). (is_passed cs n ≡ false) × (is_quote cs ≡ false)) (sym is) (refl, refl)
    ]

pub header_passed : (cs : List ℕ) (n : ℕ) → (begins 124 cs || begins 62 cs) ≡ true → (is_passed cs n ≡ false) × (is_quote cs ≡ false) × (is_bracket cs ≡ false)
header_passed cs n e =
    elim (or_cases (begins 124 cs) (begins 62 cs) e) [
      | inl h ↦ let (rest, is) = begins_one 124 cs h in subst (λ (cs : List ℕ). (is_passed cs n ≡ false) × (is_quote cs ≡ false) × (is_bracket cs ≡ false)) (sym is) (refl, refl, refl)
      | inr h ↦ let (rest, is) = begins_one 62 cs h in subst (λ (cs : List ℕ). (is_passed cs n ≡ false) × (is_quote cs ≡ false) × (is_bracket cs ≡ false)) (sym is) (refl, refl, refl)
    ]

-- a plain scalar begins with no sign that begins something else
begins_other : (c : ℕ) (cs : List ℕ) → starts_plain cs ≡ true → is_indicator c ≡ true → begins c cs ≡ false
begins_other c [] plain sign = refl
begins_other c (d ∷ ds) plain sign = by (d == c) refl where
  by : (b : Bool) → (d == c) ≡ b → b ≡ false
  by true e =
      let same : d ≡ c = grind (arith, nat_tests) in
      let held : is_indicator d ≡ true = subst (λ (x : ℕ). is_indicator x ≡ true) (sym same) sign in
      let free : not (is_indicator d) ≡ true = (and_parts _ _ plain).0 in
      cc
  by false e = refl

pub plain_passed : (cs : List ℕ) (n : ℕ) → starts_plain cs ≡ true → is_left_out cs ≡ false
    → (is_passed cs n ≡ false) × (is_quote cs ≡ false) × (is_bracket cs ≡ false) × ((begins 124 cs || begins 62 cs) ≡ false)
plain_passed cs n plain left =
    let a = begins_other 37 cs plain refl in
    let b = begins_other 39 cs plain refl in
    let c = begins_other 34 cs plain refl in
    let d = begins_other 91 cs plain refl in
    let e = begins_other 123 cs plain refl in
    let f = begins_other 124 cs plain refl in
    let g = begins_other 62 cs plain refl in
    (rw (left, a) refl, rw (b, c) refl, rw (d, e) refl, rw (f, g) refl)

-- ---- what begins no block collection

scalar_or_flow_complete : (a : At) (s : Scalar) (d m : ℕ) (l : Line) (cs : List ℕ) (ls : List Line) → a ≡ spot l cs → IsScalar s m l cs ls → scalar_or_flow_in d m l cs ls ≡ Ok (scalar a s)
unfolding scalar_or_flow_in
scalar_or_flow_complete a s d m l cs ls place (inl (t, is, inl q)) =
    let passed = quote_passed cs (offset l cs) q.0 in
    rw (passed, q.0, q.2, is, place) (alone_is l q.1 ls _ q.3)
scalar_or_flow_complete a s d m l cs ls place (inl (t, is, inr b)) =
    let passed = header_passed cs (offset l cs) b.0 in
    rw (passed.0, passed.1, passed.2, b.0, b.1, is, place) refl
scalar_or_flow_complete a s d m l cs ls place (inr p) =
    let passed = plain_passed cs (offset l cs) p.0 p.1 in
    rw (passed.0, passed.1, passed.2, passed.3, p.0, p.3, p.4, place) refl

flow_complete : (t : Tree) (d m : ℕ) (l : Line) (cs : List ℕ) (ls : List Line) → IsFlow t d l cs ls → scalar_or_flow_in d m l cs ls ≡ Ok t
unfolding scalar_or_flow_in
flow_complete t d m l cs ls h =
    let passed = bracket_passed cs (offset l cs) h.0 in
    rw (passed.0, passed.1, h.0, h.2) (alone_is l h.1 ls _ h.3)

pub node_scalar_or_flow : (a_list a_map : Line → List ℕ → List Line → Read Tree) (d : ℕ) (may : Bool) (m : ℕ) (l : Line) (cs : List ℕ) (ls : List Line) → IsNoCollection may l cs
    → node_with a_list a_map d may m l cs ls ≡ scalar_or_flow_in d m l cs ls
node_scalar_or_flow a_list a_map d may m l cs ls (inl h) = rw h refl
node_scalar_or_flow a_list a_map d false m l cs ls (inr h) = refl
node_scalar_or_flow a_list a_map d true m l cs ls (inr h) = rw (h.0, h.1) refl

pub node_list : (a_list a_map : Line → List ℕ → List Line → Read Tree) (d : ℕ) (may : Bool) (m : ℕ) (l : Line) (cs : List ℕ) (ls : List Line) (r : Read Tree)
    → may ≡ true → is_dash cs ≡ true → a_list l cs ls ≡ r → node_with a_list a_map d may m l cs ls ≡ r
node_list a_list a_map d may m l cs ls r may_is dash e = rw (may_is, dash) e

pub node_map : (a_list a_map : Line → List ℕ → List Line → Read Tree) (d : ℕ) (may : Bool) (m : ℕ) (l : Line) (cs : List ℕ) (ls : List Line) (r : Read Tree) (k rest : List ℕ)
    → may ≡ true → is_dash cs ≡ false → key_at l cs ≡ keyed k rest → a_map l cs ls ≡ r → node_with a_list a_map d may m l cs ls ≡ r
node_map a_list a_map d may m l cs ls r k rest may_is dash key e = rw (may_is, dash, key) e

-- ---- nodes, blocks and items, by induction on the tree

abbrev pub CompleteNode : Tree → ℕ → Type 0
CompleteNode t d = (may : Bool) (m : ℕ) (l : Line) (cs : List ℕ) (ls : List Line) → LaysNode t d may m l cs ls → node_in d may m l cs ls ≡ Ok t

pub block_complete : (t : Tree) (d : ℕ) → CompleteNode t d → (m : ℕ) (home : At) (ls : List Line) → LaysBlock (λ may m l cs ls. LaysNode t d may m l cs ls) t m home ls
    → block_with (node_in d) m home ls ≡ Ok t
block_complete t d complete m home ls (inl h) = rw (h.0, h.1) refl
block_complete t d complete m home ls (inr (first, more, is, open_line, laid)) =
    rw (is, none_is _ open_line) (complete true m first (body first) more laid)

pub element_complete : (t : Tree) (d : ℕ) → CompleteNode t d → (i : ℕ) (x : Item) → IsDashed i x → LaysElement (λ may m l cs ls. LaysNode t d may m l cs ls) t i x
    → element_in (block_with (node_in d)) (node_in d) i x ≡ Ok t
unfolding element_in
element_complete t d complete i x dashed (inl h) = rw (none_is _ dashed.open_line, dashed.level, dashed.dash, h.0) (block_complete t d complete _ _ _ h.1)
element_complete t d complete i x dashed (inr h) = rw (none_is _ dashed.open_line, dashed.level, dashed.dash, h.0) (complete _ _ _ _ _ h.1)

pub key_complete : (i : ℕ) (seen : List (List ℕ)) (k rest : List ℕ) (a : At) (x : Item) → IsKeyed i seen k rest a x → key_in i seen x.line x.text ≡ Ok (k, rest)
unfolding key_in item_key
key_complete i seen k rest a x h = rw (none_is _ h.open_line, h.level, h.key, h.fresh) refl

pub entry_complete : (t : Tree) (d : ℕ) → CompleteNode t d → (i : ℕ) (seen : List (List ℕ)) (k rest : List ℕ) (a : At) (x : Item) → IsKeyed i seen k rest a x
    → LaysValue (λ may m l cs ls. LaysNode t d may m l cs ls) t i x rest → entry_in (block_with (node_in d)) (node_in d) i seen x ≡ Ok (record { key = k; place = a; value = t })
unfolding entry_in
entry_complete t d complete i seen k rest a x key (inl h) = rw (key_complete i seen k rest a x key, h.0, block_complete t d complete _ _ _ h.1, key.place) refl
entry_complete t d complete i seen k rest a x key (inr h) = rw (key_complete i seen k rest a x key, h.0, complete _ _ _ _ _ h.1, key.place) refl

-- the first item of a map that is laid out has a key
first_keyed : (ms : Members) (d i : ℕ) (seen : List (List ℕ)) (x : Item) (xs : List Item) → LaysMembers ms d i seen (x ∷ xs)
    → (k : List ℕ) × (rest : List ℕ) × (key_at x.line x.text ≡ keyed k rest)
first_keyed no_members d i seen x xs h = cc
first_keyed (member k a t ms) d i seen x xs (y, others, is, rest, key, laid, more) =
    let same : y ≡ x = cc in
    (k, rest, subst (λ (x : Item). key_at x.line x.text ≡ keyed k rest) same key.key)

mutual
  unfolding node_in

  pub node_complete : (t : Tree) (d : ℕ) → CompleteNode t d
  node_complete (scalar a s) zero may m l cs ls h = node_scalar_or_flow too_deep too_deep zero may m l cs ls h.0 ∙ scalar_or_flow_complete a s zero m l cs ls h.1 h.2
  node_complete (scalar a s) (suc d) may m l cs ls h = node_scalar_or_flow (lists d) (maps d) (suc d) may m l cs ls h.0 ∙ scalar_or_flow_complete a s (suc d) m l cs ls h.1 h.2
  node_complete (list a es) zero may m l cs ls h = absurd h
  node_complete (list a es) (suc d) may m l cs ls (inl h) = node_scalar_or_flow (lists d) (maps d) (suc d) may m l cs ls h.0 ∙ flow_complete (list a es) (suc d) m l cs ls h.1
  node_complete (list a es) (suc d) may m l cs ls (inr h) =
      node_list (lists d) (maps d) (suc d) may m l cs ls _ h.0 h.1
      (ap (λ (r : Read Elements). r >>= (λ ts. Ok (list (spot l cs) ts))) (elements_complete es d _ _ h.3) ∙ ap (λ (b : At). Ok (list b es)) (sym h.2))
  node_complete (map a ms) zero may m l cs ls h = absurd h
  node_complete (map a ms) (suc d) may m l cs ls (inl h) = node_scalar_or_flow (lists d) (maps d) (suc d) may m l cs ls h.0 ∙ flow_complete (map a ms) (suc d) m l cs ls h.1
  node_complete (map a ms) (suc d) may m l cs ls (inr h) =
      let (k, rest, key) = first_keyed ms d _ _ _ _ h.3 in
      node_map (lists d) (maps d) (suc d) may m l cs ls _ k rest h.0 h.1 key
      (ap (λ (r : Read Members). r >>= (λ ms. Ok (map (spot l cs) ms))) (members_complete ms d _ _ _ h.3) ∙ ap (λ (b : At). Ok (map b ms)) (sym h.2))

  elements_complete : (es : Elements) (d i : ℕ) (xs : List Item) → LaysElements es d i xs → elements_in (block_with (node_in d)) (node_in d) i xs ≡ Ok es
  elements_complete no_elements d i xs h = rw h refl
  elements_complete (element t ts) d i xs (x, others, is, dashed, laid, more) =
      rw (is, element_complete t d (node_complete t d) i x dashed laid, elements_complete ts d i others more) refl

  members_complete : (ms : Members) (d i : ℕ) (seen : List (List ℕ)) (xs : List Item) → LaysMembers ms d i seen xs → entries_in (block_with (node_in d)) (node_in d) i seen xs ≡ Ok ms
  members_complete no_members d i seen xs h = rw h refl
  members_complete (member k a t ms) d i seen xs (x, others, is, rest, key, laid, more) =
      rw (is, entry_complete t d (node_complete t d) i seen k rest a x key laid, members_complete ms d i (seen ++ k ∷ []) others more) refl

pub reads_all : (depth : ℕ) (home : At) (ls : List Line) (t : Tree) → Lays t depth home ls → block_in depth 0 home ls ≡ Ok t
reads_all depth home ls t h = block_complete t depth (node_complete t depth) 0 home ls h
