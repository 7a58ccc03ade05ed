-- Flow collections and quoted scalars, on one line.
use Rattle.std.specs.Prelude.{ℕ, zero, suc, Bool, true, false, not, ◌&&◌, ◌||◌, if◌then◌else◌, List, [], ◌∷◌, ◌++◌, length, drop, codes, Ok, Err}
use Rattle.std.specs.Str.{bytes_eq}
use Rattle.yaml_tree.specs.Tree.{At, null, text, Tree, scalar, list, map, Elements, no_elements, element, Members, no_members, member, Member}
use Rattle.yaml_inline.specs.File.{Line, begins, skip_blanks, ends_line}
use Rattle.yaml_inline.specs.Line.{spot, Stop, refused, unclosed, syntax, Read, ◌>>=◌, starts_plain, plain_front, plain_rest, is_left_out}
use Rattle.yaml_inline.specs.Scalar.{resolved, Quoted, closed, open_ended, bad_escape, single, double}

-- what was read, and the rest of the line
abbrev pub Front : Type 0 → Type 0
Front A = Read (A × List ℕ)

abbrev pub front_map : {A B : Type 0} → (A → B) → Front A → Front B
front_map f r = r >>= (λ p. Ok (f p.0, p.1))

-- A stop inside something that opened here and closes so: where something inside doesn't close, this doesn't either.
abbrev pub opened : At → ℕ → Stop → Stop
opened a c (refused code place) = refused code place
opened a c (unclosed n opens) = unclosed n ((a, c) ∷ opens)

abbrev pub inside_open : {A : Type 0} → At → ℕ → Read A → Read A
inside_open a c (Ok x) = Ok x
inside_open a c (Err s) = Err (opened a c s)

abbrev pub runs_out : {A : Type 0} → Line → Read A
runs_out l = Err (unclosed l.number [])

-- the text in quotes that opened at cs
abbrev pub quoted_as : Line → List ℕ → ℕ → Quoted → Front (List ℕ)
quoted_as l cs c (closed t rest) = Ok (t, rest)
quoted_as l cs c open_ended = Err (unclosed l.number ((spot l cs, c) ∷ []))
quoted_as l cs c (bad_escape n) = Err (refused 9 (spot l (drop (suc n) cs)))

abbrev pub is_quote : List ℕ → Bool
is_quote cs = begins 39 cs || begins 34 cs

unfoldable pub quoted : Line → List ℕ → Front (List ℕ)
quoted l cs = if begins 39 cs then quoted_as l cs 39 (single (drop 1 cs)) else quoted_as l cs 34 (double 0 (drop 1 cs))

abbrev pub merge : List ℕ
merge = codes "<<"

abbrev pub is_seen : List ℕ → List (List ℕ) → Bool
is_seen k [] = false
is_seen k (l ∷ ls) = bytes_eq l k || is_seen k ls

-- A key in a flow map: its text and what follows its colon. A quoted key needs no blank behind the colon.
unfoldable pub behind_colon : Line → List ℕ → List ℕ → Front (List ℕ)
behind_colon l k rest =
    if begins 58 (skip_blanks rest) then Ok (k, drop 1 (skip_blanks rest))
    else if ends_line rest then runs_out l
    else Err (syntax l)

unfoldable pub flow_key : Line → List ℕ → Front (List ℕ)
flow_key l cs =
    if is_left_out cs then Err (refused 3 (spot l cs))
    else if is_quote cs then quoted l cs >>= (λ q. behind_colon l q.0 q.1)
    else if not (starts_plain cs) then Err (syntax l)
    else if bytes_eq (plain_front true cs) merge && begins 58 (plain_rest true cs) then Err (refused 3 (spot l cs))
    else behind_colon l (plain_front true cs) (plain_rest true cs)

-- a key that isn't one of those seen
unfoldable pub fresh_key : List (List ℕ) → Line → List ℕ → Front (List ℕ)
fresh_key seen l cs = flow_key l cs >>= (λ k. if is_seen k.0 seen then Err (refused 5 (spot l cs)) else Ok k)

-- after an element: a comma, or the closing bracket, which stays
unfoldable pub after_element : Line → ℕ → List ℕ → Read (List ℕ)
after_element l close rest =
    let cs = skip_blanks rest in
    if begins 44 cs then Ok (drop 1 cs)
    else if begins close cs then Ok cs
    else if ends_line rest then runs_out l
    else Err (syntax l)

abbrev pub is_bracket : List ℕ → Bool
is_bracket cs = begins 91 cs || begins 123 cs

module _ (node : Line → List ℕ → Front Tree) where
  -- An element of a flow sequence, and what is left behind its comma. It is no pair, which is a scalar with a colon behind it.
  unfoldable pub flow_element : Line → List ℕ → Front Tree
  flow_element l cs =
      node l cs >>= (λ e.
      if begins 58 (skip_blanks e.1) && not (is_bracket cs) then Err (refused 3 (spot l cs))
      else after_element l 93 e.1 >>= (λ more. Ok (e.0, more)))

  -- the elements up to the bracket, of which there are fewer than n
  unfoldable pub flow_elements : ℕ → Line → List ℕ → Front Elements
  flow_elements zero l rest = runs_out l
  flow_elements (suc n) l rest =
      let cs = skip_blanks rest in
      if ends_line rest then runs_out l
      else if begins 93 cs then Ok (no_elements, drop 1 cs)
      else flow_element l cs >>= (λ e. front_map (element e.0) (flow_elements n l e.1))

  -- the value behind a colon: null where a comma or the bracket follows
  unfoldable pub flow_value : Line → At → List ℕ → Front Tree
  flow_value l home rest =
      let cs = skip_blanks rest in
      if ends_line rest then runs_out l
      else if begins 44 cs || begins 125 cs then Ok (scalar home null, cs)
      else node l cs

  -- an entry of a flow map, and what is left behind its comma
  unfoldable pub flow_entry : List (List ℕ) → Line → List ℕ → Front Member
  flow_entry seen l cs =
      fresh_key seen l cs >>= (λ k.
      flow_value l (spot l cs) k.1 >>= (λ v.
      after_element l 125 v.1 >>= (λ more. Ok (record { key = k.0; place = spot l cs; value = v.0 }, more))))

  -- the entries up to the bracket, of which there are fewer than n
  unfoldable pub flow_members : ℕ → List (List ℕ) → Line → List ℕ → Front Members
  flow_members zero seen l rest = runs_out l
  flow_members (suc n) seen l rest =
      let cs = skip_blanks rest in
      if ends_line rest then runs_out l
      else if begins 125 cs then Ok (no_members, drop 1 cs)
      else flow_entry seen l cs >>= (λ e. front_map (member e.0.key e.0.place e.0.value) (flow_members n (seen ++ e.0.key ∷ []) l e.1))

-- a scalar, or a form that is left out
unfoldable pub flow_scalar : Line → List ℕ → Front Tree
flow_scalar l cs =
    if is_left_out cs then Err (refused 3 (spot l cs))
    else if is_quote cs then front_map (λ t. scalar (spot l cs) (text t)) (quoted l cs)
    else if starts_plain cs then Ok (scalar (spot l cs) (resolved (plain_front true cs)), plain_rest true cs)
    else Err (syntax l)

-- A map's place is its first key's, and an empty one's its bracket.
abbrev pub map_from : At → Members → Tree
map_from bracket no_members = map bracket no_members
map_from bracket (member k a t ms) = map a (member k a t ms)

-- a node inside a flow collection, or a flow collection, with collections at most this deep
unfoldable pub flow_node : ℕ → Line → List ℕ → Front Tree
flow_node zero l cs = if is_bracket cs then Err (refused 6 (spot l cs)) else flow_scalar l cs
flow_node (suc d) l cs =
    if begins 91 cs then inside_open (spot l cs) 93 (front_map (list (spot l cs)) (flow_elements (flow_node d) (length cs) l (drop 1 cs)))
    else if begins 123 cs then inside_open (spot l cs) 125 (front_map (map_from (spot l cs)) (flow_members (flow_node d) (length cs) [] l (drop 1 cs)))
    else flow_scalar l cs
