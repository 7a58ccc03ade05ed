-- The loops over the elements and the entries of flow collections, a turn at a time.
use Rattle.std.proofs.Common.{◌≡◌, ℕ, zero, suc, ◌<◌, ◌≤◌, Bool, true, false, ◌||◌, List, [], ◌∷◌, ◌++◌, length, drop, Ok, Err, refl, sym, ap, ◌∙◌, arith}
use Rattle.std.specs.Prelude.{map as list_map}
use Rattle.std.proofs.lemmas.Bool.{or_parts}
use Rattle.yaml_tree.specs.Tree.{At, Tree, list, Elements, no_elements, element, Members, no_members, member, Member}
use Rattle.yaml_tree.specs.View.{elements_of, members_of}
use Rattle.yaml_inline.specs.File.{Line, begins, ends_line}
use Rattle.yaml_inline.specs.Line.{spot, Stop, refused, unclosed, ◌>>=◌}
use Rattle.yaml_inline.specs.Flow.{Front, front_map, opened, inside_open, flow_element, flow_elements, flow_entry, flow_members, flow_scalar, flow_node, is_bracket, map_from}
use Rattle.yaml_inline.specs.Quotes.{IsNext}

abbrev pub put_elements : List Tree → Elements → Elements
put_elements [] es = es
put_elements (t ∷ ts) es = element t (put_elements ts es)

abbrev pub put_members : List Member → Members → Members
put_members [] ms = ms
put_members (m ∷ others) ms = member m.key m.place m.value (put_members others ms)

abbrev pub keys_of : List Member → List (List ℕ)
keys_of [] = []
keys_of (m ∷ ms) = m.key ∷ keys_of ms

map_id : {A : Type 0} (r : Front A) → front_map (λ x. x) r ≡ r
map_id (Ok p) = refl
map_id (Err s) = refl

map_map : {A B C : Type 0} (f : B → C) (g : A → B) (r : Front A) → front_map f (front_map g r) ≡ front_map (λ x. f (g x)) r
map_map f g (Ok p) = refl
map_map f g (Err s) = refl

pub put_elements-push : (ts : List Tree) (t : Tree) (es : Elements) → put_elements ts (element t es) ≡ put_elements (ts ++ t ∷ []) es
put_elements-push [] t es = refl
put_elements-push (u ∷ us) t es = ap (element u) (put_elements-push us t es)

pub put_elements-end : (ts : List Tree) → put_elements ts no_elements ≡ elements_of ts
put_elements-end [] = refl
put_elements-end (t ∷ ts) = ap (element t) (put_elements-end ts)

pub put_members-push : (us : List Member) (m : Member) (ms : Members) → put_members us (member m.key m.place m.value ms) ≡ put_members (us ++ m ∷ []) ms
put_members-push [] m ms = refl
put_members-push (u ∷ us) m ms = ap (member u.key u.place u.value) (put_members-push us m ms)

pub put_members-end : (us : List Member) → put_members us no_members ≡ members_of us
put_members-end [] = refl
put_members-end (u ∷ us) = ap (member u.key u.place u.value) (put_members-end us)

pub keys_of-push : (us : List Member) (m : Member) → keys_of (us ++ m ∷ []) ≡ keys_of us ++ m.key ∷ []
keys_of-push [] m = refl
keys_of-push (u ∷ us) m = ap (λ (ks : List (List ℕ)). u.key ∷ ks) (keys_of-push us m)

module _ (node : Line → List ℕ → Front Tree) (l : Line) where
  -- The elements so far, and what is left, are all that is read.
  pub record ElementsSoFar (n : ℕ) (start : List ℕ) (ts : List Tree) (rest : List ℕ) : Type 0 where
    pub fuel : ℕ
    pub room : length rest < fuel
    pub same : flow_elements node n l start ≡ front_map (put_elements ts) (flow_elements node fuel l rest)

  pub elements_start : (n : ℕ) (start : List ℕ) → length start < n → ElementsSoFar n start [] start
  elements_start n start h = record { fuel = n; room = h; same = sym (map_id (flow_elements node n l start)) }

  pub elements_open : (n : ℕ) (start : List ℕ) (ts : List Tree) (rest : List ℕ) → ElementsSoFar n start ts rest → ends_line rest ≡ true → flow_elements node n l start ≡ Err (unclosed l.number [])
  unfolding flow_elements
  elements_open n start ts rest far ends = far.same ∙ by far.fuel far.room where
    by : (m : ℕ) → length rest < m → front_map (put_elements ts) (flow_elements node m l rest) ≡ Err (unclosed l.number [])
    by zero h = absurd (omega arith)
    by (suc m) h = rw ends refl

  pub elements_close : (n : ℕ) (start : List ℕ) (ts : List Tree) (rest next : List ℕ) → ElementsSoFar n start ts rest → IsNext rest next → begins 93 next ≡ true
      → flow_elements node n l start ≡ Ok (elements_of ts, drop 1 next)
  unfolding flow_elements
  elements_close n start ts rest next far is close = far.same ∙ by far.fuel far.room where
    by : (m : ℕ) → length rest < m → front_map (put_elements ts) (flow_elements node m l rest) ≡ Ok (elements_of ts, drop 1 next)
    by zero h = absurd (omega arith)
    by (suc m) h = rw (is.unended, ← is.next_is, close, put_elements-end ts) refl

  elements_step : (m : ℕ) (rest next : List ℕ) → length rest < m → IsNext rest next → begins 93 next ≡ false
      → (k : ℕ) × (length rest ≤ k) × (flow_elements node m l rest ≡ flow_element node l next >>= (λ e. front_map (element e.0) (flow_elements node k l e.1)))
  unfolding flow_elements
  elements_step zero rest next h is other = absurd (omega arith)
  elements_step (suc m) rest next h is other = (m, omega arith, rw (is.unended, ← is.next_is, other) refl)

  pub elements_err : (n : ℕ) (start : List ℕ) (ts : List Tree) (rest next : List ℕ) (s : Stop) → ElementsSoFar n start ts rest → IsNext rest next → begins 93 next ≡ false
      → flow_element node l next ≡ Err s → flow_elements node n l start ≡ Err s
  elements_err n start ts rest next s far is other e =
      let (k, room, step) = elements_step far.fuel rest next far.room is other in
      far.same ∙ (ap (front_map (put_elements ts)) (step ∙ ap (λ (r : Front Tree). r >>= (λ e. front_map (element e.0) (flow_elements node k l e.1))) e))

  pub elements_more : (n : ℕ) (start : List ℕ) (ts : List Tree) (rest next : List ℕ) (t : Tree) (after : List ℕ) → ElementsSoFar n start ts rest → IsNext rest next → begins 93 next ≡ false
      → flow_element node l next ≡ Ok (t, after) → length after < length next → ElementsSoFar n start (ts ++ t ∷ []) after
  elements_more n start ts rest next t after far is other e shorter =
      let (k, room, step) = elements_step far.fuel rest next far.room is other in
      record {
        fuel = k;
        room = omega (arith, is.within);
        same =
            far.same
            ∙ (ap (front_map (put_elements ts)) (step ∙ ap (λ (r : Front Tree). r >>= (λ e. front_map (element e.0) (flow_elements node k l e.1))) e)
            ∙ (map_map (put_elements ts) (element t) (flow_elements node k l after)
            ∙ ap (λ (f : Elements → Elements). front_map f (flow_elements node k l after)) (λ i. λ es. put_elements-push ts t es i)));
      }

  -- The same of the entries of a map.
  pub record EntriesSoFar (n : ℕ) (start : List ℕ) (us : List Member) (rest : List ℕ) : Type 0 where
    pub fuel : ℕ
    pub room : length rest < fuel
    pub same : flow_members node n [] l start ≡ front_map (put_members us) (flow_members node fuel (keys_of us) l rest)

  pub entries_start : (n : ℕ) (start : List ℕ) → length start < n → EntriesSoFar n start [] start
  entries_start n start h = record { fuel = n; room = h; same = sym (map_id (flow_members node n [] l start)) }

  pub entries_open : (n : ℕ) (start : List ℕ) (us : List Member) (rest : List ℕ) → EntriesSoFar n start us rest → ends_line rest ≡ true → flow_members node n [] l start ≡ Err (unclosed l.number [])
  unfolding flow_members
  entries_open n start us rest far ends = far.same ∙ by far.fuel far.room where
    by : (m : ℕ) → length rest < m → front_map (put_members us) (flow_members node m (keys_of us) l rest) ≡ Err (unclosed l.number [])
    by zero h = absurd (omega arith)
    by (suc m) h = rw ends refl

  pub entries_close : (n : ℕ) (start : List ℕ) (us : List Member) (rest next : List ℕ) → EntriesSoFar n start us rest → IsNext rest next → begins 125 next ≡ true
      → flow_members node n [] l start ≡ Ok (members_of us, drop 1 next)
  unfolding flow_members
  entries_close n start us rest next far is close = far.same ∙ by far.fuel far.room where
    by : (m : ℕ) → length rest < m → front_map (put_members us) (flow_members node m (keys_of us) l rest) ≡ Ok (members_of us, drop 1 next)
    by zero h = absurd (omega arith)
    by (suc m) h = rw (is.unended, ← is.next_is, close, put_members-end us) refl

  entries_step : (m : ℕ) (ks : List (List ℕ)) (rest next : List ℕ) → length rest < m → IsNext rest next → begins 125 next ≡ false
      → (k : ℕ) × (length rest ≤ k) × (flow_members node m ks l rest ≡ flow_entry node ks l next >>= (λ e. front_map (member e.0.key e.0.place e.0.value) (flow_members node k (ks ++ e.0.key ∷ []) l e.1)))
  unfolding flow_members
  entries_step zero ks rest next h is other = absurd (omega arith)
  entries_step (suc m) ks rest next h is other = (m, omega arith, rw (is.unended, ← is.next_is, other) refl)

  pub entries_err : (n : ℕ) (start : List ℕ) (us : List Member) (rest next : List ℕ) (s : Stop) → EntriesSoFar n start us rest → IsNext rest next → begins 125 next ≡ false
      → flow_entry node (keys_of us) l next ≡ Err s → flow_members node n [] l start ≡ Err s
  entries_err n start us rest next s far is other e =
      let (k, room, step) = entries_step far.fuel (keys_of us) rest next far.room is other in
      far.same ∙ (ap (front_map (put_members us)) (step ∙ ap (λ (r : Front Member). r >>= (λ e. front_map (member e.0.key e.0.place e.0.value) (flow_members node k (keys_of us ++ e.0.key ∷ []) l e.1))) e))

  pub entries_more : (n : ℕ) (start : List ℕ) (us : List Member) (rest next : List ℕ) (m : Member) (after : List ℕ) → EntriesSoFar n start us rest → IsNext rest next → begins 125 next ≡ false
      → flow_entry node (keys_of us) l next ≡ Ok (m, after) → length after < length next → EntriesSoFar n start (us ++ m ∷ []) after
  entries_more n start us rest next m after far is other e shorter =
      let (k, room, step) = entries_step far.fuel (keys_of us) rest next far.room is other in
      record {
        fuel = k;
        room = omega (arith, is.within);
        same =
            far.same
            ∙ (ap (front_map (put_members us)) (step ∙ ap (λ (r : Front Member). r >>= (λ e. front_map (member e.0.key e.0.place e.0.value) (flow_members node k (keys_of us ++ e.0.key ∷ []) l e.1))) e)
            ∙ (map_map (put_members us) (member m.key m.place m.value) (flow_members node k (keys_of us ++ m.key ∷ []) l after)
            ∙ (ap (λ (f : Members → Members). front_map f (flow_members node k (keys_of us ++ m.key ∷ []) l after)) (λ i. λ ms. put_members-push us m ms i)
            ∙ ap (λ (ks : List (List ℕ)). front_map (put_members (us ++ m ∷ [])) (flow_members node k ks l after)) (sym (keys_of-push us m)))));
      }

pub map_push : {A B : Type 0} (f : A → B) (xs : List A) (x : A) → list_map f (xs ++ x ∷ []) ≡ list_map f xs ++ f x ∷ []
map_push f [] x = refl
map_push {B = B} f (y ∷ ys) x = ap (λ (zs : List B). f y ∷ zs) (map_push f ys x)

pub length-tail : (c : ℕ) (cs : List ℕ) → begins c cs ≡ true → length (drop 1 cs) < length cs
length-tail c [] e = cc
length-tail c (d ∷ ds) e = omega arith

pub or_right : (a b : Bool) → (a || b) ≡ true → a ≡ false → b ≡ true
or_right true b e f = cc
or_right false b e f = e

-- ---- what begins at a node

pub node_scalar : (d : ℕ) (l : Line) (cs : List ℕ) → is_bracket cs ≡ false → flow_node d l cs ≡ flow_scalar l cs
unfolding flow_node
node_scalar zero l cs e = rw e refl
node_scalar (suc d) l cs e = let h = or_parts (begins 91 cs) (begins 123 cs) e in rw (h.0, h.1) refl

pub node_deep : (d : ℕ) (l : Line) (cs : List ℕ) → d ≡ 0 → is_bracket cs ≡ true → flow_node d l cs ≡ Err (refused 6 (spot l cs))
unfolding flow_node
node_deep zero l cs is e = rw e refl
node_deep (suc d) l cs is e = absurd (omega arith)

pub node_list : (d e : ℕ) (l : Line) (cs : List ℕ) → d ≡ suc e → begins 91 cs ≡ true
    → flow_node d l cs ≡ inside_open (spot l cs) 93 (front_map (list (spot l cs)) (flow_elements (flow_node e) (length cs) l (drop 1 cs)))
unfolding flow_node
node_list zero e l cs is bracket = absurd (omega arith)
node_list (suc d) e l cs is bracket = let same : d ≡ e = omega arith in rw (bracket, same) refl

pub node_map : (d e : ℕ) (l : Line) (cs : List ℕ) → d ≡ suc e → is_bracket cs ≡ true → begins 91 cs ≡ false
    → flow_node d l cs ≡ inside_open (spot l cs) 125 (front_map (map_from (spot l cs)) (flow_members (flow_node e) (length cs) [] l (drop 1 cs)))
unfolding flow_node
node_map zero e l cs is bracket other = absurd (omega arith)
node_map (suc d) e l cs is bracket other = let same : d ≡ e = omega arith in let brace = or_right (begins 91 cs) (begins 123 cs) bracket other in rw (other, brace, same) refl

pub collection_ok : {A : Type 0} (make : A → Tree) (a : At) (c : ℕ) (node : Front Tree) (read : Front A) (x : A) (after : List ℕ)
    → node ≡ inside_open a c (front_map make read) → read ≡ Ok (x, after) → node ≡ Ok (make x, after)
collection_ok make a c node read x after is e = is ∙ rw e refl

pub collection_err : {A : Type 0} (make : A → Tree) (a : At) (c : ℕ) (node : Front Tree) (read : Front A) (s : Stop)
    → node ≡ inside_open a c (front_map make read) → read ≡ Err s → node ≡ Err (opened a c s)
collection_err make a c node read s is e = is ∙ rw e refl
