-- Keys, and trees of one line, have texts of scalar values where the line has.
use Rattle.std.proofs.Common.{ℕ, zero, suc, ◌&&◌, ◌||◌, List, [], ◌∷◌, ◌++◌, length, drop, true, false, not, Option, Some, None, Ok, Err, ◌==◌, ℤ}
use Rattle.std.specs.Str.{bytes_eq}
use Rattle.yaml_tree.specs.Tree.{At, text, Tree, scalar, list, element, Members, no_members, member, Member}
use Rattle.yaml_tree.specs.Texts.{IsScalarText, HasScalarTexts, HaveScalarTexts, MembersHave}
use Rattle.yaml_inline.specs.File.{Line, begins, blank_or_end, skip_blanks, ends_line}
use Rattle.yaml_inline.specs.Line.{spot, Read, starts_plain, plain_front, plain_rest, is_left_out}
use Rattle.yaml_inline.specs.Scalar.{is_null, is_true, is_false, number_or_text, whole_of, resolved, Quoted, closed, open_ended, bad_escape, single, double}
use Rattle.yaml_inline.specs.Flow.{Front, front_map, inside_open, quoted_as, is_quote, quoted, merge, behind_colon, flow_key, is_seen, fresh_key, after_element, is_bracket, flow_element, flow_elements, flow_value, flow_entry, flow_members, flow_scalar, map_from, flow_node}
use Rattle.yaml_inline.specs.Key.{Keyed, keyed, unkeyed, key_stop, colon_then, quoted_key, key_at}
use Rattle.yaml_documents.proofs.Scalars.{AreScalars, all_of_scalars, if_both, Gives, gives_then, drop_scalars, skip_scalars, front_scalars, rest_scalars, ClosesOver, single_closes, double_closes}

-- ---- scalars

pub resolved_text : (t : List ℕ) → AreScalars t → IsScalarText (resolved t)
unfolding resolved
resolved_text t h =
    if_both IsScalarText (is_null t) _ _ tt (if_both IsScalarText (is_true t) _ _ tt (if_both IsScalarText (is_false t) _ _ tt (by (whole_of t))))
  where
    by : (o : Option ℤ) → IsScalarText (number_or_text t o)
    by None = all_of_scalars t h
    by (Some z) = tt

-- a text, and what follows it
abbrev pub TextHas : List ℕ × List ℕ → Type 0
TextHas p = AreScalars p.0 × AreScalars p.1

quoted_as-text : (l : Line) (cs : List ℕ) (c : ℕ) (q : Quoted) → ClosesOver q → Gives TextHas (quoted_as l cs c q)
quoted_as-text l cs c (closed t rest) h = h
quoted_as-text l cs c open_ended h = tt
quoted_as-text l cs c (bad_escape n) h = tt

pub quoted_text : (l : Line) (cs : List ℕ) → AreScalars cs → Gives TextHas (quoted l cs)
unfolding quoted
quoted_text l cs h =
    let tail = drop_scalars 1 cs h in
    if_both (Gives TextHas) (begins 39 cs) _ _
    (quoted_as-text l cs 39 (single (drop 1 cs)) (single_closes (drop 1 cs) tail))
    (quoted_as-text l cs 34 (double 0 (drop 1 cs)) (double_closes 0 (drop 1 cs) tail))

-- ---- keys

colon_text : (l : Line) (k rest : List ℕ) → AreScalars k → AreScalars rest → Gives TextHas (behind_colon l k rest)
unfolding behind_colon
colon_text l k rest key more =
    if_both (Gives TextHas) (begins 58 (skip_blanks rest)) _ _ (key, drop_scalars 1 (skip_blanks rest) (skip_scalars rest more)) (if_both (Gives TextHas) (ends_line rest) _ _ tt tt)

flow_key_text : (l : Line) (cs : List ℕ) → AreScalars cs → Gives TextHas (flow_key l cs)
unfolding flow_key
flow_key_text l cs h =
    if_both (Gives TextHas) (is_left_out cs) _ _ tt
    (if_both (Gives TextHas) (is_quote cs) _ _
    (gives_then TextHas TextHas (quoted l cs) _ (quoted_text l cs h) (λ q k. colon_text l q.0 q.1 k.0 k.1))
    (if_both (Gives TextHas) (not (starts_plain cs)) _ _ tt
    (if_both (Gives TextHas) (bytes_eq (plain_front true cs) merge && begins 58 (plain_rest true cs)) _ _ tt
    (colon_text l (plain_front true cs) (plain_rest true cs) (front_scalars true cs h) (rest_scalars true cs h)))))

fresh_key_text : (seen : List (List ℕ)) (l : Line) (cs : List ℕ) → AreScalars cs → Gives TextHas (fresh_key seen l cs)
unfolding fresh_key
fresh_key_text seen l cs h =
    gives_then TextHas TextHas (flow_key l cs) _ (flow_key_text l cs h) (λ k is. if_both (Gives TextHas) (is_seen k.0 seen) _ _ tt is)

abbrev pub KeyHas : Keyed → Type 0
KeyHas (keyed k rest) = AreScalars k × AreScalars rest
KeyHas unkeyed = Unit {0}
KeyHas (key_stop s) = Unit {0}

then_text : (k cs : List ℕ) → AreScalars k → AreScalars cs → KeyHas (colon_then k cs)
then_text k [] key more = tt
then_text k (c ∷ cs) key more = if_both KeyHas (c == 58 && blank_or_end cs) _ _ (key, more.1) tt

pub key_text : (l : Line) (cs : List ℕ) → AreScalars cs → KeyHas (key_at l cs)
unfolding key_at
key_text l cs h =
    if_both KeyHas (is_left_out cs) _ _ tt
    (if_both KeyHas (is_quote cs) _ _ (by (quoted l cs) (quoted_text l cs h))
    (if_both KeyHas (starts_plain cs && begins 58 (plain_rest false cs)) _ _
    (if_both KeyHas (bytes_eq (plain_front false cs) merge) _ _ tt (then_text (plain_front false cs) (plain_rest false cs) (front_scalars false cs h) (rest_scalars false cs h)))
    tt))
  where
    by : (r : Front (List ℕ)) → Gives TextHas r → KeyHas (quoted_key r)
    by (Ok q) is = then_text q.0 (skip_blanks q.1) is.0 (skip_scalars q.1 is.1)
    by (Err s) is = tt

-- ---- flow collections

abbrev FrontHas : {A : Type 0} → (A → Type 0) → A × List ℕ → Type 0
FrontHas P p = P p.0 × AreScalars p.1

front_text : {A B : Type 0} (P : A → Type 0) (Q : B → Type 0) (f : A → B) (r : Front A) → Gives (FrontHas P) r → ((x : A) → P x → Q (f x)) → Gives (FrontHas Q) (front_map f r)
front_text P Q f (Ok p) h more = (more p.0 h.0, h.1)
front_text P Q f (Err s) h more = tt

inside_text : {A : Type 0} (P : A → Type 0) (a : At) (c : ℕ) (r : Read A) → Gives P r → Gives P (inside_open a c r)
inside_text P a c (Ok x) h = h
inside_text P a c (Err s) h = tt

after_text : (l : Line) (close : ℕ) (rest : List ℕ) → AreScalars rest → Gives AreScalars (after_element l close rest)
unfolding after_element
after_text l close rest h =
    let more = skip_scalars rest h in
    if_both (Gives AreScalars) (begins 44 (skip_blanks rest)) _ _ (drop_scalars 1 (skip_blanks rest) more)
    (if_both (Gives AreScalars) (begins close (skip_blanks rest)) _ _ more (if_both (Gives AreScalars) (ends_line rest) _ _ tt tt))

abbrev pub TreeHas : Tree × List ℕ → Type 0
TreeHas p = FrontHas HasScalarTexts p

abbrev MemberHas : Member → Type 0
MemberHas m = AreScalars m.key × HasScalarTexts m.value

abbrev NodesHave : (Line → List ℕ → Front Tree) → Type 0
NodesHave node = (l : Line) (cs : List ℕ) → AreScalars cs → Gives TreeHas (node l cs)

module _ (node : Line → List ℕ → Front Tree) (texts : NodesHave node) where
  element_text : (l : Line) (cs : List ℕ) → AreScalars cs → Gives TreeHas (flow_element node l cs)
  unfolding flow_element
  element_text l cs h =
      gives_then TreeHas TreeHas (node l cs) _ (texts l cs h) (λ e is.
      if_both (Gives TreeHas) (begins 58 (skip_blanks e.1) && not (is_bracket cs)) _ _ tt
      (gives_then AreScalars TreeHas (after_element l 93 e.1) _ (after_text l 93 e.1 is.1) (λ more k. (is.0, k))))

  elements_text : (n : ℕ) (l : Line) (rest : List ℕ) → AreScalars rest → Gives (FrontHas HaveScalarTexts) (flow_elements node n l rest)
  unfolding flow_elements
  elements_text zero l rest h = tt
  elements_text (suc n) l rest h =
      let more = skip_scalars rest h in
      if_both (Gives (FrontHas HaveScalarTexts)) (ends_line rest) _ _ tt
      (if_both (Gives (FrontHas HaveScalarTexts)) (begins 93 (skip_blanks rest)) _ _ (tt, drop_scalars 1 (skip_blanks rest) more)
      (gives_then TreeHas (FrontHas HaveScalarTexts) (flow_element node l (skip_blanks rest)) _ (element_text l (skip_blanks rest) more) (λ e is.
      front_text HaveScalarTexts HaveScalarTexts (element e.0) (flow_elements node n l e.1) (elements_text n l e.1 is.1) (λ ts k. (is.0, k)))))

  value_text : (l : Line) (home : At) (rest : List ℕ) → AreScalars rest → Gives TreeHas (flow_value node l home rest)
  unfolding flow_value
  value_text l home rest h =
      let more = skip_scalars rest h in
      if_both (Gives TreeHas) (ends_line rest) _ _ tt
      (if_both (Gives TreeHas) (begins 44 (skip_blanks rest) || begins 125 (skip_blanks rest)) _ _ (tt, more) (texts l (skip_blanks rest) more))

  entry_text : (seen : List (List ℕ)) (l : Line) (cs : List ℕ) → AreScalars cs → Gives (FrontHas MemberHas) (flow_entry node seen l cs)
  unfolding flow_entry
  entry_text seen l cs h =
      gives_then TextHas (FrontHas MemberHas) (fresh_key seen l cs) _ (fresh_key_text seen l cs h) (λ k key.
      gives_then TreeHas (FrontHas MemberHas) (flow_value node l (spot l cs) k.1) _ (value_text l (spot l cs) k.1 key.1) (λ v value.
      gives_then AreScalars (FrontHas MemberHas) (after_element l 125 v.1) _ (after_text l 125 v.1 value.1) (λ more rest. ((key.0, value.0), rest))))

  members_text : (n : ℕ) (seen : List (List ℕ)) (l : Line) (rest : List ℕ) → AreScalars rest → Gives (FrontHas MembersHave) (flow_members node n seen l rest)
  unfolding flow_members
  members_text zero seen l rest h = tt
  members_text (suc n) seen l rest h =
      let more = skip_scalars rest h in
      if_both (Gives (FrontHas MembersHave)) (ends_line rest) _ _ tt
      (if_both (Gives (FrontHas MembersHave)) (begins 125 (skip_blanks rest)) _ _ (tt, drop_scalars 1 (skip_blanks rest) more)
      (gives_then (FrontHas MemberHas) (FrontHas MembersHave) (flow_entry node seen l (skip_blanks rest)) _ (entry_text seen l (skip_blanks rest) more) (λ e is.
      front_text MembersHave MembersHave (member e.0.key e.0.place e.0.value) (flow_members node n (seen ++ e.0.key ∷ []) l e.1)
      (members_text n (seen ++ e.0.key ∷ []) l e.1 is.1) (λ ms k. (all_of_scalars e.0.key is.0.0, is.0.1, k)))))

-- ---- nodes

scalar_text : NodesHave flow_scalar
unfolding flow_scalar
scalar_text l cs h =
    if_both (Gives TreeHas) (is_left_out cs) _ _ tt
    (if_both (Gives TreeHas) (is_quote cs) _ _
    (front_text AreScalars HasScalarTexts (λ t. scalar (spot l cs) (text t)) (quoted l cs) (quoted_text l cs h) all_of_scalars)
    (if_both (Gives TreeHas) (starts_plain cs) _ _ (resolved_text (plain_front true cs) (front_scalars true cs h), rest_scalars true cs h) tt))

map_from-text : (bracket : At) (ms : Members) → MembersHave ms → HasScalarTexts (map_from bracket ms)
map_from-text bracket no_members h = h
map_from-text bracket (member k a t ms) h = h

pub node_text : (d : ℕ) → NodesHave (flow_node d)
unfolding flow_node
node_text zero l cs h = if_both (Gives TreeHas) (is_bracket cs) _ _ tt (scalar_text l cs h)
node_text (suc d) l cs h =
    let tail = drop_scalars 1 cs h in
    if_both (Gives TreeHas) (begins 91 cs) _ _
    (inside_text TreeHas (spot l cs) 93 _ (front_text HaveScalarTexts HasScalarTexts (list (spot l cs)) _ (elements_text (flow_node d) (node_text d) (length cs) l (drop 1 cs) tail) (λ es k. k)))
    (if_both (Gives TreeHas) (begins 123 cs) _ _
    (inside_text TreeHas (spot l cs) 125 _ (front_text MembersHave HasScalarTexts (map_from (spot l cs)) _ (members_text (flow_node d) (node_text d) (length cs) [] l (drop 1 cs) tail)
    (map_from-text (spot l cs))))
    (scalar_text l cs h))
