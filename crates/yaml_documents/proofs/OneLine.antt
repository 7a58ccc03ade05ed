-- What is read of one line stops on that line.
use Rattle.std.proofs.Common.{◌≡◌, ℕ, zero, suc, ◌-◌, ◌≤◌, Bool, true, false, not, cond, ◌&&◌, ◌||◌, ◌==◌, List, [], ◌∷◌, length, drop, Ok, Err, refl, arith}
use Rattle.std.specs.Str.{bytes_eq}
use Rattle.std.proofs.lemmas.List.Sums.{prefix_len-le-length}
use Rattle.yaml_tree.specs.Tree.{At, Tree}
use Rattle.yaml_inline.specs.File.{Line, is_space, begins, blank_or_end, skip_blanks, ends_line, is_marker}
use Rattle.yaml_inline.specs.Line.{at, spot, Stop, refused, unclosed, Read, ◌>>=◌, indentation, indent, body, bad_start, unexpected, starts_plain, plain_front, plain_rest, is_left_out}
use Rattle.yaml_inline.specs.Scalar.{Quoted, closed, open_ended, bad_escape, single, double}
use Rattle.yaml_inline.specs.Flow.{Front, opened, inside_open, quoted_as, is_quote, quoted, merge, is_seen, behind_colon, flow_key, fresh_key, after_element, is_bracket, flow_element, flow_elements, flow_value, flow_entry, flow_members, flow_scalar, flow_node}
use Rattle.yaml_inline.specs.Key.{Keyed, keyed, unkeyed, key_stop, colon_then, quoted_key, key_at}
use Rattle.yaml_documents.specs.Places.{IsOn, StandsOn}

-- where the reading stops, it does so on this line
abbrev pub OnLine : {A : Type 0} → Line → Read A → Type 0
OnLine l (Ok x) = Unit {0}
OnLine l (Err s) = StandsOn l s

pub on_if : {A : Type 0} (l : Line) (b : Bool) (x y : Read A) → OnLine l x → OnLine l y → OnLine l (cond b x y)
on_if l true x y h k = h
on_if l false x y h k = k

pub on_bind : {A B : Type 0} (l : Line) (r : Read A) (f : A → Read B) → OnLine l r → ((x : A) → OnLine l (f x)) → OnLine l (r >>= f)
on_bind l (Ok x) f h k = k x
on_bind l (Err s) f h k = h

-- ---- places and stops of a line

pub at_on : (l : Line) (n : ℕ) → n ≤ length l.text → IsOn l (at l n)
at_on l n h = record { line = refl; counts = omega arith; column = omega arith }

pub spot_on : (l : Line) (cs : List ℕ) → IsOn l (spot l cs)
spot_on l cs = at_on l (length l.text - length cs) (omega arith)

pub start_on : (l : Line) → IsOn l (at l 0)
start_on l = at_on l 0 (omega arith)

indent_on : (l : Line) → IsOn l (at l (indent l))
unfolding indent indentation
indent_on l = at_on l (indent l) (prefix_len-le-length is_space l.text)

pub unexpected_on : (l : Line) → StandsOn l (unexpected l)
unfolding unexpected bad_start
unexpected_on l = by (is_marker l) refl (begins 9 (body l)) refl where
  by : (m : Bool) → is_marker l ≡ m → (t : Bool) → begins 9 (body l) ≡ t → StandsOn l (unexpected l)
  by true e t f = rw e (start_on l)
  by false e true f = rw (e, f) (indent_on l)
  by false e false f = rw (e, f) (start_on l)

opened_on : (l : Line) (a : At) (c : ℕ) (s : Stop) → IsOn l a → StandsOn l s → StandsOn l (opened a c s)
opened_on l a c (refused code place) h k = k
opened_on l a c (unclosed n opens) h k = (k.0, (h, k.1))

inside_on : {A : Type 0} (l : Line) (a : At) (c : ℕ) (r : Read A) → IsOn l a → OnLine l r → OnLine l (inside_open a c r)
inside_on l a c (Ok x) h k = tt
inside_on l a c (Err s) h k = opened_on l a c s h k

-- ---- quotes and keys

quoted_as_on : (l : Line) (cs : List ℕ) (c : ℕ) (q : Quoted) → OnLine l (quoted_as l cs c q)
quoted_as_on l cs c (closed t rest) = tt
quoted_as_on l cs c open_ended = (refl, (spot_on l cs, tt))
quoted_as_on l cs c (bad_escape n) = spot_on l (drop (suc n) cs)

pub quoted_on : (l : Line) (cs : List ℕ) → OnLine l (quoted l cs)
unfolding quoted
quoted_on l cs = on_if l (begins 39 cs) _ _ (quoted_as_on l cs 39 (single (drop 1 cs))) (quoted_as_on l cs 34 (double 0 (drop 1 cs)))

-- where a key stops, it does so on this line
abbrev pub KeyOn : Line → Keyed → Type 0
KeyOn l (keyed k rest) = Unit {0}
KeyOn l unkeyed = Unit {0}
KeyOn l (key_stop s) = StandsOn l s

key_if : (l : Line) (b : Bool) (x y : Keyed) → KeyOn l x → KeyOn l y → KeyOn l (cond b x y)
key_if l true x y h k = h
key_if l false x y h k = k

colon_on : (l : Line) (k cs : List ℕ) → KeyOn l (colon_then k cs)
colon_on l k [] = tt
colon_on l k (c ∷ cs) = key_if l (c == 58 && blank_or_end cs) (keyed k cs) unkeyed tt tt

quoted_key_on : (l : Line) (r : Front (List ℕ)) → OnLine l r → KeyOn l (quoted_key r)
quoted_key_on l (Ok q) h = colon_on l q.0 (skip_blanks q.1)
quoted_key_on l (Err s) h = h

pub key_on : (l : Line) (cs : List ℕ) → KeyOn l (key_at l cs)
unfolding key_at
key_on l cs =
    key_if l (is_left_out cs) _ _ (spot_on l cs)
    (key_if l (is_quote cs) _ _ (quoted_key_on l (quoted l cs) (quoted_on l cs))
    (key_if l (starts_plain cs && begins 58 (plain_rest false cs)) _ _
    (key_if l (bytes_eq (plain_front false cs) merge) _ _ (spot_on l cs) (colon_on l (plain_front false cs) (plain_rest false cs))) tt))

-- ---- flow collections

out_on : (l : Line) → StandsOn l (unclosed l.number [])
out_on l = (refl, tt)

behind_colon_on : (l : Line) (k rest : List ℕ) → OnLine l (behind_colon l k rest)
unfolding behind_colon
behind_colon_on l k rest = on_if l (begins 58 (skip_blanks rest)) _ _ tt (on_if l (ends_line rest) _ _ (out_on l) (start_on l))

flow_key_on : (l : Line) (cs : List ℕ) → OnLine l (flow_key l cs)
unfolding flow_key
flow_key_on l cs =
    on_if l (is_left_out cs) _ _ (spot_on l cs)
    (on_if l (is_quote cs) _ _ (on_bind l (quoted l cs) _ (quoted_on l cs) (λ q. behind_colon_on l q.0 q.1))
    (on_if l (not (starts_plain cs)) _ _ (start_on l)
    (on_if l (bytes_eq (plain_front true cs) merge && begins 58 (plain_rest true cs)) _ _ (spot_on l cs) (behind_colon_on l _ _))))

fresh_key_on : (seen : List (List ℕ)) (l : Line) (cs : List ℕ) → OnLine l (fresh_key seen l cs)
unfolding fresh_key
fresh_key_on seen l cs = on_bind l (flow_key l cs) _ (flow_key_on l cs) (λ k. on_if l (is_seen k.0 seen) _ _ (spot_on l cs) tt)

after_on : (l : Line) (close : ℕ) (rest : List ℕ) → OnLine l (after_element l close rest)
unfolding after_element
after_on l close rest =
    on_if l (begins 44 (skip_blanks rest)) _ _ tt
    (on_if l (begins close (skip_blanks rest)) _ _ tt (on_if l (ends_line rest) _ _ (out_on l) (start_on l)))

abbrev FlowOn : (Line → List ℕ → Front Tree) → Line → Type 0
FlowOn node l = (cs : List ℕ) → OnLine l (node l cs)

element_on : (node : Line → List ℕ → Front Tree) (l : Line) → FlowOn node l → (cs : List ℕ) → OnLine l (flow_element node l cs)
unfolding flow_element
element_on node l inner cs =
    on_bind l (node l cs) _ (inner cs)
    (λ e. on_if l (begins 58 (skip_blanks e.1) && not (is_bracket cs)) _ _ (spot_on l cs) (on_bind l (after_element l 93 e.1) _ (after_on l 93 e.1) (λ more. tt)))

elements_on : (node : Line → List ℕ → Front Tree) (n : ℕ) (l : Line) → FlowOn node l → (rest : List ℕ) → OnLine l (flow_elements node n l rest)
unfolding flow_elements
elements_on node zero l inner rest = out_on l
elements_on node (suc n) l inner rest =
    on_if l (ends_line rest) _ _ (out_on l)
    (on_if l (begins 93 (skip_blanks rest)) _ _ tt
    (on_bind l (flow_element node l (skip_blanks rest)) _ (element_on node l inner (skip_blanks rest))
    (λ e. on_bind l (flow_elements node n l e.1) _ (elements_on node n l inner e.1) (λ p. tt))))

value_on : (node : Line → List ℕ → Front Tree) (l : Line) → FlowOn node l → (home : At) (rest : List ℕ) → OnLine l (flow_value node l home rest)
unfolding flow_value
value_on node l inner home rest =
    on_if l (ends_line rest) _ _ (out_on l)
    (on_if l (begins 44 (skip_blanks rest) || begins 125 (skip_blanks rest)) _ _ tt (inner (skip_blanks rest)))

entry_on : (node : Line → List ℕ → Front Tree) (seen : List (List ℕ)) (l : Line) → FlowOn node l → (cs : List ℕ) → OnLine l (flow_entry node seen l cs)
unfolding flow_entry
entry_on node seen l inner cs =
    on_bind l (fresh_key seen l cs) _ (fresh_key_on seen l cs)
    (λ k. on_bind l (flow_value node l (spot l cs) k.1) _ (value_on node l inner (spot l cs) k.1)
    (λ v. on_bind l (after_element l 125 v.1) _ (after_on l 125 v.1) (λ more. tt)))

members_on : (node : Line → List ℕ → Front Tree) (n : ℕ) (seen : List (List ℕ)) (l : Line) → FlowOn node l → (rest : List ℕ) → OnLine l (flow_members node n seen l rest)
unfolding flow_members
members_on node zero seen l inner rest = out_on l
members_on node (suc n) seen l inner rest =
    on_if l (ends_line rest) _ _ (out_on l)
    (on_if l (begins 125 (skip_blanks rest)) _ _ tt
    (on_bind l (flow_entry node seen l (skip_blanks rest)) _ (entry_on node seen l inner (skip_blanks rest))
    (λ e. on_bind l (flow_members node n _ l e.1) _ (members_on node n _ l inner e.1) (λ p. tt))))

scalar_on : (l : Line) (cs : List ℕ) → OnLine l (flow_scalar l cs)
unfolding flow_scalar
scalar_on l cs =
    on_if l (is_left_out cs) _ _ (spot_on l cs)
    (on_if l (is_quote cs) _ _ (on_bind l (quoted l cs) _ (quoted_on l cs) (λ q. tt))
    (on_if l (starts_plain cs) _ _ tt (start_on l)))

pub flow_on : (d : ℕ) (l : Line) (cs : List ℕ) → OnLine l (flow_node d l cs)
unfolding flow_node
flow_on zero l cs = on_if l (is_bracket cs) _ _ (spot_on l cs) (scalar_on l cs)
flow_on (suc d) l cs =
    on_if l (begins 91 cs) _ _
    (inside_on l (spot l cs) 93 _ (spot_on l cs) (on_bind l (flow_elements (flow_node d) (length cs) l (drop 1 cs)) _ (elements_on (flow_node d) (length cs) l (flow_on d l) (drop 1 cs)) (λ p. tt)))
    (on_if l (begins 123 cs) _ _
    (inside_on l (spot l cs) 125 _ (spot_on l cs) (on_bind l (flow_members (flow_node d) (length cs) [] l (drop 1 cs)) _ (members_on (flow_node d) (length cs) [] l (flow_on d l) (drop 1 cs)) (λ p. tt)))
    (scalar_on l cs))
