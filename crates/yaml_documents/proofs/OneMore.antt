-- Where one more line makes a reading stop, it stops on that line.
use Rattle.std.proofs.Common.{◌≡◌, ℕ, zero, suc, Bool, true, false, not, cond, ◌&&◌, ◌||◌, ◌==◌, nat_lt, List, [], ◌∷◌, ◌++◌, drop, Some, is_some, Ok, Err, refl, sym, ap, ◌∙◌, subst, append-nil, inl, inr}
use Rattle.std.specs.Prelude.{map as list_map}
use Rattle.yaml_tree.specs.Tree.{At, Tree}
use Rattle.yaml_inline.specs.File.{Line, is_empty, begins, carries_nothing, ends_line}
use Rattle.yaml_inline.specs.Line.{spot, Stop, Read, ◌>>=◌, indent, body, bad_start, unexpected, is_comment, is_empty_line, is_dash, is_left_out, starts_plain, plain_rest}
use Rattle.yaml_inline.specs.Scalar.{Chomping, clip, strip, keep}
use Rattle.yaml_inline.specs.Flow.{quoted, is_quote, is_bracket, flow_node, is_seen}
use Rattle.yaml_inline.specs.Key.{Keyed, keyed, unkeyed, key_stop, key_at}
use Rattle.yaml_blocks.specs.Blocks.{rest_while, front_while, skip_comments, nothing_from, nothing_in, Parts, put_line, inside, divide, alone, Continuation, empty_line, comment_line, text_line, last_line, continuation, add_line, more_plain, plain_text, digit_first, header_end, header_of, first_indent, is_content, lines_at, scalar_lines, block_scalar}
use Rattle.yaml_blocks.specs.Reading.{Item, item_of, items_of, offset, is_level, after_spaces, key_of, item_key, key_in, behind_in, element_in, elements_in, entry_in, entries_in, sequence_in, map_in, scalar_or_flow_in, keyed_then, node_with, node_in, block_from, block_with, block_in, too_deep}
use Rattle.yaml_blocks.specs.Laws.{HasTree}
use Rattle.yaml_blocks.proofs.Tools.{choose}
use Rattle.yaml_blocks.proofs.Complete.{reads_all}
use Rattle.yaml_blocks.proofs.Persist.{rest_more}
use Rattle.yaml_documents.specs.Places.{StandsOn, StopsOnTheLine}
use Rattle.yaml_documents.proofs.OneLine.{OnLine, on_if, on_bind, spot_on, start_on, unexpected_on, quoted_on, KeyOn, key_on, flow_on}

-- where the first reading goes through, the second stops on this line or goes through
abbrev pub Then : {A B : Type 0} → Line → Read A → Read B → Type 0
Then k (Ok x) r = OnLine k r
Then k (Err s) r = Unit {0}

then_if : {A B : Type 0} (k : Line) (b : Bool) (x y : Read A) (u v : Read B) → Then k x u → Then k y v → Then k (cond b x y) (cond b u v)
then_if k true x y u v h g = h
then_if k false x y u v h g = g

then_of : {A B : Type 0} (k : Line) (t : Read A) (r : Read B) → OnLine k r → Then k t r
then_of k (Ok x) r h = h
then_of k (Err s) r h = tt

then_bind : {A B C D : Type 0} (k : Line) (r : Read A) (f : A → Read B) (t : Read C) (g : C → Read D) → Then k r t → ((x : A) (y : C) → Then k (f x) (g y)) → Then k (r >>= f) (t >>= g)
then_bind k (Ok x) f (Ok y) g h step = step x y
then_bind k (Ok x) f (Err s) g h step = then_of k (f x) (Err s) h
then_bind k (Err s) f t g h step = tt

then_same : {A B C : Type 0} (k : Line) (r : Read A) (f : A → Read B) (g : A → Read C) → ((x : A) → Then k (f x) (g x)) → Then k (r >>= f) (r >>= g)
then_same k (Ok x) f g step = step x
then_same k (Err s) f g step = tt

-- ---- lines behind

-- one line, or none
abbrev AtMost : Line → List Line → Type 0
AtMost k [] = Unit {0}
AtMost k (l ∷ []) = l ≡ k
AtMost k (l ∷ m ∷ ls) = ⊥

rest_one : (p : Line → Bool) (k : Line) → AtMost k (rest_while p (k ∷ []))
rest_one p k = by (p k) where
  by : (b : Bool) → AtMost k (cond b [] (k ∷ []))
  by true = tt
  by false = refl

rest_end : (p : Line → Bool) (a : List Line) (k : Line) → rest_while p a ≡ [] → rest_while p (a ++ k ∷ []) ≡ rest_while p (k ∷ [])
rest_end p [] k e = refl
rest_end p (l ∷ ls) k e =
    elim (choose (p l) _ _ _ e) [
      | inl h ↦ rw h.0 (rest_end p ls k h.1)
      | inr h ↦ cc
    ]

from_most : (k : Line) (xs : List Line) → AtMost k xs → OnLine k (nothing_from xs)
from_most k [] h = tt
from_most k (l ∷ []) h = subst (λ (x : Line). StandsOn k (unexpected x)) (sym h) (unexpected_on k)
from_most k (l ∷ m ∷ ls) h = absurd h

-- what is left of at most one line is at most that line
comments_most : (k : Line) (xs : List Line) → AtMost k xs → AtMost k (skip_comments xs)
comments_most k [] h = tt
comments_most k (l ∷ []) h = subst (λ (x : Line). AtMost k (skip_comments (x ∷ []))) (sym h) (rest_one is_comment k)
comments_most k (l ∷ m ∷ ls) h = absurd h

nothing_most : (k : Line) (xs : List Line) → AtMost k xs → OnLine k (nothing_in xs)
unfolding nothing_in
nothing_most k xs h = from_most k (skip_comments xs) (comments_most k xs h)

nothing_then : (k : Line) (a : List Line) → Then k (nothing_in a) (nothing_in (a ++ k ∷ []))
unfolding nothing_in
nothing_then k a = by (skip_comments a) refl where
  by : (xs : List Line) → skip_comments a ≡ xs → Then k (nothing_from xs) (nothing_from (skip_comments (a ++ k ∷ [])))
  by [] is = rw (rest_end is_comment a k is) (from_most k (skip_comments (k ∷ [])) (rest_one is_comment k))
  by (x ∷ xs) is = tt

rest_then : (k : Line) (p : Line → Bool) (a : List Line) → Then k (nothing_in (rest_while p a)) (nothing_in (rest_while p (a ++ k ∷ [])))
rest_then k p a = by (rest_while p a) refl where
  by : (xs : List Line) → rest_while p a ≡ xs → Then k (nothing_in xs) (nothing_in (rest_while p (a ++ k ∷ [])))
  by [] is = then_of k (nothing_in []) _ (nothing_most k _ (subst (AtMost k) (sym (rest_end p a k is)) (rest_one p k)))
  by (x ∷ xs) is = rw (rest_more p a (k ∷ []) x xs is) (nothing_then k (x ∷ xs))

alone_then : {A B : Type 0} (k l : Line) (rest : List ℕ) (a : List Line) (x : A) (y : B) → Then k (alone l rest a x) (alone l rest (a ++ k ∷ []) y)
alone_then k l rest a x y =
    then_if k (ends_line rest) _ _ _ _ (then_bind k (nothing_in a) _ (nothing_in (a ++ k ∷ [])) _ (nothing_then k a) (λ u v. tt)) tt

alone_on : {A : Type 0} (l : Line) (rest : List ℕ) (x : A) → OnLine l (alone l rest [] x)
alone_on l rest x = on_if l (ends_line rest) _ _ (on_bind l (nothing_in []) _ (nothing_most l [] tt) (λ u. tt)) (start_on l)

-- ---- scalars over lines

continuation_on : (m : ℕ) (l : Line) → OnLine l (continuation m l)
unfolding continuation
continuation_on m l =
    on_if l (is_empty_line l) _ _ tt
    (on_if l (is_comment l) _ _ tt
    (on_if l (is_some (bad_start l)) _ _ (unexpected_on l)
    (on_if l (nat_lt (indent l) m || not (ends_line (plain_rest false (body l)))) _ _ (start_on l)
    (on_if l (is_empty (plain_rest false (body l))) _ _ tt tt))))

add_on : (l : Line) (n : ℕ) (f : Continuation) → OnLine l (add_line n f (Ok []) (Ok []) (nothing_in []))
add_on l n empty_line = tt
add_on l n comment_line = on_bind l (nothing_in []) _ (nothing_most l [] tt) (λ u. tt)
add_on l n (text_line t) = tt
add_on l n (last_line t) = on_bind l (nothing_in []) _ (nothing_most l [] tt) (λ u. tt)

add_then : (k : Line) (n : ℕ) (f : Continuation) (e e2 b b2 : Read (List ℕ)) (o o2 : Read (Unit {0})) → Then k e e2 → Then k b b2 → Then k o o2 → Then k (add_line n f e b o) (add_line n f e2 b2 o2)
add_then k n empty_line e e2 b b2 o o2 empty behind ended = empty
add_then k n comment_line e e2 b b2 o o2 empty behind ended = then_bind k o _ o2 _ ended (λ u v. tt)
add_then k n (text_line t) e e2 b b2 o o2 empty behind ended = then_bind k b _ b2 _ behind (λ u v. tt)
add_then k n (last_line t) e e2 b b2 o o2 empty behind ended = then_bind k o _ o2 _ ended (λ u v. tt)

more_then : (k : Line) (m n : ℕ) (a : List Line) → Then k (more_plain m n a) (more_plain m n (a ++ k ∷ []))
unfolding more_plain
more_then k m n [] = on_bind k (continuation m k) _ (continuation_on m k) (λ f. add_on k n f)
more_then k m n (l ∷ ls) =
    then_same k (continuation m l) _ _
    (λ f. add_then k n f (more_plain m (suc n) ls) (more_plain m (suc n) (ls ++ k ∷ [])) (more_plain m 0 ls) (more_plain m 0 (ls ++ k ∷ [])) (nothing_in ls) (nothing_in (ls ++ k ∷ []))
    (more_then k m (suc n) ls) (more_then k m 0 ls) (nothing_then k ls))

plain_then : (k : Line) (m : ℕ) (l : Line) (cs : List ℕ) (a : List Line) → Then k (plain_text m l cs a) (plain_text m l cs (a ++ k ∷ []))
unfolding plain_text
plain_then k m l cs a =
    then_if k (is_empty (plain_rest false cs)) _ _ _ _
    (then_bind k (more_plain m 0 a) _ (more_plain m 0 (a ++ k ∷ [])) _ (more_then k m 0 a) (λ u v. tt))
    (alone_then k l (plain_rest false cs) a _ _)

plain_on : (m : ℕ) (l : Line) (cs : List ℕ) → OnLine l (plain_text m l cs [])
unfolding plain_text more_plain
plain_on m l cs = on_if l (is_empty (plain_rest false cs)) _ _ tt (alone_on l (plain_rest false cs) _)

header_end_on : (l : Line) (e : Chomping) (cs : List ℕ) → OnLine l (header_end l e cs)
header_end_on l e cs = on_if l (digit_first cs) _ _ (spot_on l cs) (on_if l (ends_line cs) _ _ tt (start_on l))

head_on : (l : Line) (cs : List ℕ) → OnLine l (header_of l cs)
head_on l cs =
    on_if l (begins 45 cs) _ _ (header_end_on l strip (drop 1 cs)) (on_if l (begins 43 cs) _ _ (header_end_on l keep (drop 1 cs)) (header_end_on l clip cs))

-- the lines behind a block scalar
behind_most : (k : Line) (m : ℕ) (front xs : List Line) → AtMost k xs → AtMost k (lines_at m (first_indent xs) front xs).1
behind_most k m front [] h = tt
behind_most k m front (l ∷ []) h = by (nat_lt (indent l) m) refl where
  by : (b : Bool) → nat_lt (indent l) m ≡ b → AtMost k (lines_at m (Some (indent l)) front (l ∷ [])).1
  by true is = rw is h
  by false is = rw is (subst (λ (x : Line). AtMost x (rest_while (is_content (indent l)) (l ∷ []))) h (rest_one (is_content (indent l)) l))
behind_most k m front (l ∷ n ∷ ls) h = absurd h

lines_then : (k : Line) (m : ℕ) (a : List Line) → Then k (nothing_in (scalar_lines m a).1) (nothing_in (scalar_lines m (a ++ k ∷ [])).1)
unfolding scalar_lines
lines_then k m a = by (rest_while is_empty_line a) refl where
  at : (i : ℕ) (f g : List Line) (xs : List Line) (t : Bool) → nat_lt i m ≡ t → Then k (nothing_in (lines_at m (Some i) f xs).1) (nothing_in (lines_at m (Some i) g (xs ++ k ∷ [])).1)
  at i f g xs true h = rw h (nothing_then k xs)
  at i f g xs false h = rw h (rest_then k (is_content i) xs)

  by : (xs : List Line) → rest_while is_empty_line a ≡ xs
      → Then k (nothing_in (lines_at m (first_indent xs) (front_while is_empty_line a) xs).1)
      (nothing_in (lines_at m (first_indent (rest_while is_empty_line (a ++ k ∷ []))) (front_while is_empty_line (a ++ k ∷ [])) (rest_while is_empty_line (a ++ k ∷ []))).1)
  by [] is = then_of k (nothing_in []) _ (nothing_most k _ (behind_most k m _ _ (subst (AtMost k) (sym (rest_end is_empty_line a k is)) (rest_one is_empty_line k))))
  by (x ∷ xs) is = rw (rest_more is_empty_line a (k ∷ []) x xs is) (at (indent x) (front_while is_empty_line a) (front_while is_empty_line (a ++ k ∷ [])) (x ∷ xs) (nat_lt (indent x) m) refl)

block_scalar_then : (k : Line) (m : ℕ) (l : Line) (cs : List ℕ) (a : List Line) → Then k (block_scalar m l cs a) (block_scalar m l cs (a ++ k ∷ []))
unfolding block_scalar
block_scalar_then k m l cs a =
    then_same k (header_of l (drop 1 cs)) _ _
    (λ e. then_bind k (nothing_in (scalar_lines m a).1) _ (nothing_in (scalar_lines m (a ++ k ∷ [])).1) _ (lines_then k m a) (λ u v. tt))

block_scalar_on : (m : ℕ) (l : Line) (cs : List ℕ) → OnLine l (block_scalar m l cs [])
unfolding block_scalar scalar_lines
block_scalar_on m l cs = on_bind l (header_of l (drop 1 cs)) _ (head_on l (drop 1 cs)) (λ e. on_bind l (nothing_in []) _ (nothing_most l [] tt) (λ u. tt))

scalar_or_flow_then : (k : Line) (d m : ℕ) (l : Line) (cs : List ℕ) (a : List Line) → Then k (scalar_or_flow_in d m l cs a) (scalar_or_flow_in d m l cs (a ++ k ∷ []))
unfolding scalar_or_flow_in
scalar_or_flow_then k d m l cs a =
    then_if k (is_left_out cs || (begins 37 cs && offset l cs == 0)) _ _ _ _ tt
    (then_if k (is_quote cs) _ _ _ _ (then_same k (quoted l cs) _ _ (λ q. alone_then k l q.1 a _ _))
    (then_if k (is_bracket cs) _ _ _ _ (then_same k (flow_node d l cs) _ _ (λ q. alone_then k l q.1 a _ _))
    (then_if k (begins 124 cs || begins 62 cs) _ _ _ _
    (then_bind k (block_scalar m l cs a) _ (block_scalar m l cs (a ++ k ∷ [])) _ (block_scalar_then k m l cs a) (λ u v. tt))
    (then_if k (starts_plain cs) _ _ _ _ (then_bind k (plain_text m l cs a) _ (plain_text m l cs (a ++ k ∷ [])) _ (plain_then k m l cs a) (λ u v. tt)) tt))))

scalar_or_flow_on : (d m : ℕ) (l : Line) (cs : List ℕ) → OnLine l (scalar_or_flow_in d m l cs [])
unfolding scalar_or_flow_in
scalar_or_flow_on d m l cs =
    on_if l (is_left_out cs || (begins 37 cs && offset l cs == 0)) _ _ (spot_on l cs)
    (on_if l (is_quote cs) _ _ (on_bind l (quoted l cs) _ (quoted_on l cs) (λ q. alone_on l q.1 _))
    (on_if l (is_bracket cs) _ _ (on_bind l (flow_node d l cs) _ (flow_on d l cs) (λ q. alone_on l q.1 _))
    (on_if l (begins 124 cs || begins 62 cs) _ _ (on_bind l (block_scalar m l cs []) _ (block_scalar_on m l cs) (λ t. tt))
    (on_if l (starts_plain cs) _ _ (on_bind l (plain_text m l cs []) _ (plain_on m l cs) (λ t. tt)) (start_on l)))))

-- ---- a block's items

abbrev items_from : Line → List ℕ → Parts → List Item
items_from l cs d = record { line = l; text = cs; inner = d.lead } ∷ list_map item_of d.parts

-- One more line stands inside the last item, or is an item of its own.
abbrev push_line : Bool → Line → Item → List Item → List Item
push_line true k x [] = record x { inner = x.inner ++ k ∷ [] } ∷ []
push_line false k x [] = x ∷ record { line = k; text = body k; inner = [] } ∷ []
push_line b k x (y ∷ ys) = x ∷ push_line b k y ys

abbrev put_inner : Line → List Item → List Item
put_inner l [] = []
put_inner l (x ∷ xs) = record x { inner = l ∷ x.inner } ∷ xs

put_inner-push : (b : Bool) (h k : Line) (x : Item) (xs : List Item) → put_inner h (push_line b k x xs) ≡ push_line b k (record x { inner = h ∷ x.inner }) xs
put_inner-push true h k x [] = refl
put_inner-push false h k x [] = refl
put_inner-push b h k x (y ∷ ys) = refl

abbrev Pushes : Line → Bool → Line → List ℕ → Parts → Parts → Type 0
Pushes k b l cs all first = items_from l cs all ≡ push_line b k (record { line = l; text = cs; inner = first.lead }) (list_map item_of first.parts)

put_pushes : (k : Line) (b i : Bool) (h l : Line) (cs : List ℕ) (all first : Parts) → ((l : Line) (cs : List ℕ) → Pushes k b l cs all first) → Pushes k b l cs (put_line i h all) (put_line i h first)
put_pushes k b true h l cs all first by = ap (put_inner h) (by l cs) ∙ put_inner-push b h k _ (list_map item_of first.parts)
put_pushes k b false h l cs all first by = ap (λ (xs : List Item). record { line = l; text = cs; inner = [] } ∷ xs) (by h (body h))

one_pushed : (k : Line) (b : Bool) (l : Line) (cs : List ℕ) → Pushes k b l cs (put_line b k (record { lead = []; parts = [] })) (record { lead = []; parts = [] })
one_pushed k true l cs = refl
one_pushed k false l cs = refl

items_pushed : (k : Line) (in_map : Bool) (j : ℕ) (l : Line) (cs : List ℕ) (a : List Line) → Pushes k (inside in_map j k) l cs (divide in_map j (a ++ k ∷ [])) (divide in_map j a)
items_pushed k in_map j l cs [] = one_pushed k (inside in_map j k) l cs
items_pushed k in_map j l cs (h ∷ t) = put_pushes k (inside in_map j k) (inside in_map j h) h l cs _ _ (λ l cs. items_pushed k in_map j l cs t)

-- ---- blocks and items, over nodes

abbrev NodesOn : ℕ → Type 0
NodesOn d = (may : Bool) (m : ℕ) (l : Line) (cs : List ℕ) → OnLine l (node_in d may m l cs [])

abbrev NodesThen : ℕ → Type 0
NodesThen d = (k : Line) (may : Bool) (m : ℕ) (l : Line) (cs : List ℕ) (a : List Line) → Then k (node_in d may m l cs a) (node_in d may m l cs (a ++ k ∷ []))

from_on : (d : ℕ) → NodesOn d → (m : ℕ) (home : At) (k : Line) (xs : List Line) → AtMost k xs → OnLine k (block_from (node_in d) m home xs)
from_on d on m home k [] h = tt
from_on d on m home k (l ∷ []) h =
    subst (λ (x : Line). OnLine k (block_from (node_in d) m home (x ∷ []))) (sym h) (on_if k (is_some (bad_start k)) _ _ (unexpected_on k) (on true m k (body k)))
from_on d on m home k (l ∷ n ∷ ls) h = absurd h

block_then : (d : ℕ) → NodesOn d → NodesThen d → (k : Line) (m : ℕ) (home : At) (a : List Line) → Then k (block_with (node_in d) m home a) (block_with (node_in d) m home (a ++ k ∷ []))
block_then d on more k m home a = by (skip_comments a) refl where
  by : (xs : List Line) → skip_comments a ≡ xs → Then k (block_from (node_in d) m home xs) (block_from (node_in d) m home (skip_comments (a ++ k ∷ [])))
  by [] is = from_on d on m home k _ (subst (AtMost k) (sym (rest_end is_comment a k is)) (rest_one is_comment k))
  by (x ∷ xs) is = rw (rest_more is_comment a (k ∷ []) x xs is) (then_if k (is_some (bad_start x)) _ _ _ _ tt (more k true m x (body x) xs))

-- what stands behind a dash or a colon
behind_on : (d : ℕ) → NodesOn d → (may : Bool) (i : ℕ) (home : At) (l : Line) (rest : List ℕ) → OnLine l (behind_in (block_with (node_in d)) (node_in d) may i home l rest [])
behind_on d on may i home l rest = on_if l (carries_nothing rest) _ _ tt (on _ _ l _)

behind_then : (d : ℕ) → NodesOn d → NodesThen d → (k : Line) (may : Bool) (i : ℕ) (home : At) (l : Line) (rest : List ℕ) (a : List Line)
    → Then k (behind_in (block_with (node_in d)) (node_in d) may i home l rest a) (behind_in (block_with (node_in d)) (node_in d) may i home l rest (a ++ k ∷ []))
behind_then d on more k may i home l rest a = then_if k (carries_nothing rest) _ _ _ _ (block_then d on more k _ _ a) (more k _ _ _ _ a)

element_on : (d : ℕ) → NodesOn d → (i : ℕ) (l : Line) (cs : List ℕ) → OnLine l (element_in (block_with (node_in d)) (node_in d) i (record { line = l; text = cs; inner = [] }))
unfolding element_in
element_on d on i l cs =
    on_if l (is_some (bad_start l)) _ _ (unexpected_on l)
    (on_if l (not (is_level i (record { line = l; text = cs; inner = [] }) && is_dash cs)) _ _ (start_on l)
    (behind_on d on (after_spaces (drop 1 cs)) i (spot l cs) l (drop 1 cs)))

element_then : (d : ℕ) → NodesOn d → NodesThen d → (k : Line) (i : ℕ) (x : Item)
    → Then k (element_in (block_with (node_in d)) (node_in d) i x) (element_in (block_with (node_in d)) (node_in d) i (record x { inner = x.inner ++ k ∷ [] }))
unfolding element_in
element_then d on more k i x =
    then_if k (is_some (bad_start x.line)) _ _ _ _ tt
    (then_if k (not (is_level i x && is_dash x.text)) _ _ _ _ tt
    (behind_then d on more k (after_spaces (drop 1 x.text)) i (spot x.line x.text) x.line (drop 1 x.text) x.inner))

elements_on : (d : ℕ) → NodesOn d → (i : ℕ) (l : Line) (cs : List ℕ) → OnLine l (elements_in (block_with (node_in d)) (node_in d) i (record { line = l; text = cs; inner = [] } ∷ []))
elements_on d on i l cs = on_bind l (element_in (block_with (node_in d)) (node_in d) i (record { line = l; text = cs; inner = [] })) _ (element_on d on i l cs) (λ t. tt)

elements_then : (d : ℕ) → NodesOn d → NodesThen d → (k : Line) (b : Bool) (i : ℕ) (x : Item) (xs : List Item)
    → Then k (elements_in (block_with (node_in d)) (node_in d) i (x ∷ xs)) (elements_in (block_with (node_in d)) (node_in d) i (push_line b k x xs))
elements_then d on more k true i x [] =
    then_bind k (element_in (block_with (node_in d)) (node_in d) i x) _ (element_in (block_with (node_in d)) (node_in d) i (record x { inner = x.inner ++ k ∷ [] })) _
    (element_then d on more k i x) (λ t u. tt)
elements_then d on more k false i x [] =
    then_same k (element_in (block_with (node_in d)) (node_in d) i x) _ _
    (λ t. on_bind k (elements_in (block_with (node_in d)) (node_in d) i (record { line = k; text = body k; inner = [] } ∷ [])) _ (elements_on d on i k (body k)) (λ ts. tt))
elements_then d on more k b i x (y ∷ ys) =
    then_same k (element_in (block_with (node_in d)) (node_in d) i x) _ _
    (λ t. then_bind k (elements_in (block_with (node_in d)) (node_in d) i (y ∷ ys)) _ (elements_in (block_with (node_in d)) (node_in d) i (push_line b k y ys)) _
    (elements_then d on more k b i y ys) (λ ts us. tt))

key_of_on : (l : Line) (key : Keyed) → KeyOn l key → OnLine l (key_of l key)
key_of_on l (key_stop s) h = h
key_of_on l unkeyed h = start_on l
key_of_on l (keyed key rest) h = tt

key_in_on : (i : ℕ) (seen : List (List ℕ)) (l : Line) (cs : List ℕ) → OnLine l (key_in i seen l cs)
unfolding key_in item_key
key_in_on i seen l cs =
    on_bind l (item_key i l cs) _
    (on_if l (is_some (bad_start l)) _ _ (unexpected_on l) (on_if l (not (offset l cs == i)) _ _ (start_on l) (key_of_on l (key_at l cs) (key_on l cs))))
    (λ k. on_if l (is_seen k.0 seen) _ _ (spot_on l cs) tt)

entry_on : (d : ℕ) → NodesOn d → (i : ℕ) (seen : List (List ℕ)) (l : Line) (cs : List ℕ)
    → OnLine l (entry_in (block_with (node_in d)) (node_in d) i seen (record { line = l; text = cs; inner = [] }))
unfolding entry_in
entry_on d on i seen l cs =
    on_bind l (key_in i seen l cs) _ (key_in_on i seen l cs)
    (λ key. on_bind l (behind_in (block_with (node_in d)) (node_in d) false i (spot l cs) l key.1 []) _ (behind_on d on false i (spot l cs) l key.1) (λ t. tt))

entry_then : (d : ℕ) → NodesOn d → NodesThen d → (k : Line) (i : ℕ) (seen : List (List ℕ)) (x : Item)
    → Then k (entry_in (block_with (node_in d)) (node_in d) i seen x) (entry_in (block_with (node_in d)) (node_in d) i seen (record x { inner = x.inner ++ k ∷ [] }))
unfolding entry_in
entry_then d on more k i seen x =
    then_same k (key_in i seen x.line x.text) _ _
    (λ key. then_bind k (behind_in (block_with (node_in d)) (node_in d) false i (spot x.line x.text) x.line key.1 x.inner) _
    (behind_in (block_with (node_in d)) (node_in d) false i (spot x.line x.text) x.line key.1 (x.inner ++ k ∷ [])) _
    (behind_then d on more k false i (spot x.line x.text) x.line key.1 x.inner) (λ t u. tt))

entries_on : (d : ℕ) → NodesOn d → (i : ℕ) (seen : List (List ℕ)) (l : Line) (cs : List ℕ)
    → OnLine l (entries_in (block_with (node_in d)) (node_in d) i seen (record { line = l; text = cs; inner = [] } ∷ []))
entries_on d on i seen l cs = on_bind l (entry_in (block_with (node_in d)) (node_in d) i seen (record { line = l; text = cs; inner = [] })) _ (entry_on d on i seen l cs) (λ m. tt)

entries_then : (d : ℕ) → NodesOn d → NodesThen d → (k : Line) (b : Bool) (i : ℕ) (seen : List (List ℕ)) (x : Item) (xs : List Item)
    → Then k (entries_in (block_with (node_in d)) (node_in d) i seen (x ∷ xs)) (entries_in (block_with (node_in d)) (node_in d) i seen (push_line b k x xs))
entries_then d on more k true i seen x [] =
    then_bind k (entry_in (block_with (node_in d)) (node_in d) i seen x) _ (entry_in (block_with (node_in d)) (node_in d) i seen (record x { inner = x.inner ++ k ∷ [] })) _
    (entry_then d on more k i seen x) (λ m n. tt)
entries_then d on more k false i seen x [] =
    then_same k (entry_in (block_with (node_in d)) (node_in d) i seen x) _ _
    (λ m. on_bind k (entries_in (block_with (node_in d)) (node_in d) i (seen ++ m.key ∷ []) (record { line = k; text = body k; inner = [] } ∷ [])) _ (entries_on d on i _ k (body k)) (λ ms. tt))
entries_then d on more k b i seen x (y ∷ ys) =
    then_same k (entry_in (block_with (node_in d)) (node_in d) i seen x) _ _
    (λ m. then_bind k (entries_in (block_with (node_in d)) (node_in d) i (seen ++ m.key ∷ []) (y ∷ ys)) _
    (entries_in (block_with (node_in d)) (node_in d) i (seen ++ m.key ∷ []) (push_line b k y ys)) _
    (entries_then d on more k b i (seen ++ m.key ∷ []) y ys) (λ ms ns. tt))

-- ---- nodes

abbrev Reader : Type 0
Reader = Line → List ℕ → List Line → Read Tree

keyed_then_then : (k : Line) (key : Keyed) (a b a2 b2 : Read Tree) → Then k a a2 → Then k b b2 → Then k (keyed_then key a b) (keyed_then key a2 b2)
keyed_then_then k (keyed t rest) a b a2 b2 h g = h
keyed_then_then k unkeyed a b a2 b2 h g = g
keyed_then_then k (key_stop s) a b a2 b2 h g = tt

keyed_then_on : (l : Line) (key : Keyed) (a b : Read Tree) → KeyOn l key → OnLine l a → OnLine l b → OnLine l (keyed_then key a b)
keyed_then_on l (keyed t rest) a b h f g = f
keyed_then_on l unkeyed a b h f g = g
keyed_then_on l (key_stop s) a b h f g = h

node_then : (a_list a_map : Reader) (k : Line) (d : ℕ) (may : Bool) (m : ℕ) (l : Line) (cs : List ℕ) (a : List Line)
    → Then k (a_list l cs a) (a_list l cs (a ++ k ∷ [])) → Then k (a_map l cs a) (a_map l cs (a ++ k ∷ []))
    → Then k (node_with a_list a_map d may m l cs a) (node_with a_list a_map d may m l cs (a ++ k ∷ []))
node_then a_list a_map k d may m l cs a listed mapped =
    then_if k (not may) _ _ _ _ (scalar_or_flow_then k d m l cs a)
    (then_if k (is_dash cs) _ _ _ _ listed (keyed_then_then k (key_at l cs) _ _ _ _ mapped (scalar_or_flow_then k d m l cs a)))

node_on : (a_list a_map : Reader) (d : ℕ) (may : Bool) (m : ℕ) (l : Line) (cs : List ℕ) → OnLine l (a_list l cs []) → OnLine l (a_map l cs []) → OnLine l (node_with a_list a_map d may m l cs [])
node_on a_list a_map d may m l cs listed mapped =
    on_if l (not may) _ _ (scalar_or_flow_on d m l cs) (on_if l (is_dash cs) _ _ listed (keyed_then_on l (key_at l cs) _ _ (key_on l cs) mapped (scalar_or_flow_on d m l cs)))

nodes_on : (d : ℕ) → NodesOn d
unfolding node_in
nodes_on zero may m l cs = node_on too_deep too_deep zero may m l cs (spot_on l cs) (spot_on l cs)
nodes_on (suc d) may m l cs =
    node_on (sequence_in (block_with (node_in d)) (node_in d)) (map_in (block_with (node_in d)) (node_in d)) (suc d) may m l cs
    (on_bind l (elements_in (block_with (node_in d)) (node_in d) (offset l cs) (record { line = l; text = cs; inner = [] } ∷ [])) _ (elements_on d (nodes_on d) (offset l cs) l cs) (λ ts. tt))
    (on_bind l (entries_in (block_with (node_in d)) (node_in d) (offset l cs) [] (record { line = l; text = cs; inner = [] } ∷ [])) _ (entries_on d (nodes_on d) (offset l cs) [] l cs) (λ ms. tt))

sequence_then : (d : ℕ) → NodesOn d → NodesThen d → (k l : Line) (cs : List ℕ) (a : List Line)
    → Then k (sequence_in (block_with (node_in d)) (node_in d) l cs a) (sequence_in (block_with (node_in d)) (node_in d) l cs (a ++ k ∷ []))
sequence_then d on more k l cs a =
    then_bind k (elements_in (block_with (node_in d)) (node_in d) (offset l cs) (items_of false l cs a)) _
    (elements_in (block_with (node_in d)) (node_in d) (offset l cs) (items_of false l cs (a ++ k ∷ []))) _
    (subst (λ (xs : List Item). Then k (elements_in (block_with (node_in d)) (node_in d) (offset l cs) (items_of false l cs a)) (elements_in (block_with (node_in d)) (node_in d) (offset l cs) xs))
    (sym (items_pushed k false (offset l cs) l cs a)) (elements_then d on more k (inside false (offset l cs) k) (offset l cs) _ _)) (λ ts us. tt)

map_then : (d : ℕ) → NodesOn d → NodesThen d → (k l : Line) (cs : List ℕ) (a : List Line)
    → Then k (map_in (block_with (node_in d)) (node_in d) l cs a) (map_in (block_with (node_in d)) (node_in d) l cs (a ++ k ∷ []))
map_then d on more k l cs a =
    then_bind k (entries_in (block_with (node_in d)) (node_in d) (offset l cs) [] (items_of true l cs a)) _
    (entries_in (block_with (node_in d)) (node_in d) (offset l cs) [] (items_of true l cs (a ++ k ∷ []))) _
    (subst (λ (xs : List Item). Then k (entries_in (block_with (node_in d)) (node_in d) (offset l cs) [] (items_of true l cs a)) (entries_in (block_with (node_in d)) (node_in d) (offset l cs) [] xs))
    (sym (items_pushed k true (offset l cs) l cs a)) (entries_then d on more k (inside true (offset l cs) k) (offset l cs) [] _ _)) (λ ms ns. tt)

nodes_then : (d : ℕ) → NodesThen d
unfolding node_in
nodes_then zero k may m l cs a = node_then too_deep too_deep k zero may m l cs a tt tt
nodes_then (suc d) k may m l cs a =
    node_then (sequence_in (block_with (node_in d)) (node_in d)) (map_in (block_with (node_in d)) (node_in d)) k (suc d) may m l cs a
    (sequence_then d (nodes_on d) (nodes_then d) k l cs a) (map_then d (nodes_on d) (nodes_then d) k l cs a)

pub blocks_then : (d m : ℕ) (home : At) (a : List Line) (k : Line) → Then k (block_in d m home a) (block_in d m home (a ++ k ∷ []))
blocks_then d m home a k = block_then d (nodes_on d) (nodes_then d) k m home a

-- ---- the first line up to which there is no tree

pub stands : {A B : Type 0} (k : Line) (r : Read A) (t : Read B) (x : A) (s : Stop) → Then k r t → r ≡ Ok x → t ≡ Err s → StandsOn k s
stands k (Ok y) (Ok z) x s h read stop = cc
stands k (Ok y) (Err u) x s h read stop = let same : u ≡ s = cc in subst (StandsOn k) same h
stands k (Err u) t x s h read stop = cc

pub stops_on_the_line : StopsOnTheLine
stops_on_the_line depth home ls s h =
    let tree : HasTree depth home h.front = h.before h.front [] (sym (append-nil h.front)) in
    stands h.line (block_in depth 0 home h.front) (block_in depth 0 home (h.front ++ h.line ∷ [])) tree.0 s (blocks_then depth 0 home h.front h.line)
    (reads_all depth home h.front tree.0 tree.1) h.here
