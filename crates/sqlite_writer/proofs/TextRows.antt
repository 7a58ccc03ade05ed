-- The texts of rows and of lists in halves, as code puts them, and their bytes.
use Rattle.std.proofs.Common.{ℕ, ◌+◌, ◌≡◌, ◌≤◌, ◌<◌, refl, sym, ◌∙◌, ap, Bool, true, List, [], ◌∷◌, ◌++◌, append_assoc, append-nil, length, length-append, drop, get_or, arith}
use Rattle.std.specs.Prelude.{codes, encode_utf8, encode_utf8_all}
use Rattle.std.specs.declared.alloc.Global.{Global}
use Rattle.std.specs.declared.vec.Vec.{Vec}
use Rattle.event_schema.specs.declared.schema.Field.{Field}
use Rattle.backend_core.specs.View.{tree_view, plains_of}
use Rattle.backend_core.specs.declared.tree.Tree.{Tree}
use Rattle.backend_core.specs.declared.tree.Tree as trees
use Rattle.sqlite_writer.specs.declared.place.Kind.TheVariants.{All, Any}
use Rattle.sqlite_writer.specs.declared.place.Standing.{Standing}
use Rattle.sqlite_writer.specs.declared.place.Standing.TheVariants.{InOr, InAnd}
use Rattle.sqlite_writer.specs.Pieces.{is_enclosed, piece_if, enclosed_if, row_text, two_texts, halved_text, tree_text, parts_text, items_text}
use Rattle.sqlite_writer.specs.Sizes.{bytes_in}
use Rattle.backend_core.proofs.Joining.{view-All, view-Any}
use Rattle.sqlite_writer.proofs.Rows.{next_of, none_of}

module _ (fields : List Field) (at : Standing) where
  abbrev pub text_at : Tree → List ℕ
  text_at t = tree_text fields at (tree_view t)

  items_are : (ts : List Tree) → parts_text fields at (plains_of ts) ≡ items_text fields at ts
  items_are [] = refl
  items_are (t ∷ ts) = ap (λ (texts : List (List ℕ)). text_at t ∷ texts) (items_are ts)

  pub row_goes : (word : List ℕ) (behind : Bool) (ts : List Tree) (i : ℕ) (t : Tree) (out first second whole : List ℕ) → i < length ts → t ≡ get_or ts i t
      → first ≡ out ++ piece_if behind word → second ≡ first ++ tree_text fields at (tree_view t)
      → out ++ row_text word behind (items_text fields at (drop i ts)) ≡ whole → second ++ row_text word true (items_text fields at (drop (i + 1) ts)) ≡ whole
  row_goes word behind ts i t out first second whole within is one two h =
      let rest = row_text word true (items_text fields at (drop (i + 1) ts)) in
      ap (λ (x : List ℕ). x ++ rest) (two ∙ ap (λ (x : List ℕ). x ++ text_at t) one)
      ∙ (three out (piece_if behind word) (text_at t) rest
      ∙ (ap (λ (texts : List (List ℕ)). out ++ row_text word behind texts) (sym (next_of text_at ts i t within is)) ∙ h))
    where
      three : (a b c d : List ℕ) → ((a ++ b) ++ c) ++ d ≡ a ++ (b ++ (c ++ d))
      three a b c d = simp append_assoc

  pub row_ends : (word : List ℕ) (behind : Bool) (ts : List Tree) (i : ℕ) (out whole : List ℕ) → length ts ≤ i
      → out ++ row_text word behind (items_text fields at (drop i ts)) ≡ whole → out ≡ whole
  row_ends word behind ts i out whole past h =
      sym (append-nil out) ∙ (ap (λ (texts : List (List ℕ)). out ++ row_text word behind texts) (sym (none_of text_at ts i past)) ∙ h)

module _ (fields : List Field) where
  pub text_of_all : (at : Standing) (v : Vec Tree Global) (tree : Tree) (ts : List Tree) → tree ≡ trees.All v → ts ≡ v.items
      → enclosed_if (is_enclosed All at) (halved_text All (items_text fields InAnd ts)) ≡ tree_text fields at (tree_view tree)
  text_of_all at v tree ts is same =
      let so = is_enclosed All at in
      ap (λ (us : List Tree). enclosed_if so (halved_text All (items_text fields InAnd us))) same
      ∙ (ap (λ (texts : List (List ℕ)). enclosed_if so (halved_text All texts)) (sym (items_are fields InAnd v.items))
      ∙ (sym (ap (tree_text fields at) (view-All v)) ∙ ap (text_at fields at) (sym is)))

  pub text_of_any : (at : Standing) (v : Vec Tree Global) (tree : Tree) (ts : List Tree) → tree ≡ trees.Any v → ts ≡ v.items
      → enclosed_if (is_enclosed Any at) (halved_text Any (items_text fields InOr ts)) ≡ tree_text fields at (tree_view tree)
  text_of_any at v tree ts is same =
      let so = is_enclosed Any at in
      ap (λ (us : List Tree). enclosed_if so (halved_text Any (items_text fields InOr us))) same
      ∙ (ap (λ (texts : List (List ℕ)). enclosed_if so (halved_text Any texts)) (sym (items_are fields InOr v.items))
      ∙ (sym (ap (tree_text fields at) (view-Any v)) ∙ ap (text_at fields at) (sym is)))

pub two_put : (out a b c d e word first second : List ℕ) → a ≡ out ++ first → b ≡ a ++ word → c ≡ b ++ codes "(" → d ≡ c ++ second → e ≡ d ++ codes ")"
    → e ≡ out ++ two_texts word first second
two_put out a b c d e word first second one two three four five = rw (five, four, three, two, one) (simp append_assoc)

pub enclosed_put : (out first second third text : List ℕ) (so : Bool) → first ≡ out ++ piece_if so (codes "(") → second ≡ first ++ text
    → third ≡ second ++ piece_if so (codes ")") → third ≡ out ++ enclosed_if so text
enclosed_put out first second third text so a b c = rw (c, b, a) (simp append_assoc)

-- ---- bytes

pub bytes_joined : (a b : List ℕ) → bytes_in (a ++ b) ≡ bytes_in a + bytes_in b
bytes_joined [] b = omega arith
bytes_joined (c ∷ cs) b =
    let more = bytes_joined cs b in
    let first : length (encode_utf8 c ++ encode_utf8_all cs) ≡ length (encode_utf8 c) + length (encode_utf8_all cs) = length-append (encode_utf8 c) (encode_utf8_all cs) in
    let whole : length (encode_utf8 c ++ encode_utf8_all (cs ++ b)) ≡ length (encode_utf8 c) + length (encode_utf8_all (cs ++ b)) = length-append (encode_utf8 c) (encode_utf8_all (cs ++ b)) in
    omega (arith, more, first, whole)

-- a size and one piece more
pub with_piece : (size first second : ℕ) (a b : List ℕ) → first ≡ size + bytes_in a → second ≡ first + bytes_in b → second ≡ size + bytes_in (a ++ b)
with_piece size first second a b one two = let joined = bytes_joined a b in omega (arith, one, two, joined)

pub two_sized : (size a b c d e : ℕ) (word first second : List ℕ) → a ≡ size + bytes_in first → b ≡ a + bytes_in word → c ≡ b + bytes_in (codes "(")
    → d ≡ c + bytes_in second → e ≡ d + bytes_in (codes ")") → e ≡ size + bytes_in (two_texts word first second)
two_sized size a b c d e word first second one two three four five =
    let closed = bytes_joined second (codes ")") in
    let opened = bytes_joined (codes "(") (second ++ codes ")") in
    let worded = bytes_joined word (codes "(" ++ (second ++ codes ")")) in
    let whole = bytes_joined first (word ++ (codes "(" ++ (second ++ codes ")"))) in
    omega (arith, one, two, three, four, five, closed, opened, worded, whole)

pub enclosed_sized : (size first second third : ℕ) (text : List ℕ) (so : Bool) → first ≡ size + bytes_in (piece_if so (codes "(")) → second ≡ first + bytes_in text
    → third ≡ second + bytes_in (piece_if so (codes ")")) → third ≡ size + bytes_in (enclosed_if so text)
enclosed_sized size first second third text so a b c =
    let outer = bytes_joined (piece_if so (codes "(")) (text ++ piece_if so (codes ")")) in
    let inner = bytes_joined text (piece_if so (codes ")")) in
    omega (arith, a, b, c, outer, inner)

module _ (fields : List Field) (at : Standing) where
  pub size_goes : (word : List ℕ) (behind : Bool) (ts : List Tree) (i : ℕ) (t : Tree) (sum first second whole : ℕ) → i < length ts → t ≡ get_or ts i t
      → first ≡ sum + bytes_in (piece_if behind word) → second ≡ first + bytes_in (tree_text fields at (tree_view t))
      → sum + bytes_in (row_text word behind (items_text fields at (drop i ts))) ≡ whole
      → second + bytes_in (row_text word true (items_text fields at (drop (i + 1) ts))) ≡ whole
  size_goes word behind ts i t sum first second whole within is one two h =
      let rest = row_text word true (items_text fields at (drop (i + 1) ts)) in
      let text = text_at fields at t in
      let outer = bytes_joined (piece_if behind word) (text ++ rest) in
      let inner = bytes_joined text rest in
      let left : sum + bytes_in (piece_if behind word ++ (text ++ rest)) ≡ whole
      = ap (λ (texts : List (List ℕ)). sum + bytes_in (row_text word behind texts)) (sym (next_of (text_at fields at) ts i t within is)) ∙ h in
      omega (arith, one, two, outer, inner, left)

  pub size_ends : (word : List ℕ) (behind : Bool) (ts : List Tree) (i sum whole : ℕ) → length ts ≤ i
      → sum + bytes_in (row_text word behind (items_text fields at (drop i ts))) ≡ whole → sum ≡ whole
  size_ends word behind ts i sum whole past h =
      let left : sum + 0 ≡ whole = ap (λ (texts : List (List ℕ)). sum + bytes_in (row_text word behind texts)) (sym (none_of (text_at fields at) ts i past)) ∙ h in
      omega (arith, left)
