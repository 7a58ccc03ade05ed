-- The text of a tree, part by part, is its layout's.
use Rattle.std.proofs.Common.{ℕ, ◌≡◌, refl, sym, ◌∙◌, ap, Bool, true, false, ◌&&◌, List, [], ◌∷◌, ◌++◌, codes, append_assoc, append-nil, subst}
use Rattle.std.specs.Prelude.{if◌then◌else◌, map, ℤ, Option}
use Rattle.std.specs.Fmt.{signed_decimal}
use Rattle.std.specs.List.{flat_map}
use Rattle.event_schema.specs.declared.schema.Field.{Field}
use Rattle.event_schema.specs.declared.schema.FieldKind.{FieldKind}
use Rattle.sig_strings.specs.declared.part.Part.{Part}
use Rattle.sig_strings.specs.declared.part.Part.TheVariants as parts
use Rattle.lucene_lang.specs.declared.query.Glyph.{Glyph}
use Rattle.lucene_lang.specs.declared.query.Glyph.TheVariants.{Char, One, Run}
use Rattle.lucene_lang.specs.declared.query.Word.TheVariants.{And}
use Rattle.lucene_lang.specs.declared.written.Written.TheVariants.{Bare, Escaped}
use Rattle.lucene_lang.specs.Grammar.{Group, joined, sought, a_term, a_range}
use Rattle.lucene_layout.specs.Escaped.{is_special, char_written, glyph_written, as_char, pattern_written, name_written, word_escaped, name_for, term_for, end_for}
use Rattle.lucene_layout.specs.Layout.{written, written_piece, text_value, text_leaf, text_group, text_clause, text_atom}
use Rattle.lucene_layout.specs.Trees.{Tree, all, any, negated, Trees, no_trees, a_tree, form, some_of, each_of, layout, is_forbidden, all_forbidden, with_everything, behind_everything}
use Rattle.backend_core.specs.FieldAt.{kind_at, name_at}
use Rattle.backend_core.specs.Sound.{IsSoundPattern, IsSoundTest, IsSound, AreSound}
use Rattle.backend_core.specs.Trees.{Plain, Plains, no_parts, a_part}
use Rattle.backend_core.specs.Trees as trees
use Rattle.backend_core.specs.declared.tree.LeafTest.{LeafTest}
use Rattle.backend_core.specs.declared.tree.LeafTest.TheVariants as tests
use Rattle.backend_core.specs.declared.tree.Op.{Op}
use Rattle.backend_core.specs.declared.tree.Op.TheVariants as ops
use Rattle.lucene_writer.specs.declared.place.Standing.{Standing}
use Rattle.lucene_writer.specs.declared.place.Standing.TheVariants.{Whole, Alone, InAnd}
use Rattle.lucene_writer.specs.Glyphs.{glyphs_of}
use Rattle.lucene_writer.specs.Told.{searched, Parts, one_part, term_leaf, has_leaf, some_leaf, span_of, range_leaf, pattern_parts, never_parts, test_parts, joined_trees, Told, told, told_tree, each_told, some_told}
use Rattle.lucene_writer.specs.Pieces.{char_sign, part_sign, pattern_text, plain_text, has_text, not_text, empty_text, fits_text, range_start, range_end, compare_text, test_text, never_text, piece_if, is_denied, is_denied_test, are_denied, tree_text, parts_text}

-- ---- characters

char_piece : (c : ℕ) → written_piece (char_written c) ≡ char_sign c
char_piece c = by (is_special c) where
  by : (b : Bool) → written_piece (if b then Escaped c else Bare c) ≡ (if b then 92 ∷ c ∷ [] else c ∷ [])
  by true = refl
  by false = refl

chars_written : (cs : List ℕ) → written (map glyph_written (map as_char cs)) ≡ flat_map char_sign cs
chars_written [] = refl
chars_written (c ∷ cs) =
    ap (λ (t : List ℕ). t ++ written (map glyph_written (map as_char cs))) (char_piece c) ∙ ap (λ (t : List ℕ). char_sign c ++ t) (chars_written cs)

parts_written : (ps : List Part) → written (map glyph_written (glyphs_of ps)) ≡ flat_map part_sign ps
parts_written [] = refl
parts_written (parts.Char c ∷ ps) =
    ap (λ (t : List ℕ). t ++ written (map glyph_written (glyphs_of ps))) (char_piece c) ∙ ap (λ (t : List ℕ). char_sign c ++ t) (parts_written ps)
parts_written (parts.One ∷ ps) = ap (λ (t : List ℕ). 63 ∷ t) (parts_written ps)
parts_written (parts.Run ∷ ps) = ap (λ (t : List ℕ). 42 ∷ t) (parts_written ps)
parts_written (parts.Dash ∷ ps) = parts_written ps
parts_written (parts.Hole name ∷ ps) = parts_written ps

-- ---- chains of an all

abbrev pub part_text : Tree → List ℕ
part_text t = text_clause (form t).part

abbrev pub behind_text : Trees → List ℕ
behind_text no_trees = []
behind_text (a_tree t ts) = codes " AND " ++ (part_text t ++ behind_text ts)

abbrev or_behind : Trees → List ℕ
or_behind no_trees = []
or_behind (a_tree t ts) = codes " OR " ++ (text_atom (form t).alone ++ or_behind ts)

abbrev pub denied : Tree → Bool
denied t = is_forbidden (form t).part

abbrev pub denied_behind : Trees → Bool
denied_behind no_trees = true
denied_behind (a_tree t ts) = denied t && denied_behind ts

pub each_text : (u : Tree) (ts : Trees) → text_group (each_of (form u) ts) ≡ part_text u ++ behind_text ts
each_text u no_trees = sym (append-nil (part_text u))
each_text u (a_tree t ts) = ap (λ (x : List ℕ). part_text u ++ (codes " AND " ++ x)) (each_text t ts)

some_text : (u : Tree) (ts : Trees) → text_group (some_of (form u) ts) ≡ text_atom (form u).alone ++ or_behind ts
some_text u no_trees = sym (append-nil (text_atom (form u).alone))
some_text u (a_tree t ts) = ap (λ (x : List ℕ). text_atom (form u).alone ++ (codes " OR " ++ x)) (some_text t ts)

pub each_denied : (u : Tree) (ts : Trees) → all_forbidden (each_of (form u) ts) ≡ (denied u && denied_behind ts)
each_denied u no_trees = sym (and_true (denied u)) where
  and_true : (b : Bool) → (b && true) ≡ b
  and_true true = refl
  and_true false = refl
each_denied u (a_tree t ts) = ap (λ (b : Bool). denied u && b) (each_denied t ts)

with_text : (g : Group) → text_group (with_everything g) ≡ piece_if (all_forbidden g) (codes "*:* AND ") ++ text_group g
with_text g = by (all_forbidden g) where
  by : (b : Bool) → text_group (if b then behind_everything g else g) ≡ piece_if b (codes "*:* AND ") ++ text_group g
  by true = refl
  by false = refl

joined_text : (a b : Trees) → behind_text (joined_trees a b) ≡ behind_text a ++ behind_text b
joined_text no_trees b = refl
joined_text (a_tree t a) b =
    ap (λ (x : List ℕ). codes " AND " ++ (part_text t ++ x)) (joined_text a b)
    ∙ ap (λ (x : List ℕ). codes " AND " ++ x) (sym (append_assoc (part_text t) (behind_text a) (behind_text b)))

pub joined_denied : (a b : Trees) → denied_behind (joined_trees a b) ≡ (denied_behind a && denied_behind b)
joined_denied no_trees b = refl
joined_denied (a_tree t a) b = ap (λ (x : Bool). denied t && x) (joined_denied a b) ∙ assoc (denied t) (denied_behind a) (denied_behind b) where
  assoc : (x y z : Bool) → (x && (y && z)) ≡ ((x && y) && z)
  assoc true y z = refl
  assoc false y z = refl

pub assoc : (x y z : Bool) → (x && (y && z)) ≡ ((x && y) && z)
assoc true y z = refl
assoc false y z = refl

-- trees of which there is one at least
abbrev pub IsSome : Trees → Type 0
IsSome ts = (u : Tree) × (more : Trees) × (ts ≡ a_tree u more)

pub a_tree_of : (others : Trees) (u : Tree) (us : Trees) → IsSome (joined_trees others (a_tree u us))
a_tree_of no_trees u us = (u, us, refl)
a_tree_of (a_tree t ts) u us = (t, joined_trees ts (a_tree u us), refl)

-- an all of two clauses or more
abbrev AllTexts : Tree → Trees → List ℕ → Bool → Type 0
AllTexts t ts row denies =
    (piece_if denies (codes "*:* AND ") ++ row ≡ text_group (form (all t ts)).whole)
    × (codes "(" ++ ((piece_if denies (codes "*:* AND ") ++ row) ++ codes ")") ≡ text_atom (form (all t ts)).alone)
    × (codes "(" ++ ((piece_if denies (codes "*:* AND ") ++ row) ++ codes ")") ≡ part_text (all t ts)) × (false ≡ denied (all t ts))

whole_all : (t : Tree) (ts : Trees) → IsSome ts → (row : List ℕ) (denies : Bool) → row ≡ part_text t ++ behind_text ts → denies ≡ (denied t && denied_behind ts)
    → AllTexts t ts row denies
whole_all t ts (u, more, is) row denies same all_denied =
    subst (λ (us : Trees). AllTexts t us row denies) (sym is) (
    let group = joined (form t).part And (each_of (form u) more) in
    let text : row ≡ text_group group = same ∙ (ap (λ (us : Trees). part_text t ++ behind_text us) is
    ∙ ap (λ (v : List ℕ). part_text t ++ (codes " AND " ++ v)) (sym (each_text u more))) in
    let none : denies ≡ all_forbidden group = all_denied ∙ (ap (λ (us : Trees). denied t && denied_behind us) is
    ∙ ap (λ (b : Bool). denied t && b) (sym (each_denied u more))) in
    let whole : piece_if denies (codes "*:* AND ") ++ row ≡ text_group (with_everything group)
    = ap (λ (b : Bool). piece_if b (codes "*:* AND ") ++ row) none
    ∙ (ap (λ (v : List ℕ). piece_if (all_forbidden group) (codes "*:* AND ") ++ v) text ∙ sym (with_text group)) in (
      whole,
      ap (λ (v : List ℕ). codes "(" ++ (v ++ codes ")")) whole,
      ap (λ (v : List ℕ). codes "(" ++ (v ++ codes ")")) whole,
      refl,
    )
    )

-- ---- what is told of a tree, and its text

pub record Texts (fields : List Field) (t : Plain) (x : Told) : Type 0 where
  pub whole : tree_text fields Whole t ≡ text_group (form x.alone).whole
  pub alone : tree_text fields Alone t ≡ text_atom (form x.alone).alone
  pub in_and : tree_text fields InAnd t ≡ part_text x.parts.first ++ behind_text x.parts.others
  pub denies : is_denied t ≡ (denied x.parts.first && denied_behind x.parts.others)

module _ (fields : List Field)
    (pattern_is : (gs : List Glyph) → written (pattern_written gs) ≡ word_escaped (written (map glyph_written gs)))
    (leaf_is : (cs : List ℕ) (gs : List Glyph)
    → text_leaf (sought (name_for cs) (a_term (term_for gs))) ≡ written (name_written cs) ++ (58 ∷ written (pattern_written gs)))
    (range_is : (cs : List ℕ) (b : Bool) (low high : Option ℤ) (c : Bool)
    → text_leaf (sought (name_for cs) (a_range b (end_for low) (end_for high) c))
    ≡ written (name_written cs) ++ (58 ∷ text_value (a_range b (end_for low) (end_for high) c)))
  where
    plain_is : (cs : List ℕ) → written (name_written cs) ≡ plain_text cs
    plain_is cs = pattern_is (map as_char cs) ∙ ap word_escaped (chars_written cs)

    term_text : (n : List ℕ) (gs : List Glyph)
        → text_leaf (sought (name_for n) (a_term (term_for gs))) ≡ plain_text n ++ (58 ∷ word_escaped (written (map glyph_written gs)))
    term_text n gs =
        leaf_is n gs
        ∙ (ap (λ (t : List ℕ). t ++ (58 ∷ written (pattern_written gs))) (plain_is n)
        ∙ ap (λ (t : List ℕ). plain_text n ++ (58 ∷ t)) (pattern_is gs))

    module _ (n : List ℕ) where
      has_is : text_leaf (sought (name_for n) (a_term (term_for (Run ∷ [])))) ≡ has_text n
      has_is = term_text n (Run ∷ [])

      some_is : text_leaf (sought (name_for n) (a_term (term_for (One ∷ Run ∷ [])))) ≡ plain_text n ++ codes ":?*"
      some_is = term_text n (One ∷ Run ∷ [])

      abbrev TestTexts : (Standing → List ℕ) → Bool → Parts → Type 0
      TestTexts text denies p =
          (text Whole ≡ text_group (form (all p.first p.others)).whole) × (text Alone ≡ text_atom (form (all p.first p.others)).alone)
          × (text InAnd ≡ part_text p.first ++ behind_text p.others) × (denies ≡ (denied p.first && denied_behind p.others))

      has_texts : TestTexts (λ at. has_text n) false (one_part (has_leaf n))
      has_texts = (sym has_is, sym has_is, sym (append-nil (part_text (has_leaf n)) ∙ has_is), refl)

      absent_texts : TestTexts (λ at. not_text at (has_text n)) true (one_part (negated (has_leaf n)))
      absent_texts = (
        append-nil _ ∙ ap (λ (t : List ℕ). codes "*:* AND NOT " ++ t) (sym has_is),
        ap (λ (t : List ℕ). codes "(*:* AND NOT " ++ (t ++ codes ")")) (sym has_is),
        append-nil _ ∙ (ap (λ (t : List ℕ). codes "NOT " ++ t) (sym has_is) ∙ sym (append-nil _)),
        refl,
      )

      empty_texts : TestTexts (λ at. empty_text at n) false (pattern_parts n [])
      empty_texts =
          let plain : has_text n ++ (codes " AND NOT " ++ (plain_text n ++ codes ":?*"))
          ≡ text_group (form (all (has_leaf n) (a_tree (negated (some_leaf n)) no_trees))).whole
          = ap (λ (t : List ℕ). t ++ (codes " AND NOT " ++ (plain_text n ++ codes ":?*"))) (sym has_is)
          ∙ ap (λ (t : List ℕ). text_leaf (sought (name_for n) (a_term (term_for (Run ∷ [])))) ++ (codes " AND NOT " ++ t)) (sym some_is) in (
            append-nil _ ∙ plain,
            ap (λ (t : List ℕ). codes "(" ++ (t ++ codes ")")) plain,
            append-nil _ ∙ (plain ∙ ap (λ (t : List ℕ). part_text (has_leaf n) ++ (codes " AND NOT " ++ t)) (sym (append-nil _))),
            refl,
          )

      term_texts : (p : Part) (ps : List Part) (g : Glyph) (gs : List Glyph) → glyphs_of (p ∷ ps) ≡ g ∷ gs
          → TestTexts (λ at. fits_text at n (p ∷ ps)) false (pattern_parts n (glyphs_of (p ∷ ps)))
      term_texts p ps g gs same =
          let is : plain_text n ++ (codes ":" ++ pattern_text (p ∷ ps)) ≡ text_leaf (sought (name_for n) (a_term (term_for (g ∷ gs))))
          = ap (λ (t : List ℕ). plain_text n ++ (58 ∷ word_escaped t)) (sym (parts_written (p ∷ ps)) ∙ ap (λ (hs : List Glyph). written (map glyph_written hs)) same)
          ∙ sym (term_text n (g ∷ gs)) in
          subst (λ (hs : List Glyph). TestTexts (λ at. fits_text at n (p ∷ ps)) false (pattern_parts n hs)) (sym same)
          (is, is, is ∙ sym (append-nil _), refl)

      pattern_texts : (ps : List Part) → IsSoundPattern ps → TestTexts (λ at. fits_text at n ps) false (pattern_parts n (glyphs_of ps))
      pattern_texts [] s = empty_texts
      pattern_texts (parts.Char c ∷ ps) s = term_texts (parts.Char c) ps (Char c) (glyphs_of ps) refl
      pattern_texts (parts.One ∷ ps) s = term_texts parts.One ps One (glyphs_of ps) refl
      pattern_texts (parts.Run ∷ ps) s = term_texts parts.Run ps Run (glyphs_of ps) refl
      pattern_texts (parts.Dash ∷ ps) s = let h = s.written in absurd cc
      pattern_texts (parts.Hole name ∷ ps) s = let h = s.written in absurd cc

      equals_texts : (z : ℤ) → TestTexts (λ at. plain_text n ++ (codes ":" ++ plain_text (signed_decimal z))) false (one_part (term_leaf n (map as_char (signed_decimal z))))
      equals_texts z =
          let is : plain_text n ++ (codes ":" ++ plain_text (signed_decimal z)) ≡ text_leaf (sought (name_for n) (a_term (term_for (map as_char (signed_decimal z)))))
          = ap (λ (t : List ℕ). plain_text n ++ (58 ∷ word_escaped t)) (sym (chars_written (signed_decimal z))) ∙ sym (term_text n (map as_char (signed_decimal z))) in
          (is, is, is ∙ sym (append-nil _), refl)

      compare_texts : (op : Op) (z : ℤ) → TestTexts (λ at. compare_text n op z) false (one_part (range_leaf n (span_of op z)))
      compare_texts op z = (is, is, is ∙ sym (append-nil _), refl) where
        value : (o : Op) → range_start o ++ (signed_decimal z ++ range_end o)
            ≡ text_value (a_range (span_of o z).low_in (end_for (span_of o z).low) (end_for (span_of o z).high) (span_of o z).high_in)
        value ops.Lt = refl
        value ops.Lte = refl
        value ops.Gt = refl
        value ops.Gte = refl

        is : compare_text n op z
            ≡ text_leaf (sought (name_for n) (a_range (span_of op z).low_in (end_for (span_of op z).low) (end_for (span_of op z).high) (span_of op z).high_in))
        is =
            ap (λ (t : List ℕ). plain_text n ++ (58 ∷ t)) (value op)
            ∙ (ap (λ (t : List ℕ). t ++ (58 ∷ text_value (a_range (span_of op z).low_in (end_for (span_of op z).low) (end_for (span_of op z).high) (span_of op z).high_in))) (sym (plain_is n))
            ∙ sym (range_is n (span_of op z).low_in (span_of op z).low (span_of op z).high (span_of op z).high_in))

    never_texts : TestTexts [] never_text false never_parts
    never_texts = (refl, refl, refl, refl)

    test_texts : (n : List ℕ) (kind : FieldKind) (test : LeafTest) → IsSoundTest fields kind test → TestTexts n (λ at. test_text at n test) (is_denied_test test) (test_parts n test)
    test_texts n kind tests.Has s = has_texts n
    test_texts n kind tests.Absent s = absent_texts n
    test_texts n kind (tests.Fits ps cased) s = pattern_texts (searched cased n) ps s.0
    test_texts n kind (tests.Equals z) s = equals_texts n z
    test_texts n kind (tests.Compare op z) s = compare_texts n op z
    test_texts n kind (tests.SameAs other) s = never_texts
    test_texts n kind (tests.Finds expression) s = never_texts

    -- ---- trees

    abbrev Are : Plain → Type 0
    Are t = Texts fields t (told fields t)

    -- a tree that makes one clause of itself
    one_clause : (t : Plain) (x : Tree) → told fields t ≡ told_tree x → tree_text fields Whole t ≡ text_group (form x).whole → tree_text fields Alone t ≡ text_atom (form x).alone
        → tree_text fields InAnd t ≡ part_text x → is_denied t ≡ denied x → Are t
    one_clause t x is a b c d = subst (Texts fields t) (sym is) (record { whole = a; alone = b; in_and = c ∙ sym (append-nil (part_text x)); denies = d ∙ sym (and_true (denied x)) }) where
      and_true : (b : Bool) → (b && true) ≡ b
      and_true true = refl
      and_true false = refl

    mutual
      pub texts_are : (t : Plain) → IsSound fields t → Are t
      texts_are (trees.leaf l) s =
          let x = test_texts (name_at fields l.field) (kind_at fields l.field) l.test s.1 in
          record { whole = x.0; alone = x.1; in_and = x.2; denies = x.3 }
      texts_are trees.never s = record { whole = never_texts.0; alone = never_texts.1; in_and = never_texts.2; denies = never_texts.3 }
      texts_are (trees.negated t) s =
          let x = texts_are t s in
          let inner = x.alone in
          one_clause (trees.negated t) (negated (told fields t).alone) refl
          (append-nil _ ∙ ap (λ (u : List ℕ). codes "*:* AND NOT " ++ u) inner)
          (ap (λ (u : List ℕ). codes "(*:* AND NOT " ++ (u ++ codes ")")) inner)
          (append-nil _ ∙ ap (λ (u : List ℕ). codes "NOT " ++ u) inner)
          refl
      texts_are (trees.any no_parts) s = absurd s.0
      texts_are (trees.any (a_part t no_parts)) s = absurd s.0
      texts_are (trees.any (a_part t (a_part u ts))) s =
          let x = texts_are t s.1.0 in
          let more = or_row (a_part u ts) s.1.1 in
          let row : parts_text fields Alone (codes " OR ") false (a_part t (a_part u ts))
          ≡ text_group (form (any (told fields t).alone (some_told fields (a_part u ts)))).whole
          = ap (λ (v : List ℕ). v ++ parts_text fields Alone (codes " OR ") true (a_part u ts)) x.alone
          ∙ (ap (λ (v : List ℕ). text_atom (form (told fields t).alone).alone ++ v) more
          ∙ ap (λ (v : List ℕ). text_atom (form (told fields t).alone).alone ++ (codes " OR " ++ v)) (sym (some_text (told fields u).alone (some_told fields ts)))) in
          one_clause (trees.any (a_part t (a_part u ts))) (any (told fields t).alone (some_told fields (a_part u ts))) refl
          (append-nil _ ∙ row)
          (ap (λ (v : List ℕ). codes "(" ++ (v ++ codes ")")) row)
          (ap (λ (v : List ℕ). codes "(" ++ (v ++ codes ")")) row)
          refl
      texts_are (trees.all no_parts) s = absurd s.0
      texts_are (trees.all (a_part t no_parts)) s = absurd s.0
      texts_are (trees.all (a_part t (a_part u ts))) s =
          let x = texts_are t s.1.0 in
          let y = texts_are u s.1.1.0 in
          let p = (told fields t).parts in
          let rest = each_told fields (a_part u ts) in
          let more = and_row (a_part u ts) s.1.1 in
          let row : parts_text fields InAnd (codes " AND ") false (a_part t (a_part u ts)) ≡ part_text p.first ++ behind_text (joined_trees p.others rest)
          = ap (λ (v : List ℕ). v ++ parts_text fields InAnd (codes " AND ") true (a_part u ts)) x.in_and
          ∙ (append_assoc (part_text p.first) (behind_text p.others) (parts_text fields InAnd (codes " AND ") true (a_part u ts))
          ∙ (ap (λ (v : List ℕ). part_text p.first ++ (behind_text p.others ++ v)) more.0
          ∙ ap (λ (v : List ℕ). part_text p.first ++ v) (sym (joined_text p.others rest)))) in
          let denies : are_denied (a_part t (a_part u ts)) ≡ (denied p.first && denied_behind (joined_trees p.others rest))
          = ap (λ (b : Bool). b && are_denied (a_part u ts)) x.denies
          ∙ (ap (λ (b : Bool). (denied p.first && denied_behind p.others) && b) more.1
          ∙ (sym (assoc (denied p.first) (denied_behind p.others) (denied_behind rest)) ∙ ap (λ (b : Bool). denied p.first && b) (sym (joined_denied p.others rest)))) in
          let whole = whole_all p.first (joined_trees p.others rest) (a_tree_of p.others (told fields u).parts.first (joined_trees (told fields u).parts.others (each_told fields ts)))
          (parts_text fields InAnd (codes " AND ") false (a_part t (a_part u ts))) (are_denied (a_part t (a_part u ts))) row denies in
          one_clause (trees.all (a_part t (a_part u ts))) (all p.first (joined_trees p.others rest)) refl
          (append-nil _ ∙ whole.0) whole.1 whole.2 whole.3

      or_row : (ts : Plains) → AreSound fields ts → parts_text fields Alone (codes " OR ") true ts ≡ or_behind (some_told fields ts)
      or_row no_parts s = refl
      or_row (a_part t ts) s =
          let x = texts_are t s.0 in
          ap (λ (v : List ℕ). codes " OR " ++ (v ++ parts_text fields Alone (codes " OR ") true ts)) x.alone
          ∙ ap (λ (v : List ℕ). codes " OR " ++ (text_atom (form (told fields t).alone).alone ++ v)) (or_row ts s.1)

      pub and_row : (ts : Plains) → AreSound fields ts
          → (parts_text fields InAnd (codes " AND ") true ts ≡ behind_text (each_told fields ts)) × (are_denied ts ≡ denied_behind (each_told fields ts))
      and_row no_parts s = (refl, refl)
      and_row (a_part t ts) s =
          let x = texts_are t s.0 in
          let more = and_row ts s.1 in
          let p = (told fields t).parts in
          let rest = each_told fields ts in (
            ap (λ (v : List ℕ). codes " AND " ++ (v ++ parts_text fields InAnd (codes " AND ") true ts)) x.in_and
                ∙ ap (λ (v : List ℕ). codes " AND " ++ v) (append_assoc (part_text p.first) (behind_text p.others) (parts_text fields InAnd (codes " AND ") true ts)
                ∙ (ap (λ (v : List ℕ). part_text p.first ++ (behind_text p.others ++ v)) more.0
                ∙ ap (λ (v : List ℕ). part_text p.first ++ v) (sym (joined_text p.others rest)))),
            ap (λ (b : Bool). b && are_denied ts) x.denies
                ∙ (ap (λ (b : Bool). (denied p.first && denied_behind p.others) && b) more.1
                ∙ (sym (assoc (denied p.first) (denied_behind p.others) (denied_behind rest)) ∙ ap (λ (b : Bool). denied p.first && b) (sym (joined_denied p.others rest)))),
          )

    pub text_is : (t : Plain) → IsSound fields t → tree_text fields Whole t ≡ text_group (layout (told fields t).alone)
    text_is t s = (texts_are t s).whole
