-- A written tree is sound, and its value is true exactly where the tree holds.
use Rattle.std.proofs.Common.{ℕ, zero, suc, ◌≡◌, ◌<◌, ◌≤◌, refl, sym, ◌∙◌, ap, Bool, true, false, List, [], ◌∷◌, ◌++◌, codes, length, ◌⊎◌, inl, inr, subst, arith}
use Rattle.std.specs.Prelude.{◌&&◌, ◌||◌, not, ◌↔◌, Option, Some, None, ℤ, ◌≤ℤ◌, ◌<ℤ◌, int_le, int_lt, map}
use Rattle.std.proofs.Math.Dec.{T}
use Rattle.std.specs.Int.Signed.{le_z_yes, lt_z_yes}
use Rattle.std.specs.Fmt.{signed_decimal}
use Rattle.std.specs.Str.{all_scalars}
use Rattle.std.proofs.Math.Utf8.{scalar}
use Rattle.std.proofs.lemmas.Bool.{and_parts}
use Rattle.event_schema.specs.Events.{IsEvent, IsWholeNumber}
use Rattle.event_schema.specs.Lists.{SomeOf, HasElement, HasNoElement}
use Rattle.event_schema.specs.Rows.{field_values, value_text}
use Rattle.event_schema.specs.Schemas.{twin}
use Rattle.event_schema.specs.declared.schema.Field.{Field}
use Rattle.event_schema.specs.declared.schema.FieldKind.TheVariants as kinds
use Rattle.event_schema.specs.declared.value.Value.{Value}
use Rattle.event_schema.specs.declared.value.Value.TheVariants as values
use Rattle.sig_strings.specs.Edits.{all_written, plain_text}
use Rattle.sig_strings.specs.Fits.{Fits}
use Rattle.sig_strings.specs.declared.part.Part.{Part}
use Rattle.sig_strings.specs.declared.part.Part.TheVariants as parts
use Rattle.lucene_lang.specs.declared.query.Glyph.{Glyph}
use Rattle.lucene_lang.specs.declared.query.Glyph.TheVariants.{Char, One, Run}
use Rattle.lucene_lang.specs.Grammar.{everything, sought, a_term, a_range}
use Rattle.lucene_lang.specs.Query.{FieldName, named, OfField, Term, Range, found_in, leaf_of}
use Rattle.lucene_lang.specs.Faults.{is_ill, is_whole, is_whole_at}
use Rattle.lucene_lang.specs.Meaning.{atom_holds, term_fits, kept, kept_glyphs, is_above, is_below}
use Rattle.lucene_layout.specs.Escaped.{IsEnd, end_for, name_for, term_for, characters, as_char}
use Rattle.lucene_layout.specs.Trees.{Tree, leaf, all, any, negated, Trees, no_trees, a_tree, tree_value, all_trees, any_tree, EachLeaf, EachOfTrees}
use Rattle.lucene_layout.specs.Trees as lucene
use Rattle.backend_core.proofs.Checks as checks
use Rattle.backend_core.specs.Holds.{Stands, ValueStands, TestHolds, TreeHolds, EachHolds, OneHolds}
use Rattle.backend_core.specs.Lacks.{first_lack, leaf_refusal, lack_refusal, lacks_refusal}
use Rattle.backend_core.specs.FieldAt.{kind_at, name_at, is_many}
use Rattle.backend_core.specs.Sound.{IsSoundPattern, IsSoundTest, IsSound, AreSound}
use Rattle.backend_core.specs.Trees.{Plain, Plains, no_parts, a_part}
use Rattle.backend_core.specs.Trees as trees
use Rattle.backend_core.specs.declared.lack.Lack.{Lack}
use Rattle.backend_core.specs.declared.tree.Leaf.{Leaf}
use Rattle.backend_core.specs.declared.tree.LeafTest.{LeafTest}
use Rattle.backend_core.specs.declared.tree.LeafTest.TheVariants as tests
use Rattle.backend_core.specs.declared.tree.Op.{Op}
use Rattle.backend_core.specs.declared.tree.Op.TheVariants as ops
use Rattle.lucene_writer.specs.Glyphs.{glyphs_of}
use Rattle.lucene_writer.specs.Lacking.{is_cased, is_empty, pattern_asks, test_asks, lucene_lacks}
use Rattle.lucene_writer.specs.Schemas.{is_named, AreNamed, IsIndexed}
use Rattle.lucene_writer.specs.Told.{searched, Parts, one_part, term_leaf, has_leaf, some_leaf, Span, span_of, range_leaf, pattern_parts, never_parts, test_parts, joined_trees, Told, told, each_told, some_told}

-- ---- true exactly where H holds

abbrev pub Is : Bool → Type 0 → Type 0
Is true H = H
Is false H = H → ⊥

pub is_so : (b : Bool) (H : Type 0) → Is b H → (b ≡ true) ↔ H
is_so true H h = (λ e. h, λ x. refl)
is_so false H h = (λ e. absurd cc, λ x. absurd (h x))

from_so : (b : Bool) (H : Type 0) → (b ≡ true) ↔ H → Is b H
from_so true H h = h.0 refl
from_so false H h = λ x. let e = h.1 x in absurd cc

is_same : (b : Bool) (A B : Type 0) → A ↔ B → Is b A → Is b B
is_same true A B same x = same.0 x
is_same false A B same x = λ y. x (same.1 y)

both_is : (a b : Bool) (A B : Type 0) → Is a A → Is b B → Is (a && b) (A × B)
both_is true true A B x y = (x, y)
both_is true false A B x y = λ h. y h.1
both_is false b A B x y = λ h. x h.0

either_is : (a b : Bool) (A B : Type 0) → Is a A → Is b B → Is (a || b) (A ⊎ B)
either_is true b A B x y = inl x
either_is false true A B x y = inr y
either_is false false A B x y = λ h. elim h [ inl a ↦ x a | inr b ↦ y b ]

not_is : (b : Bool) (H : Type 0) → Is b H → Is (not b) (H → ⊥)
not_is true H h = λ n. n h
not_is false H h = h

and_true : (b : Bool) → (b && true) ≡ b
and_true true = refl
and_true false = refl

and_assoc : (a b c : Bool) → (a && (b && c)) ≡ ((a && b) && c)
and_assoc true b c = refl
and_assoc false b c = refl

-- ---- names and kinds

scalars_joined : (a b : List ℕ) → all_scalars a ≡ true → all_scalars b ≡ true → all_scalars (a ++ b) ≡ true
scalars_joined [] b first second = second
scalars_joined (c ∷ a) b first second =
    let each = and_parts (scalar c) (all_scalars a) first in
    let more = scalars_joined a b each.1 second in
    let here = each.0 in
    rw here more

twin_named : (n : List ℕ) → is_named n ≡ true → is_named (twin n) ≡ true
twin_named [] h = absurd cc
twin_named (c ∷ cs) h = scalars_joined (c ∷ cs) (codes ".cased") h refl

name_named : (fields : List Field) (k : ℕ) → AreNamed fields → k < length fields → is_named (name_at fields k) ≡ true
name_named [] k names h = absurd (omega (arith, h))
name_named (field ∷ fields) zero names h = names.0
name_named (field ∷ fields) (suc k) names h = name_named fields k names.1 (omega (arith, h))

searched_named : (cased : Bool) (n : List ℕ) → is_named n ≡ true → is_named (searched cased n) ≡ true
searched_named true n h = twin_named n h
searched_named false n h = h

whole_at : (fields : List Field) (k : ℕ) → kind_at fields k ≡ kinds.Whole → is_whole_at fields k ≡ true
whole_at [] k h = absurd cc
whole_at (field ∷ fields) zero h = ap is_whole h
whole_at (field ∷ fields) (suc k) h = whole_at fields k h

-- at most one value where the field isn't one of several
one_value : (fields : List Field) (row : List (List Value)) (k : ℕ) → IsEvent fields row → is_many fields k ≡ false → length (field_values row k) ≤ 1
one_value [] [] k event few = omega arith
one_value [] (vs ∷ row) k event few = absurd event
one_value (field ∷ fields) [] k event few = absurd event
one_value (field ∷ fields) (vs ∷ row) zero event few = event.0.few few
one_value (field ∷ fields) (vs ∷ row) (suc k) event few = one_value fields row k event.1 few

-- ---- ranges

ends_whole : (op : Op) (z : ℤ) → IsWholeNumber z → IsEnd (span_of op z).low × IsEnd (span_of op z).high
ends_whole ops.Lt z whole = (tt, whole)
ends_whole ops.Lte z whole = (tt, whole)
ends_whole ops.Gt z whole = (whole, tt)
ends_whole ops.Gte z whole = (whole, tt)

-- a number that is above the one end and below the other
abbrev InSpan : Span → Value → Type 0
InSpan p v = (n : ℤ) × (v ≡ values.Whole n) × (is_above p.low p.low_in n ≡ true) × (is_below p.high p.high_in n ≡ true)

holds_true : (b : Bool) → T b → b ≡ true
holds_true true h = refl
holds_true false h = absurd h

at_most : (a b : ℤ) → (int_le a b ≡ true) ↔ (a ≤ℤ b)
at_most a b = ((λ e. le_z_yes (subst T (sym e) tt)), (λ h. holds_true (int_le a b) h.le))

below : (a b : ℤ) → (int_lt a b ≡ true) ↔ (a <ℤ b)
below a b = ((λ e. lt_z_yes (subst T (sym e) tt)), (λ h. holds_true (int_lt a b) h.lt))

number_in : (op : Op) (z n : ℤ)
    → ((is_above (span_of op z).low (span_of op z).low_in n ≡ true) × (is_below (span_of op z).high (span_of op z).high_in n ≡ true)) ↔ Stands op n z
number_in ops.Lt z n = ((λ h. (below n z).0 h.1), (λ h. (refl, (below n z).1 h)))
number_in ops.Lte z n = ((λ h. (at_most n z).0 h.1), (λ h. (refl, (at_most n z).1 h)))
number_in ops.Gt z n = ((λ h. (below z n).0 h.0), (λ h. ((below z n).1 h, refl)))
number_in ops.Gte z n = ((λ h. (at_most z n).0 h.0), (λ h. ((at_most z n).1 h, refl)))

value_in : (op : Op) (z : ℤ) (v : Value) → InSpan (span_of op z) v ↔ ValueStands op z v
value_in op z (values.Text text) = ((λ h. let e = h.1 in absurd cc), (λ h. absurd h))
value_in op z (values.Whole n) = (
  λ h. (let same : n ≡ h.0 = cc in
      subst (λ (m : ℤ). Stands op m z) (sym same) ((number_in op z h.0).0 (h.2, h.3))),
  λ h. (let both = (number_in op z n).1 h in (n, refl, both.0, both.1)),
)

-- ---- what isn't lacking

asks_none : (cased whole empty : Bool) → first_lack (pattern_asks cased whole empty) ≡ None → (cased ≡ false) × (whole ≡ false) × (empty ≡ false)
asks_none false false false h = (refl, refl, refl)
asks_none false false true h = absurd cc
asks_none false true empty h = absurd cc
asks_none true whole empty h = absurd cc

leaf_none : (l : Leaf) (o : Option Lack) → leaf_refusal l o ≡ None → o ≡ None
leaf_none l None h = refl
leaf_none l (Some what) h = absurd cc

-- ---- patterns

pub same_characters : (ps : List Part) → characters (glyphs_of ps) ≡ plain_text ps
same_characters [] = refl
same_characters (parts.Char c ∷ ps) = ap (λ (cs : List ℕ). c ∷ cs) (same_characters ps)
same_characters (parts.One ∷ ps) = same_characters ps
same_characters (parts.Run ∷ ps) = same_characters ps
same_characters (parts.Dash ∷ ps) = same_characters ps
same_characters (parts.Hole name ∷ ps) = same_characters ps

chars_of : (cs : List ℕ) → characters (map as_char cs) ≡ cs
chars_of [] = refl
chars_of (c ∷ cs) = ap (λ (ds : List ℕ). c ∷ ds) (chars_of cs)

any_text : (text : List ℕ) → term_fits (Run ∷ []) text ≡ true
unfolding term_fits
any_text [] = refl
any_text (c ∷ cs) = any_text cs

-- the text of a value has a character
abbrev HasCharacter : Bool → Value → Type 0
HasCharacter cased v = term_fits (One ∷ Run ∷ []) (kept cased (value_text v)) ≡ true

no_character : (cased : Bool) (text : List ℕ) → (term_fits (One ∷ Run ∷ []) (kept cased text) ≡ true → ⊥) ↔ (text ≡ [])
unfolding term_fits
no_character cased [] = (λ h. refl, λ e x. let bad : false ≡ true = x in absurd cc)
no_character cased (c ∷ cs) = (λ h. absurd (h (any_text (kept cased cs))), λ e. absurd cc)

-- ---- values

some_mapped : (P Q : Value → Type 0) → ((v : Value) → P v ↔ Q v) → (vs : List Value) → SomeOf P vs ↔ SomeOf Q vs
some_mapped P Q same [] = (λ h. h, λ h. h)
some_mapped P Q same (v ∷ vs) =
    let s = same v in
    let more = some_mapped P Q same vs in (
      λ h. elim h [ inl here ↦ inl (s.0 here) | inr later ↦ inr (more.0 later) ],
      λ h. elim h [ inl here ↦ inl (s.1 here) | inr later ↦ inr (more.1 later) ],
    )

none_is : (vs : List Value) → (HasElement vs → ⊥) ↔ HasNoElement vs
none_is [] = (λ h. tt, λ h x. x)
none_is (v ∷ vs) = (λ h. h tt, λ h x. h)

-- of at most one value: there is one, and it has no character
empty_value : (cased : Bool) (vs : List Value) → length vs ≤ 1
    → (HasElement vs × (SomeOf (HasCharacter cased) vs → ⊥)) ↔ SomeOf (λ v. Fits [] (value_text v) cased) vs
empty_value cased [] few = (λ h. h.0, λ h. absurd h)
empty_value cased (v ∷ []) few =
    let is = no_character cased (value_text v) in (
      λ h. inl (is.0 (λ x. h.1 (inl x))),
      λ h. (tt, λ s. elim h [ inl e ↦ elim s [ inl x ↦ is.1 e x | inr y ↦ y ] | inr z ↦ z ]),
    )
empty_value cased (v ∷ w ∷ vs) few = absurd (omega (arith, few))

module _ (fields : List Field)
    (sound : (c : ℕ) (cs : List ℕ) (g : Glyph) (gs : List Glyph) (f : FieldName) → all_scalars (c ∷ cs) ≡ true → all_scalars (characters (g ∷ gs)) ≡ true
    → found_in fields (c ∷ cs) ≡ Some f → is_ill (is_whole_at fields f.field) (a_term (term_for (g ∷ gs))) ≡ false
    → lucene.IsSound fields (sought (name_for (c ∷ cs)) (a_term (term_for (g ∷ gs)))))
    (everything_sound : lucene.IsSound fields everything)
    (read : (c : ℕ) (cs : List ℕ) (g : Glyph) (gs : List Glyph) (f : FieldName) → all_scalars (c ∷ cs) ≡ true → all_scalars (characters (g ∷ gs)) ≡ true
    → found_in fields (c ∷ cs) ≡ Some f
    → leaf_of fields (sought (name_for (c ∷ cs)) (a_term (term_for (g ∷ gs)))) ≡ OfField f.field f.cased (Term (g ∷ gs)))
    (range_sound : (c : ℕ) (cs : List ℕ) (f : FieldName) (b : Bool) (low high : Option ℤ) (d : Bool) → all_scalars (c ∷ cs) ≡ true → found_in fields (c ∷ cs) ≡ Some f
    → is_whole_at fields f.field ≡ true → IsEnd low → IsEnd high → lucene.IsSound fields (sought (name_for (c ∷ cs)) (a_range b (end_for low) (end_for high) d)))
    (range_read : (c : ℕ) (cs : List ℕ) (f : FieldName) (b : Bool) (low high : Option ℤ) (d : Bool) → all_scalars (c ∷ cs) ≡ true → found_in fields (c ∷ cs) ≡ Some f
    → IsEnd low → IsEnd high → leaf_of fields (sought (name_for (c ∷ cs)) (a_range b (end_for low) (end_for high) d)) ≡ OfField f.field f.cased (Range low b high d))
    (star : is_ill true (a_term (term_for (Run ∷ []))) ≡ false)
    (number : (z : ℤ) → IsWholeNumber z → is_ill true (a_term (term_for (map as_char (signed_decimal z)))) ≡ false)
    (scalars : (z : ℤ) → IsWholeNumber z → (c : ℕ) × (cs : List ℕ) × (signed_decimal z ≡ c ∷ cs) × (all_scalars (c ∷ cs) ≡ true))
    (index : IsIndexed fields)
  where
    searched_found : (k : ℕ) (cased : Bool) → k < length fields → (cased && not (is_cased fields k)) ≡ false
        → found_in fields (searched cased (name_at fields k)) ≡ Some (named k cased)
    searched_found k false near may = index.found k near
    searched_found k true near may = index.twins k near (kept_so (is_cased fields k) may) where
      kept_so : (b : Bool) → (true && not b) ≡ false → b ≡ true
      kept_so true h = refl
      kept_so false h = absurd cc

    -- a name that is found as a field or as its twin
    record FoundAs (n : List ℕ) (k : ℕ) (cased : Bool) : Type 0 where
      is_name : is_named n ≡ true
      found : found_in fields n ≡ Some (named k cased)

    own_name : (k : ℕ) → k < length fields → FoundAs (name_at fields k) k false
    own_name k near = record { is_name = name_named fields k index.names near; found = index.found k near }

    any_name : (k : ℕ) (cased : Bool) → k < length fields → (cased && not (is_cased fields k)) ≡ false → FoundAs (searched cased (name_at fields k)) k cased
    any_name k cased near may =
        record { is_name = searched_named cased (name_at fields k) (name_named fields k index.names near); found = searched_found k cased near may }

    -- ---- soundness

    abbrev Each : Tree → Type 0
    Each t = EachLeaf (lucene.IsSound fields) t

    abbrev Every : Trees → Type 0
    Every ts = EachOfTrees (lucene.IsSound fields) ts

    abbrev AreSoundParts : Parts → Type 0
    AreSoundParts p = Each p.first × Every p.others

    leaf_sound : (n : List ℕ) (g : Glyph) (gs : List Glyph) (k : ℕ) (cased : Bool) → FoundAs n k cased → all_scalars (characters (g ∷ gs)) ≡ true
        → is_ill (is_whole_at fields k) (a_term (term_for (g ∷ gs))) ≡ false → Each (term_leaf n (g ∷ gs))
    leaf_sound [] g gs k cased f plain taken = let h = f.is_name in absurd cc
    leaf_sound (c ∷ cs) g gs k cased f plain taken = sound c cs g gs (named k cased) f.is_name plain f.found taken

    has_sound : (n : List ℕ) (k : ℕ) (cased : Bool) → FoundAs n k cased → Each (has_leaf n)
    has_sound n k cased f = leaf_sound n Run [] k cased f refl (by (is_whole_at fields k)) where
      by : (b : Bool) → is_ill b (a_term (term_for (Run ∷ []))) ≡ false
      by true = star
      by false = refl

    glyphs_sound : (n : List ℕ) (k : ℕ) (cased : Bool) → FoundAs n k cased → is_whole_at fields k ≡ false → (hs : List Glyph)
        → all_scalars (characters hs) ≡ true → AreSoundParts (pattern_parts n hs)
    glyphs_sound n k cased f text [] plain = (has_sound n k cased f, (leaf_sound n One (Run ∷ []) k cased f refl (rw text refl), tt))
    glyphs_sound n k cased f text (g ∷ gs) plain = (leaf_sound n g gs k cased f plain (rw text refl), tt)

    number_sound : (n : List ℕ) (k : ℕ) → FoundAs n k false → is_whole_at fields k ≡ true → (z : ℤ) → IsWholeNumber z
        → AreSoundParts (one_part (term_leaf n (map as_char (signed_decimal z))))
    number_sound n k f whole z within =
        let d = scalars z within in (
          subst (λ (ds : List ℕ). Each (term_leaf n (map as_char ds))) (sym d.2)
              (leaf_sound n (Char d.0) (map as_char d.1) k false f (ap all_scalars (chars_of (d.0 ∷ d.1)) ∙ d.3) (taken d)),
          tt,
        ) where
          taken : (d : (c : ℕ) × (cs : List ℕ) × (signed_decimal z ≡ c ∷ cs) × (all_scalars (c ∷ cs) ≡ true))
              → is_ill (is_whole_at fields k) (a_term (term_for (map as_char (d.0 ∷ d.1)))) ≡ false
          taken d = rw whole (ap (λ (ds : List ℕ). is_ill true (a_term (term_for (map as_char ds)))) (sym d.2) ∙ number z within)

    span_sound : (n : List ℕ) (k : ℕ) → FoundAs n k false → is_whole_at fields k ≡ true → (p : Span) → IsEnd p.low → IsEnd p.high → Each (range_leaf n p)
    span_sound [] k f whole p low high = let h = f.is_name in absurd cc
    span_sound (c ∷ cs) k f whole p low high = range_sound c cs (named k false) p.low_in p.low p.high p.high_in f.is_name f.found whole low high

    -- nothing is lacking for a test of field k
    abbrev IsFree : ℕ → LeafTest → Type 0
    IsFree k test = first_lack (test_asks (is_cased fields k) (is_whole_at fields k) (is_many fields k) test) ≡ None

    test_sound : (k : ℕ) (test : LeafTest) → k < length fields → IsSoundTest fields (kind_at fields k) test → IsFree k test → AreSoundParts (test_parts (name_at fields k) test)
    test_sound k tests.Has near s may = (has_sound (name_at fields k) k false (own_name k near), tt)
    test_sound k tests.Absent near s may = (has_sound (name_at fields k) k false (own_name k near), tt)
    test_sound k (tests.Fits ps cased) near s may =
        let free = asks_none (cased && not (is_cased fields k)) (is_whole_at fields k) (is_many fields k && is_empty ps) may in
        glyphs_sound (searched cased (name_at fields k)) k cased (any_name k cased near free.0) free.1 (glyphs_of ps) (ap all_scalars (same_characters ps) ∙ s.0.plain.0)
    test_sound k (tests.Equals z) near s may = number_sound (name_at fields k) k (own_name k near) (whole_at fields k s.0) z s.1
    test_sound k (tests.Compare op z) near s may =
        let e = ends_whole op z s.1 in
        (span_sound (name_at fields k) k (own_name k near) (whole_at fields k s.0) (span_of op z) e.0 e.1, tt)
    test_sound k (tests.SameAs other) near s may = absurd cc
    test_sound k (tests.Finds expression) near s may = absurd cc

    joined_sound : (a b : Trees) → Every a → Every b → Every (joined_trees a b)
    joined_sound no_trees b x y = y
    joined_sound (a_tree t ts) b x y = (x.0, joined_sound ts b x.1 y)

    record SoundTold (t : Told) : Type 0 where
      alone : Each t.alone
      parts : AreSoundParts t.parts

    abbrev NoLack : Plain → Type 0
    NoLack t = lack_refusal (lucene_lacks fields) t ≡ None

    abbrev NoLacks : Plains → Type 0
    NoLacks ts = lacks_refusal (lucene_lacks fields) ts ≡ None

    first_free : (t : Plain) (ts : Plains) → NoLacks (a_part t ts) → NoLack t × NoLacks ts
    first_free t ts h =
        let a = checks.parts (lack_refusal (lucene_lacks fields) t) (lacks_refusal (lucene_lacks fields) ts ∷ []) h in
        (a.0, (checks.parts (lacks_refusal (lucene_lacks fields) ts) [] a.1).0)

    never_sound : AreSoundParts never_parts
    never_sound = (everything_sound, (everything_sound, tt))

    mutual
      told_sound : (t : Plain) → IsSound fields t → NoLack t → SoundTold (told fields t)
      told_sound (trees.all no_parts) s may = absurd s.0
      told_sound (trees.all (a_part t ts)) s may =
          let free = first_free t ts may in
          let f = (told_sound t s.1.0 free.0).parts in
          let each : Each (told fields (trees.all (a_part t ts))).alone = (f.0, joined_sound (told fields t).parts.others (each_told fields ts) f.1 (each_sound ts s.1.1 free.1)) in
          record { alone = each; parts = (each, tt) }
      told_sound (trees.any no_parts) s may = absurd s.0
      told_sound (trees.any (a_part t ts)) s may =
          let free = first_free t ts may in
          let each : Each (told fields (trees.any (a_part t ts))).alone = ((told_sound t s.1.0 free.0).alone, some_sound ts s.1.1 free.1) in
          record { alone = each; parts = (each, tt) }
      told_sound (trees.negated t) s may = let each = (told_sound t s may).alone in record { alone = each; parts = (each, tt) }
      told_sound (trees.leaf l) s may =
          let p = test_sound l.field l.test s.0 s.1 (leaf_none l (lucene_lacks fields l) may) in
          record { alone = p; parts = p }
      told_sound trees.never s may = record { alone = never_sound; parts = never_sound }

      each_sound : (ts : Plains) → AreSound fields ts → NoLacks ts → Every (each_told fields ts)
      each_sound no_parts s may = tt
      each_sound (a_part t ts) s may =
          let free = first_free t ts may in
          let f = (told_sound t s.0 free.0).parts in
          (f.0, joined_sound (told fields t).parts.others (each_told fields ts) f.1 (each_sound ts s.1 free.1))

      some_sound : (ts : Plains) → AreSound fields ts → NoLacks ts → Every (some_told fields ts)
      some_sound no_parts s may = tt
      some_sound (a_part t ts) s may = let free = first_free t ts may in ((told_sound t s.0 free.0).alone, some_sound ts s.1 free.1)

    pub tree_sound : (t : Plain) → IsSound fields t → NoLack t → Each (told fields t).alone
    tree_sound t s may = (told_sound t s may).alone

    -- ---- meaning

    module _ (row : List (List Value)) (event : IsEvent fields row)
        (has_values : (k : ℕ) (cased : Bool) → (atom_holds row (OfField k cased (Term (Run ∷ []))) ≡ true) ↔ HasElement (field_values row k))
        (fits_values : (k : ℕ) (cased : Bool) (gs : List Glyph) → (atom_holds row (OfField k cased (Term gs)) ≡ true)
        ↔ SomeOf (λ v. term_fits (kept_glyphs cased gs) (kept cased (value_text v)) ≡ true) (field_values row k))
        (range_values : (k : ℕ) (cased : Bool) (low : Option ℤ) (low_in : Bool) (high : Option ℤ) (high_in : Bool)
        → (atom_holds row (OfField k cased (Range low low_in high high_in)) ≡ true)
        ↔ SomeOf (λ v. (n : ℤ) × (v ≡ values.Whole n) × (is_above low low_in n ≡ true) × (is_below high high_in n ≡ true)) (field_values row k))
        (means : (cased : Bool) (ps : List Part) (text : List ℕ) → all_written ps ≡ true
        → (term_fits (kept_glyphs cased (glyphs_of ps)) (kept cased text) ≡ true) ↔ Fits ps text cased)
        (numbers : (z : ℤ) (text : List ℕ) → IsWholeNumber z → (term_fits (kept_glyphs false (map as_char (signed_decimal z))) (kept false text) ≡ true) ↔ (text ≡ signed_decimal z))
      where
        value_is : (n : List ℕ) (g : Glyph) (gs : List Glyph) (k : ℕ) (cased : Bool) → FoundAs n k cased → all_scalars (characters (g ∷ gs)) ≡ true
            → tree_value fields row (term_leaf n (g ∷ gs)) ≡ atom_holds row (OfField k cased (Term (g ∷ gs)))
        value_is [] g gs k cased f plain = let h = f.is_name in absurd cc
        value_is (c ∷ cs) g gs k cased f plain = ap (atom_holds row) (read c cs g gs (named k cased) f.is_name plain f.found)

        abbrev PartsAre : Parts → Type 0 → Type 0
        PartsAre p H = Is (tree_value fields row p.first && all_trees fields row p.others) H

        -- a leaf holds exactly where this does
        term_is : (n : List ℕ) (g : Glyph) (gs : List Glyph) (k : ℕ) (cased : Bool) → FoundAs n k cased → all_scalars (characters (g ∷ gs)) ≡ true
            → (H : Type 0) → (atom_holds row (OfField k cased (Term (g ∷ gs))) ≡ true) ↔ H → Is (tree_value fields row (term_leaf n (g ∷ gs))) H
        term_is n g gs k cased f plain H same = subst (λ (b : Bool). Is b H) (sym (value_is n g gs k cased f plain)) (from_so _ H same)

        one_is : (t : Tree) (H : Type 0) → Is (tree_value fields row t) H → PartsAre (one_part t) H
        one_is t H h = subst (λ (b : Bool). Is b H) (sym (and_true (tree_value fields row t))) h

        has_is : (n : List ℕ) (k : ℕ) (cased : Bool) → FoundAs n k cased → Is (tree_value fields row (has_leaf n)) (HasElement (field_values row k))
        has_is n k cased f = term_is n Run [] k cased f refl _ (has_values k cased)

        absent_is : (n : List ℕ) (k : ℕ) (cased : Bool) → FoundAs n k cased → Is (tree_value fields row (negated (has_leaf n))) (HasNoElement (field_values row k))
        absent_is n k cased f = is_same _ _ _ (none_is (field_values row k)) (not_is (tree_value fields row (has_leaf n)) (HasElement (field_values row k)) (has_is n k cased f))

        empty_is : (n : List ℕ) (k : ℕ) (cased : Bool) → FoundAs n k cased → is_many fields k ≡ false
            → PartsAre (pattern_parts n []) (SomeOf (λ v. Fits [] (value_text v) cased) (field_values row k))
        empty_is n k cased f few =
            let some = term_is n One (Run ∷ []) k cased f refl (SomeOf (HasCharacter cased) (field_values row k)) (fits_values k cased (One ∷ Run ∷ [])) in
            is_same _ _ _ (empty_value cased (field_values row k) (one_value fields row k event few))
            (both_is (tree_value fields row (has_leaf n)) _ (HasElement (field_values row k)) (SomeOf (HasCharacter cased) (field_values row k) → ⊥)
            (has_is n k cased f)
            (one_is (negated (some_leaf n)) _ (not_is (tree_value fields row (some_leaf n)) (SomeOf (HasCharacter cased) (field_values row k)) some)))

        some_parts : (n : List ℕ) (k : ℕ) (cased : Bool) → FoundAs n k cased → (g : Glyph) (gs : List Glyph) (ps : List Part) → glyphs_of ps ≡ g ∷ gs → IsSoundPattern ps
            → PartsAre (pattern_parts n (glyphs_of ps)) (SomeOf (λ v. Fits ps (value_text v) cased) (field_values row k))
        some_parts n k cased f g gs ps same s =
            let plain : all_scalars (characters (g ∷ gs)) ≡ true
            = ap (λ (hs : List Glyph). all_scalars (characters hs)) (sym same) ∙ (ap all_scalars (same_characters ps) ∙ s.plain.0) in
            let H = SomeOf (λ v. Fits ps (value_text v) cased) (field_values row k) in
            let first : (atom_holds row (OfField k cased (Term (glyphs_of ps))) ≡ true) ↔ H
            = (let a = fits_values k cased (glyphs_of ps) in
            let b = some_mapped (λ v. term_fits (kept_glyphs cased (glyphs_of ps)) (kept cased (value_text v)) ≡ true) (λ v. Fits ps (value_text v) cased)
            (λ v. means cased ps (value_text v) s.written) (field_values row k) in
            (λ x. b.0 (a.0 x), λ x. a.1 (b.1 x))) in
            let second : (atom_holds row (OfField k cased (Term (g ∷ gs))) ≡ true) ↔ H
            = subst (λ (hs : List Glyph). (atom_holds row (OfField k cased (Term hs)) ≡ true) ↔ H) same first in
            subst (λ (hs : List Glyph). PartsAre (pattern_parts n hs) H) (sym same)
            (one_is (term_leaf n (g ∷ gs)) H (term_is n g gs k cased f plain H second))

        fits_parts : (n : List ℕ) (k : ℕ) (cased : Bool) → FoundAs n k cased → (ps : List Part) → (is_many fields k && is_empty ps) ≡ false → IsSoundPattern ps
            → PartsAre (pattern_parts n (glyphs_of ps)) (SomeOf (λ v. Fits ps (value_text v) cased) (field_values row k))
        fits_parts n k cased f [] few s = empty_is n k cased f (sym (and_true (is_many fields k)) ∙ few)
        fits_parts n k cased f (parts.Char c ∷ ps) few s = some_parts n k cased f (Char c) (glyphs_of ps) (parts.Char c ∷ ps) refl s
        fits_parts n k cased f (parts.One ∷ ps) few s = some_parts n k cased f One (glyphs_of ps) (parts.One ∷ ps) refl s
        fits_parts n k cased f (parts.Run ∷ ps) few s = some_parts n k cased f Run (glyphs_of ps) (parts.Run ∷ ps) refl s
        fits_parts n k cased f (parts.Dash ∷ ps) few s = let h = s.written in absurd cc
        fits_parts n k cased f (parts.Hole name ∷ ps) few s = let h = s.written in absurd cc

        equals_parts : (n : List ℕ) (k : ℕ) → FoundAs n k false → (z : ℤ) → IsWholeNumber z
            → PartsAre (one_part (term_leaf n (map as_char (signed_decimal z)))) (SomeOf (λ v. value_text v ≡ signed_decimal z) (field_values row k))
        equals_parts n k f z within =
            let d = scalars z within in
            let H = SomeOf (λ v. value_text v ≡ signed_decimal z) (field_values row k) in
            let first : (atom_holds row (OfField k false (Term (map as_char (signed_decimal z)))) ≡ true) ↔ H
            = (let a = fits_values k false (map as_char (signed_decimal z)) in
            let b = some_mapped (λ v. term_fits (kept_glyphs false (map as_char (signed_decimal z))) (kept false (value_text v)) ≡ true) (λ v. value_text v ≡ signed_decimal z)
            (λ v. numbers z (value_text v) within) (field_values row k) in
            (λ x. b.0 (a.0 x), λ x. a.1 (b.1 x))) in
            let second : (atom_holds row (OfField k false (Term (map as_char (d.0 ∷ d.1)))) ≡ true) ↔ H
            = subst (λ (ds : List ℕ). (atom_holds row (OfField k false (Term (map as_char ds))) ≡ true) ↔ H) d.2 first in
            one_is (term_leaf n (map as_char (signed_decimal z))) H
            (subst (λ (ds : List ℕ). Is (tree_value fields row (term_leaf n (map as_char ds))) H) (sym d.2)
            (term_is n (Char d.0) (map as_char d.1) k false f (ap all_scalars (chars_of (d.0 ∷ d.1)) ∙ d.3) H second))

        span_value : (n : List ℕ) (k : ℕ) → FoundAs n k false → (p : Span) → IsEnd p.low → IsEnd p.high
            → tree_value fields row (range_leaf n p) ≡ atom_holds row (OfField k false (Range p.low p.low_in p.high p.high_in))
        span_value [] k f p low high = let h = f.is_name in absurd cc
        span_value (c ∷ cs) k f p low high = ap (atom_holds row) (range_read c cs (named k false) p.low_in p.low p.high p.high_in f.is_name f.found low high)

        compare_parts : (n : List ℕ) (k : ℕ) → FoundAs n k false → (op : Op) (z : ℤ) → IsWholeNumber z
            → PartsAre (one_part (range_leaf n (span_of op z))) (SomeOf (ValueStands op z) (field_values row k))
        compare_parts n k f op z within =
            let p = span_of op z in
            let e = ends_whole op z within in
            let H = SomeOf (ValueStands op z) (field_values row k) in
            let a = range_values k false p.low p.low_in p.high p.high_in in
            let b = some_mapped (InSpan p) (ValueStands op z) (value_in op z) (field_values row k) in
            one_is (range_leaf n p) H
            (subst (λ (t : Bool). Is t H) (sym (span_value n k f p e.0 e.1)) (from_so _ H ((λ x. b.0 (a.0 x)), (λ x. a.1 (b.1 x)))))

        test_is : (k : ℕ) (test : LeafTest) → k < length fields → IsSoundTest fields (kind_at fields k) test → IsFree k test
            → PartsAre (test_parts (name_at fields k) test) (TestHolds row test (field_values row k))
        test_is k tests.Has near s may = one_is (has_leaf (name_at fields k)) _ (has_is (name_at fields k) k false (own_name k near))
        test_is k tests.Absent near s may = one_is (negated (has_leaf (name_at fields k))) _ (absent_is (name_at fields k) k false (own_name k near))
        test_is k (tests.Fits ps cased) near s may =
            let free = asks_none (cased && not (is_cased fields k)) (is_whole_at fields k) (is_many fields k && is_empty ps) may in
            fits_parts (searched cased (name_at fields k)) k cased (any_name k cased near free.0) ps free.2 s.0
        test_is k (tests.Equals z) near s may = equals_parts (name_at fields k) k (own_name k near) z s.1
        test_is k (tests.Compare op z) near s may = compare_parts (name_at fields k) k (own_name k near) op z s.1
        test_is k (tests.SameAs other) near s may = absurd cc
        test_is k (tests.Finds expression) near s may = absurd cc

        -- ---- trees

        joined_value : (a b : Trees) → all_trees fields row (joined_trees a b) ≡ (all_trees fields row a && all_trees fields row b)
        joined_value no_trees b = refl
        joined_value (a_tree t ts) b =
            ap (λ (x : Bool). tree_value fields row t && x) (joined_value ts b) ∙ and_assoc (tree_value fields row t) (all_trees fields row ts) (all_trees fields row b)

        parts_value : (t : Plain) → (tree_value fields row (told fields t).parts.first && all_trees fields row (told fields t).parts.others) ≡ tree_value fields row (told fields t).alone
        parts_value (trees.all no_parts) = refl
        parts_value (trees.all (a_part t ts)) = and_true _
        parts_value (trees.any no_parts) = refl
        parts_value (trees.any (a_part t ts)) = and_true _
        parts_value (trees.negated t) = and_true _
        parts_value (trees.leaf l) = refl
        parts_value trees.never = refl

        -- the parts of an all, joined to those behind them
        first_of_all : (t : Plain) (us : Trees)
            → (tree_value fields row (told fields t).parts.first && all_trees fields row (joined_trees (told fields t).parts.others us))
            ≡ (tree_value fields row (told fields t).alone && all_trees fields row us)
        first_of_all t us =
            ap (λ (x : Bool). tree_value fields row (told fields t).parts.first && x) (joined_value (told fields t).parts.others us)
            ∙ (and_assoc (tree_value fields row (told fields t).parts.first) (all_trees fields row (told fields t).parts.others) (all_trees fields row us)
            ∙ ap (λ (x : Bool). x && all_trees fields row us) (parts_value t))

        all_is : (t : Plain) (us : Trees) (A B : Type 0) → Is (tree_value fields row (told fields t).alone) A → Is (all_trees fields row us) B
            → Is (tree_value fields row (told fields t).parts.first && all_trees fields row (joined_trees (told fields t).parts.others us)) (A × B)
        all_is t us A B x y = subst (λ (b : Bool). Is b (A × B)) (sym (first_of_all t us)) (both_is (tree_value fields row (told fields t).alone) (all_trees fields row us) A B x y)

        mutual
          pub told_is : (t : Plain) → IsSound fields t → NoLack t → Is (tree_value fields row (told fields t).alone) (TreeHolds row t)
          told_is (trees.all no_parts) s may = absurd s.0
          told_is (trees.all (a_part t ts)) s may =
              let free = first_free t ts may in
              all_is t (each_told fields ts) (TreeHolds row t) (EachHolds row ts) (told_is t s.1.0 free.0) (each_is ts s.1.1 free.1)
          told_is (trees.any no_parts) s may = absurd s.0
          told_is (trees.any (a_part t ts)) s may =
              let free = first_free t ts may in
              either_is (tree_value fields row (told fields t).alone) (any_tree fields row (some_told fields ts)) (TreeHolds row t) (OneHolds row ts)
              (told_is t s.1.0 free.0) (some_is ts s.1.1 free.1)
          told_is (trees.negated t) s may = not_is (tree_value fields row (told fields t).alone) (TreeHolds row t) (told_is t s may)
          told_is (trees.leaf l) s may = test_is l.field l.test s.0 s.1 (leaf_none l (lucene_lacks fields l) may)
          told_is trees.never s may = λ h. h

          each_is : (ts : Plains) → AreSound fields ts → NoLacks ts → Is (all_trees fields row (each_told fields ts)) (EachHolds row ts)
          each_is no_parts s may = tt
          each_is (a_part t ts) s may =
              let free = first_free t ts may in
              all_is t (each_told fields ts) (TreeHolds row t) (EachHolds row ts) (told_is t s.0 free.0) (each_is ts s.1 free.1)

          some_is : (ts : Plains) → AreSound fields ts → NoLacks ts → Is (any_tree fields row (some_told fields ts)) (OneHolds row ts)
          some_is no_parts s may = λ h. h
          some_is (a_part t ts) s may =
              let free = first_free t ts may in
              either_is (tree_value fields row (told fields t).alone) (any_tree fields row (some_told fields ts)) (TreeHolds row t) (OneHolds row ts)
              (told_is t s.0 free.0) (some_is ts s.1 free.1)
