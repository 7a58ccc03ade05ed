-- A pattern's choices of dashes, made and counted one by one.
use Rattle.std.proofs.Common.{ℕ, suc, ◌≡◌, ◌+◌, ◌*◌, ◌^◌, ◌<◌, ◌≤◌, min, refl, sym, ap, ◌∙◌, List, [], ◌∷◌, ◌++◌, length, map, drop, get_or, append_assoc, append-nil, inl, inr, ℤ, subst, arith}
use Rattle.std.specs.Prelude.{Bool, false, cond, Option, Some, None, ◌⊎◌}
use Rattle.std.specs.List.{flat_map, slice_get}
use Rattle.std.proofs.Math.Nat.{pow-succ'}
use Rattle.std.proofs.lemmas.List.{length-append, map-append, drop_all}
use Rattle.std.proofs.lemmas.List.Sums.{sum_by-cons}
use Rattle.std.proofs.lemmas.Option.{slice_get_within, slice_get_cases, get_or_from_slice_get}
use Rattle.backend_core.specs.Trees.{Plain}
use Rattle.backend_core.specs.View.{tree_view}
use Rattle.backend_core.specs.declared.tree.LeafTest.{LeafTest}
use Rattle.backend_core.specs.declared.tree.Tree.{Tree}
use Rattle.modifier_windash.specs.Choices.{choices, before_each, dash_count, is_dash_place}
use Rattle.event_schema.specs.declared.schema.Field.{Field}
use Rattle.event_schema.specs.declared.schema.FieldKind.{FieldKind}
use Rattle.sig_base.specs.declared.refusal.Place.{Place}
use Rattle.modifier_words.specs.declared.modifier.Joined.TheVariants.{Any}
use Rattle.modifier_words.specs.declared.form.Flags.{Flags}
use Rattle.modifier_words.specs.declared.modifier.Op.{Op}
use Rattle.rule_detections.specs.declared.test.Test.{Test}
use Rattle.rule_detections.specs.declared.test.Test.TheVariants as tests
use Rattle.sig_strings.specs.declared.part.Part.{Part}
use Rattle.sig_strings.specs.declared.part.Part.TheVariants.{Char, One, Run, Dash, Hole}
use Rattle.rule_lowering.specs.Joining.{parts_of, closed, join}
use Rattle.rule_lowering.specs.TreeOf.{leaf_test, leaf_if_any, written_tree, written_tests, test_tree}
use Rattle.rule_lowering.proofs.Levels.{from_here}

-- ---- counting

-- five times as many for each place more
pub five_more : (n count more most : ℕ) → count ≡ min (5 ^ n) most → more ≡ min (count * 5) most → more ≡ min (5 ^ (n + 1)) most
five_more n count more most before is =
    let one : n + 1 ≡ suc n = omega arith in
    let power : 5 ^ (n + 1) ≡ 5 * 5 ^ n = ap (λ k. 5 ^ k) one ∙ pow-succ' 5 n in
    omega (arith, before, is, power)

pub all_places : (n k count most : ℕ) → n ≤ k → k ≤ n → count ≡ min (5 ^ k) most → count ≡ min (5 ^ n) most
all_places n k count most past within is =
    let same : k ≡ n = omega arith in
    is ∙ ap (λ p. min (5 ^ p) most) same

-- ---- the tests for the choices

-- one place more counts one or none
counts : (part : Part) (parts : List Part) → dash_count (part ∷ parts) ≡ cond (is_dash_place part) 1 0 + dash_count parts
counts part parts = sum_by-cons (λ x. cond (is_dash_place x) 1 0) part parts

no_more : (part : Part) (parts : List Part) → is_dash_place part ≡ false → dash_count (part ∷ parts) ≡ 0 → dash_count parts ≡ 0
no_more part parts is none =
    let counted : dash_count (part ∷ parts) ≡ 0 + dash_count parts = subst (λ b. dash_count (part ∷ parts) ≡ cond b 1 0 + dash_count parts) is (counts part parts) in
    omega (arith, counted, none)

-- without a place for a dash there is one choice
one_choice : (parts : List Part) → dash_count parts ≡ 0 → choices parts ≡ parts ∷ []
one_choice [] none = refl
one_choice (Char c ∷ parts) none = ap (before_each (Char c)) (one_choice parts (no_more (Char c) parts refl none))
one_choice (One ∷ parts) none = ap (before_each One) (one_choice parts (no_more One parts refl none))
one_choice (Run ∷ parts) none = ap (before_each Run) (one_choice parts (no_more Run parts refl none))
one_choice (Dash ∷ parts) none =
    let more : dash_count (Dash ∷ parts) ≡ 1 + dash_count parts = counts Dash parts in
    absurd (omega (arith, more, none))
one_choice (Hole name ∷ parts) none = ap (before_each (Hole name)) (one_choice parts (no_more (Hole name) parts refl none))

pub alone_fits : (parts : List Part) (cased : Bool) → dash_count parts ≡ 0
    → written_tests (tests.Fits parts cased) ≡ tests.Fits parts cased ∷ []
alone_fits parts cased none = ap (λ (all : List (List Part)). map (λ chosen. tests.Fits chosen cased) all) (one_choice parts none)

-- no pattern
pub no_pattern : (test : Test)
    → (test ≡ tests.Absent) ⊎ (((there : Bool) × (test ≡ tests.Exists there)) ⊎ (((n : ℤ) × (test ≡ tests.Equals n))
    ⊎ (((op : Op) × (n : ℤ) × (test ≡ tests.Compare op n)) ⊎ (((name : List ℕ) × (test ≡ tests.SameAs name))
    ⊎ ((text : List ℕ) × (flags : Flags) × (test ≡ tests.Finds text flags))))))
    → written_tests test ≡ test ∷ []
no_pattern test is = elim is [
  | inl absent ↦ rw absent refl
  | inr other ↦ elim other [
    | inl exists ↦ rw exists.1 refl
    | inr number ↦ elim number [ inl equals ↦ rw equals.1 refl | inr more ↦ elim more [ inl orders ↦ rw orders.2 refl | inr last ↦ elim last [ inl same ↦ rw same.1 refl | inr finds ↦ rw finds.2 refl ] ] ]
  ]
]

abbrev pub choice_tree : List Field → Place → FieldKind → ℕ → Bool → List Part → Plain
choice_tree fields place kind field cased chosen = written_tree fields place kind field (tests.Fits chosen cased)

-- ---- the trees of the choices

-- one choice more
pub choice_goes : (f : List Part → Plain) (all : List (List Part)) (items new : List Tree) (part : Tree) (found : Option (List Part)) (chosen : List Part)
    → new ≡ items ++ part ∷ [] → map tree_view items ++ map f (drop (length items) all) ≡ map f all
    → found ≡ slice_get all (length items) → found ≡ Some chosen → tree_view part ≡ f chosen
    → map tree_view new ++ map f (drop (length new) all) ≡ map f all
choice_goes f patterns items new part found chosen is before looked some made =
    let here : slice_get patterns (length items) ≡ Some chosen = sym looked ∙ some in
    let within : length items < length patterns = slice_get_within patterns (length items) chosen here in
    let at : chosen ≡ get_or patterns (length items) chosen = sym (get_or_from_slice_get patterns (length items) chosen chosen here) in
    let long : length new ≡ length items + 1 = ap (λ (ts : List Tree). length ts) is ∙ length-append items (part ∷ []) in
    let behind : List Plain = map f (drop (length items + 1) patterns) in
    let views : map tree_view new ≡ map tree_view items ++ f chosen ∷ [] =
    ap (λ (ts : List Tree). map tree_view ts) is ∙ (map-append tree_view items (part ∷ []) ∙ ap (λ (t : Plain). map tree_view items ++ t ∷ []) made) in
    ap (λ (ts : List Plain). ts ++ map f (drop (length new) patterns)) views
    ∙ (ap (λ k. (map tree_view items ++ f chosen ∷ []) ++ map f (drop k patterns)) long
    ∙ (append_assoc (map tree_view items) (f chosen ∷ []) behind
    ∙ (sym (from_here (λ ps. map tree_view items ++ map f ps) (length items) patterns chosen within at) ∙ before)))

pub fewer_left : (patterns : List (List Part)) (items new : List Tree) (part : Tree) (found : Option (List Part)) (chosen : List Part)
    → new ≡ items ++ part ∷ [] → found ≡ slice_get patterns (length items) → found ≡ Some chosen
    → (length items < length patterns) × (length new ≡ length items + 1)
fewer_left patterns items new part found chosen is looked some = (
  slice_get_within patterns (length items) chosen (sym looked ∙ some),
  ap (λ (ts : List Tree). length ts) is ∙ length-append items (part ∷ []),
)

-- a test of a language is no list of tests
one_part : (place : Place) (field : ℕ) (test : Option LeafTest) → parts_of Any (leaf_if_any place field test) ≡ leaf_if_any place field test ∷ []
one_part place field None = refl
one_part place field (Some test) = refl

flat : (fields : List Field) (place : Place) (kind : FieldKind) (field : ℕ) (ts : List Test)
    → flat_map (parts_of Any) (map (written_tree fields place kind field) ts) ≡ map (written_tree fields place kind field) ts
flat fields place kind field [] = refl
flat fields place kind field (t ∷ ts) =
    ap (λ (us : List Plain). us ++ flat_map (parts_of Any) (map (written_tree fields place kind field) ts)) (one_part place field (leaf_test fields kind t))
    ∙ ap (λ (us : List Plain). written_tree fields place kind field t ∷ us) (flat fields place kind field ts)

mapped : (fields : List Field) (place : Place) (kind : FieldKind) (field : ℕ) (cased : Bool) (patterns : List (List Part))
    → map (written_tree fields place kind field) (map (λ chosen. tests.Fits chosen cased) patterns) ≡ map (choice_tree fields place kind field cased) patterns
mapped fields place kind field cased [] = refl
mapped fields place kind field cased (p ∷ ps) = ap (λ (us : List Plain). choice_tree fields place kind field cased p ∷ us) (mapped fields place kind field cased ps)

parts_are : (fields : List Field) (place : Place) (kind : FieldKind) (field : ℕ) (cased : Bool) (patterns : List (List Part))
    → map (choice_tree fields place kind field cased) patterns
    ≡ flat_map (parts_of Any) (map (written_tree fields place kind field) (map (λ chosen. tests.Fits chosen cased) patterns))
parts_are fields place kind field cased patterns =
    sym (mapped fields place kind field cased patterns) ∙ sym (flat fields place kind field (map (λ chosen. tests.Fits chosen cased) patterns))

past : (patterns : List (List Part)) (k : ℕ) (found : Option (List Part)) → found ≡ slice_get patterns k → found ≡ None → length patterns ≤ k
past patterns k found looked none =
    let missing : slice_get patterns k ≡ None = sym looked ∙ none in
    elim (slice_get_cases patterns k).1 [ inl there ↦ absurd cc | inr behind ↦ behind.0 ]

pub choices_end : (fields : List Field) (place : Place) (kind : FieldKind) (field : ℕ) (cased : Bool) (parts : List Part) (items : List Tree) (tree : Tree) (found : Option (List Part))
    → map tree_view items ++ map (choice_tree fields place kind field cased) (drop (length items) (choices parts)) ≡ map (choice_tree fields place kind field cased) (choices parts)
    → found ≡ slice_get (choices parts) (length items) → found ≡ None → tree_view tree ≡ closed Any (map tree_view items)
    → tree_view tree ≡ test_tree fields place kind field (tests.Fits parts cased)
unfolding join
choices_end fields place kind field cased parts items tree found built looked none is =
    let all_done : drop (length items) (choices parts) ≡ [] =
    drop_all (length items) (choices parts) (past (choices parts) (length items) found looked none) in
    let done : map tree_view items ≡ map (choice_tree fields place kind field cased) (choices parts) =
    sym (append-nil (map tree_view items))
    ∙ (sym (ap (λ (ps : List (List Part)). map tree_view items ++ map (choice_tree fields place kind field cased) ps) all_done) ∙ built) in
    is ∙ ap (closed Any) (done ∙ parts_are fields place kind field cased (choices parts))

-- ---- the trees of a network's patterns

pub patterns_go : (f : List Part → Plain) (items new : List Tree) (part : Tree) (parts shared : List Part) (left rest : List (List Part)) (whole : List Plain)
    → left ≡ parts ∷ rest → map tree_view items ++ map f left ≡ whole → shared ≡ parts → tree_view part ≡ f shared → new ≡ items ++ part ∷ []
    → map tree_view new ++ map f rest ≡ whole
patterns_go f items new part parts shared left rest whole step before same made is =
    let views : map tree_view new ≡ map tree_view items ++ f parts ∷ [] =
    ap (λ (ts : List Tree). map tree_view ts) is
    ∙ (map-append tree_view items (part ∷ []) ∙ ap (λ (t : Plain). map tree_view items ++ t ∷ []) (made ∙ ap f same)) in
    ap (λ (ts : List Plain). ts ++ map f rest) views
    ∙ (append_assoc (map tree_view items) (f parts ∷ []) (map f rest)
    ∙ (sym (ap (λ (ps : List (List Part)). map tree_view items ++ map f ps) step) ∙ before))

pub patterns_end : (fields : List Field) (place : Place) (kind : FieldKind) (field : ℕ) (cased : Bool) (patterns left : List (List Part)) (items : List Tree) (tree : Tree) (count : ℕ)
    → count ≡ 0 → count ≡ length left
    → map tree_view items ++ map (choice_tree fields place kind field cased) left ≡ map (choice_tree fields place kind field cased) patterns
    → tree_view tree ≡ closed Any (map tree_view items)
    → tree_view tree ≡ join Any (map (written_tree fields place kind field) (map (λ chosen. tests.Fits chosen cased) patterns))
unfolding join
patterns_end fields place kind field cased patterns [] items tree count none many built is =
    is ∙ ap (closed Any) (sym (append-nil (map tree_view items)) ∙ (built ∙ parts_are fields place kind field cased patterns))
patterns_end fields place kind field cased patterns (p ∷ left) items tree count none many built is = absurd (omega arith)
