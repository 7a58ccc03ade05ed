-- Texts of Unicode scalar values in trees, and those among them that have no U+0000.
use Rattle.std.proofs.Common.{ℕ, zero, suc, ◌≡◌, ◌<◌, ◌/◌, ◌%◌, ℤ, pos, negsuc, Bool, true, false, not, ◌||◌, ◌==◌, nat_lt, if◌then◌else◌, List, [], ◌∷◌, refl, subst, arith}
use Rattle.std.specs.Prelude.{Option, None, Some}
use Rattle.std.specs.Fmt.{digit_glyph, digits_onto, digits, signed_decimal}
use Rattle.std.specs.List.{list_all}
use Rattle.std.specs.Str.{all_scalars, bytes_eq}
use Rattle.std.proofs.lemmas.Bool.{and_parts, and_from, lt-ltb, ne_eqb}
use Rattle.std.proofs.lemmas.Bool.Decides.{nat_tests}
use Rattle.std.proofs.lemmas.Slice.Eq.{bytes_eq-Decides}
use Rattle.std.proofs.Math.Utf8.{scalar, low_scalar}
use Rattle.event_schema.specs.Events.{IsPlainText}
use Rattle.event_schema.specs.Lists.{EachOf}
use Rattle.sig_base.specs.declared.refusal.Place.{Place}
use Rattle.sig_base.proofs.Checks.{not_holds}
use Rattle.rule_detections.specs.TestsOf.{truth_text}
use Rattle.yaml_tree.specs.Nodes.{is_text, text_in, listed, entered, entries_in, parts_in, key_place, value_in}
use Rattle.yaml_tree.specs.Texts.{HasScalarTexts, HaveScalarTexts, MembersHave}
use Rattle.yaml_tree.specs.Tree.{null, truth, whole, text, Tree, scalar as scalar_node, list, map as tree_map, Elements, no_elements, element, Members, no_members, member, Member}
use Rattle.rule_detections.specs.Keys.{pieces, name_in}
use Rattle.pipeline_model.specs.Pipelines.{text_if, value_text}
use Rattle.pipeline_check.specs.Shapes.{has_nul, is_value, is_target}

abbrev put_before : Bool → ℕ → List ℕ × List (List ℕ) → List ℕ × List (List ℕ)
put_before bar c p = if bar then ([], p.0 ∷ p.1) else (c ∷ p.0, p.1)

-- the name in an entry's key
pub name_scalars : (key : List ℕ) → all_scalars key ≡ true → all_scalars (name_in key) ≡ true
name_scalars [] h = refl
name_scalars (c ∷ cs) h =
    let both = and_parts (scalar c) (all_scalars cs) h in
    elim (c == 124) as (λ (b : Bool). all_scalars (put_before b c (pieces cs)).0 ≡ true) [
      | true ↦ refl
      | false ↦ and_from (scalar c) (all_scalars (name_in cs)) both.0 (name_scalars cs both.1)
    ]

-- ---- parts of trees

abbrev pub IsScalarMember : Member → Type 0
IsScalarMember e = (all_scalars e.key ≡ true) × HasScalarTexts e.value

each_entered : (ms : Members) → MembersHave ms → EachOf IsScalarMember (entered ms)
each_entered no_members h = tt
each_entered (member k a t ms) h = ((h.0, h.1), each_entered ms h.2)

each_listed : (es : Elements) → HaveScalarTexts es → EachOf HasScalarTexts (listed es)
each_listed no_elements h = tt
each_listed (element t ts) h = (h.0, each_listed ts h.1)

pub each_entry : (t : Tree) → HasScalarTexts t → EachOf IsScalarMember (entries_in t)
each_entry (scalar_node a s) h = tt
each_entry (list a es) h = tt
each_entry (tree_map a ms) h = each_entered ms h

pub each_part : (t : Tree) → HasScalarTexts t → EachOf HasScalarTexts (parts_in t)
each_part (scalar_node a s) h = (h, tt)
each_part (list a es) h = each_listed es h
each_part (tree_map a ms) h = (h, tt)

-- what holds of each entry holds of the one that is found
pub found_entry : (P : List ℕ → Place → Tree → Type 0) (key : List ℕ) (es : List Member) (t : Tree) → EachOf (λ e. P e.key (key_place e) e.value) es
    → value_in key es ≡ Some t → (p : Place) × P key p t
found_entry P key [] t each found = absurd cc
found_entry P key (e ∷ es) t each found = by (bytes_eq e.key key) refl (found_entry P key es t each.1) found
  where
    by : (b : Bool) → bytes_eq e.key key ≡ b → (value_in key es ≡ Some t → (p : Place) × P key p t)
        → (if b then Some e.value else value_in key es) ≡ Some t → (p : Place) × P key p t
    by true same later found =
        let value : e.value ≡ t = cc in (
          key_place e,
          subst (λ (u : Tree). P key (key_place e) u) value (subst (λ (k : List ℕ). P k (key_place e) e.value) ((bytes_eq-Decides e.key key).0 same) each.0),
        )
    by false other later found = later found

pub found_value : (key : List ℕ) (t v : Tree) → HasScalarTexts t → value_in key (entries_in t) ≡ Some v → HasScalarTexts v
found_value key t v h found = (found_entry (λ k p u. (all_scalars k ≡ true) × HasScalarTexts u) key (entries_in t) v (each_entry t h) found).1.1

-- ---- texts

pub text_scalars : (t : Tree) → HasScalarTexts t → all_scalars (text_in t) ≡ true
text_scalars (scalar_node a null) h = refl
text_scalars (scalar_node a (truth b)) h = refl
text_scalars (scalar_node a (whole n)) h = refl
text_scalars (scalar_node a (text t)) h = h
text_scalars (list a es) h = refl
text_scalars (tree_map a ms) h = refl

-- the text at a key, or the empty one
pub text_at_scalars : (key : List ℕ) (t : Tree) → HasScalarTexts t → all_scalars (text_if (value_in key (entries_in t))) ≡ true
text_at_scalars key t h = by (value_in key (entries_in t)) refl
  where
    by : (o : Option Tree) → value_in key (entries_in t) ≡ o → all_scalars (text_if o) ≡ true
    by None found = refl
    by (Some v) found = text_scalars v (found_value key t v h found)

no_nul : (cs : List ℕ) → has_nul cs ≡ false → list_all (λ c. nat_lt 0 c) cs ≡ true
no_nul [] h = refl
no_nul (zero ∷ cs) h = absurd cc
no_nul (suc c ∷ cs) h =
    let other : (suc c == 0) ≡ false = ne_eqb _ _ (omega arith) in
    and_from (nat_lt 0 (suc c)) (list_all (λ c. nat_lt 0 c) cs) (lt-ltb 0 (suc c) (omega arith)) (no_nul cs (subst (λ (b : Bool). (b || has_nul cs) ≡ false) other h))

-- ---- decimals

one_plain : (c : ℕ) (cs : List ℕ) → 0 < c → c < 128 → IsPlainText cs → IsPlainText (c ∷ cs)
one_plain c cs some small plain =
    (and_from (scalar c) (all_scalars cs) (low_scalar c (omega (arith, small))) plain.0, and_from (nat_lt 0 c) (list_all (λ c. nat_lt 0 c) cs) (lt-ltb 0 c some) plain.1)

digits_plain : (k n : ℕ) (acc : List ℕ) → IsPlainText acc → IsPlainText (digits_onto k 10 false n acc)
digits_plain zero n acc h = h
digits_plain (suc k) n acc h =
    let small : n % 10 < 10 = omega arith in
    let now : IsPlainText (digit_glyph false (n % 10) ∷ acc) = one_plain (digit_glyph false (n % 10)) acc (at_least (n % 10)) (at_most (n % 10) small) h in
    elim (n / 10 == 0) as (λ (b : Bool). IsPlainText (if b then digit_glyph false (n % 10) ∷ acc else digits_onto k 10 false (n / 10) (digit_glyph false (n % 10) ∷ acc)))
    [ true ↦ now | false ↦ digits_plain k (n / 10) (digit_glyph false (n % 10) ∷ acc) now ]
  where
    at_least : (d : ℕ) → 0 < digit_glyph false d
    at_least d = grind (arith, nat_tests)

    at_most : (d : ℕ) → d < 10 → digit_glyph false d < 128
    at_most d h = grind (arith, nat_tests)

all_digits_plain : (n : ℕ) → IsPlainText (digits 10 false n)
unfolding digits
all_digits_plain n = digits_plain 64 n [] (refl, refl)

decimal_plain : (n : ℤ) → IsPlainText (signed_decimal n)
decimal_plain (pos n) = all_digits_plain n
decimal_plain (negsuc n) = one_plain 45 (digits 10 false (suc n)) (omega arith) (omega arith) (all_digits_plain (suc n))

-- ---- what a placeholder may stand for, and the targets of a mapping

truth_plain : (b : Bool) → IsPlainText (truth_text b)
truth_plain true = (refl, refl)
truth_plain false = (refl, refl)

pub value_plain : (t : Tree) → is_value t ≡ true → HasScalarTexts t → IsPlainText (value_text t)
value_plain (scalar_node a null) is h = absurd cc
value_plain (scalar_node a (truth b)) is h = truth_plain b
value_plain (scalar_node a (whole n)) is h = decimal_plain n
value_plain (scalar_node a (text t)) is h = (h, no_nul t (not_holds (has_nul t) is))
value_plain (list a es) is h = absurd cc
value_plain (tree_map a ms) is h = absurd cc

pub target_plain : (t : Tree) → is_target true t ≡ true → HasScalarTexts t → IsPlainText (text_in t)
target_plain t is h = (text_scalars t h, no_nul (text_in t) (not_holds (has_nul (text_in t)) (and_parts (is_text t) (not (has_nul (text_in t))) is).1))
