-- What the fields of names are, one name after the other.
use Rattle.std.proofs.Common.{ℕ, zero, suc, ◌+◌, ◌<◌, ◌≤◌, length, drop, get_or, ◌≡◌, Bool, true, false, not, cond, nat_eq, nat_lt, ◌&&◌, ◌||◌, ◌⊎◌, inl, inr, List, [], ◌∷◌, ◌++◌, Option, Some, None, refl, sym, ap, ◌∙◌, arith, map}
use Rattle.std.specs.Prelude.{filter}
use Rattle.std.specs.List.{flat_map, list_all, list_any, position_or_len}
use Rattle.std.specs.Str.{bytes_eq}
use Rattle.std.proofs.Math.Dec.{eqb-suc-zero}
use Rattle.std.proofs.lemmas.Bool.{lt-ltb}
use Rattle.std.proofs.lemmas.List.{drop_more}
use Rattle.std.proofs.lemmas.List.Folds.{list_all-append, list_any-append}
use Rattle.std.proofs.lemmas.List.Quantifiers.{position-Some}
use Rattle.std.proofs.lemmas.List.Sums.{fails_before_first}
use Rattle.event_schema.specs.Rows.{field_number}
use Rattle.event_schema.specs.declared.schema.Field.{Field}
use Rattle.event_schema.specs.declared.schema.FieldKind.{FieldKind}
use Rattle.event_schema.specs.declared.schema.FieldKind.TheVariants as kinds
use Rattle.rule_detections.specs.References.{reference_of, references_in, listed}
use Rattle.rule_detections.specs.declared.test.Test.{Test}
use Rattle.rule_schema.specs.Compared.{test_names, values_names}
use Rattle.rule_schema.specs.Inferred.{is_field}
use Rattle.rule_schema.specs.Kinds.{asks_of, is_whole, is_address, is_field_of, are_alike, are_of_kinds}
use Rattle.rule_schema.specs.Looked.{kind_in, seen_of, seen_kind, nothing_seen, both, suits}
use Rattle.rule_schema.specs.declared.seen.Seen.{Seen}
use Rattle.rule_schema.proofs.Compared.{names_compared}

-- ---- the kind of the first field of a name

abbrev called : List ℕ → Field → Bool
called name field = bytes_eq field.name name

kind_first : (fields : List Field) (name : List ℕ) (n : ℕ) (d : Field) → n < length fields → called name (get_or fields n d) ≡ true
    → ((k : ℕ) → k < n → called name (get_or fields k d) ≡ false) → kind_in fields name ≡ Some (get_or fields n d).kind
kind_first [] name n d within here before = absurd (omega (arith, within))
kind_first (f ∷ fields) name zero d within here before = rw here refl
kind_first (f ∷ fields) name (suc n) d within here before =
    let apart : called name f ≡ false = before 0 (omega arith) in
    rw apart (kind_first fields name n d (omega (arith, within)) here (λ k less. before (suc k) (omega (arith, less))))

pub number_kind : (fields : List Field) (name : List ℕ) (n : ℕ) (field : Field) → field_number fields name ≡ Some n → field ≡ get_or fields n field
    → Some field.kind ≡ kind_in fields name
number_kind fields name n field found is =
    let at = position-Some (called name) fields n field found in
    sym (kind_first fields name n field at.0 at.1 at.2 ∙ ap (λ (f : Field). Some f.kind) (sym is))

pub number_within : (fields : List Field) (name : List ℕ) (n : ℕ) (d : Field) → field_number fields name ≡ Some n → n < length fields
number_within fields name n d found = (position-Some (called name) fields n d found).0

no_kind : (fields : List Field) (name : List ℕ) (d : Field) → ((k : ℕ) → k < length fields → called name (get_or fields k d) ≡ false) → None ≡ kind_in fields name
no_kind [] name d none = refl
no_kind (f ∷ fields) name d none =
    let apart : called name f ≡ false = none 0 (omega arith) in
    rw apart (no_kind fields name d (λ k less. none (suc k) (omega (arith, less))))

pub no_number : (fields : List Field) (name : List ℕ) → field_number fields name ≡ None → None ≡ kind_in fields name
no_number [] name missing = refl
no_number (f ∷ fields) name missing =
    let all : List Field = f ∷ fields in
    no_kind all name f (λ k less. fails_before_first (called name) all k f (behind (position_or_len (called name) all) (length all) k less missing)) where
      behind : (m n k : ℕ) → k < n → cond (nat_lt m n) (Some m) None ≡ None → k < m
      behind m n k less h = by (le_or_lt m n) where
        none_some : Some m ≡ None → ⊥
        none_some e = cc

        le_or_lt : (a b : ℕ) → (b ≤ a) ⊎ (a < b)
        le_or_lt a zero = inl (omega arith)
        le_or_lt zero (suc b) = inr (omega arith)
        le_or_lt (suc a) (suc b) = elim (le_or_lt a b) [
          | inl x ↦ inl (omega (arith, x))
          | inr x ↦ inr (omega (arith, x))
        ]

        by : (n ≤ m) ⊎ (m < n) → k < m
        by (inl x) = omega (arith, x, less)
        by (inr x) = absurd (none_some (sym (rw (lt-ltb m n x) refl) ∙ h))

-- ---- names, one after the other

or_no : (b : Bool) → (b || false) ≡ b
or_no true = refl
or_no false = refl

and_yes : (b : Bool) → (b && true) ≡ b
and_yes true = refl
and_yes false = refl

or_assoc : (a b c : Bool) → ((a || b) || c) ≡ (a || (b || c))
or_assoc true b c = refl
or_assoc false b c = refl

and_assoc : (a b c : Bool) → ((a && b) && c) ≡ (a && (b && c))
and_assoc true b c = refl
and_assoc false b c = refl

both_nothing : (s : Seen) → both s nothing_seen ≡ s
both_nothing s = λ i. record {
  some = or_no s.some i;
  known = and_yes s.known i;
  whole = and_yes s.whole i;
  other = and_yes s.other i;
  address = and_yes s.address i;
}

both_assoc : (a b c : Seen) → both (both a b) c ≡ both a (both b c)
both_assoc a b c = λ i. record {
  some = or_assoc a.some b.some c.some i;
  known = and_assoc a.known b.known c.known i;
  whole = and_assoc a.whole b.whole c.whole i;
  other = and_assoc a.other b.other c.other i;
  address = and_assoc a.address b.address c.address i;
}

seen_both : (fields : List Field) (xs ys : List (List ℕ)) → seen_of fields (xs ++ ys) ≡ both (seen_of fields xs) (seen_of fields ys)
seen_both fields xs ys = λ i. record {
  some = list_any-append (λ (name : List ℕ). true) xs ys i;
  known = list_all-append (is_field fields) xs ys i;
  whole = list_all-append (is_field_of is_whole fields) xs ys i;
  other = list_all-append (λ name. not (is_field_of is_whole fields name)) xs ys i;
  address = list_all-append (is_field_of is_address fields) xs ys i;
}

seen_one : (fields : List Field) (name : List ℕ) → seen_kind (kind_in fields name) ≡ seen_of fields (name ∷ [])
seen_one [] name = refl
seen_one (f ∷ fields) name = by (called name f) refl (seen_one fields name) where
  here : (kind : FieldKind) → seen_kind (Some kind) ≡ record { some = true; known = true; whole = is_whole kind && true; other = not (is_whole kind) && true; address = is_address kind && true }
  here kinds.Text = refl
  here kinds.Whole = refl
  here kinds.Address = refl

  by : (b : Bool) → called name f ≡ b → seen_kind (kind_in fields name) ≡ seen_of fields (name ∷ []) → seen_kind (kind_in (f ∷ fields) name) ≡ seen_of (f ∷ fields) (name ∷ [])
  by true h rest = rw h (here f.kind)
  by false h rest = rw h rest

pub one_seen : (fields : List Field) (name : List ℕ) (s : Seen) → both s (seen_kind (kind_in fields name)) ≡ both s (seen_of fields (name ∷ []))
one_seen fields name s = ap (both s) (seen_one fields name)

pub some_named : (fields : List Field) (test : Test) (name : List ℕ) (s : Seen) → reference_of test ≡ Some name
    → both s (seen_of fields (name ∷ [])) ≡ both s (seen_of fields (test_names test))
some_named fields test name s e = ap (λ (o : Option (List ℕ)). both s (seen_of fields (listed o))) (sym e)

pub none_named : (fields : List Field) (test : Test) (s : Seen) → reference_of test ≡ None → s ≡ both s (seen_of fields (test_names test))
none_named fields test s e = sym (both_nothing s) ∙ ap (λ (o : Option (List ℕ)). both s (seen_of fields (listed o))) (sym e)

pub next_seen : {X : Type 0} (f : X → List (List ℕ)) (fields : List Field) (xs : List X) (i : ℕ) (x : X) (s new whole : Seen) → x ≡ get_or xs i x → i < length xs
    → new ≡ both s (seen_of fields (f x)) → both s (seen_of fields (flat_map f (drop i xs))) ≡ whole → both new (seen_of fields (flat_map f (drop (i + 1) xs))) ≡ whole
next_seen f fields xs i x s new whole is within added before =
    let rest = flat_map f (drop (i + 1) xs) in
    let left : drop i xs ≡ x ∷ drop (i + 1) xs = drop_more xs i x within ∙ ap (λ y. y ∷ drop (i + 1) xs) (sym is) in
    ap (λ (t : Seen). both t (seen_of fields rest)) added
    ∙ (both_assoc s (seen_of fields (f x)) (seen_of fields rest)
    ∙ (ap (both s) (sym (seen_both fields (f x) rest))
    ∙ (ap (λ ys. both s (seen_of fields (flat_map f ys))) (sym left) ∙ before)))

pub next_name : (fields : List Field) (xs : List (List ℕ)) (i : ℕ) (x : List ℕ) (s new whole : Seen) → x ≡ get_or xs i x → i < length xs
    → new ≡ both s (seen_of fields (x ∷ [])) → both s (seen_of fields (drop i xs)) ≡ whole → both new (seen_of fields (drop (i + 1) xs)) ≡ whole
next_name fields xs i x s new whole is within added before =
    let rest = drop (i + 1) xs in
    let left : drop i xs ≡ x ∷ rest = drop_more xs i x within ∙ ap (λ y. y ∷ rest) (sym is) in
    ap (λ (t : Seen). both t (seen_of fields rest)) added
    ∙ (both_assoc s (seen_of fields (x ∷ [])) (seen_of fields rest)
    ∙ (ap (both s) (sym (seen_both fields (x ∷ []) rest))
    ∙ (ap (λ ys. both s (seen_of fields ys)) (sym left) ∙ before)))

-- no name is left
pub seen_end : (fields : List Field) (names : List (List ℕ)) (s whole : Seen) → names ≡ [] → both s (seen_of fields names) ≡ whole → s ≡ whole
seen_end fields names s whole none before = sym (both_nothing s) ∙ (ap (λ ns. both s (seen_of fields ns)) (sym none) ∙ before)

-- ---- what is decided by it

pub all_known : (fields : List Field) (values : List (List Test)) (names : List (List ℕ))
    → ((seen_of fields names).known && (seen_of fields (values_names values)).known) ≡ list_all (is_field fields) (names ++ references_in values)
all_known fields values names =
    ap (λ others. (seen_of fields names).known && (seen_of fields others).known) (sym (names_compared values))
    ∙ sym (list_all-append (is_field fields) names (references_in values))

alike_seen : (fields : List Field) (names others : List (List ℕ))
    → (not (seen_of fields others).some
    || ((seen_of fields names).whole && (seen_of fields others).whole || (seen_of fields names).other && (seen_of fields others).other))
    ≡ are_alike fields names others
alike_seen fields names [] = refl
alike_seen fields names (o ∷ others) =
    sym (ap (λ (b : Bool). b || list_all (λ name. not (is_field_of is_whole fields name)) (names ++ o ∷ others)) (list_all-append (is_field_of is_whole fields) names (o ∷ others))
    ∙ ap (λ (b : Bool). (list_all (is_field_of is_whole fields) names && list_all (is_field_of is_whole fields) (o ∷ others)) || b)
    (list_all-append (λ name. not (is_field_of is_whole fields name)) names (o ∷ others)))

pub all_suit : (fields : List Field) (values : List (List Test)) (names : List (List ℕ))
    → suits (asks_of values) (seen_of fields names) (seen_of fields (values_names values)) ≡ are_of_kinds fields values names
all_suit fields values names =
    ap (λ others. suits (asks_of values) (seen_of fields names) (seen_of fields others)) (sym (names_compared values))
    ∙ ap (λ (b : Bool). (not (asks_of values).whole || list_all (is_field_of is_whole fields) names) && (not (asks_of values).address || list_all (is_field_of is_address fields) names) && b)
    (alike_seen fields names (references_in values))

-- ---- fields that keywords search

pub some_searched : (f : Field → ℕ) (fields : List Field) → not (nat_eq (length (map f (filter (λ field. field.search) fields))) 0) ≡ list_any (λ field. field.search) fields
some_searched f [] = refl
some_searched f (field ∷ fields) = by field.search refl (some_searched f fields) where
  some_left : (n : ℕ) → not (nat_eq (suc n) 0) ≡ true
  some_left n = ap not (eqb-suc-zero n)

  by : (b : Bool) → field.search ≡ b → not (nat_eq (length (map f (filter (λ g. g.search) fields))) 0) ≡ list_any (λ g. g.search) fields
      → not (nat_eq (length (map f (filter (λ g. g.search) (field ∷ fields)))) 0) ≡ (field.search || list_any (λ g. g.search) fields)
  by true h rest = rw h (some_left (length (map f (filter (λ g. g.search) fields))))
  by false h rest = rw h rest
