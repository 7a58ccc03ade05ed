-- What a written test says of a row: unknown without a value, and else whether the pattern fits, or the number stands so, or the
-- texts of two fields are one, or the regular expression has a match.
use Rattle.std.proofs.Common.{ℕ, zero, suc, ◌≡◌, ◌<◌, ◌≤◌, ◌⊎◌, inl, inr, refl, sym, ◌∙◌, ap, Bool, true, false, if◌then◌else◌, List, [], ◌∷◌, length, subst, arith}
use Rattle.std.specs.Prelude.{◌↔◌, ◌||◌, ℤ, Option, Some, None, ⊤}
use Rattle.std.specs.Fmt.{signed_decimal}
use Rattle.std.specs.Str.{bytes_eq}
use Rattle.std.proofs.lemmas.Slice.Eq.{bytes_eq-Decides}
use Rattle.query_lang.specs.Patterns.{finds}
use Rattle.sig_base.specs.Folding.{folded}
use Rattle.event_schema.specs.declared.schema.Field.{Field}
use Rattle.event_schema.specs.declared.schema.FieldKind.{FieldKind}
use Rattle.event_schema.specs.declared.schema.FieldKind.TheVariants as kinds
use Rattle.event_schema.specs.declared.value.Value.{Value}
use Rattle.event_schema.specs.declared.value.Value.TheVariants as values
use Rattle.event_schema.specs.Events.{IsEvent, IsWholeNumber}
use Rattle.event_schema.specs.Lists.{SomeOf, HasElement, HasNoElement}
use Rattle.sig_strings.specs.Edits.{all_written, has_wildcard, plain_text}
use Rattle.sig_strings.specs.Fits.{Fits}
use Rattle.sig_strings.specs.declared.part.Part.{Part}
use Rattle.sig_strings.specs.declared.part.Part.TheVariants.{Char, One, Run, Dash, Hole}
use Rattle.sql_lang.specs.Grammar.{Unsaid, NoCase}
use Rattle.sql_lang.specs.Tokens.{Op, Eq}
use Rattle.sql_layout.specs.Leaves.{has_value, equals_field, compares_number}
use Rattle.sql_layout.specs.Trees.{tree_value}
use Rattle.sql_lang.specs.Names.{column_of}
use Rattle.sql_lang.specs.ColumnTests.{number_test}
use Rattle.sql_lang.specs.Expression.{Expr, Test, test_of}
use Rattle.sql_layout.specs.Escaped.{like_text, glob_text, characters}
use Rattle.sql_lang.specs.Meaning.{Truth, Yes, Unknown, truth, negation, both, value_at, is_absent, int_eq, wholes_are, like_fits, glob_fits, on_text, compared, test_value, sql_value}
use Rattle.sql_like.specs.Writable.{is_writable, sql_parts}
use Rattle.backend_core.specs.Holds.{ValueStands, AreSame, TestHolds}
use Rattle.backend_core.specs.declared.tree.Op.{Op as Order}
use Rattle.backend_core.specs.Lacks.{leaf_refusal}
use Rattle.backend_core.specs.declared.lack.Lack.TheVariants.{Many}
use Rattle.event_schema.specs.Rows.{field_values, first_value, first_values, value_text}
use Rattle.backend_core.specs.declared.tree.LeafTest.{LeafTest}
use Rattle.backend_core.specs.declared.tree.LeafTest.TheVariants as tests
use Rattle.backend_core.specs.declared.tree.Leaf.{Leaf}
use Rattle.backend_core.specs.Trees.{leaf}
use Rattle.backend_core.specs.FieldAt.{kind_at, name_at, is_many}
use Rattle.backend_core.specs.Sound.{IsSoundTest, IsSound}
use Rattle.sqlite_writer.specs.Guarded.{sign_of, wildcard_test, plain_test, same_test, counts_case, written_test, is_unsure, other_of, guarded_test, sql_tree}
use Rattle.sqlite_writer.specs.Lacking.{is_many_if_any, sqlite_lacks}
use Rattle.sqlite_writer.proofs.FieldKinds.{IsOfKindIfAny, event_kinds, no_number}
use Rattle.sqlite_writer.proofs.Caseless.{caseless_is_whole, no_case_unasked, number_is_low, case_of_none}
use Rattle.sqlite_writer.proofs.Numbers.{same_number, same_folded, stands}
use Rattle.sqlite_writer.proofs.PolarityLemmas.{EvenIs, OddIs}

pub writable : (parts : List Part) → all_written parts ≡ true → is_writable parts ≡ true
writable [] h = refl
writable (Char c ∷ parts) h = writable parts h
writable (One ∷ parts) h = writable parts h
writable (Run ∷ parts) h = writable parts h
writable (Dash ∷ parts) h = absurd cc
writable (Hole name ∷ parts) h = absurd cc

pub same_characters : (parts : List Part) → characters (sql_parts parts) ≡ plain_text parts
same_characters [] = refl
same_characters (Char c ∷ parts) = ap (λ (cs : List ℕ). c ∷ cs) (same_characters parts)
same_characters (One ∷ parts) = same_characters parts
same_characters (Run ∷ parts) = same_characters parts
same_characters (Dash ∷ parts) = same_characters parts
same_characters (Hole name ∷ parts) = same_characters parts

-- ---- one value, or none

-- the values of a field that has one or none
abbrev one_value : Option Value → List Value
one_value None = []
one_value (Some v) = v ∷ []

few_values : (all : List Value) → length all ≤ 1 → all ≡ one_value (first_value all)
few_values [] h = refl
few_values (v ∷ []) h = refl
few_values (v ∷ w ∷ all) h = absurd (omega arith)

-- a field that may not have several values has what its column has
pub one_at : (fields : List Field) (row : List (List Value)) (k : ℕ) → k < length fields → IsEvent fields row → is_many fields k ≡ false
    → field_values row k ≡ one_value (value_at (first_values row) k)
one_at [] row k h event one = absurd (omega arith)
one_at (field ∷ fields) [] k h event one = absurd event
one_at (field ∷ fields) (all ∷ row) zero h event one = few_values all (event.0.few one)
one_at (field ∷ fields) (all ∷ row) (suc k) h event one = one_at fields row k (omega arith) event.1 one

-- neither a field nor the further one of its test may have several values
abbrev AreFew : List Field → Leaf → Type 0
AreFew fields l = (is_many fields l.field ≡ false) × (is_many_if_any fields (other_of l.test) ≡ false)

not_many : (fields : List Field) (l : Leaf) → leaf_refusal l (sqlite_lacks fields l) ≡ None → AreFew fields l
not_many fields l none = by (is_many fields l.field) (is_many_if_any fields (other_of l.test)) refl refl none where
  by : (a b : Bool) → is_many fields l.field ≡ a → is_many_if_any fields (other_of l.test) ≡ b
      → leaf_refusal l (if a || b then Some Many else None) ≡ None → AreFew fields l
  by true b is also some = absurd cc
  by false true is also some = absurd cc
  by false false is also some = (is, also)

-- ---- what a test says of a value

-- unknown of none, and else whether the value is so
abbrev pub Says : (Value → Type 0) → Option Value → Truth → Type 0
Says P None value = value ≡ Unknown
Says P (Some v) value = (b : Bool) × (value ≡ truth b) × ((b ≡ true) ↔ P v)

abbrev FitsIt : List Part → Bool → Value → Type 0
FitsIt parts cased v = Fits parts (value_text v) cased

abbrev IsIt : ℤ → Value → Type 0
IsIt n v = value_text v ≡ signed_decimal n

abbrev OneIs : (Value → Type 0) → Option Value → Type 0
OneIs P v = SomeOf P (one_value v)

pub says_even : (P : Value → Type 0) (v : Option Value) (value : Truth) → Says P v value → EvenIs value (OneIs P v)
says_even P None value h = subst (λ w. EvenIs w ⊥) (sym h) (λ x. x)
says_even P (Some v) value h = by h.0 h.1 h.2 where
  by : (b : Bool) → value ≡ truth b → (b ≡ true) ↔ P v → EvenIs value (P v ⊎ ⊥)
  by true is so = subst (λ w. EvenIs w (P v ⊎ ⊥)) (sym is) (inl (so.0 refl))
  by false is so = subst (λ w. EvenIs w (P v ⊎ ⊥)) (sym is) (λ x. elim x [ inl y ↦ (let e = so.1 y in absurd cc) | inr n ↦ n ])

pub says_odd : (P : Value → Type 0) (v : Option Value) (value : Truth) → Says P v value
    → OddIs (both (negation (truth (is_absent v))) (both value Yes)) (OneIs P v)
says_odd P None value h = λ x. x
says_odd P (Some v) value h = by h.0 h.1 h.2 where
  by : (b : Bool) → value ≡ truth b → (b ≡ true) ↔ P v → OddIs (both value Yes) (P v ⊎ ⊥)
  by true is so = subst (λ w. OddIs (both w Yes) (P v ⊎ ⊥)) (sym is) (inl (so.0 refl))
  by false is so = subst (λ w. OddIs (both w Yes) (P v ⊎ ⊥)) (sym is) (λ x. elim x [ inl y ↦ (let e = so.1 y in absurd cc) | inr n ↦ n ])

-- ---- what it says of two

-- unknown where there is none of one, and else whether the two are so
abbrev TwoSay : (Value → Value → Type 0) → Option Value → Option Value → Truth → Type 0
TwoSay R None w value = value ≡ Unknown
TwoSay R (Some v) None value = value ≡ Unknown
TwoSay R (Some v) (Some w) value = (b : Bool) × (value ≡ truth b) × ((b ≡ true) ↔ R v w)

abbrev TwoAre : (Value → Value → Type 0) → Option Value → Option Value → Type 0
TwoAre R v w = SomeOf (λ x. SomeOf (R x) (one_value w)) (one_value v)

two_even : (R : Value → Value → Type 0) (v w : Option Value) (value : Truth) → TwoSay R v w value → EvenIs value (TwoAre R v w)
two_even R None w value h = subst (λ x. EvenIs x ⊥) (sym h) (λ x. x)
two_even R (Some v) None value h = subst (λ x. EvenIs x (⊥ ⊎ ⊥)) (sym h) (λ x. elim x [ inl n ↦ n | inr n ↦ n ])
two_even R (Some v) (Some w) value h = by h.0 h.1 h.2 where
  by : (b : Bool) → value ≡ truth b → (b ≡ true) ↔ R v w → EvenIs value ((R v w ⊎ ⊥) ⊎ ⊥)
  by true is so = subst (λ x. EvenIs x ((R v w ⊎ ⊥) ⊎ ⊥)) (sym is) (inl (inl (so.0 refl)))
  by false is so = subst (λ x. EvenIs x ((R v w ⊎ ⊥) ⊎ ⊥)) (sym is) (λ x. elim x [
    | inl y ↦ elim y [ inl z ↦ (let e = so.1 z in absurd cc) | inr n ↦ n ]
    | inr n ↦ n
  ])

-- behind both guards
two_odd : (R : Value → Value → Type 0) (v w : Option Value) (value : Truth) → TwoSay R v w value
    → OddIs (both (negation (truth (is_absent v))) (both (negation (truth (is_absent w))) (both value Yes))) (TwoAre R v w)
two_odd R None w value h = λ x. x
two_odd R (Some v) None value h = λ x. elim x [ inl n ↦ n | inr n ↦ n ]
two_odd R (Some v) (Some w) value h = by h.0 h.1 h.2 where
  by : (b : Bool) → value ≡ truth b → (b ≡ true) ↔ R v w → OddIs (both value Yes) ((R v w ⊎ ⊥) ⊎ ⊥)
  by true is so = subst (λ x. OddIs (both x Yes) ((R v w ⊎ ⊥) ⊎ ⊥)) (sym is) (inl (inl (so.0 refl)))
  by false is so = subst (λ x. OddIs (both x Yes) ((R v w ⊎ ⊥) ⊎ ⊥)) (sym is) (λ x. elim x [
    | inl y ↦ elim y [ inl z ↦ (let e = so.1 z in absurd cc) | inr n ↦ n ]
    | inr n ↦ n
  ])

-- a column of whole numbers, compared with one
number_says : (n : ℤ) (v : Option Value) → IsWholeNumber n → IsOfKindIfAny kinds.Whole v → Says (IsIt n) v (compared Unsaid Eq v (Some (values.Whole n)))
number_says n None fits kind = refl
number_says n (Some (values.Text t)) fits kind = absurd kind
number_says n (Some (values.Whole z)) fits kind = (int_eq z n, refl, same_number z n kind fits)

order_says : (op : Order) (n : ℤ) (v : Option Value) → IsOfKindIfAny kinds.Whole v → Says (ValueStands op n) v (compared Unsaid (sign_of op) v (Some (values.Whole n)))
order_says op n None kind = refl
order_says op n (Some (values.Text t)) kind = absurd kind
order_says op n (Some (values.Whole z)) kind = (wholes_are (sign_of op) z n, refl, stands op z n)

-- two columns of whole numbers, and two of texts
wholes_say : (v w : Option Value) → IsOfKindIfAny kinds.Whole v → IsOfKindIfAny kinds.Whole w → TwoSay AreSame v w (compared Unsaid Eq v w)
wholes_say None w first second = refl
wholes_say (Some v) None first second = refl
wholes_say (Some (values.Text t)) (Some w) first second = absurd first
wholes_say (Some (values.Whole m)) (Some (values.Text u)) first second = absurd second
wholes_say (Some (values.Whole m)) (Some (values.Whole n)) first second = (int_eq m n, refl, same_folded m n first second)

texts_say : (k l : FieldKind) → (k ≡ kinds.Whole → ⊥) → (l ≡ kinds.Whole → ⊥) → (v w : Option Value) → IsOfKindIfAny k v → IsOfKindIfAny l w
    → TwoSay AreSame v w (compared NoCase Eq v w)
texts_say k l one other None w first second = refl
texts_say k l one other (Some v) None first second = refl
texts_say k l one other (Some (values.Whole m)) (Some w) first second = absurd (no_number k m one first)
texts_say k l one other (Some (values.Text t)) (Some (values.Whole n)) first second = absurd (no_number l n other second)
texts_say k l one other (Some (values.Text t)) (Some (values.Text u)) first second = (bytes_eq (folded t) (folded u), refl, bytes_eq-Decides (folded t) (folded u))

-- a regular expression that has a match in a value's text
abbrev IsFoundIn : List ℕ → Value → Type 0
IsFoundIn expression v = finds expression (value_text v) ≡ true

finds_says : (expression : List ℕ) (v : Option Value) → Says (IsFoundIn expression) v (on_text (finds expression) v)
finds_says expression None = refl
finds_says expression (Some (values.Text t)) = (finds expression t, refl, ((λ h. h), (λ h. h)))
finds_says expression (Some (values.Whole n)) = (finds expression (signed_decimal n), refl, ((λ h. h), (λ h. h)))

-- ---- the tests that are written

module _
    (like_is : (parts : List Part) (text : List ℕ) → is_writable parts ≡ true
    → (like_fits (like_text (sql_parts parts)) (Some 92) text ≡ true) ↔ Fits parts text false)
    (glob_is : (parts : List Part) (text : List ℕ) → is_writable parts ≡ true
    → (glob_fits (glob_text (sql_parts parts)) text ≡ true) ↔ Fits parts text true)
    (cased_is : (parts : List Part) (text : List ℕ) → has_wildcard parts ≡ false → Fits parts text true ↔ (text ≡ plain_text parts))
    (folded_is : (parts : List Part) (text : List ℕ) → has_wildcard parts ≡ false → Fits parts text false ↔ (folded text ≡ folded (plain_text parts)))
    (number_is : (fields : List Field) (field : List ℕ) (op : Op) (z : ℤ) (k : ℕ) → column_of fields field ≡ Some k → IsWholeNumber z
    → Test (test_of fields (compares_number field op z)) ≡ number_test k op z)
  where
    glob_says : (parts : List Part) (v : Option Value) → all_written parts ≡ true
        → Says (FitsIt parts true) v (on_text (glob_fits (glob_text (sql_parts parts))) v)
    glob_says parts None ok = refl
    glob_says parts (Some (values.Text t)) ok = (glob_fits (glob_text (sql_parts parts)) t, refl, glob_is parts t (writable parts ok))
    glob_says parts (Some (values.Whole n)) ok =
        (glob_fits (glob_text (sql_parts parts)) (signed_decimal n), refl, glob_is parts (signed_decimal n) (writable parts ok))

    like_says : (parts : List Part) (v : Option Value) → all_written parts ≡ true
        → Says (FitsIt parts false) v (on_text (like_fits (like_text (sql_parts parts)) (Some 92)) v)
    like_says parts None ok = refl
    like_says parts (Some (values.Text t)) ok = (like_fits (like_text (sql_parts parts)) (Some 92) t, refl, like_is parts t (writable parts ok))
    like_says parts (Some (values.Whole n)) ok =
        (like_fits (like_text (sql_parts parts)) (Some 92) (signed_decimal n), refl, like_is parts (signed_decimal n) (writable parts ok))

    -- in whole numbers no letter stands
    digits_say : (parts : List Part) (v : Option Value) → all_written parts ≡ true → IsOfKindIfAny kinds.Whole v
        → Says (FitsIt parts true) v (on_text (like_fits (like_text (sql_parts parts)) (Some 92)) v)
    digits_say parts None ok whole = refl
    digits_say parts (Some (values.Text t)) ok whole = absurd whole
    digits_say parts (Some (values.Whole n)) ok whole =
        let like = like_is parts (signed_decimal n) (writable parts ok) in
        let same = case_of_none parts (signed_decimal n) (number_is_low n whole) in
        (like_fits (like_text (sql_parts parts)) (Some 92) (signed_decimal n), refl, ((λ h. same.0 (like.0 h)), (λ h. like.1 (same.1 h))))

    module _ (kind : FieldKind) (other : kind ≡ kinds.Whole → ⊥) where
      equals_says : (parts : List Part) (v : Option Value) → has_wildcard parts ≡ false → IsOfKindIfAny kind v
          → Says (FitsIt parts true) v (compared Unsaid Eq v (Some (values.Text (plain_text parts))))
      equals_says parts None plain of_kind = refl
      equals_says parts (Some (values.Text t)) plain of_kind =
          let same = bytes_eq-Decides t (plain_text parts) in
          let is = cased_is parts t plain in
          (bytes_eq t (plain_text parts), refl, (λ h. is.1 (same.0 h), λ h. same.1 (is.0 h)))
      equals_says parts (Some (values.Whole n)) plain of_kind = absurd (no_number kind n other of_kind)

      folds_says : (parts : List Part) (v : Option Value) → has_wildcard parts ≡ false → IsOfKindIfAny kind v
          → Says (FitsIt parts false) v (compared NoCase Eq v (Some (values.Text (plain_text parts))))
      folds_says parts None plain of_kind = refl
      folds_says parts (Some (values.Text t)) plain of_kind =
          let same = bytes_eq-Decides (folded t) (folded (plain_text parts)) in
          let is = folded_is parts t plain in
          (bytes_eq (folded t) (folded (plain_text parts)), refl, (λ h. is.1 (same.0 h), λ h. same.1 (is.0 h)))
      folds_says parts (Some (values.Whole n)) plain of_kind = absurd (no_number kind n other of_kind)

    module _ (fields : List Field) (row : List (Option Value)) (name : List ℕ) (k : ℕ) (kind : FieldKind) (named : column_of fields name ≡ Some k)
        (of_kind : IsOfKindIfAny kind (value_at row k)) where
      fits_says : (cased : Bool) (parts : List Part) → all_written parts ≡ true → (kind ≡ kinds.Whole → has_wildcard parts ≡ true)
          → Says (FitsIt parts cased) (value_at row k) (test_value (test_of fields (written_test fields kind name (tests.Fits parts cased))) row)
      fits_says cased parts ok fit = by cased (counts_case kind cased) (has_wildcard parts) refl refl where
        other : has_wildcard parts ≡ false → kind ≡ kinds.Whole → ⊥
        other plain is = let wild : has_wildcard parts ≡ true = fit is in absurd cc

        by : (cased counts wild : Bool) → counts_case kind cased ≡ counts → has_wildcard parts ≡ wild
            → Says (FitsIt parts cased) (value_at row k) (test_value (test_of fields (if wild then wildcard_test name counts parts else plain_test name cased parts)) row)
        by true true true so is = rw named (glob_says parts (value_at row k) ok)
        by true false true so is =
            rw named (digits_say parts (value_at row k) ok (subst (λ (x : FieldKind). IsOfKindIfAny x (value_at row k)) (caseless_is_whole kind so) of_kind))
        by false true true so is = absurd (no_case_unasked kind so)
        by false false true so is = rw named (like_says parts (value_at row k) ok)
        by true counts false so is = rw named (equals_says kind (other is) parts (value_at row k) is of_kind)
        by false counts false so is = rw named (folds_says kind (other is) parts (value_at row k) is of_kind)

      equal_says : (n : ℤ) → kind ≡ kinds.Whole → IsWholeNumber n
          → Says (IsIt n) (value_at row k) (test_value (test_of fields (compares_number name Eq n)) row)
      equal_says n is fits =
          subst (λ (w : Truth). Says (IsIt n) (value_at row k) w) (sym (ap (λ (e : Expr). sql_value e row) (number_is fields name Eq n k named fits)))
          (number_says n (value_at row k) fits (subst (λ (x : FieldKind). IsOfKindIfAny x (value_at row k)) is of_kind))

      has_is : test_value (test_of fields (has_value name)) row ≡ negation (truth (is_absent (value_at row k)))
      has_is = rw named refl

      has_even : (v : Option Value) → EvenIs (negation (truth (is_absent v))) (HasElement (one_value v))
      has_even None = λ x. x
      has_even (Some v) = tt

      has_odd : (v : Option Value) → OddIs (negation (truth (is_absent v))) (HasElement (one_value v))
      has_odd None = λ x. x
      has_odd (Some v) = tt

      absent_even : (v : Option Value) → EvenIs (truth (is_absent v)) (HasNoElement (one_value v))
      absent_even None = tt
      absent_even (Some v) = λ x. x

      absent_odd : (v : Option Value) → OddIs (truth (is_absent v)) (HasNoElement (one_value v))
      absent_odd None = tt
      absent_odd (Some v) = λ x. x

      compare_says : (op : Order) (n : ℤ) → kind ≡ kinds.Whole → IsWholeNumber n
          → Says (ValueStands op n) (value_at row k) (test_value (test_of fields (compares_number name (sign_of op) n)) row)
      compare_says op n is fits =
          subst (λ (w : Truth). Says (ValueStands op n) (value_at row k) w) (sym (ap (λ (e : Expr). sql_value e row) (number_is fields name (sign_of op) n k named fits)))
          (order_says op n (value_at row k) (subst (λ (x : FieldKind). IsOfKindIfAny x (value_at row k)) is of_kind))

      found_says : (expression : List ℕ)
          → Says (IsFoundIn expression) (value_at row k) (test_value (test_of fields (written_test fields kind name (tests.Finds expression))) row)
      found_says expression = rw named (finds_says expression (value_at row k))

      -- of a further field, whose column is found by its name and has a value of its kind, or none
      module _ (m : ℕ) (there : column_of fields (name_at fields m) ≡ Some m) (that_kind : IsOfKindIfAny (kind_at fields m) (value_at row m)) where
        same_says : (kind ≡ kinds.Whole) ↔ (kind_at fields m ≡ kinds.Whole)
            → TwoSay AreSame (value_at row k) (value_at row m) (test_value (test_of fields (written_test fields kind name (tests.SameAs m))) row)
        same_says together = by (kind_at fields m) refl where
          texts : (kind_at fields m ≡ kinds.Whole → ⊥) → TwoSay AreSame (value_at row k) (value_at row m) (test_value (test_of fields (equals_field name (name_at fields m) NoCase)) row)
          texts none = rw (named, there) (texts_say kind (kind_at fields m) (λ is. none (together.0 is)) none (value_at row k) (value_at row m) of_kind that_kind)

          by : (x : FieldKind) → kind_at fields m ≡ x
              → TwoSay AreSame (value_at row k) (value_at row m) (test_value (test_of fields (same_test x name (name_at fields m))) row)
          by kinds.Text is = texts (λ e. let bad : kinds.Text ≡ kinds.Whole = sym is ∙ e in absurd cc)
          by kinds.Whole is =
              rw (named, there) (wholes_say (value_at row k) (value_at row m) (subst (λ (x : FieldKind). IsOfKindIfAny x (value_at row k)) (together.1 is) of_kind)
              (subst (λ (x : FieldKind). IsOfKindIfAny x (value_at row m)) is that_kind))
          by kinds.Address is = texts (λ e. let bad : kinds.Address ≡ kinds.Whole = sym is ∙ e in absurd cc)

        same_even : (kind ≡ kinds.Whole) ↔ (kind_at fields m ≡ kinds.Whole)
            → EvenIs (test_value (test_of fields (written_test fields kind name (tests.SameAs m))) row) (TwoAre AreSame (value_at row k) (value_at row m))
        same_even together =
            two_even AreSame (value_at row k) (value_at row m) (test_value (test_of fields (written_test fields kind name (tests.SameAs m))) row) (same_says together)

        same_odd : (kind ≡ kinds.Whole) ↔ (kind_at fields m ≡ kinds.Whole)
            → OddIs (both (test_value (test_of fields (has_value name)) row) (both (test_value (test_of fields (has_value (name_at fields m))) row)
            (both (test_value (test_of fields (written_test fields kind name (tests.SameAs m))) row) Yes)))
            (TwoAre AreSame (value_at row k) (value_at row m))
        same_odd together =
            let value = test_value (test_of fields (written_test fields kind name (tests.SameAs m))) row in
            let second : test_value (test_of fields (has_value (name_at fields m))) row ≡ negation (truth (is_absent (value_at row m))) = rw there refl in
            subst (λ (x : Truth). OddIs (both x (both (test_value (test_of fields (has_value (name_at fields m))) row) (both value Yes))) (TwoAre AreSame (value_at row k) (value_at row m)))
            (sym has_is)
            (subst (λ (x : Truth). OddIs (both (negation (truth (is_absent (value_at row k)))) (both x (both value Yes))) (TwoAre AreSame (value_at row k) (value_at row m)))
            (sym second)
            (two_odd AreSame (value_at row k) (value_at row m) value (same_says together)))

      -- a test behind its guard
      guarded_odd : (P : Value → Type 0) (value : Truth) → Says P (value_at row k) value
          → OddIs (both (test_value (test_of fields (has_value name)) row) (both value Yes)) (OneIs P (value_at row k))
      guarded_odd P value says =
          subst (λ (w : Truth). OddIs (both w (both value Yes)) (OneIs P (value_at row k))) (sym has_is) (says_odd P (value_at row k) value says)

      -- the further field that a test looks at: its column is found by its name, and has a value of its kind, or none, which is all of the field's
      record IsColumn (whole : List (List Value)) (m : ℕ) : Type 0 where
        there : column_of fields (name_at fields m) ≡ Some m
        that_kind : IsOfKindIfAny (kind_at fields m) (value_at row m)
        one : field_values whole m ≡ one_value (value_at row m)

      abbrev IsColumnIfAny : List (List Value) → Option ℕ → Type 0
      IsColumnIfAny whole None = ⊤
      IsColumnIfAny whole (Some m) = IsColumn whole m

      -- over the row that the cells are of
      module _ (whole : List (List Value)) where
        test_even : (test : LeafTest) → IsSoundTest fields kind test → IsColumnIfAny whole (other_of test)
            → EvenIs (tree_value fields row (guarded_test fields false kind name test)) (TestHolds whole test (one_value (value_at row k)))
        test_even tests.Has sound other = rw named (has_even (value_at row k))
        test_even tests.Absent sound other = rw named (absent_even (value_at row k))
        test_even (tests.Fits parts cased) sound other =
            says_even (FitsIt parts cased) (value_at row k) (test_value (test_of fields (written_test fields kind name (tests.Fits parts cased))) row)
            (fits_says cased parts sound.0.written sound.1)
        test_even (tests.Equals n) sound other =
            says_even (IsIt n) (value_at row k) (test_value (test_of fields (compares_number name Eq n)) row) (equal_says n sound.0 sound.1)
        test_even (tests.Compare op n) sound other =
            says_even (ValueStands op n) (value_at row k) (test_value (test_of fields (compares_number name (sign_of op) n)) row) (compare_says op n sound.0 sound.1)
        test_even (tests.SameAs m) sound other =
            subst (λ (all : List Value). EvenIs (tree_value fields row (guarded_test fields false kind name (tests.SameAs m)))
            (SomeOf (λ v. SomeOf (AreSame v) all) (one_value (value_at row k)))) (sym other.one)
            (same_even m other.there other.that_kind sound.1)
        test_even (tests.Finds expression) sound other =
            says_even (IsFoundIn expression) (value_at row k) (test_value (test_of fields (written_test fields kind name (tests.Finds expression))) row) (found_says expression)

        test_odd : (test : LeafTest) → IsSoundTest fields kind test → IsColumnIfAny whole (other_of test)
            → OddIs (tree_value fields row (guarded_test fields (is_unsure test) kind name test)) (TestHolds whole test (one_value (value_at row k)))
        test_odd tests.Has sound other = rw named (has_odd (value_at row k))
        test_odd tests.Absent sound other = rw named (absent_odd (value_at row k))
        test_odd (tests.Fits parts cased) sound other =
            guarded_odd (FitsIt parts cased) (test_value (test_of fields (written_test fields kind name (tests.Fits parts cased))) row)
            (fits_says cased parts sound.0.written sound.1)
        test_odd (tests.Equals n) sound other =
            guarded_odd (IsIt n) (test_value (test_of fields (compares_number name Eq n)) row) (equal_says n sound.0 sound.1)
        test_odd (tests.Compare op n) sound other =
            guarded_odd (ValueStands op n) (test_value (test_of fields (compares_number name (sign_of op) n)) row) (compare_says op n sound.0 sound.1)
        test_odd (tests.SameAs m) sound other =
            subst (λ (all : List Value). OddIs (tree_value fields row (guarded_test fields true kind name (tests.SameAs m)))
            (SomeOf (λ v. SomeOf (AreSame v) all) (one_value (value_at row k)))) (sym other.one)
            (same_odd m other.there other.that_kind sound.1)
        test_odd (tests.Finds expression) sound other =
            guarded_odd (IsFoundIn expression) (test_value (test_of fields (written_test fields kind name (tests.Finds expression))) row) (found_says expression)

    module _ (fields : List Field) (row : List (List Value)) (event : IsEvent fields row)
        (found : (k : ℕ) → k < length fields → column_of fields (name_at fields k) ≡ Some k) where
      module _ (l : Leaf) (sound : IsSound fields (leaf l)) where
        abbrev IsKnown : Option ℕ → Type 0
        IsKnown o =
            IsColumnIfAny fields (first_values row) (name_at fields l.field) l.field (kind_at fields l.field) (found l.field sound.0) (event_kinds fields row l.field event) row o

        column_known : (m : ℕ) → m < length fields → is_many fields m ≡ false → IsKnown (Some m)
        column_known m near few = record { there = found m near; that_kind = event_kinds fields row m event; one = one_at fields row m near event few }

        other_known : (test : LeafTest) → IsSoundTest fields (kind_at fields l.field) test → is_many_if_any fields (other_of test) ≡ false → IsKnown (other_of test)
        other_known tests.Has s few = tt
        other_known tests.Absent s few = tt
        other_known (tests.Fits parts cased) s few = tt
        other_known (tests.Equals n) s few = tt
        other_known (tests.Compare op n) s few = tt
        other_known (tests.SameAs m) s few = column_known m s.0 few
        other_known (tests.Finds expression) s few = tt

      pub leaf_even : (l : Leaf) → IsSound fields (leaf l) → leaf_refusal l (sqlite_lacks fields l) ≡ None
          → EvenIs (tree_value fields (first_values row) (sql_tree fields false (leaf l))) (TestHolds row l.test (field_values row l.field))
      leaf_even l sound none =
          let few = not_many fields l none in
          subst (λ (all : List Value). EvenIs (tree_value fields (first_values row) (sql_tree fields false (leaf l))) (TestHolds row l.test all))
          (sym (one_at fields row l.field sound.0 event few.0))
          (test_even fields (first_values row) (name_at fields l.field) l.field (kind_at fields l.field) (found l.field sound.0) (event_kinds fields row l.field event) row l.test sound.1
          (other_known l sound l.test sound.1 few.1))

      pub leaf_odd : (l : Leaf) → IsSound fields (leaf l) → leaf_refusal l (sqlite_lacks fields l) ≡ None
          → OddIs (tree_value fields (first_values row) (sql_tree fields true (leaf l))) (TestHolds row l.test (field_values row l.field))
      leaf_odd l sound none =
          let few = not_many fields l none in
          subst (λ (all : List Value). OddIs (tree_value fields (first_values row) (sql_tree fields true (leaf l))) (TestHolds row l.test all))
          (sym (one_at fields row l.field sound.0 event few.0))
          (test_odd fields (first_values row) (name_at fields l.field) l.field (kind_at fields l.field) (found l.field sound.0) (event_kinds fields row l.field event) row l.test sound.1
          (other_known l sound l.test sound.1 few.1))
