-- The tests that are written open no parentheses and have one word NOT at most.
use Rattle.std.proofs.Common.{ℕ, ◌≡◌, ◌≤◌, refl, Bool, true, false, if◌then◌else◌, List}
use Rattle.std.specs.Prelude.{ℤ, Option, Some, None}
use Rattle.std.specs.List.{list_all}
use Rattle.event_schema.specs.declared.schema.Field.{Field}
use Rattle.event_schema.specs.declared.schema.FieldKind.{FieldKind}
use Rattle.event_schema.specs.declared.schema.FieldKind.TheVariants as kinds
use Rattle.backend_core.specs.FieldAt.{kind_at, name_at}
use Rattle.sig_strings.specs.Edits.{has_wildcard}
use Rattle.sql_lang.specs.Grammar.{Collate, Unsaid, NoCase, Binary, Leaf, constant, spell_test}
use Rattle.sql_lang.specs.Tokens.{Op, Eq}
use Rattle.sql_layout.specs.Layout.{has_text}
use Rattle.sql_layout.specs.Leaves.{has_value, has_no_value, equals_text, equals_field, compares_number, fits_like, fits_glob}
use Rattle.sql_lang.specs.Reading.{opens_too_far, nots_too_many}
use Rattle.sql_layout.specs.Trees.{IsSound as IsSoundLeaf, EachLeaf, EachOfTrees}
use Rattle.backend_core.specs.declared.tree.LeafTest.{LeafTest}
use Rattle.backend_core.specs.declared.tree.LeafTest.TheVariants as tests
use Rattle.sqlite_writer.specs.Guarded.{sign_of, wildcard_test, plain_test, same_test, finds_test, counts_case, written_test, other_of, behind_other, guarded_test}
use Rattle.sqlite_writer.proofs.Nested.{IsCalm, not_below}

module _ (limit : ℕ) (some : 1 ≤ limit) where
  calm_value : (name : List ℕ) → list_all has_text (spell_test (has_value name)) ≡ true → IsCalm limit (has_value name)
  unfolding opens_too_far nots_too_many
  calm_value name texts =
      let no = not_below limit 1 some in
      record { opens = λ opened closed rest. refl; nots = λ n rest. rw no refl; texts = texts }

  calm_no_value : (name : List ℕ) → list_all has_text (spell_test (has_no_value name)) ≡ true → IsCalm limit (has_no_value name)
  unfolding opens_too_far nots_too_many
  calm_no_value name texts = record { opens = λ opened closed rest. refl; nots = λ n rest. refl; texts = texts }

  calm_text : (name value : List ℕ) (c : Collate) → list_all has_text (spell_test (equals_text name value c)) ≡ true → IsCalm limit (equals_text name value c)
  unfolding opens_too_far nots_too_many
  calm_text name value Unsaid texts = record { opens = λ opened closed rest. refl; nots = λ n rest. refl; texts = texts }
  calm_text name value NoCase texts = record { opens = λ opened closed rest. refl; nots = λ n rest. refl; texts = texts }
  calm_text name value Binary texts = record { opens = λ opened closed rest. refl; nots = λ n rest. refl; texts = texts }

  calm_fields : (name other : List ℕ) (c : Collate) → list_all has_text (spell_test (equals_field name other c)) ≡ true → IsCalm limit (equals_field name other c)
  unfolding opens_too_far nots_too_many
  calm_fields name other Unsaid texts = record { opens = λ opened closed rest. refl; nots = λ n rest. refl; texts = texts }
  calm_fields name other NoCase texts = record { opens = λ opened closed rest. refl; nots = λ n rest. refl; texts = texts }
  calm_fields name other Binary texts = record { opens = λ opened closed rest. refl; nots = λ n rest. refl; texts = texts }

  calm_same : (kind : FieldKind) (name other : List ℕ) → list_all has_text (spell_test (same_test kind name other)) ≡ true → IsCalm limit (same_test kind name other)
  calm_same kinds.Text name other texts = calm_fields name other NoCase texts
  calm_same kinds.Whole name other texts = calm_fields name other Unsaid texts
  calm_same kinds.Address name other texts = calm_fields name other NoCase texts

  calm_like : (name pattern : List ℕ) → list_all has_text (spell_test (fits_like name pattern)) ≡ true → IsCalm limit (fits_like name pattern)
  unfolding opens_too_far nots_too_many
  calm_like name pattern texts = record { opens = λ opened closed rest. refl; nots = λ n rest. refl; texts = texts }

  calm_glob : (name pattern : List ℕ) → list_all has_text (spell_test (fits_glob name pattern)) ≡ true → IsCalm limit (fits_glob name pattern)
  unfolding opens_too_far nots_too_many
  calm_glob name pattern texts = record { opens = λ opened closed rest. refl; nots = λ n rest. refl; texts = texts }

  calm_number : (name : List ℕ) (op : Op) (n : ℤ) → list_all has_text (spell_test (compares_number name op n)) ≡ true → IsCalm limit (compares_number name op n)
  unfolding opens_too_far nots_too_many
  calm_number name op n texts = record { opens = λ opened closed rest. refl; nots = λ n rest. refl; texts = texts }

  calm_finds : (name expression : List ℕ) → list_all has_text (spell_test (finds_test name expression)) ≡ true → IsCalm limit (finds_test name expression)
  unfolding opens_too_far nots_too_many
  calm_finds name expression texts = record { opens = λ opened closed rest. refl; nots = λ n rest. refl; texts = texts }

  pub calm_never : list_all has_text (spell_test (constant false)) ≡ true → IsCalm limit (constant false)
  unfolding opens_too_far nots_too_many
  calm_never texts = record { opens = λ opened closed rest. refl; nots = λ n rest. refl; texts = texts }

  module _ (fields : List Field) where
    calm_test : (kind : FieldKind) (name : List ℕ) (test : LeafTest) → list_all has_text (spell_test (written_test fields kind name test)) ≡ true
        → IsCalm limit (written_test fields kind name test)
    calm_test kind name tests.Has texts = calm_value name texts
    calm_test kind name tests.Absent texts = calm_no_value name texts
    calm_test kind name (tests.Fits parts cased) texts = by (counts_case kind cased) cased (has_wildcard parts) texts where
      by : (counts cased wild : Bool) → list_all has_text (spell_test (if wild then wildcard_test name counts parts else plain_test name cased parts)) ≡ true
          → IsCalm limit (if wild then wildcard_test name counts parts else plain_test name cased parts)
      by true cased true texts = calm_glob name _ texts
      by false cased true texts = calm_like name _ texts
      by counts true false texts = calm_text name _ Unsaid texts
      by counts false false texts = calm_text name _ NoCase texts
    calm_test kind name (tests.Equals n) texts = calm_number name Eq n texts
    calm_test kind name (tests.Compare op n) texts = calm_number name (sign_of op) n texts
    calm_test kind name (tests.SameAs other) texts = calm_same (kind_at fields other) name (name_at fields other) texts
    calm_test kind name (tests.Finds expression) texts = calm_finds name expression texts

    calm_behind : (o : Option ℕ) (l : Leaf) → (list_all has_text (spell_test l) ≡ true → IsCalm limit l)
        → EachOfTrees (IsSoundLeaf fields) (behind_other fields o l) → EachOfTrees (IsCalm limit) (behind_other fields o l)
    calm_behind None l calm sound = (calm sound.0.writable, tt)
    calm_behind (Some other) l calm sound = (calm_value (name_at fields other) sound.0.writable, (calm sound.1.0.writable, tt))

    pub calm_guarded : (guarded : Bool) (kind : FieldKind) (name : List ℕ) (test : LeafTest) → EachLeaf (IsSoundLeaf fields) (guarded_test fields guarded kind name test)
        → EachLeaf (IsCalm limit) (guarded_test fields guarded kind name test)
    calm_guarded true kind name test sound = (calm_value name sound.0.writable, calm_behind (other_of test) (written_test fields kind name test) (calm_test kind name test) sound.1)
    calm_guarded false kind name test sound = calm_test kind name test sound.writable
