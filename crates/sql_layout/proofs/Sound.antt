-- A comparison with a whole number is sound on a whole column.
use Rattle.std.proofs.Common.{ℕ, ◌≡◌, refl, true, false, List, []}
use Rattle.std.specs.Prelude.{ℤ, Option, Some, None}
use Rattle.std.specs.Str.{all_scalars}
use Rattle.event_schema.specs.Events.{IsWholeNumber}
use Rattle.event_schema.specs.declared.schema.Field.{Field}
use Rattle.event_schema.specs.declared.schema.FieldKind.{FieldKind}
use Rattle.event_schema.specs.declared.schema.FieldKind.TheVariants as kinds
use Rattle.query_tokens.specs.Places.{At}
use Rattle.sql_lang.specs.Tokens.{Op, Eq, Ne, Lt, Lte, Gt, Gte}
use Rattle.sql_lang.specs.Names.{kind_of}
use Rattle.sql_lang.specs.Faults.{is_whole, is_not_whole, is_unknown, whole, test_faults}
use Rattle.sql_layout.specs.Trees.{IsSound}
use Rattle.sql_layout.specs.Leaves.{compares_number}
use Rattle.sql_layout.proofs.Numbers.{decimal_reads}

whole_kind : (k : Option FieldKind) → is_whole k ≡ true → (is_unknown k ≡ false) × (is_not_whole k ≡ false)
whole_kind None h = absurd cc
whole_kind (Some kinds.Text) h = absurd cc
whole_kind (Some kinds.Whole) h = (refl, refl)
whole_kind (Some kinds.Address) h = absurd cc

number_faultless : (fields : List Field) (field : List ℕ) (op : Op) (z : ℤ) (ps : List At)
    → is_unknown (kind_of fields field) ≡ false → is_not_whole (kind_of fields field) ≡ false
    → test_faults fields [] (compares_number field op z) ps ≡ []
number_faultless fields field Eq z ps known not = rw (known, not) refl
number_faultless fields field Ne z ps known not = rw (known, not) refl
number_faultless fields field Lt z ps known not = rw (known, not) refl
number_faultless fields field Lte z ps known not = rw (known, not) refl
number_faultless fields field Gt z ps known not = rw (known, not) refl
number_faultless fields field Gte z ps known not = rw (known, not) refl

pub sound_number : (fields : List Field) (field : List ℕ) (op : Op) (z : ℤ) → all_scalars field ≡ true → IsWholeNumber z → whole fields field ≡ true
    → IsSound fields (compares_number field op z)
sound_number fields field op z named fits is =
    let k = whole_kind (kind_of fields field) is in
    let number = (decimal_reads z fits).0 in
    record { writable = rw (named, number) refl; faultless = λ ps. number_faultless fields field op z ps k.0 k.1 }
