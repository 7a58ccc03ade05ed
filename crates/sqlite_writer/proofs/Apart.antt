-- Fields with names that are apart are found by them.
use Rattle.std.proofs.Common.{ℕ, zero, suc, ◌≡◌, ◌<◌, refl, sym, ap, Bool, true, false, List, [], ◌∷◌, length, map, arith}
use Rattle.std.specs.Prelude.{Some}
use Rattle.std.proofs.lemmas.Slice.Eq.{bytes_eq-Decides}
use Rattle.sig_base.specs.Folding.{folded}
use Rattle.event_schema.specs.Inferred.{text_field}
use Rattle.sql_lang.specs.Names.{is_named, column_of}
use Rattle.backend_core.specs.FieldAt.{name_at}
use Rattle.event_schema.specs.Lists.{EachOf}
use Rattle.event_schema.specs.Schemas.{IsOther, AreApart, IsField, names_of}
use Rattle.event_schema.specs.declared.schema.Field.{Field}
use Rattle.sqlite_writer.specs.Schemas.{AreScalars}

named_itself : (name : List ℕ) → is_named name name ≡ true
named_itself name = (bytes_eq-Decides (folded name) (folded name)).1 refl

named_other : (name later : List ℕ) → (folded later ≡ folded name → ⊥) → is_named name later ≡ false
named_other name later other = by (is_named name later) refl where
  by : (so : Bool) → is_named name later ≡ so → is_named name later ≡ false
  by true is = absurd (other (sym ((bytes_eq-Decides (folded name) (folded later)).0 is)))
  by false is = is

pub field_scalars : (fields : List Field) → EachOf IsField fields → AreScalars (names_of fields)
field_scalars [] each = tt
field_scalars (field ∷ fields) each = (each.0.name.scalars, field_scalars fields each.1)

other_at : (name : List ℕ) (fields : List Field) (k : ℕ) → IsOther name (names_of fields) → k < length fields
    → is_named name (name_at fields k) ≡ false
other_at name [] k other within = absurd (omega (arith, within))
other_at name (later ∷ fields) zero other within = named_other name later.name other.0
other_at name (later ∷ fields) (suc k) other within = other_at name fields k other.1 (omega (arith, within))

pub fields_are_found : (fields : List Field) → AreApart (names_of fields) → (k : ℕ) → k < length fields
    → column_of fields (name_at fields k) ≡ Some k
fields_are_found [] apart k within = absurd (omega (arith, within))
fields_are_found (field ∷ fields) apart zero within = rw (named_itself field.name) refl
fields_are_found (field ∷ fields) apart (suc k) within =
    let found = fields_are_found fields apart.1 k (omega (arith, within)) in
    let other = other_at field.name fields k apart.0 (omega (arith, within)) in
    rw (other, found) refl

-- fields that are made of names have these
pub own_names : (names : List (List ℕ)) → names_of (map text_field names) ≡ names
own_names [] = refl
own_names (name ∷ names) = ap (λ (ns : List (List ℕ)). name ∷ ns) (own_names names)
