-- The number of a field is that of its name among the names.
use Rattle.std.proofs.Common.{ℕ, ◌≡◌, ◌+◌, List, [], ◌∷◌, cond, refl, ap, sym, ◌∙◌}
use Rattle.std.specs.Prelude.{Option, Some}
use Rattle.std.specs.List.{position_from}
use Rattle.std.specs.Str.{bytes_eq}
use Rattle.std.proofs.lemmas.Iterator.Adapters.{position_from-zero}
use Rattle.event_schema.specs.Rows.{field_number}
use Rattle.event_schema.specs.declared.schema.Field.{Field}
use Rattle.text_index.specs.Numbers.{first_number}
use Rattle.event_schema.specs.Schemas.{names_of}

number_from_names : (i : ℕ) (fields : List Field) (name : List ℕ)
    → position_from (λ (t : List ℕ). bytes_eq t name) i (names_of fields) ≡ position_from (λ (f : Field). bytes_eq f.name name) i fields
number_from_names i [] name = refl
number_from_names i (f ∷ fields) name = ap (λ (o : Option ℕ). cond (bytes_eq f.name name) (Some i) o) (number_from_names (i + 1) fields name)

pub found_is : (fields : List Field) (names : List (List ℕ)) (name : List ℕ) (found : Option ℕ) → names ≡ names_of fields → found ≡ first_number names name
    → found ≡ field_number fields name
found_is fields names name found e is =
    is
    ∙ (ap (λ (ns : List (List ℕ)). first_number ns name) e
    ∙ (position_from-zero (λ (t : List ℕ). bytes_eq t name) (names_of fields)
    ∙ (number_from_names 0 fields name
    ∙ sym (position_from-zero (λ (f : Field). bytes_eq f.name name) fields))))
