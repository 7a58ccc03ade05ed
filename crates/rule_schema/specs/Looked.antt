-- What the fields of some names are, as the code looks them up.
use Rattle.std.specs.Prelude.{ℕ, Bool, true, false, not, ◌&&◌, ◌||◌, if◌then◌else◌, List, [], ◌∷◌, Option, Some, None, IfSome}
use Rattle.std.specs.List.{list_any, list_all}
use Rattle.std.specs.Str.{bytes_eq}
use Rattle.event_schema.specs.declared.schema.Field.{Field}
use Rattle.event_schema.specs.declared.schema.FieldKind.{FieldKind}
use Rattle.schema_index.specs.Numbered.{AreNumbered}
use Rattle.schema_index.specs.declared.numbers.FieldNumbers.{FieldNumbers}
use Rattle.rule_schema.specs.Inferred.{is_field}
use Rattle.rule_schema.specs.Kinds.{Asks, is_whole, is_address, is_field_of}
use Rattle.rule_schema.specs.declared.seen.Seen.{Seen}

-- where there are numbers, they're those of these fields
abbrev pub AreNumberedIfAny : List Field → Option FieldNumbers → Type 0
AreNumberedIfAny fields numbers = IfSome numbers (λ n. AreNumbered fields n)

-- the kind of the first field of this name
abbrev pub kind_in : List Field → List ℕ → Option FieldKind
kind_in [] name = None
kind_in (field ∷ fields) name = if bytes_eq field.name name then Some field.kind else kind_in fields name

-- what the fields of these names are, all of them; and whether there is a name
abbrev pub seen_of : List Field → List (List ℕ) → Seen
seen_of fields names = record {
  some = list_any (λ name. true) names;
  known = list_all (is_field fields) names;
  whole = list_all (is_field_of is_whole fields) names;
  other = list_all (λ name. not (is_field_of is_whole fields name)) names;
  address = list_all (is_field_of is_address fields) names;
}

abbrev pub nothing_seen : Seen
nothing_seen = record { some = false; known = true; whole = true; other = true; address = true }

-- one name whose field has this kind, or that has none
abbrev pub seen_kind : Option FieldKind → Seen
seen_kind None = record { some = true; known = false; whole = false; other = true; address = false }
seen_kind (Some kind) = record { some = true; known = true; whole = is_whole kind; other = not (is_whole kind); address = is_address kind }

abbrev pub both : Seen → Seen → Seen
both a b = record {
  some = a.some || b.some;
  known = a.known && b.known;
  whole = a.whole && b.whole;
  other = a.other && b.other;
  address = a.address && b.address;
}

-- the fields of the names are what is asked, and all of whole numbers, or none, where these names are compared with others
abbrev pub suits : Asks → (names others : Seen) → Bool
suits asks names others =
    (not asks.whole || names.whole)
    && (not asks.address || names.address)
    && (not others.some || (names.whole && others.whole || names.other && others.other))
