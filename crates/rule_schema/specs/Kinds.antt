-- What the tests of items ask of fields (Sigma specification 2.0, modifiers `lt`, `lte`, `gt`, `gte`, `cidr` and `fieldref`).
use Rattle.std.specs.Prelude.{ℕ, Bool, true, false, ◌&&◌, ◌||◌, not, if◌then◌else◌, List, [], ◌∷◌, ◌++◌}
use Rattle.std.specs.List.{list_any, list_all}
use Rattle.std.specs.Str.{bytes_eq}
use Rattle.event_schema.specs.declared.schema.Field.{Field}
use Rattle.event_schema.specs.declared.schema.FieldKind.{FieldKind}
use Rattle.event_schema.specs.declared.schema.FieldKind.TheVariants as kinds
use Rattle.rule_detections.specs.declared.item.Fields.{Fields}
use Rattle.rule_detections.specs.declared.item.Fields.TheVariants.{Keyword, Names}
use Rattle.rule_detections.specs.References.{references_in}
use Rattle.rule_detections.specs.declared.test.Test.{Test}
use Rattle.rule_detections.specs.declared.test.Test.TheVariants as tests

-- a test that stands on fields of whole numbers alone
abbrev pub asks_whole : Test → Bool
asks_whole tests.Absent = false
asks_whole (tests.Exists there) = false
asks_whole (tests.Fits pattern cased) = false
asks_whole (tests.Equals n) = false
asks_whole (tests.Inside n) = false
asks_whole (tests.Compare op n) = true
asks_whole (tests.SameAs name) = false
asks_whole (tests.Finds text flags) = false

-- a test that stands on fields of addresses alone
abbrev pub asks_address : Test → Bool
asks_address tests.Absent = false
asks_address (tests.Exists there) = false
asks_address (tests.Fits pattern cased) = false
asks_address (tests.Equals n) = false
asks_address (tests.Inside n) = true
asks_address (tests.Compare op n) = false
asks_address (tests.SameAs name) = false
asks_address (tests.Finds text flags) = false

-- what is asked of a field: that it's one of whole numbers, that it's one of addresses
pub record Asks : Type 0 where
  pub whole : Bool
  pub address : Bool

abbrev pub nothing_asked : Asks
nothing_asked = record { whole = false; address = false }

-- some test of these values does
abbrev pub some_asks : (Test → Bool) → List (List Test) → Bool
some_asks asks values = list_any (λ value. list_any asks value) values

-- what the tests of an item's values ask of its fields
abbrev pub asks_of : List (List Test) → Asks
asks_of values = record { whole = some_asks asks_whole values; address = some_asks asks_address values }

-- no field is of both kinds
abbrev pub opposed : Asks → Asks → Bool
opposed a b = a.whole && b.address || a.address && b.whole

-- the kind of a field of which that is asked; it's of texts where nothing is
abbrev pub kind_for : Asks → FieldKind
kind_for asks = if asks.whole then kinds.Whole else if asks.address then kinds.Address else kinds.Text

abbrev pub names_in : Fields → List (List ℕ)
names_in Keyword = []
names_in (Names names) = names

abbrev pub is_whole : FieldKind → Bool
is_whole kinds.Text = false
is_whole kinds.Whole = true
is_whole kinds.Address = false

abbrev pub is_address : FieldKind → Bool
is_address kinds.Text = false
is_address kinds.Whole = false
is_address kinds.Address = true

-- the first field of this name is of such a kind
abbrev pub is_field_of : (FieldKind → Bool) → List Field → List ℕ → Bool
is_field_of p [] name = false
is_field_of p (field ∷ fields) name = if bytes_eq field.name name then p field.kind else is_field_of p fields name

-- where these names are compared with some others, the fields of all of them are of whole numbers, or none is
abbrev pub are_alike : List Field → (names others : List (List ℕ)) → Bool
are_alike fields names [] = true
are_alike fields names (other ∷ others) =
    list_all (is_field_of is_whole fields) (names ++ other ∷ others)
    || list_all (λ name. not (is_field_of is_whole fields name)) (names ++ other ∷ others)

-- each name's field is of the kind that the tests of these values ask for, and is like those that they compare it with
abbrev pub are_of_kinds : List Field → List (List Test) → List (List ℕ) → Bool
are_of_kinds fields values names =
    (not (asks_of values).whole || list_all (is_field_of is_whole fields) names)
    && (not (asks_of values).address || list_all (is_field_of is_address fields) names)
    && are_alike fields names (references_in values)
