-- The schema that the bytes of a file are.
use Rattle.std.specs.Prelude.{ℕ, nat_lt, Bool, true, false, not, ◌&&◌, ◌||◌, if◌then◌else◌, List, [], ◌∷◌, length, map, codes, Option, Some, None, option_map, option_and_then, Result, Ok, Err, is_some}
use Rattle.std.specs.List.{list_any, list_all}
use Rattle.std.specs.Str.{bytes_eq, chars, all_scalars}
use Rattle.serde_json.specs.Data.{Data, Items, no_items, item, Members, no_members, member}
use Rattle.serde_json.specs.Find.{get, as_array, as_bool, as_object, as_str}
use Rattle.sig_base.specs.Folding.{folded}
use Rattle.sig_base.specs.declared.limits.Limits.{Limits}
use Rattle.event_read.specs.Json.{json_of}
use Rattle.event_schema.specs.Names.{is_legal}
use Rattle.event_schema.specs.Schemas.{names_of, twin, may_be_searched, may_be_cased}
use Rattle.event_schema.specs.declared.schema.Field.{Field}
use Rattle.event_schema.specs.declared.schema.FieldKind.{FieldKind}
use Rattle.event_schema.specs.declared.schema.FieldKind.TheVariants as kinds
use Rattle.event_schema.specs.declared.schema.Schema.{Schema}
use Rattle.event_schema.specs.declared.schema.Time.{Time}
use Rattle.event_schema.specs.declared.schema.TimeForm.{TimeForm}
use Rattle.event_schema.specs.declared.schema.TimeForm.TheVariants as forms

-- the value is there and passes
abbrev pub passes : {X : Type 0} → (X → Bool) → Option X → Bool
passes test None = false
passes test (Some x) = test x

-- the value passes, if it is there
abbrev pub passes_if_any : {X : Type 0} → (X → Bool) → Option X → Bool
passes_if_any test None = true
passes_if_any test (Some x) = test x

-- each key of an object passes
abbrev pub all_keys : (List ℕ → Bool) → Members → Bool
all_keys test no_members = true
all_keys test (member k d ms) = test k && all_keys test ms

abbrev pub is_one_of : List (List ℕ) → List ℕ → Bool
is_one_of known key = list_any (λ k. bytes_eq key k) known

abbrev pub schema_keys : List (List ℕ)
schema_keys = codes "table" ∷ codes "fields" ∷ codes "time" ∷ []

abbrev pub field_keys : List (List ℕ)
field_keys = codes "name" ∷ codes "kind" ∷ codes "at" ∷ codes "search" ∷ codes "cased" ∷ codes "many" ∷ []

abbrev pub time_keys : List (List ℕ)
time_keys = codes "at" ∷ codes "form" ∷ []

-- an object that has none but these keys
abbrev pub has_only : List (List ℕ) → Data → Bool
has_only known d = passes (all_keys (is_one_of known)) (as_object d)

abbrev pub is_text : Data → Bool
is_text d = is_some (as_str d)

abbrev pub is_flag : Data → Bool
is_flag d = is_some (as_bool d)

abbrev pub all_items : (Data → Bool) → Items → Bool
all_items test no_items = true
all_items test (item d ds) = test d && all_items test ds

-- an element, and each passes
abbrev pub some_items : (Data → Bool) → Items → Bool
some_items test no_items = false
some_items test (item d ds) = test d && all_items test ds

-- a list that has an element, and whose elements pass
abbrev pub is_list_of : (Data → Bool) → Data → Bool
is_list_of test d = passes (some_items test) (as_array d)

-- the kinds of fields and the forms of times, by their words
abbrev pub kind_of : List ℕ → Option FieldKind
kind_of word =
    if bytes_eq word (codes "text") then Some kinds.Text else (if bytes_eq word (codes "whole") then Some kinds.Whole else (if bytes_eq word (codes "address") then Some kinds.Address else None))

abbrev pub form_of : List ℕ → Option TimeForm
form_of word =
    if bytes_eq word (codes "text") then Some forms.Text else (if bytes_eq word (codes "seconds") then Some forms.Seconds else (if bytes_eq word (codes "millis") then Some forms.Millis else None))

abbrev pub is_kind : Data → Bool
is_kind d = passes (λ word. is_some (kind_of word)) (as_str d)

abbrev pub is_form : Data → Bool
is_form d = passes (λ word. is_some (form_of word)) (as_str d)

-- An object that is a field, but for what its name and its kind allow.
abbrev pub is_field : Data → Bool
is_field d =
    has_only field_keys d
    && passes is_text (get (codes "name") d) && passes is_kind (get (codes "kind") d) && passes_if_any (is_list_of is_text) (get (codes "at") d)
    && passes_if_any is_flag (get (codes "search") d) && passes_if_any is_flag (get (codes "cased") d) && passes_if_any is_flag (get (codes "many") d)

abbrev pub is_time : Data → Bool
is_time d =
    has_only time_keys d && passes (is_list_of is_text) (get (codes "at") d) && passes is_form (get (codes "form") d)

-- An object that is a schema, but for what its names allow.
abbrev pub is_schema : Data → Bool
is_schema d =
    has_only schema_keys d
    && passes (is_list_of is_field) (get (codes "fields") d) && passes_if_any is_text (get (codes "table") d) && passes_if_any is_time (get (codes "time") d)

-- what is there, or else this
abbrev pub or_else : {X : Type 0} → X → Option X → X
or_else x None = x
or_else x (Some y) = y

-- the characters of the text at a key; of another value none
abbrev pub text_of : Data → List ℕ
text_of d = or_else [] (option_map chars (as_str d))

abbrev pub flag_of : Data → Bool
flag_of d = or_else false (as_bool d)

abbrev pub items_of : Data → Items
items_of d = or_else no_items (as_array d)

abbrev pub kind_in : Data → FieldKind
kind_in d = or_else kinds.Text (option_and_then kind_of (as_str d))

abbrev pub form_in : Data → TimeForm
form_in d = or_else forms.Text (option_and_then form_of (as_str d))

-- the same at a key
abbrev pub text_at : List ℕ → Data → List ℕ
text_at key d = or_else [] (option_map text_of (get key d))

abbrev pub flag_at : List ℕ → Data → Bool
flag_at key d = or_else false (option_map flag_of (get key d))

abbrev pub items_at : List ℕ → Data → Items
items_at key d = or_else no_items (option_map items_of (get key d))

abbrev pub kind_at : List ℕ → Data → FieldKind
kind_at key d = or_else kinds.Text (option_map kind_in (get key d))

abbrev pub form_at : List ℕ → Data → TimeForm
form_at key d = or_else forms.Text (option_map form_in (get key d))

abbrev pub texts_of : Items → List (List ℕ)
texts_of no_items = []
texts_of (item d ds) = text_of d ∷ texts_of ds

-- the keys that lead to a field's value, which is its own name where none are written
abbrev pub path_of : List ℕ → Option Data → List (List ℕ)
path_of name None = name ∷ []
path_of name (Some d) = texts_of (items_of d)

abbrev pub field_of : Data → Field
field_of d = record {
  name = text_at (codes "name") d;
  kind = kind_at (codes "kind") d;
  at = path_of (text_at (codes "name") d) (get (codes "at") d);
  search = flag_at (codes "search") d;
  cased = flag_at (codes "cased") d;
  many = flag_at (codes "many") d;
}

abbrev pub fields_of : Items → List Field
fields_of no_items = []
fields_of (item d ds) = field_of d ∷ fields_of ds

abbrev pub time_of : Data → Time
time_of d = record { at = texts_of (items_at (codes "at") d); form = form_at (codes "form") d }

abbrev pub table_of : Option Data → List ℕ
table_of None = codes "events"
table_of (Some d) = text_of d

-- what an object that is a schema says
abbrev pub schema_in : Data → Schema
schema_in d = record {
  table = table_of (get (codes "table") d);
  fields = fields_of (items_at (codes "fields") d);
  time = option_map time_of (get (codes "time") d);
}

-- a legal name, of Unicode scalar values, as each text of JSON is
abbrev pub is_name : List ℕ → Bool
is_name name = is_legal name && all_scalars name

-- the name is legal, keywords search texts alone, and numbers have no case
abbrev pub is_allowed : Field → Bool
is_allowed field = is_name field.name && (not field.search || may_be_searched field.kind) && (not field.cased || may_be_cased field.kind)

abbrev pub are_allowed : Schema → Bool
are_allowed schema = is_name schema.table && list_all is_allowed schema.fields

-- the name is one of these
abbrev pub is_named : List (List ℕ) → List ℕ → Bool
is_named names name = list_any (bytes_eq name) names

-- some later name is an earlier one
abbrev pub has_repeat : List (List ℕ) → Bool
has_repeat [] = false
has_repeat (name ∷ names) = list_any (λ later. bytes_eq later name) names || has_repeat names

-- the field has a twin, and one of these names is its
abbrev pub is_twin_named : List (List ℕ) → Field → Bool
is_twin_named names field = field.cased && is_named names (folded (twin field.name))

-- Letters of either case taken for equal, two names are equal, or a name and the twin of a field that has one.
abbrev pub has_repeats : List Field → Bool
has_repeats fields =
    has_repeat (map folded (names_of fields)) || list_any (is_twin_named (map folded (names_of fields))) fields

-- a schema, unless it has too many fields, and then unless names repeat
abbrev pub counted : Limits → Schema → Result Schema ℕ
counted limits schema =
    if nat_lt limits.schema_fields (length schema.fields) then Err 23 else (if has_repeats schema.fields then Err 22 else Ok schema)

abbrev pub shaped : Limits → Option Data → Result Schema ℕ
shaped limits None = Err 20
shaped limits (Some d) = if is_schema d && are_allowed (schema_in d) then counted limits (schema_in d) else Err 21

-- the schema that the bytes are, or the code for which they are none
abbrev pub schema_of : Limits → List ℕ → Result Schema ℕ
schema_of limits bytes = if nat_lt limits.file_bytes (length bytes) then Err 23 else shaped limits (json_of bytes)
