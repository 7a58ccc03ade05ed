-- What is read as a schema keeps what every schema keeps.
use Rattle.std.proofs.Common.{◌≡◌, ℕ, ◌≤◌, Bool, true, false, not, List, [], ◌∷◌, length, map, refl, sym, ap, ◌∙◌, subst, if◌then◌else◌, arith, nat_lt, Option, Some, None, option_map, Result, Ok, Err, IfOk}
use Rattle.std.specs.Prelude.{◌||◌, ◌&&◌, codes}
use Rattle.std.specs.List.{list_all, list_any}
use Rattle.std.specs.Str.{all_scalars}
use Rattle.std.proofs.lemmas.Bool.{false≢true, and_parts, or_parts, ltb-false}
use Rattle.serde_json.specs.Data.{Data, Items, no_items, item}
use Rattle.serde_json.specs.Find.{get, as_array}
use Rattle.sig_base.specs.Folding.{folded}
use Rattle.sig_base.specs.declared.limits.Limits.{Limits}
use Rattle.sig_base.specs.declared.refusal.Fault.{Fault}
use Rattle.sig_base.specs.declared.refusal.Place.{Place}
use Rattle.event_read.proofs.RepeatLemmas.{are_apart, twins_apart}
use Rattle.event_read.specs.Answers.{Answers}
use Rattle.event_read.specs.Json.{json_of}
use Rattle.event_schema.specs.Names.{IsName, is_legal}
use Rattle.event_read.specs.SchemaOf.{passes, passes_if_any, all_items, some_items, is_list_of, is_text, is_field, is_schema, or_else, items_of, text_at, texts_of, path_of, field_of, fields_of, schema_in, is_name, is_allowed, are_allowed, has_repeat, is_twin_named, has_repeats, counted, shaped, schema_of}
use Rattle.event_schema.specs.Lists.{EachOf, HasElement}
use Rattle.event_schema.specs.Schemas.{IsField, IsSchema, names_of, may_be_searched, may_be_cased}
use Rattle.event_schema.specs.declared.schema.Field.{Field}
use Rattle.event_schema.specs.declared.schema.Schema.{Schema}

abbrev HasPath : Field → Type 0
HasPath field = HasElement field.at

path_there : (name : List ℕ) (o : Option Data) → passes_if_any (is_list_of is_text) o ≡ true → HasElement (path_of name o)
path_there name None e = tt
path_there name (Some d) e = by (as_array d) e where
  by : (a : Option Items) → passes (some_items is_text) a ≡ true → HasElement (texts_of (or_else no_items a))
  by None e = absurd (false≢true e)
  by (Some no_items) e = absurd (false≢true e)
  by (Some (item x xs)) e = tt

field_path : (d : Data) → is_field d ≡ true → HasPath (field_of d)
field_path d e =
    let many = and_parts _ _ e in
    let cased = and_parts _ _ many.0 in
    let search = and_parts _ _ cased.0 in
    let at = and_parts _ _ search.0 in
    path_there (text_at (codes "name") d) (get (codes "at") d) at.1

field_paths : (ds : Items) → all_items is_field ds ≡ true → EachOf HasPath (fields_of ds)
field_paths no_items e = tt
field_paths (item d ds) e = let p = and_parts (is_field d) (all_items is_field ds) e in (field_path d p.0, field_paths ds p.1)

paths_there : (o : Option Data) → passes (is_list_of is_field) o ≡ true → EachOf HasPath (fields_of (or_else no_items (option_map items_of o)))
paths_there None e = absurd (false≢true e)
paths_there (Some d) e = by (as_array d) e where
  by : (a : Option Items) → passes (some_items is_field) a ≡ true → EachOf HasPath (fields_of (or_else no_items a))
  by None e = absurd (false≢true e)
  by (Some no_items) e = absurd (false≢true e)
  by (Some (item x xs)) e = field_paths (item x xs) e

schema_paths : (d : Data) → is_schema d ≡ true → EachOf HasPath (schema_in d).fields
schema_paths d e =
    let time = and_parts _ _ e in
    let table = and_parts _ _ time.0 in
    let fields = and_parts _ _ table.0 in
    paths_there (get (codes "fields") d) fields.1

implied : (a b : Bool) → (not a || b) ≡ true → a ≡ true → b ≡ true
implied true b e on = e
implied false b e on = absurd (false≢true on)

name_kept : (name : List ℕ) → is_name name ≡ true → IsName name
name_kept name e = let p = and_parts (is_legal name) (all_scalars name) e in record { legal = p.0; scalars = p.1 }

fields_kept : (fields : List Field) → list_all is_allowed fields ≡ true → EachOf HasPath fields → EachOf IsField fields
fields_kept [] allowed paths = tt
fields_kept (f ∷ fields) allowed paths =
    let p = and_parts (is_allowed f) (list_all is_allowed fields) allowed in
    let cased = and_parts _ _ p.0 in
    let search = and_parts _ _ cased.0 in (
      record {
        name = name_kept f.name search.0;
        at = paths.0;
        search = implied f.search (may_be_searched f.kind) search.1;
        cased = implied f.cased (may_be_cased f.kind) cased.1;
      },
      fields_kept fields p.1 paths.1,
    )

no_code : (code : ℕ) (schema : Schema) → Err code ≡ Ok schema → ⊥
no_code code schema is = cc

abbrev taken : Schema → Result Schema ℕ
taken schema = Ok schema

ok_is : (a b : Schema) → taken a ≡ taken b → a ≡ b
ok_is a b is = cc

-- a schema of which nothing is refused
kept : (limits : Limits) (schema : Schema) → are_allowed schema ≡ true → EachOf HasPath schema.fields
    → nat_lt limits.schema_fields (length schema.fields) ≡ false → has_repeats schema.fields ≡ false → IsSchema schema
kept limits schema allowed paths few apart =
    let p = and_parts _ _ allowed in
    let q = or_parts (has_repeat (map folded (names_of schema.fields))) (list_any (is_twin_named (map folded (names_of schema.fields))) schema.fields) apart in
    let most : length schema.fields ≤ limits.schema_fields = ltb-false limits.schema_fields (length schema.fields) few in
    record {
      table = name_kept schema.table p.0;
      fields = fields_kept schema.fields p.1 paths;
      apart = are_apart (names_of schema.fields) q.0;
      twins = twins_apart (names_of schema.fields) schema.fields q.1;
      few = omega (arith, most, limits.schema_fields_in.1);
    }

-- an object that is a schema, of which nothing is refused
counted_kept : (limits : Limits) (d : Data) (schema : Schema) → is_schema d ≡ true → are_allowed (schema_in d) ≡ true → counted limits (schema_in d) ≡ Ok schema → IsSchema schema
counted_kept limits d schema shape allowed is = by (nat_lt limits.schema_fields (length (schema_in d).fields)) refl (has_repeats (schema_in d).fields) refl is
  where
    by : (a : Bool) → nat_lt limits.schema_fields (length (schema_in d).fields) ≡ a → (b : Bool) → has_repeats (schema_in d).fields ≡ b
        → (if◌then◌else◌ {A = Result Schema ℕ} a (Err 23) (if b then Err 22 else Ok (schema_in d))) ≡ Ok schema → IsSchema schema
    by true many b apart is = absurd (no_code 23 schema is)
    by false few true apart is = absurd (no_code 22 schema is)
    by false few false apart is = subst IsSchema (ok_is (schema_in d) schema is) (kept limits (schema_in d) allowed (schema_paths d shape) few apart)

shaped_kept : (limits : Limits) (o : Option Data) (schema : Schema) → shaped limits o ≡ Ok schema → IsSchema schema
shaped_kept limits None schema is = absurd (no_code 20 schema is)
shaped_kept limits (Some d) schema is = by (is_schema d) refl (are_allowed (schema_in d)) refl is
  where
    by : (a : Bool) → is_schema d ≡ a → (b : Bool) → are_allowed (schema_in d) ≡ b → (if◌then◌else◌ {A = Result Schema ℕ} (a && b) (counted limits (schema_in d)) (Err 21)) ≡ Ok schema → IsSchema schema
    by true shape true allowed is = counted_kept limits d schema shape allowed is
    by true shape false allowed is = absurd (no_code 21 schema is)
    by false shape b allowed is = absurd (no_code 21 schema is)

-- the schema that bytes are keeps what every schema keeps
pub schema_kept : (limits : Limits) (bytes : List ℕ) (schema : Schema) → schema_of limits bytes ≡ Ok schema → IsSchema schema
schema_kept limits bytes schema is = by (nat_lt limits.file_bytes (length bytes)) is
  where
    by : (a : Bool) → (if◌then◌else◌ {A = Result Schema ℕ} a (Err 23) (shaped limits (json_of bytes))) ≡ Ok schema → IsSchema schema
    by true is = absurd (no_code 23 schema is)
    by false is = shaped_kept limits (json_of bytes) schema is

-- of what is answered
pub answers_kept : (place : Place) (limits : Limits) (o : Option Data) (r : Result Schema Fault) → Answers place (shaped limits o) r → IfOk r IsSchema
answers_kept place limits o (Err e) answers = tt
answers_kept place limits o (Ok s) answers = by (shaped limits o) refl answers
  where
    by : (t : Result Schema ℕ) → shaped limits o ≡ t → Answers place t (Ok s) → IsSchema s
    by (Ok x) is same = shaped_kept limits o s (is ∙ ap (λ (y : Schema). Ok y) (sym same))
    by (Err code) is same = absurd same
