-- Whether a rule's placeholders are filled, the schema that is made of it where none is given, and whether it fits a schema.
use Rattle.std.specs.Prelude.{ℕ, Bool, false, not, ◌&&◌, ◌||◌, if◌then◌else◌, List, [], ◌∷◌, ◌++◌, map, filter, codes, Some, None}
use Rattle.std.specs.List.{list_any, list_all, flat_map}
use Rattle.std.specs.Str.{bytes_eq}
use Rattle.std.specs.declared.option.Option.{Option}
use Rattle.event_schema.specs.declared.schema.Field.{Field}
use Rattle.event_schema.specs.declared.schema.Schema.{Schema}
use Rattle.sig_base.specs.Folding.{folded}
use Rattle.sig_base.specs.declared.refusal.Place.{Place}
use Rattle.sig_base.specs.declared.refusal.Refusal.{Refusal}
use Rattle.sig_base.specs.Judged.{must, first, refusal}
use Rattle.rule_model.specs.Plain.{PlainRule}
use Rattle.rule_detections.specs.declared.detection.Detection.{Detection}
use Rattle.rule_detections.specs.declared.item.Fields.{Fields}
use Rattle.rule_detections.specs.declared.item.Fields.TheVariants.{Keyword, Names}
use Rattle.rule_detections.specs.declared.item.Item.{Item}
use Rattle.rule_detections.specs.PlainTests.{is_filled_test}
use Rattle.rule_detections.specs.References.{references_in}
use Rattle.rule_detections.specs.declared.test.Test.{Test}
use Rattle.rule_schema.specs.Kinds.{Asks, nothing_asked, asks_of, opposed, kind_for, names_in, are_of_kinds}

-- the items of a rule, in its order
abbrev pub items_of : List Detection → List Item
items_of ds = flat_map (λ d. flat_map (λ items. items) d.alternatives) ds

-- no test of the item has a placeholder
abbrev pub is_filled_item : Item → Bool
is_filled_item i = list_all (list_all is_filled_test) i.tests

-- why an item can't be looked for: a placeholder stands open
abbrev pub open_line : Item → Option Refusal
open_line i = must 98 i.place (is_filled_item i)

-- why a rule can't: the first item of which one does
abbrev pub open_refusal : PlainRule → Option Refusal
open_refusal rule = first (map open_line (items_of rule.detections))

-- a name with the place of its item, and what the item's tests ask of its field
pub record Use : Type 0 where
  pub name : List ℕ
  pub place : Place
  pub asks : Asks

-- the uses of an item: those of its own names, and those of the names that its tests compare them with
abbrev pub item_uses : Item → List Use
item_uses i =
    map (λ name. record { name = name; place = i.place; asks = asks_of i.tests }) (names_in i.fields)
    ++ map (λ name. record { name = name; place = i.place; asks = nothing_asked }) (references_in i.tests)

-- the names that the items use, in the rule's order, each as often as it is used
abbrev pub uses_of : List Item → List Use
uses_of items = flat_map item_uses items

-- each text of a list once, where it first appears
abbrev pub distinct : List (List ℕ) → List (List ℕ)
distinct [] = []
distinct (name ∷ names) = name ∷ filter (λ other. not (bytes_eq other name)) (distinct names)

-- the names of a rule, in the order of their first appearance
abbrev pub rule_names : PlainRule → List (List ℕ)
rule_names rule = distinct (map (λ u. u.name) (uses_of (items_of rule.detections)))

-- what all uses of a name ask of its field
abbrev pub asks_in : List Use → List ℕ → Asks
asks_in uses name = record {
  whole = list_any (λ u. bytes_eq u.name name && u.asks.whole) uses;
  address = list_any (λ u. bytes_eq u.name name && u.asks.address) uses;
}

-- a field of one value, found under its own name, of the kind that is asked for
abbrev pub made_field : List Use → List ℕ → Field
made_field uses name =
    record { name = name; kind = kind_for (asks_in uses name); at = name ∷ []; search = false; cased = false; many = false }

-- the table `events` with a field for each name
abbrev pub inferred_schema : PlainRule → Schema
inferred_schema rule = record {
  table = codes "events";
  fields = map (made_field (uses_of (items_of rule.detections))) (rule_names rule);
  time = None;
}

-- Two uses of what is one name where letters of either case are taken for equal: the names differ, or no field has both the
-- kinds that are asked for.
abbrev pub clashes : Use → Use → Bool
clashes u v = bytes_eq (folded u.name) (folded v.name) && (not (bytes_eq u.name v.name) || opposed u.asks v.asks)

-- the first use that clashes with itself or with one of those before it
abbrev pub clash_behind : List Use → List Use → Option Refusal
clash_behind before [] = None
clash_behind before (u ∷ us) =
    if list_any (λ v. clashes v u) (before ++ u ∷ []) then Some (refusal 80 u.place) else clash_behind (before ++ u ∷ []) us

-- why no schema can be made of a rule
abbrev pub schema_refusal : PlainRule → Option Refusal
schema_refusal rule = clash_behind [] (uses_of (items_of rule.detections))

abbrev pub is_field : List Field → List ℕ → Bool
is_field fields name = list_any (λ field. bytes_eq field.name name) fields

-- an item's names, and those that its tests compare them with, are fields of the schema, of the kinds that its tests ask for;
-- and a keyword has a field that it searches
abbrev pub fields_refusal : List Field → Place → List (List Test) → Fields → Option Refusal
fields_refusal fields place values Keyword = must 83 place (list_any (λ field. field.search) fields)
fields_refusal fields place values (Names names) =
    first (must 81 place (list_all (is_field fields) (names ++ references_in values)) ∷ must 82 place (are_of_kinds fields values names) ∷ [])

-- why an item doesn't fit the fields of a schema
abbrev pub item_line : List Field → Item → Option Refusal
item_line fields i = fields_refusal fields i.place i.tests i.fields

-- why a rule doesn't fit a schema: the first item that doesn't
abbrev pub fit_refusal : Schema → PlainRule → Option Refusal
fit_refusal schema rule = first (map (item_line schema.fields) (items_of rule.detections))

-- ---- under the given schema, or else the one that is made of the rule

abbrev pub schema_for : Option Schema → PlainRule → Schema
schema_for None rule = inferred_schema rule
schema_for (Some schema) rule = schema

-- why no schema is made of a rule: its names clash
abbrev pub made_refusal : Option Schema → PlainRule → Option Refusal
made_refusal None rule = schema_refusal rule
made_refusal (Some schema) rule = None

-- why a rule can't be looked for under a schema: a placeholder of it stands open, or there is no schema that it fits
abbrev pub unfit_refusal : Option Schema → PlainRule → Option Refusal
unfit_refusal given rule = first (open_refusal rule ∷ made_refusal given rule ∷ fit_refusal (schema_for given rule) rule ∷ [])
