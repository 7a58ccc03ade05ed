-- The rule with other names.
use Rattle.std.specs.Prelude.{ℕ, List, [], ◌∷◌, map, Option, Some, None}
use Rattle.std.specs.List.{flat_map}
use Rattle.rule_detections.specs.References.{reference_of}
use Rattle.rule_detections.specs.declared.test.Test.{Test}
use Rattle.rule_detections.specs.declared.test.Test.TheVariants.{SameAs}
use Rattle.rule_detections.specs.declared.detection.Detection.{Detection}
use Rattle.rule_detections.specs.declared.item.Fields.{Fields}
use Rattle.rule_detections.specs.declared.item.Fields.TheVariants.{Keyword, Names}
use Rattle.rule_detections.specs.declared.item.Item.{Item}
use Rattle.rule_model.specs.Plain.{PlainRule}
use Rattle.pipeline_rename.specs.Names.{with_names}

-- Each name is replaced by these names.
module _ (names_for : List ℕ → List (List ℕ)) where
  -- an item has each name once
  abbrev pub renamed_names : List (List ℕ) → List (List ℕ)
  renamed_names names = with_names [] (flat_map names_for names)

  abbrev pub renamed_fields : Fields → Fields
  renamed_fields Keyword = Keyword
  renamed_fields (Names names) = Names (renamed_names names)

  -- a test that compares with a field compares with each of the others, which are alternatives
  abbrev pub compared : Test → Option (List ℕ) → List Test
  compared test None = test ∷ []
  compared test (Some name) = map SameAs (names_for name)

  abbrev pub renamed_test : Test → List Test
  renamed_test test = compared test (reference_of test)

  abbrev pub renamed_value : List Test → List Test
  renamed_value tests = flat_map renamed_test tests

  -- keywords stay as they are
  abbrev pub renamed_values : Fields → List (List Test) → List (List Test)
  renamed_values Keyword values = values
  renamed_values (Names names) values = map renamed_value values

  abbrev pub renamed_item : Item → Item
  renamed_item i = record { fields = renamed_fields i.fields; tests = renamed_values i.fields i.tests; joined = i.joined; place = i.place }

  abbrev pub renamed_items : List Item → List Item
  renamed_items items = map renamed_item items

  abbrev pub renamed_detection : Detection → Detection
  renamed_detection d = record { name = d.name; alternatives = map renamed_items d.alternatives; place = d.place }

  abbrev pub renamed_detections : List Detection → List Detection
  renamed_detections ds = map renamed_detection ds

  abbrev pub renamed : PlainRule → PlainRule
  renamed rule = record { head = rule.head; source = rule.source; detections = renamed_detections rule.detections; conditions = rule.conditions }
