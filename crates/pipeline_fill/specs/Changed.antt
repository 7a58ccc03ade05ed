-- What the steps on values make of a rule (pySigma, value placeholders, wildcard placeholders and map string).
use Rattle.std.specs.Prelude.{Bool, false, List, [], ◌∷◌, map, if◌then◌else◌, Option, Some, None}
use Rattle.std.specs.List.{list_any, flat_map}
use Rattle.rule_detections.specs.declared.test.Test.{Test}
use Rattle.rule_detections.specs.declared.test.Test.TheVariants as tests
use Rattle.sig_strings.specs.Edits.{has_wildcard, plain_text}
use Rattle.sig_strings.specs.declared.part.Part.{Part}
use Rattle.rule_detections.specs.declared.detection.Detection.{Detection}
use Rattle.rule_detections.specs.declared.item.Fields.{Fields}
use Rattle.rule_detections.specs.declared.item.Fields.TheVariants.{Keyword, Names}
use Rattle.rule_detections.specs.declared.item.Item.{Item}
use Rattle.rule_model.specs.Plain.{PlainRule}
use Rattle.pipeline_model.specs.Concerned.{concerns, concerns_keywords}
use Rattle.pipeline_model.specs.declared.pipeline.Var.{Var}
use Rattle.pipeline_model.specs.declared.step.Action.{Action}
use Rattle.pipeline_model.specs.declared.step.Action.TheVariants.{MapNames, Prefix, Suffix, MapPrefixes, Drop, Add, Source, MapTexts, FillHoles, WildHoles, FailRule, FailItem}
use Rattle.pipeline_model.specs.declared.step.Pair.{Pair}
use Rattle.pipeline_model.specs.declared.step.Step.{Step}
use Rattle.pipeline_fill.specs.Entries.{texts_for}
use Rattle.pipeline_fill.specs.Filled.{is_chosen, filled, patterns_found}

-- a pattern with a chosen placeholder becomes all its fillings
abbrev pub filled_if_chosen : List Var → Action → List Part → Option (List (List Part))
filled_if_chosen vars action parts = if list_any (is_chosen action) parts then Some (filled vars action parts) else None

-- a pattern whose plain text has an entry becomes the patterns that its targets are read as
abbrev pub mapped : List Pair → List Part → Option (List (List Part))
mapped pairs parts = if has_wildcard parts then None else patterns_found (texts_for pairs (plain_text parts))

-- the patterns that take a pattern's place, or None where it stays
abbrev pub made_of : List Var → Action → List Part → Option (List (List Part))
made_of vars (MapNames pairs) parts = None
made_of vars (Prefix front) parts = None
made_of vars (Suffix back) parts = None
made_of vars (MapPrefixes pairs) parts = None
made_of vars Drop parts = None
made_of vars (Add items negated) parts = None
made_of vars (Source source) parts = None
made_of vars (MapTexts pairs) parts = mapped pairs parts
made_of vars (FillHoles choice) parts = filled_if_chosen vars (FillHoles choice) parts
made_of vars (WildHoles choice) parts = filled_if_chosen vars (WildHoles choice) parts
made_of vars (FailRule message) parts = None
made_of vars (FailItem message) parts = None

-- the patterns that are put in for a test's pattern
abbrev pub put_in : List Var → Action → Test → Option (List (List Part))
put_in vars action tests.Absent = None
put_in vars action (tests.Exists there) = None
put_in vars action (tests.Fits parts cased) = made_of vars action parts
put_in vars action (tests.Equals n) = None
put_in vars action (tests.Inside n) = None
put_in vars action (tests.Compare op n) = None
put_in vars action (tests.SameAs name) = None
put_in vars action (tests.Finds text flags) = None

-- the test regards case
abbrev pub is_cased : Test → Bool
is_cased tests.Absent = false
is_cased (tests.Exists there) = false
is_cased (tests.Fits parts cased) = cased
is_cased (tests.Equals n) = false
is_cased (tests.Inside n) = false
is_cased (tests.Compare op n) = false
is_cased (tests.SameAs name) = false
is_cased (tests.Finds text flags) = false

-- a test of each pattern that is put in, which regards case as the test does
abbrev pub as_tests : Test → Option (List (List Part)) → List Test
as_tests test None = test ∷ []
as_tests test (Some patterns) = map (λ parts. tests.Fits parts (is_cased test)) patterns

abbrev pub changed_test : List Var → Action → Test → List Test
changed_test vars action test = as_tests test (put_in vars action test)

abbrev pub changed_value : List Var → Action → List Test → List Test
changed_value vars action value = flat_map (changed_test vars action) value

-- the step acts on an item with some name that it concerns, or on a keyword
abbrev pub acts_on_fields : Step → Fields → Bool
acts_on_fields step Keyword = concerns_keywords step
acts_on_fields step (Names names) = list_any (concerns step) names

abbrev pub changed_values : List Var → Step → Fields → List (List Test) → List (List Test)
changed_values vars step fields values = if acts_on_fields step fields then map (changed_value vars step.action) values else values

abbrev pub changed_item : List Var → Step → Item → Item
changed_item vars step i = record { fields = i.fields; tests = changed_values vars step i.fields i.tests; joined = i.joined; place = i.place }

abbrev pub changed_items : List Var → Step → List Item → List Item
changed_items vars step items = map (changed_item vars step) items

abbrev pub changed_detection : List Var → Step → Detection → Detection
changed_detection vars step d = record { name = d.name; alternatives = map (changed_items vars step) d.alternatives; place = d.place }

abbrev pub changed_detections : List Var → Step → List Detection → List Detection
changed_detections vars step ds = map (changed_detection vars step) ds

abbrev pub changed : List Var → Step → PlainRule → PlainRule
changed vars step rule = record { head = rule.head; source = rule.source; detections = changed_detections vars step rule.detections; conditions = rule.conditions }
