-- Why a step on values refuses a rule.
use Rattle.std.specs.Prelude.{Bool, false, not, ◌&&◌, List, [], ◌∷◌, map, Option}
use Rattle.std.specs.List.{list_any}
use Rattle.sig_base.specs.Judged.{must, first}
use Rattle.sig_base.specs.declared.limits.Limits.{Limits}
use Rattle.sig_base.specs.declared.refusal.Place.{Place}
use Rattle.sig_base.specs.declared.refusal.Refusal.{Refusal}
use Rattle.rule_detections.specs.declared.test.Test.{Test}
use Rattle.rule_detections.specs.declared.test.Test.TheVariants as tests
use Rattle.sig_strings.specs.declared.part.Part.{Part}
use Rattle.rule_detections.specs.declared.detection.Detection.{Detection}
use Rattle.rule_detections.specs.declared.item.Fields.{Fields}
use Rattle.rule_detections.specs.declared.item.Item.{Item}
use Rattle.pipeline_model.specs.declared.pipeline.Var.{Var}
use Rattle.pipeline_model.specs.declared.step.Action.{Action}
use Rattle.pipeline_model.specs.declared.step.Action.TheVariants.{MapNames, Prefix, Suffix, MapPrefixes, Drop, Add, Source, MapTexts, FillHoles, WildHoles, FailRule, FailItem}
use Rattle.pipeline_model.specs.declared.step.Step.{Step}
use Rattle.pipeline_limits.specs.Sizes.{grown_refusal}
use Rattle.pipeline_fill.specs.Filled.{lacks_values}
use Rattle.pipeline_fill.specs.Changed.{acts_on_fields, changed_detections}
use Rattle.pipeline_fill.specs.Extent.{extent_refusal}

-- ---- a placeholder without values

-- some chosen placeholder of the pattern has no variable
abbrev pub leaves_open : List Var → Action → List Part → Bool
leaves_open vars (MapNames pairs) parts = false
leaves_open vars (Prefix front) parts = false
leaves_open vars (Suffix back) parts = false
leaves_open vars (MapPrefixes pairs) parts = false
leaves_open vars Drop parts = false
leaves_open vars (Add items negated) parts = false
leaves_open vars (Source source) parts = false
leaves_open vars (MapTexts pairs) parts = false
leaves_open vars (FillHoles choice) parts = list_any (lacks_values vars (FillHoles choice)) parts
leaves_open vars (WildHoles choice) parts = list_any (lacks_values vars (WildHoles choice)) parts
leaves_open vars (FailRule message) parts = false
leaves_open vars (FailItem message) parts = false

abbrev pub is_open : List Var → Action → Test → Bool
is_open vars action tests.Absent = false
is_open vars action (tests.Exists there) = false
is_open vars action (tests.Fits parts cased) = leaves_open vars action parts
is_open vars action (tests.Equals n) = false
is_open vars action (tests.Inside n) = false
is_open vars action (tests.Compare op n) = false
is_open vars action (tests.SameAs name) = false
is_open vars action (tests.Finds text flags) = false

abbrev pub are_open : List Var → Step → Fields → List (List Test) → Bool
are_open vars step fields values = acts_on_fields step fields && list_any (list_any (is_open vars step.action)) values

abbrev pub open_item : List Var → Step → Item → Option Refusal
open_item vars step i = must 98 i.place (not (are_open vars step i.fields i.tests))

-- the first refusal of a list
abbrev pub first_of : {A : Type 0} → (A → Option Refusal) → List A → Option Refusal
first_of cause xs = first (map cause xs)

abbrev pub open_items : List Var → Step → List Item → Option Refusal
open_items vars step items = first_of (open_item vars step) items

abbrev pub open_detection : List Var → Step → Detection → Option Refusal
open_detection vars step d = first_of (open_items vars step) d.alternatives

-- code 98, at the first item that has one
abbrev pub open_refusal : List Var → Step → List Detection → Option Refusal
open_refusal vars step ds = first_of (open_detection vars step) ds

-- ---- growth

-- code 98 at an item, and then code 99 at the rule's place, of the whole rule that the step makes: of its names, its tests and each
-- pattern, and then of all its patterns together
abbrev pub change_refusal : Limits → List Var → Step → Place → List Detection → Option Refusal
change_refusal limits vars step place ds = first (
    open_refusal vars step ds ∷ grown_refusal limits place (changed_detections vars step ds) ∷ extent_refusal limits place (changed_detections vars step ds) ∷ []
    )
