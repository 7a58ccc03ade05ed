-- The step that drops names (pySigma, drop detection item).
use Rattle.std.specs.Prelude.{ℕ, Bool, not, if◌then◌else◌, List, [], ◌∷◌, map, filter, Option, Some, None}
use Rattle.std.specs.List.{list_any, flat_map}
use Rattle.sig_base.specs.declared.refusal.Refusal.{Refusal}
use Rattle.sig_base.specs.Judged.{must, first}
use Rattle.yaml_tree.specs.Nodes.{is_empty}
use Rattle.rule_detections.specs.declared.detection.Detection.{Detection}
use Rattle.rule_detections.specs.declared.item.Fields.{Fields}
use Rattle.rule_detections.specs.declared.item.Fields.TheVariants.{Keyword, Names}
use Rattle.rule_detections.specs.declared.item.Item.{Item}
use Rattle.rule_model.specs.Plain.{PlainRule}
use Rattle.pipeline_model.specs.Concerned.{concerns, concerns_keywords}
use Rattle.pipeline_model.specs.declared.step.Step.{Step}

-- the conditions on fields don't hold of the name
abbrev pub stays : Step → List ℕ → Bool
stays step name = not (concerns step name)

abbrev pub names_if_any : List (List ℕ) → Option Fields
names_if_any [] = None
names_if_any (name ∷ names) = Some (Names (name ∷ names))

-- the names that stay, if any; a keyword has none of its own, and stays or goes
abbrev pub kept_fields : Step → Fields → Option Fields
kept_fields step Keyword = if concerns_keywords step then None else Some Keyword
kept_fields step (Names names) = names_if_any (filter (stays step) names)

-- the item with these fields in place of its own, or nothing where there are none
abbrev pub with_fields : Item → Option Fields → List Item
with_fields i None = []
with_fields i (Some fields) = record { fields = fields; tests = i.tests; joined = i.joined; place = i.place } ∷ []

abbrev pub kept_item : Step → Item → List Item
kept_item step i = with_fields i (kept_fields step i.fields)

abbrev pub kept_items : Step → List Item → List Item
kept_items step items = flat_map (kept_item step) items

abbrev pub kept_detection : Step → Detection → Detection
kept_detection step d = record { name = d.name; alternatives = map (kept_items step) d.alternatives; place = d.place }

abbrev pub kept_detections : Step → List Detection → List Detection
kept_detections step ds = map (kept_detection step) ds

-- the rule without the names that the step drops
abbrev pub dropped : Step → PlainRule → PlainRule
dropped step rule = record { head = rule.head; source = rule.source; detections = kept_detections step rule.detections; conditions = rule.conditions }

-- ---- code 97: an alternative is left without items

abbrev pub emptied : Detection → Option Refusal
emptied d = must 97 d.place (not (list_any is_empty d.alternatives))

abbrev pub emptied_refusal : List Detection → Option Refusal
emptied_refusal ds = first (map emptied ds)
