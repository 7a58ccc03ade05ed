-- Steps that fail: at the rule, or at the first item that they act on (pySigma, rule failure and detection item failure).
use Rattle.std.specs.Prelude.{ℕ, not, List, map, Option, Some, None}
use Rattle.sig_base.specs.declared.refusal.Refusal.{Refusal}
use Rattle.sig_base.specs.Judged.{must, first}
use Rattle.rule_detections.specs.declared.detection.Detection.{Detection}
use Rattle.rule_detections.specs.declared.item.Item.{Item}
use Rattle.rule_model.specs.Plain.{PlainRule}
use Rattle.rule_schema.specs.Inferred.{items_of}
use Rattle.pipeline_check.specs.Causes.{worded}
use Rattle.pipeline_model.specs.declared.step.Step.{Step}
use Rattle.pipeline_edit.specs.Items.{concerns_item}

-- code 95, with the message
abbrev pub rule_failure : List ℕ → PlainRule → Option Refusal
rule_failure message rule = Some (worded 95 rule.head.place message)

-- an item that the step acts on
abbrev pub item_failure : Step → Item → Option Refusal
item_failure step i = must 96 i.place (not (concerns_item step i))

abbrev pub with_message : List ℕ → Option Refusal → Option Refusal
with_message message None = None
with_message message (Some r) = Some (worded r.code r.place message)

-- code 96 at the first of them, with the message
abbrev pub items_failure : Step → List ℕ → List Detection → Option Refusal
items_failure step message ds = with_message message (first (map (item_failure step) (items_of ds)))
