-- The items that a step acts on (pySigma, field name conditions).
use Rattle.std.specs.Prelude.{Bool}
use Rattle.std.specs.List.{list_any}
use Rattle.rule_detections.specs.declared.item.Fields.{Fields}
use Rattle.rule_detections.specs.declared.item.Fields.TheVariants.{Keyword, Names}
use Rattle.rule_detections.specs.declared.item.Item.{Item}
use Rattle.pipeline_model.specs.Concerned.{concerns, concerns_keywords}
use Rattle.pipeline_model.specs.declared.step.Step.{Step}

-- the conditions on fields hold of some name, or of the keyword
abbrev pub concerns_fields : Step → Fields → Bool
concerns_fields step Keyword = concerns_keywords step
concerns_fields step (Names names) = list_any (concerns step) names

abbrev pub concerns_item : Step → Item → Bool
concerns_item step i = concerns_fields step i.fields
