-- Where a step acts: the conditions on rules and on fields (pySigma, processing conditions).
use Rattle.std.specs.Prelude.{ℕ, Bool, true, false, not, ◌&&◌, if◌then◌else◌, List, Option, Some, None}
use Rattle.std.specs.List.{list_any, list_all}
use Rattle.std.specs.Str.{bytes_eq}
use Rattle.yaml_tree.specs.Nodes.{is_empty}
use Rattle.rule_head.specs.declared.source.LogSource.{LogSource}
use Rattle.pipeline_model.specs.declared.step.FieldCond.{FieldCond}
use Rattle.pipeline_model.specs.declared.step.FieldCond.TheVariants.{Include, Exclude}
use Rattle.pipeline_model.specs.declared.step.Step.{Step}

-- some one of the conditions holds, or else all of them do; where there are no conditions, they hold
abbrev pub conditions_hold : {A : Type 0} → Bool → (A → Bool) → List A → Bool
conditions_hold some holds conds = if some && not (is_empty conds) then list_any holds conds else list_all holds conds

-- a part of a log source that a condition doesn't give is met by any, one that it gives by an equal one
abbrev pub part_met : Option (List ℕ) → Option (List ℕ) → Bool
part_met None part = true
part_met (Some wanted) None = false
part_met (Some wanted) (Some part) = bytes_eq wanted part

-- the log source of a rule meets the one that a condition gives
abbrev pub source_met : LogSource → LogSource → Bool
source_met source wanted = part_met wanted.category source.category && part_met wanted.product source.product && part_met wanted.service source.service

-- the step acts on rules of this log source
abbrev pub acts_on : Step → LogSource → Bool
acts_on step source = conditions_hold step.rule_any (source_met source) step.rule_conds

abbrev pub is_among : List (List ℕ) → List ℕ → Bool
is_among names name = list_any (λ other. bytes_eq other name) names

abbrev pub name_met : List ℕ → FieldCond → Bool
name_met name (Include names) = is_among names name
name_met name (Exclude names) = not (is_among names name)

-- a keyword has no name that could be among those of a condition
abbrev pub keyword_met : FieldCond → Bool
keyword_met (Include names) = false
keyword_met (Exclude names) = true

-- the step acts on the field of this name
abbrev pub concerns : Step → List ℕ → Bool
concerns step name = conditions_hold step.field_any (name_met name) step.field_conds

-- the step acts on keywords
abbrev pub concerns_keywords : Step → Bool
concerns_keywords step = conditions_hold step.field_any keyword_met step.field_conds
