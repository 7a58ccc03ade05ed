-- Conditions that hold and conditions that don't, by computation.
use Rattle.std.proofs.Common.{◌≡◌, ℕ, true, false, List, [], ◌∷◌, refl}
use Rattle.std.specs.Prelude.{Some, None, codes}
use Rattle.rule_head.specs.declared.source.LogSource.{LogSource}
use Rattle.pipeline_model.specs.declared.step.FieldCond.TheVariants.{Include, Exclude}
use Rattle.pipeline_model.specs.Concerned.{conditions_hold, source_met, name_met, keyword_met}

abbrev processes : LogSource
processes = record { category = Some (codes "process_creation"); product = Some (codes "windows"); service = None }

abbrev windows : LogSource
windows = record { category = None; product = Some (codes "windows"); service = None }

abbrev sysmon : LogSource
sysmon = record { category = None; product = Some (codes "windows"); service = Some (codes "sysmon") }

-- a part that a condition doesn't give is met by any, one that a rule doesn't give meets none
pub given_parts_alone : source_met processes windows ≡ true
given_parts_alone = refl

pub missing_part : source_met processes sysmon ≡ false
missing_part = refl

-- where there are no conditions, they hold, however they're joined
pub none_by_and : conditions_hold false (source_met processes) [] ≡ true
none_by_and = refl

pub none_by_or : conditions_hold true (source_met processes) [] ≡ true
none_by_or = refl

-- one of two holds
pub one_by_and : conditions_hold false (source_met processes) (windows ∷ sysmon ∷ []) ≡ false
one_by_and = refl

pub one_by_or : conditions_hold true (source_met processes) (windows ∷ sysmon ∷ []) ≡ true
one_by_or = refl

abbrev images : List (List ℕ)
images = codes "Image" ∷ codes "ParentImage" ∷ []

pub included : name_met (codes "Image") (Include images) ≡ true
included = refl

pub exact : name_met (codes "image") (Include images) ≡ false
exact = refl

pub left_out : name_met (codes "Image") (Exclude images) ≡ false
left_out = refl

-- a keyword isn't among the names of a condition
pub keyword : conditions_hold true keyword_met (Include images ∷ Exclude images ∷ []) ≡ true
keyword = refl

pub keyword_left_out : keyword_met (Include images) ≡ false
keyword_left_out = refl
