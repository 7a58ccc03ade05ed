-- The step that adds a condition (pySigma, add condition).
use Rattle.std.specs.Prelude.{ℕ, Bool, true, false, if◌then◌else◌, List, [], ◌∷◌, ◌++◌, map, length}
use Rattle.sig_base.specs.declared.refusal.Place.{Place}
use Rattle.sig_conditions.specs.Formulas.{PlainFormula, FDetection, FNot, FAnd, FOr, no_forms, form}
use Rattle.rule_detections.specs.declared.detection.Detection.{Detection}
use Rattle.rule_detections.specs.declared.item.Item.{Item}
use Rattle.rule_model.specs.Plain.{PlainRule}

abbrev pub placed : Place → Item → Item
placed place i = record { fields = i.fields; tests = i.tests; joined = i.joined; place = place }

-- the detection of these items alone: without a name, it and they at the place
abbrev pub added_detection : Place → List Item → Detection
added_detection place items = record { name = []; alternatives = map (placed place) items ∷ []; place = place }

-- the detection of this number holds, or it doesn't
abbrev pub added_form : Bool → ℕ → PlainFormula
added_form negated n = if negated then FNot (FDetection n) else FDetection n

-- `added and c`; where c is an `and` already, it gets one part more
abbrev pub and_also : PlainFormula → PlainFormula → PlainFormula
and_also added (FDetection n) = FAnd (form added (form (FDetection n) no_forms))
and_also added (FNot f) = FAnd (form added (form (FNot f) no_forms))
and_also added (FAnd fs) = FAnd (form added fs)
and_also added (FOr fs) = FAnd (form added (form (FOr fs) no_forms))

abbrev pub and_each : PlainFormula → List PlainFormula → List PlainFormula
and_each added conditions = map (and_also added) conditions

-- the rule with the items as one more detection, of which each condition asks
abbrev pub with_condition : List Item → Bool → PlainRule → PlainRule
with_condition items negated rule = record {
  head = rule.head;
  source = rule.source;
  detections = rule.detections ++ added_detection rule.head.place items ∷ [];
  conditions = and_each (added_form negated (length rule.detections)) rule.conditions;
}

-- ---- what it means

-- something holds, or with `negated` it doesn't
abbrev pub HoldsUnless : Bool → Type 0 → Type 0
HoldsUnless true H = H → ⊥
HoldsUnless false H = H
