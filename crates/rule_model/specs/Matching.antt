-- When a rule matches an event (Sigma specification 2.0, detection and condition).
use Rattle.std.specs.Prelude.{ℕ, zero, suc, ◌≡◌, true, List, [], ◌∷◌, ◌⊎◌, ⊤}
use Rattle.event_schema.specs.declared.schema.Field.{Field}
use Rattle.event_schema.specs.declared.value.Value.{Value}
use Rattle.event_schema.specs.Rows.{field_number, values_if_any}
use Rattle.sig_conditions.specs.Formulas.{PlainFormula, FDetection, FNot, FAnd, FOr, PlainFormulas, no_forms, form}
use Rattle.rule_detections.specs.Holds.{Holds}
use Rattle.modifier_words.specs.declared.modifier.Joined.{Joined}
use Rattle.modifier_words.specs.declared.modifier.Joined.TheVariants.{All, Any}
use Rattle.rule_detections.specs.declared.test.Test.{Test}
use Rattle.event_schema.specs.Lists.{EachOf, SomeOf}
use Rattle.rule_model.specs.Plain.{PlainRule}
use Rattle.rule_detections.specs.declared.detection.Detection.{Detection}
use Rattle.rule_detections.specs.declared.item.Fields.{Fields}
use Rattle.rule_detections.specs.declared.item.Fields.TheVariants.{Keyword, Names}
use Rattle.rule_detections.specs.declared.item.Item.{Item}

-- all of the values are satisfied, or some one of them
abbrev pub JoinedHolds : Joined → (List Test → Type 0) → List (List Test) → Type 0
JoinedHolds All Satisfied values = EachOf Satisfied values
JoinedHolds Any Satisfied values = SomeOf Satisfied values

-- Of an event that has for each of these fields a list of values: the row has them in the fields' order.
module _ (fields : List Field) (row : List (List Value)) where
  -- the values of the field of a name
  abbrev pub named : List ℕ → List Value
  named name = values_if_any row (field_number fields name)

  -- a value is satisfied by a field where one of its tests holds of the field's values
  abbrev pub FieldSatisfies : List ℕ → List Test → Type 0
  FieldSatisfies name tests = SomeOf (λ test. Holds named test (named name)) tests

  -- a keyword is satisfied by some field that keywords search
  abbrev pub KeywordSatisfied : List Test → Type 0
  KeywordSatisfied tests = SomeOf (λ field. (field.search ≡ true) × FieldSatisfies field.name tests) fields

  -- the item holds of some one of its names
  abbrev pub FieldsHold : Joined → List (List Test) → Fields → Type 0
  FieldsHold joined values Keyword = JoinedHolds joined KeywordSatisfied values
  FieldsHold joined values (Names names) = SomeOf (λ name. JoinedHolds joined (FieldSatisfies name) values) names

  abbrev pub ItemHolds : Item → Type 0
  ItemHolds i = FieldsHold i.joined i.tests i.fields

  -- some alternative has all of its items
  abbrev pub DetectionHolds : Detection → Type 0
  DetectionHolds d = SomeOf (λ items. EachOf ItemHolds items) d.alternatives

  -- the detection of this number is there and holds
  abbrev pub NumberHolds : List Detection → ℕ → Type 0
  NumberHolds [] n = ⊥
  NumberHolds (d ∷ ds) zero = DetectionHolds d
  NumberHolds (d ∷ ds) (suc n) = NumberHolds ds n

  abbrev mutual
    pub FormHolds : List Detection → PlainFormula → Type 0
    FormHolds ds (FDetection n) = NumberHolds ds n
    FormHolds ds (FNot f) = FormHolds ds f → ⊥
    FormHolds ds (FAnd fs) = AllFormsHold ds fs
    FormHolds ds (FOr fs) = SomeFormHolds ds fs

    pub AllFormsHold : List Detection → PlainFormulas → Type 0
    AllFormsHold ds no_forms = ⊤
    AllFormsHold ds (form f fs) = FormHolds ds f × AllFormsHold ds fs

    pub SomeFormHolds : List Detection → PlainFormulas → Type 0
    SomeFormHolds ds no_forms = ⊥
    SomeFormHolds ds (form f fs) = FormHolds ds f ⊎ SomeFormHolds ds fs

  -- some condition is true
  abbrev pub Matches : PlainRule → Type 0
  Matches rule = SomeOf (FormHolds rule.detections) rule.conditions
