-- The law of the steps on names: the rule with other names means what the first rule means, where each of its names is read as
-- one of the others.
use Rattle.std.specs.Prelude.{ℕ, zero, suc, ◌⊎◌, ⊤, if◌then◌else◌, List, [], ◌∷◌, Option, Some, None}
use Rattle.std.specs.List.{flat_map}
use Rattle.event_schema.specs.Lists.{EachOf, SomeOf}
use Rattle.event_schema.specs.declared.schema.Field.{Field}
use Rattle.event_schema.specs.declared.value.Value.{Value}
use Rattle.modifier_words.specs.declared.modifier.Joined.{Joined}
use Rattle.rule_head.specs.declared.source.LogSource.{LogSource}
use Rattle.rule_detections.specs.declared.detection.Detection.{Detection}
use Rattle.rule_detections.specs.declared.item.Fields.{Fields}
use Rattle.rule_detections.specs.declared.item.Fields.TheVariants.{Keyword, Names}
use Rattle.rule_detections.specs.declared.item.Item.{Item}
use Rattle.rule_model.specs.Matching.{JoinedHolds, KeywordSatisfied, named}
use Rattle.rule_model.specs.Plain.{PlainRule}
use Rattle.sig_conditions.specs.Formulas.{PlainFormula, FDetection, FNot, FAnd, FOr, PlainFormulas, no_forms, form}
use Rattle.rule_detections.specs.Holds.{Holds}
use Rattle.rule_detections.specs.References.{reference_of}
use Rattle.rule_detections.specs.declared.test.Test.{Test}
use Rattle.rule_detections.specs.declared.test.Test.TheVariants.{SameAs}
use Rattle.pipeline_model.specs.Concerned.{acts_on}
use Rattle.pipeline_model.specs.declared.step.Step.{Step}
use Rattle.pipeline_rename.specs.Names.{names_for}
use Rattle.pipeline_rename.specs.Renamed.{renamed}

-- When a rule matches, where its items hold as given.
module _ (ItemHolds : Item → Type 0) where
  abbrev pub DetectionBy : Detection → Type 0
  DetectionBy d = SomeOf (λ items. EachOf ItemHolds items) d.alternatives

  abbrev pub NumberBy : List Detection → ℕ → Type 0
  NumberBy [] n = ⊥
  NumberBy (d ∷ ds) zero = DetectionBy d
  NumberBy (d ∷ ds) (suc n) = NumberBy ds n

  abbrev mutual
    pub FormBy : List Detection → PlainFormula → Type 0
    FormBy ds (FDetection n) = NumberBy ds n
    FormBy ds (FNot f) = FormBy ds f → ⊥
    FormBy ds (FAnd fs) = AllFormsBy ds fs
    FormBy ds (FOr fs) = SomeFormsBy ds fs

    pub AllFormsBy : List Detection → PlainFormulas → Type 0
    AllFormsBy ds no_forms = ⊤
    AllFormsBy ds (form f fs) = FormBy ds f × AllFormsBy ds fs

    pub SomeFormsBy : List Detection → PlainFormulas → Type 0
    SomeFormsBy ds no_forms = ⊥
    SomeFormsBy ds (form f fs) = FormBy ds f ⊎ SomeFormsBy ds fs

  abbrev pub MatchesBy : PlainRule → Type 0
  MatchesBy rule = SomeOf (FormBy rule.detections) rule.conditions

-- Of an event, and of the names that each name is read as.
module _ (read_as : List ℕ → List (List ℕ)) (fields : List Field) (row : List (List Value)) where
  -- a test that compares with a field holds for one of the names that the field's is read as
  abbrev pub ComparesAs : List Value → Test → Option (List ℕ) → Type 0
  ComparesAs values test None = Holds (named fields row) test values
  ComparesAs values test (Some name) = SomeOf (λ other. Holds (named fields row) (SameAs other) values) (read_as name)

  abbrev pub HoldsAs : List Value → Test → Type 0
  HoldsAs values test = ComparesAs values test (reference_of test)

  -- a value is satisfied by the field of this name where one of its tests holds
  abbrev pub SatisfiesAs : List ℕ → List Test → Type 0
  SatisfiesAs name tests = SomeOf (HoldsAs (named fields row name)) tests

  -- the item holds of one of the names that some name is read as; keywords are read as they are
  abbrev pub FieldsHoldAs : Joined → List (List Test) → Fields → Type 0
  FieldsHoldAs joined values Keyword = JoinedHolds joined (KeywordSatisfied fields row) values
  FieldsHoldAs joined values (Names names) = SomeOf (λ name. SomeOf (λ other. JoinedHolds joined (SatisfiesAs other) values) (read_as name)) names

  abbrev pub ItemHoldsAs : Item → Type 0
  ItemHoldsAs i = FieldsHoldAs i.joined i.tests i.fields

  -- the rule matches, where each name is read as one of the names
  abbrev pub MatchesAs : PlainRule → Type 0
  MatchesAs rule = MatchesBy ItemHoldsAs rule

-- a name is made others, which are read as others
abbrev pub then_as : (List ℕ → List (List ℕ)) → (List ℕ → List (List ℕ)) → List ℕ → List (List ℕ)
then_as made read_as name = flat_map read_as (made name)

abbrev pub itself : List ℕ → List (List ℕ)
itself name = name ∷ []

-- ---- steps on names, one after another, on a rule of this log source

abbrev pub step_renamed : Step → PlainRule → PlainRule
step_renamed step rule = if acts_on step rule.source then renamed (names_for step) rule else rule

abbrev pub steps_renamed : List Step → PlainRule → PlainRule
steps_renamed [] rule = rule
steps_renamed (step ∷ steps) rule = steps_renamed steps (step_renamed step rule)

-- what a name is read as, where what the steps make of it is read as others; a step leaves the names of rules of other log sources
abbrev pub steps_view : LogSource → List Step → (List ℕ → List (List ℕ)) → List ℕ → List (List ℕ)
steps_view source [] read_as = read_as
steps_view source (step ∷ steps) read_as =
    if acts_on step source then then_as (names_for step) (steps_view source steps read_as) else steps_view source steps read_as
