-- A rule made ready for the events of a schema: each name is the number of its field, and each regular expression its own number
-- among the rule's. What a rule means stands in `rule_model` (`Matching`); here stands how it's kept, and what is asked of an event's values
-- by these numbers.
use Rattle.std.specs.Prelude.{ℕ, ◌≡◌, ◌↔◌, Bool, true, false, IsTrue, List, map, slice_get, Option, Some, None, option_and_then}
use Rattle.std.specs.List.{AllZip}
use Rattle.event_schema.specs.Lists.{EachOf, SomeOf}
use Rattle.event_schema.specs.Rows.{field_number, field_values, values_if_any, value_text}
use Rattle.event_schema.specs.declared.schema.Field.{Field}
use Rattle.event_schema.specs.declared.value.Value.{Value}
use Rattle.schema_index.specs.Numbers.{searched}
use Rattle.query_lang.specs.Patterns.{finds}
use Rattle.query_lang.specs.declared.search.Search.{Search}
use Rattle.rule_detections.specs.declared.detection.Detection.{Detection}
use Rattle.rule_detections.specs.declared.expression.Expression.{Expression}
use Rattle.rule_detections.specs.declared.item.Fields.{Fields}
use Rattle.rule_detections.specs.declared.item.Fields.TheVariants.{Keyword, Names}
use Rattle.rule_detections.specs.declared.item.Item.{Item}
use Rattle.rule_model.specs.Expressions.{rule_expressions}
use Rattle.rule_model.specs.Plain.{PlainRule}
use Rattle.sig_conditions.specs.Formulas.{PlainFormula, forms_view}
use Rattle.rule_detections.specs.TestExpressions.{expression_of}
use Rattle.rule_detections.specs.Holds.{Holds}
use Rattle.rule_detections.specs.References.{reference_of}
use Rattle.modifier_words.specs.declared.modifier.Joined.{Joined}
use Rattle.modifier_words.specs.declared.modifier.Joined.TheVariants.{All, Any}
use Rattle.rule_detections.specs.declared.test.Test.{Test}
use Rattle.text_index.specs.Numbers.{first_number}
use Rattle.detection_eval.specs.declared.judge.Judge.{Judge}
use Rattle.detection_eval.specs.declared.numbered.Asked.{Asked}
use Rattle.detection_eval.specs.declared.numbered.Asked.TheVariants.{Searched, Numbers}
use Rattle.detection_eval.specs.declared.numbered.NumberedItem.{NumberedItem}
use Rattle.detection_eval.specs.declared.numbered.NumberedTest.{NumberedTest}
use Rattle.detection_eval.specs.declared.ready.Ready.{Ready}

-- ---- what is asked of an event's values

-- a regular expression, if there is one, has a match somewhere in the text
abbrev pub is_found : Option (List ℕ) → List ℕ → Bool
is_found None text = false
is_found (Some expression) text = finds expression text

-- the regular expression of this number among these has a match in some value's text, a number's being its decimal
abbrev pub SomeFound : List (List ℕ) → ℕ → List Value → Type 0
SomeFound expressions number values = SomeOf (λ value. is_found (slice_get expressions number) (value_text value) ≡ true) values

-- A test without the number of a regular expression holds of these values, where those that it compares them with are those of
-- its field in the event's row; and it is none that searches for a regular expression.
abbrev pub OtherHolds : List (List Value) → List Value → NumberedTest → Type 0
OtherHolds row values numbered =
    (expression_of numbered.test ≡ None) × Holds (λ (name : List ℕ). values_if_any row numbered.other) numbered.test values

-- with the rule's regular expressions
module _ (expressions : List (List ℕ)) where
  -- with a test's number of a regular expression, if it has one
  abbrev HoldsBy : List (List Value) → List Value → NumberedTest → Option ℕ → Type 0
  HoldsBy row values numbered None = OtherHolds row values numbered
  HoldsBy row values numbered (Some number) = SomeFound expressions number values

  -- a test holds of a field's values in an event's row
  abbrev pub NumberedHolds : List (List Value) → List Value → NumberedTest → Type 0
  NumberedHolds row values numbered = HoldsBy row values numbered numbered.search

  -- a value of an item is satisfied where one of its tests holds of a field's values
  abbrev pub Satisfies : List (List Value) → List Value → List NumberedTest → Type 0
  Satisfies row values tests = SomeOf (NumberedHolds row values) tests

-- all of the values are satisfied, or some one of them
abbrev pub ValuesHold : Joined → (List NumberedTest → Type 0) → List (List NumberedTest) → Type 0
ValuesHold All Satisfied values = EachOf Satisfied values
ValuesHold Any Satisfied values = SomeOf Satisfied values

-- with the rule's regular expressions, the numbers of the fields that keywords search, and an event's values
module _ (expressions : List (List ℕ)) (searched : List ℕ) (row : List (List Value)) where
  -- a keyword is satisfied by some field of these
  abbrev pub SearchSatisfies : List NumberedTest → Type 0
  SearchSatisfies tests = SomeOf (λ n. Satisfies expressions row (field_values row n) tests) searched

  abbrev pub AskedHolds : Joined → List (List NumberedTest) → Asked → Type 0
  AskedHolds joined values Searched = ValuesHold joined SearchSatisfies values
  AskedHolds joined values (Numbers numbers) =
      SomeOf (λ number. ValuesHold joined (Satisfies expressions row (values_if_any row number)) values) numbers

  abbrev pub NumberedItemHolds : NumberedItem → Type 0
  NumberedItemHolds i = AskedHolds i.joined i.tests i.asked

  -- some alternative has all of its items
  abbrev pub AlternativesHold : List (List NumberedItem) → Type 0
  AlternativesHold alternatives = SomeOf (λ items. EachOf NumberedItemHolds items) alternatives

  -- for each detection whether it holds
  abbrev pub AreTruths : List Bool → List (List (List NumberedItem)) → Type 0
  AreTruths truths detections = AllZip (λ b alternatives. IsTrue b ↔ AlternativesHold alternatives) truths detections

-- ---- how a rule is kept

-- the regular expressions of a rule, in their order
abbrev pub texts_of : List Expression → List (List ℕ)
texts_of expressions = map (λ e. e.text) expressions

abbrev pub asked_of : List Field → Fields → Asked
asked_of fields Keyword = Searched
asked_of fields (Names names) = Numbers (map (field_number fields) names)

-- by the fields of the schema, and the rule's regular expressions
module _ (fields : List Field) (expressions : List (List ℕ)) where
  -- a test with the number of the field that it compares with, if there is such a field, and the number of the regular expression
  -- that it searches for
  abbrev pub numbered_test : Test → NumberedTest
  numbered_test test = record {
    test = test;
    other = option_and_then (field_number fields) (reference_of test);
    search = option_and_then (first_number expressions) (expression_of test);
  }

  abbrev pub numbered_item : Item → NumberedItem
  numbered_item i = record { asked = asked_of fields i.fields; joined = i.joined; tests = map (map numbered_test) i.tests }

  abbrev pub numbered_detection : Detection → List (List NumberedItem)
  numbered_detection d = map (map numbered_item) d.alternatives

-- the numbers of the fields that keywords search, the regular expressions that were built, the alternatives of each detection, and
-- the conditions
pub record PlainReady : Type 0 where
  pub searched : List ℕ
  pub expressions : List (List ℕ)
  pub detections : List (List (List NumberedItem))
  pub conditions : List PlainFormula

-- of a rule with these regular expressions
abbrev pub ready_of : List Field → List (List ℕ) → PlainRule → PlainReady
ready_of fields expressions rule = record {
  searched = searched fields;
  expressions = expressions;
  detections = map (numbered_detection fields expressions) rule.detections;
  conditions = rule.conditions;
}

abbrev pub ready_rule : List Field → PlainRule → PlainReady
ready_rule fields rule = ready_of fields (texts_of (rule_expressions rule)) rule

-- the texts of searches
abbrev pub searches_view : List Search → List (List ℕ)
searches_view searches = map (λ s. s.text) searches

abbrev pub ready_view : Ready → PlainReady
ready_view r = record {
  searched = r.searched.items;
  expressions = searches_view r.searches.items;
  detections = r.detections.items;
  conditions = forms_view r.conditions.items;
}

-- it's made of this rule for these fields
pub record StandsFor (fields : List Field) (rule : PlainRule) (ready : Ready) : Type 0 where
  pub is : ready_view ready ≡ ready_rule fields rule

-- it judges events by this rule for these fields
pub record JudgesFor (fields : List Field) (rule : PlainRule) (judge : Judge) : Type 0 where
  pub is : ready_view judge.ready.now ≡ ready_rule fields rule
