-- The code's own count of the tests of a rule's tree, made before the tree.
use Rattle.std.specs.Prelude.{ℕ, ◌+◌, ◌*◌, ◌^◌, min, List, length, map, sum_by, slice_index}
use Rattle.modifier_windash.specs.Choices.{dash_count}
use Rattle.rule_model.specs.Plain.{PlainRule}
use Rattle.rule_detections.specs.declared.detection.Detection.{Detection}
use Rattle.rule_detections.specs.declared.item.Fields.{Fields}
use Rattle.rule_detections.specs.declared.item.Fields.TheVariants.{Keyword, Names}
use Rattle.rule_detections.specs.declared.item.Item.{Item}
use Rattle.sig_conditions.specs.Formulas.{PlainFormula, FDetection, FNot, FAnd, FOr, PlainFormulas, no_forms, form, forms_of}
use Rattle.sig_encode.specs.Networks.{pattern_count}
use Rattle.rule_detections.specs.declared.test.Test.{Test}
use Rattle.rule_detections.specs.declared.test.Test.TheVariants as tests

-- five dashes at each place, and a network's patterns
abbrev pub test_count : Test → ℕ
test_count tests.Absent = 1
test_count (tests.Exists there) = 1
test_count (tests.Fits pattern cased) = 5 ^ dash_count pattern
test_count (tests.Equals n) = 1
test_count (tests.Inside n) = pattern_count n
test_count (tests.Compare op n) = 1
test_count (tests.SameAs name) = 1
test_count (tests.Finds text flags) = 1

abbrev pub value_count : List Test → ℕ
value_count value = sum_by test_count value

abbrev pub values_count : List (List Test) → ℕ
values_count values = sum_by value_count values

-- how many fields an item asks about, where keywords search so many
abbrev pub width : ℕ → Fields → ℕ
width searched Keyword = searched
width searched (Names names) = length names

abbrev pub item_count : ℕ → Item → ℕ
item_count searched i = values_count i.tests * width searched i.fields

abbrev pub alternative_count : ℕ → List Item → ℕ
alternative_count searched items = sum_by (item_count searched) items

abbrev pub alternatives_count : ℕ → List (List Item) → ℕ
alternatives_count searched alternatives = sum_by (alternative_count searched) alternatives

-- the count of each detection, which stops at a greatest number
abbrev pub detection_counts : ℕ → ℕ → List Detection → List ℕ
detection_counts most searched ds = map (λ d. min (alternatives_count searched d.alternatives) most) ds

abbrev mutual
  pub form_count : ℕ → List ℕ → PlainFormula → ℕ
  form_count most counts (FDetection n) = min (slice_index counts n) most
  form_count most counts (FNot f) = form_count most counts f
  form_count most counts (FAnd fs) = forms_count most counts fs
  form_count most counts (FOr fs) = forms_count most counts fs

  pub forms_count : ℕ → List ℕ → PlainFormulas → ℕ
  forms_count most counts no_forms = 0
  forms_count most counts (form f fs) = min (form_count most counts f + forms_count most counts fs) most

abbrev pub rule_count : ℕ → ℕ → PlainRule → ℕ
rule_count most searched rule = forms_count most (detection_counts most searched rule.detections) (forms_of rule.conditions)
