-- The tree of tests that a rule is under a schema (Sigma specification 2.0, detection and condition). What a test asks goes by
-- the kind of its field, a pattern with dash places (modifier `windash`) is each of its choices of dashes, and a network
-- (modifier `cidr`) each of its patterns.
use Rattle.std.specs.Prelude.{ℕ, zero, suc, true, false, if◌then◌else◌, List, [], ◌∷◌, map, Option, Some, None, option_map}
use Rattle.std.specs.Fmt.{signed_decimal}
use Rattle.backend_core.specs.FieldAt.{kind_at}
use Rattle.backend_core.specs.Trees.{Plain, any, negated, leaf, never, no_parts}
use Rattle.backend_core.specs.declared.tree.LeafTest.{LeafTest}
use Rattle.backend_core.specs.declared.tree.LeafTest.TheVariants as leaf_tests
use Rattle.backend_core.specs.declared.tree.Op.{Op as LeafOp}
use Rattle.backend_core.specs.declared.tree.Op.TheVariants as leaf_ops
use Rattle.event_schema.specs.declared.schema.Field.{Field}
use Rattle.event_schema.specs.declared.schema.FieldKind.{FieldKind}
use Rattle.event_schema.specs.declared.schema.FieldKind.TheVariants as kinds
use Rattle.event_schema.specs.declared.schema.Schema.{Schema}
use Rattle.modifier_windash.specs.Choices.{choices}
use Rattle.schema_index.specs.Numbers.{number_of, searched}
use Rattle.rule_model.specs.Plain.{PlainRule}
use Rattle.rule_detections.specs.declared.detection.Detection.{Detection}
use Rattle.rule_detections.specs.declared.item.Fields.{Fields}
use Rattle.rule_detections.specs.declared.item.Fields.TheVariants.{Keyword, Names}
use Rattle.rule_detections.specs.declared.item.Item.{Item}
use Rattle.sig_base.specs.declared.refusal.Place.{Place}
use Rattle.sig_conditions.specs.Formulas.{PlainFormula, FDetection, FNot, FAnd, FOr, PlainFormulas, no_forms, form}
use Rattle.modifier_words.specs.declared.modifier.Joined.{Joined}
use Rattle.modifier_words.specs.declared.modifier.Joined.TheVariants.{All, Any}
use Rattle.modifier_words.specs.declared.modifier.Op.{Op}
use Rattle.modifier_words.specs.declared.modifier.Op.TheVariants as ops
use Rattle.sig_encode.specs.Networks.{patterns_of}
use Rattle.rule_detections.specs.declared.test.Test.{Test}
use Rattle.rule_detections.specs.declared.test.Test.TheVariants as tests
use Rattle.sig_strings.specs.Edits.{has_wildcard, plain_text}
use Rattle.modifier_values.specs.Expressions.{expression_text}
use Rattle.sig_strings.specs.declared.part.Part.TheVariants.{Char}
use Rattle.rule_lowering.specs.Joining.{join}
use Rattle.rule_lowering.specs.WholeNumbers.{if_whole, written_number}

-- how a number stands to another, in a leaf
abbrev pub leaf_op : Op → LeafOp
leaf_op ops.Lt = leaf_ops.Lt
leaf_op ops.Lte = leaf_ops.Lte
leaf_op ops.Gt = leaf_ops.Gt
leaf_op ops.Gte = leaf_ops.Gte

-- What a leaf asks of a field of texts or addresses: a value, none, a text, the text of another field, or that a regular expression,
-- with its flags in front, is found; a number's text is its decimal. No leaf asks for a network, which patterns stand for, and no text stands so to a number.
abbrev pub text_test : List Field → Test → Option LeafTest
text_test fields tests.Absent = Some leaf_tests.Absent
text_test fields (tests.Exists true) = Some leaf_tests.Has
text_test fields (tests.Exists false) = Some leaf_tests.Absent
text_test fields (tests.Fits pattern cased) = Some (leaf_tests.Fits pattern cased)
text_test fields (tests.Equals n) = Some (leaf_tests.Fits (map Char (signed_decimal n)) false)
text_test fields (tests.Inside n) = None
text_test fields (tests.Compare op n) = None
text_test fields (tests.SameAs name) = Some (leaf_tests.SameAs (number_of fields name))
text_test fields (tests.Finds text flags) = Some (leaf_tests.Finds (expression_text flags text))

-- What a leaf asks of a field of whole numbers, if a value can pass the test: a value, none, a number, how it stands to one,
-- the number of another field, that a number's decimal fits a pattern with a wildcard, or that a regular expression is found in
-- it. A pattern without one asks for the
-- number whose decimal it is.
abbrev pub whole_test : List Field → Test → Option LeafTest
whole_test fields tests.Absent = Some leaf_tests.Absent
whole_test fields (tests.Exists true) = Some leaf_tests.Has
whole_test fields (tests.Exists false) = Some leaf_tests.Absent
whole_test fields (tests.Fits pattern cased) =
    if has_wildcard pattern then Some (leaf_tests.Fits pattern cased) else option_map leaf_tests.Equals (written_number (plain_text pattern))
whole_test fields (tests.Equals n) = option_map leaf_tests.Equals (if_whole n)
whole_test fields (tests.Inside n) = None
whole_test fields (tests.Compare op n) = Some (leaf_tests.Compare (leaf_op op) n)
whole_test fields (tests.SameAs name) = Some (leaf_tests.SameAs (number_of fields name))
whole_test fields (tests.Finds text flags) = Some (leaf_tests.Finds (expression_text flags text))

-- what a leaf asks of a field of this kind, among these fields
abbrev pub leaf_test : List Field → FieldKind → Test → Option LeafTest
leaf_test fields kinds.Text test = text_test fields test
leaf_test fields kinds.Whole test = whole_test fields test
leaf_test fields kinds.Address test = text_test fields test

-- where no value can pass, what never holds
abbrev pub leaf_if_any : Place → ℕ → Option LeafTest → Plain
leaf_if_any place field None = never
leaf_if_any place field (Some test) = leaf (record { field = field; test = test; place = place })

-- what a query language can say of a test at the field of this number, which is of this kind
abbrev pub written_tree : List Field → Place → FieldKind → ℕ → Test → Plain
written_tree fields place kind field test = leaf_if_any place field (leaf_test fields kind test)

-- the tests that stand for a test where a language has neither a place for any dash nor networks: for a pattern one for
-- each choice of dashes, and for a network one for each of its patterns
abbrev pub written_tests : Test → List Test
written_tests tests.Absent = tests.Absent ∷ []
written_tests (tests.Exists there) = tests.Exists there ∷ []
written_tests (tests.Fits pattern cased) = map (λ chosen. tests.Fits chosen cased) (choices pattern)
written_tests (tests.Equals n) = tests.Equals n ∷ []
written_tests (tests.Inside n) = map (λ pattern. tests.Fits pattern false) (patterns_of n)
written_tests (tests.Compare op n) = tests.Compare op n ∷ []
written_tests (tests.SameAs name) = tests.SameAs name ∷ []
written_tests (tests.Finds text flags) = tests.Finds text flags ∷ []

-- a test is any of those that stand for it
abbrev pub test_tree : List Field → Place → FieldKind → ℕ → Test → Plain
test_tree fields place kind field test = join Any (map (written_tree fields place kind field) (written_tests test))

-- a value is any of its tests
abbrev pub value_tree : List Field → Place → FieldKind → ℕ → List Test → Plain
value_tree fields place kind field tests = join Any (map (test_tree fields place kind field) tests)

abbrev pub values_tree : List Field → Place → Joined → List (List Test) → FieldKind → ℕ → Plain
values_tree fields place joined values kind field = join joined (map (value_tree fields place kind field) values)

module _ (fields : List Field) where
  -- a keyword is any of the fields that keywords search
  abbrev pub keyword_tree : Place → List Test → Plain
  keyword_tree place tests = join Any (map (λ field. value_tree fields place (kind_at fields field) field tests) (searched fields))

  -- the values of an item at the field of this number
  abbrev pub number_tree : Place → Joined → List (List Test) → ℕ → Plain
  number_tree place joined values field = values_tree fields place joined values (kind_at fields field) field

  -- an item over names is any of the names
  abbrev pub fields_tree : Place → Joined → List (List Test) → Fields → Plain
  fields_tree place joined values Keyword = join joined (map (keyword_tree place) values)
  fields_tree place joined values (Names names) = join Any (map (λ name. number_tree place joined values (number_of fields name)) names)

  abbrev pub item_tree : Item → Plain
  item_tree i = fields_tree i.place i.joined i.tests i.fields

  abbrev pub alternative_tree : List Item → Plain
  alternative_tree items = join All (map item_tree items)

  abbrev pub detection_tree : Detection → Plain
  detection_tree d = join Any (map alternative_tree d.alternatives)

  -- the detection of this number; where there is none, a tree that never holds
  abbrev pub numbered_tree : List Detection → ℕ → Plain
  numbered_tree [] n = any no_parts
  numbered_tree (d ∷ ds) zero = detection_tree d
  numbered_tree (d ∷ ds) (suc n) = numbered_tree ds n

  abbrev mutual
    pub form_tree : List Detection → PlainFormula → Plain
    form_tree ds (FDetection n) = numbered_tree ds n
    form_tree ds (FNot f) = negated (form_tree ds f)
    form_tree ds (FAnd fs) = join All (form_trees ds fs)
    form_tree ds (FOr fs) = join Any (form_trees ds fs)

    pub form_trees : List Detection → PlainFormulas → List Plain
    form_trees ds no_forms = []
    form_trees ds (form f fs) = form_tree ds f ∷ form_trees ds fs

-- a rule is any of its conditions
abbrev pub tree_of : Schema → PlainRule → Plain
tree_of schema rule = join Any (map (form_tree schema.fields rule.detections) rule.conditions)
