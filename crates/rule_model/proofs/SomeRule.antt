-- A node that no line of the tables refuses is some rule.
use Rattle.std.proofs.Common.{ℕ, ◌≡◌, true, not, List, [], ◌∷◌, ◌++◌, refl, sym, ap, ◌∙◌, map}
use Rattle.std.specs.Prelude.{Option, Some, None, codes, is_some, nat_le, length, ◌||◌}
use Rattle.std.specs.List.{AllZip, list_any}
use Rattle.sig_base.specs.declared.limits.Limits.{Limits}
use Rattle.sig_base.specs.declared.refusal.Place.{Place}
use Rattle.sig_base.specs.declared.refusal.Refusal.{Refusal}
use Rattle.sig_conditions.specs.Conditions.{Cond, CName, COneOf, CAllOf, CNot, CAnd, COr, Conds, no_conds, put}
use Rattle.sig_conditions.specs.Formulas.{PlainFormula, FDetection, FNot, FAnd, FOr, PlainFormulas, no_forms, form, forms_of, numbered, named, formula_taken, made, both, formula_of, formulas_of, Why, none_named, none_taken, faults, faults_of}
use Rattle.sig_conditions.specs.Taken.{number_of, taken}
use Rattle.sig_conditions.specs.Words.{has_bar, nesting, words}
use Rattle.sig_conditions.proofs.Sound.{is_condition}
use Rattle.modifier_words.specs.Chains.{chain_refusal, joined_of}
use Rattle.sig_base.specs.Judged.{must, first}
use Rattle.rule_detections.specs.TestsOf.{TestsOf, value_refusal}
use Rattle.yaml_tree.specs.Nodes.{place_of}
use Rattle.modifier_words.specs.Written.{Written}
use Rattle.rule_detections.specs.declared.test.Test.{Test}
use Rattle.yaml_tree.specs.Tree.{Tree, scalar, list, map as tree_map, Member}
use Rattle.rule_model.specs.Conditions.{condition_of, first_fault, unresolved, condition_refusal, IsFormula, names_of, listed_refusal, conditions_refusal, conditions_in, AreConditions}
use Rattle.rule_detections.specs.Detections.{alternative_refusal, IsAlternative, content_refusal, is_detection_key, detection_refusal, IsDetection, detection_entries, is_identified, begins_with_timeframe, detections_refusal, AreDetections}
use Rattle.rule_head.specs.Heads.{head_checks, rest_of, IsHead}
use Rattle.rule_detections.specs.Items.{key_chain, fields_of, shape_refusal, values_refusal, item_refusal, IsItem, bare_chain, keyword_refusal, IsKeyword}
use Rattle.rule_detections.specs.Keys.{words_in, is_keyword_key, is_item_key}
use Rattle.yaml_tree.specs.Nodes.{is_empty}
use Rattle.yaml_tree.specs.Nodes.{is_map, is_null, is_text, text_in, entered, entries_in, parts_in, key_place, value_in, refused_by, text_of, text_at}
use Rattle.rule_head.specs.Plain.{PlainHead}
use Rattle.rule_model.specs.Plain.{PlainRule}
use Rattle.rule_model.specs.Rules.{rule_refusal, IsRule}
use Rattle.rule_head.specs.Sources.{source_refusal, source_of}
use Rattle.rule_detections.specs.declared.detection.Detection.{Detection}
use Rattle.rule_detections.specs.declared.item.Fields.TheVariants.{Keyword}
use Rattle.rule_detections.specs.declared.item.Item.{Item}
use Rattle.sig_base.proofs.Checks.{first_holds, must_holds}

-- where no element is refused, each has what it is read as
pub zip_all : {A B : Type 0} (R : A → B → Type 0) (refusal : A → Option Refusal) → ((x : A) → refusal x ≡ None → (y : B) × R x y)
    → (xs : List A) → first (map refusal xs) ≡ None → (ys : List B) × AllZip R xs ys
zip_all R refusal f [] none = ([], tt)
zip_all R refusal f (x ∷ xs) none =
    let parts = first_holds (refusal x) (map refusal xs) none in
    let one = f x parts.0 in
    let more = zip_all R refusal f xs parts.1 in
    (one.0 ∷ more.0, (one.1, more.1))

-- ---- where no line of a table refuses, each holds

pub two_hold : (a b : Option Refusal) → first (a ∷ b ∷ []) ≡ None → (a ≡ None) × (b ≡ None)
two_hold a b none =
    let parts = first_holds a (b ∷ []) none in
    (parts.0, (first_holds b [] parts.1).0)

pub three_hold : (a b c : Option Refusal) → first (a ∷ b ∷ c ∷ []) ≡ None → (a ≡ None) × (b ≡ None) × (c ≡ None)
three_hold a b c none =
    let parts = first_holds a (b ∷ c ∷ []) none in
    let more = two_hold b c parts.1 in
    (parts.0, more.0, more.1)

pub four_hold : (a b c d : Option Refusal) → first (a ∷ b ∷ c ∷ d ∷ []) ≡ None → (a ≡ None) × (b ≡ None) × (c ≡ None) × (d ≡ None)
four_hold a b c d none =
    let parts = first_holds a (b ∷ c ∷ d ∷ []) none in
    let more = three_hold b c d parts.1 in
    (parts.0, more.0, more.1, more.2)

pub five_hold : (a b c d e : Option Refusal) → first (a ∷ b ∷ c ∷ d ∷ e ∷ []) ≡ None → (a ≡ None) × (b ≡ None) × (c ≡ None) × (d ≡ None) × (e ≡ None)
five_hold a b c d e none =
    let parts = first_holds a (b ∷ c ∷ d ∷ e ∷ []) none in
    let more = four_hold b c d e parts.1 in
    (parts.0, more.0, more.1, more.2, more.3)

pub six_hold : (a b c d e f : Option Refusal) → first (a ∷ b ∷ c ∷ d ∷ e ∷ f ∷ []) ≡ None
    → (a ≡ None) × (b ≡ None) × (c ≡ None) × (d ≡ None) × (e ≡ None) × (f ≡ None)
six_hold a b c d e f none =
    let parts = first_holds a (b ∷ c ∷ d ∷ e ∷ f ∷ []) none in
    let more = five_hold b c d e f parts.1 in
    (parts.0, more.0, more.1, more.2, more.3, more.4)

-- ---- what is there

pub there : {A : Type 0} (o : Option A) → is_some o ≡ true → (x : A) × (o ≡ Some x)
there None h = absurd cc
there (Some x) h = (x, refl)

-- the value at a key that the node must have
pub at_required : (place : Place) (o : Option Tree) → must 70 place (is_some o) ≡ None → (t : Tree) × (o ≡ Some t)
at_required place o none = there o (must_holds 70 place (is_some o) none)

abbrev behind_two : List (Option Refusal) → List (Option Refusal)
behind_two [] = []
behind_two (a ∷ []) = []
behind_two (a ∷ b ∷ lines) = lines

second_holds : (a b : Option Refusal) (lines : List (Option Refusal)) → first (a ∷ b ∷ lines) ≡ None → b ≡ None
second_holds a b lines none = (first_holds b lines (first_holds a (b ∷ lines) none).1).0

head_some : (t : Tree) → first (head_checks t) ≡ None → (h : PlainHead) × IsHead t h
head_some t none =
    let title = value_in (codes "title") (entries_in t) in
    let given = at_required (place_of t) title (second_holds (must 71 (place_of t) (is_map t)) (must 70 (place_of t) (is_some title)) (behind_two (head_checks t)) none) in (
      record { title = text_in given.0; id = text_at (codes "id") t; name = text_at (codes "name") t; place = place_of t; rest = rest_of t },
      record { title = ap text_of given.1; id = refl; name = refl; place = refl; rest = refl },
    )

-- ---- a condition without a fault has a formula

append_nil : {A : Type 0} (xs ys : List A) → xs ++ ys ≡ [] → (xs ≡ []) × (ys ≡ [])
append_nil [] ys h = (refl, h)
append_nil (x ∷ xs) ys h = absurd cc

named_some : (name : List ℕ) (o : Option ℕ) → none_named name o ≡ [] → (f : PlainFormula) × (named o ≡ Some f)
named_some name None h = absurd cc
named_some name (Some i) h = (FDetection i, refl)

taken_some : (make : PlainFormulas → PlainFormula) (is : List ℕ) → none_taken is ≡ [] → (f : PlainFormula) × (formula_taken make is ≡ Some f)
taken_some make [] h = absurd cc
taken_some make (i ∷ is) h = (make (forms_of (numbered (i ∷ is))), refl)

made_some : {A : Type 0} (make : A → PlainFormula) (o : Option A) (x : A) → o ≡ Some x → (f : PlainFormula) × (made make o ≡ Some f)
made_some make o x is = (make x, ap (made make) is)

both_some : (o : Option PlainFormula) (p : Option PlainFormulas) (f : PlainFormula) (fs : PlainFormulas) → o ≡ Some f → p ≡ Some fs → (gs : PlainFormulas) × (both o p ≡ Some gs)
both_some o p f fs one more = (form f fs, ap (λ (q : Option PlainFormula). both q p) one ∙ ap (both (Some f)) more)

mutual
  faultless : (names : List (List ℕ)) (c : Cond) → faults names c ≡ [] → (f : PlainFormula) × (formula_of names c ≡ Some f)
  faultless names (CName name) h = named_some name (number_of name names) h
  faultless names (COneOf s) h = taken_some FOr (taken s names) h
  faultless names (CAllOf s) h = taken_some FAnd (taken s names) h
  faultless names (CNot c) h = let m = faultless names c h in made_some FNot (formula_of names c) m.0 m.1
  faultless names (CAnd cs) h = let m = all_faultless names cs h in made_some FAnd (formulas_of names cs) m.0 m.1
  faultless names (COr cs) h = let m = all_faultless names cs h in made_some FOr (formulas_of names cs) m.0 m.1

  all_faultless : (names : List (List ℕ)) (cs : Conds) → faults_of names cs ≡ [] → (fs : PlainFormulas) × (formulas_of names cs ≡ Some fs)
  all_faultless names no_conds h = (no_forms, refl)
  all_faultless names (put c cs) h =
      let parts = append_nil (faults names c) (faults_of names cs) h in
      let one = faultless names c parts.0 in
      let more = all_faultless names cs parts.1 in
      both_some (formula_of names c) (formulas_of names cs) one.0 more.0 one.1 more.1

no_fault : (place : Place) (whys : List Why) → first_fault place whys ≡ None → whys ≡ []
no_fault place [] h = refl
no_fault place (why ∷ whys) h = absurd cc

formula_some : (limits : Limits) (names : List (List ℕ)) (t : Tree) → condition_refusal limits names t ≡ None → (f : PlainFormula) × IsFormula names t f
formula_some limits names t none =
    let text = text_in t in
    let found = condition_of limits.condition_words text in
    let lines = five_hold (must 71 (place_of t) (is_text t)) (must 61 (place_of t) (not (has_bar text)))
    (must 62 (place_of t) (nat_le (nesting (words text)) limits.condition_words)) (must 60 (place_of t) (is_some found))
    (unresolved (place_of t) names found) none in
    let read = there found (must_holds 60 (place_of t) (is_some found) lines.3) in
    let fine : first_fault (place_of t) (faults names read.0) ≡ None = sym (ap (unresolved (place_of t) names) read.1) ∙ lines.4 in
    let made = faultless names read.0 (no_fault (place_of t) (faults names read.0) fine) in
    (made.0, record { condition = read.0; reads = is_condition limits.condition_words (words text) read.0 read.1; formula = made.1 })

listed_some : (limits : Limits) (names : List (List ℕ)) (t : Tree) → listed_refusal limits names t ≡ None → (fs : List PlainFormula) × AllZip (IsFormula names) (parts_in t) fs
listed_some limits names t none =
    let lines = two_hold (must 78 (place_of t) (not (is_empty (parts_in t)))) (first (map (condition_refusal limits names) (parts_in t))) none in
    zip_all (IsFormula names) (condition_refusal limits names) (formula_some limits names) (parts_in t) lines.1

found_some : (limits : Limits) (names : List (List ℕ)) (o : Option Tree) → refused_by (listed_refusal limits names) o ≡ None
    → (fs : List PlainFormula) × AllZip (IsFormula names) (conditions_in o) fs
found_some limits names None none = ([], tt)
found_some limits names (Some t) none = listed_some limits names t none

conditions_some : (limits : Limits) (t : Tree) → conditions_refusal limits t ≡ None → (fs : List PlainFormula) × AreConditions t fs
conditions_some limits t none =
    let value = value_in (codes "condition") (entries_in t) in
    let lines = two_hold (must 70 (place_of t) (is_some value)) (refused_by (listed_refusal limits (names_of t)) value) none in
    found_some limits (names_of t) value lines.1

-- ---- items, alternatives, detections

module _ (unbuilt : List Place)
    (tests_some : (most dashes : ℕ) (chain : Written) (value : Tree) → value_refusal unbuilt most dashes chain value ≡ None → (tests : List Test) × TestsOf chain value tests) where
  values_all : (limits : Limits) (chain : Written) (place : Place) (t : Tree) → values_refusal unbuilt limits chain place t ≡ None
      → (all : List (List Test)) × AllZip (TestsOf chain) (parts_in t) all
  values_all limits chain place t none =
      let lines = four_hold (first (map shape_refusal (parts_in t))) (must 78 (place_of t) (not (is_empty (parts_in t))))
      (must 79 place (nat_le (length (parts_in t)) limits.list_values)) (first (map (value_refusal unbuilt limits.value_chars limits.dashes chain) (parts_in t))) none in
      zip_all (TestsOf chain) (value_refusal unbuilt limits.value_chars limits.dashes chain) (tests_some limits.value_chars limits.dashes chain) (parts_in t) lines.3

  item_some : (limits : Limits) (e : Member) → item_refusal unbuilt limits e ≡ None → (i : Item) × IsItem e i
  item_some limits e none =
      let lines = three_hold (must 71 (key_place e) (is_item_key e.key)) (chain_refusal (is_keyword_key e.key) (key_place e) (words_in e.key))
      (values_refusal unbuilt limits (key_chain e) (key_place e) e.value) none in
      let all = values_all limits (key_chain e) (key_place e) e.value lines.2 in (
        record { fields = fields_of e.key; tests = all.0; joined = joined_of (key_chain e); place = key_place e },
        record { fields = refl; tests = all.1; joined = refl; place = refl },
      )

  keyword_some : (limits : Limits) (t : Tree) → keyword_refusal unbuilt limits t ≡ None → (i : Item) × IsKeyword t i
  keyword_some limits t none =
      let one = tests_some limits.value_chars limits.dashes (bare_chain t) t none in (
        record { fields = Keyword; tests = one.0 ∷ []; joined = joined_of (bare_chain t); place = place_of t },
        record { fields = refl; tests = (one.1, tt); joined = refl; place = refl },
      )

  alternative_some : (limits : Limits) (t : Tree) → alternative_refusal unbuilt limits t ≡ None → (items : List Item) × IsAlternative t items
  alternative_some limits (scalar a s) none =
      let one = keyword_some limits (scalar a s) none in
      (one.0 ∷ [], (one.0, refl, one.1))
  alternative_some limits (list a es) none = absurd cc
  alternative_some limits (tree_map a ms) none =
      zip_all IsItem (item_refusal unbuilt limits) (item_some limits) (entered ms)
      (first_holds (must 77 (place_of (tree_map a ms)) (not (is_empty (entered ms)))) (map (item_refusal unbuilt limits) (entered ms)) none).1

  content_some : (limits : Limits) (place : Place) (t : Tree) → content_refusal unbuilt limits place t ≡ None
      → (all : List (List Item)) × AllZip IsAlternative (parts_in t) all
  content_some limits place t none =
      let lines = four_hold (must 77 (place_of t) (not (is_null t))) (must 78 (place_of t) (not (is_empty (parts_in t))))
      (must 79 place (nat_le (length (parts_in t)) limits.list_values)) (first (map (alternative_refusal unbuilt limits) (parts_in t))) none in
      zip_all IsAlternative (alternative_refusal unbuilt limits) (alternative_some limits) (parts_in t) lines.3

  detection_some : (limits : Limits) (e : Member) → detection_refusal unbuilt limits e ≡ None → (d : Detection) × IsDetection e d
  detection_some limits e none =
      let lines = two_hold (must 71 (key_place e) (is_detection_key e)) (content_refusal unbuilt limits (key_place e) e.value) none in
      let all = content_some limits (key_place e) e.value lines.1 in
      (record { name = e.key; alternatives = all.0; place = key_place e }, record { name = refl; alternatives = all.1; place = refl })

  detections_some : (limits : Limits) (t : Tree) → detections_refusal unbuilt limits t ≡ None → (ds : List Detection) × AreDetections t ds
  detections_some limits t none =
      let lines = three_hold (must 71 (place_of t) (is_map t)) (must 77 (place_of t) (list_any is_identified (entries_in t) || begins_with_timeframe (entries_in t)))
      (first (map (detection_refusal unbuilt limits) (detection_entries t))) none in
      zip_all IsDetection (detection_refusal unbuilt limits) (detection_some limits) (detection_entries t) lines.2

  pub rule_some : (limits : Limits) (t : Tree) → rule_refusal unbuilt limits t ≡ None → (rule : PlainRule) × IsRule t rule
  rule_some limits t none =
      let source = value_in (codes "logsource") (entries_in t) in
      let detection = value_in (codes "detection") (entries_in t) in
      let lines = six_hold (first (head_checks t)) (must 70 (place_of t) (is_some source)) (refused_by source_refusal source)
      (must 70 (place_of t) (is_some detection)) (refused_by (detections_refusal unbuilt limits) detection) (refused_by (conditions_refusal limits) detection) none in
      let head = head_some t lines.0 in
      let from = at_required (place_of t) source lines.1 in
      let within = at_required (place_of t) detection lines.3 in
      let all = detections_some limits within.0 (sym (ap (refused_by (detections_refusal unbuilt limits)) within.1) ∙ lines.4) in
      let conditions = conditions_some limits within.0 (sym (ap (refused_by (conditions_refusal limits)) within.1) ∙ lines.5) in (
        record { head = head.0; source = source_of from.0; detections = all.0; conditions = conditions.0 },
        record { head = head.1; logsource = from.0; source_there = from.1; source = refl; detection = within.0; detection_there = within.1; detections = all.1; conditions = conditions.1 },
      )
