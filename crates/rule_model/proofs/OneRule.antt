-- A document is one rule, if any.
use Rattle.std.proofs.Common.{ℕ, ◌≡◌, List, [], ◌∷◌, refl, ap, sym, ◌∙◌, subst}
use Rattle.std.specs.Prelude.{Option, Some, codes}
use Rattle.std.specs.List.{AllZip}
use Rattle.sig_base.specs.declared.refusal.Place.{Place}
use Rattle.sig_conditions.specs.Conditions.{Cond}
use Rattle.sig_conditions.specs.Formulas.{PlainFormula, formula_of}
use Rattle.sig_conditions.specs.Grammar.{ConditionReads}
use Rattle.sig_conditions.specs.Words.{words}
use Rattle.sig_conditions.specs.declared.word.Word.{Word}
use Rattle.rule_detections.specs.TestsOf.{TestsOf}
use Rattle.modifier_words.specs.Written.{Written}
use Rattle.modifier_words.specs.declared.modifier.Joined.{Joined}
use Rattle.rule_detections.specs.declared.test.Test.{Test}
use Rattle.yaml_tree.specs.Tree.{Tree, scalar, list, map, Member}
use Rattle.rule_model.specs.Conditions.{names_of, IsFormula, conditions_in, AreConditions}
use Rattle.rule_detections.specs.Detections.{IsAlternative, IsDetection, detection_entries, AreDetections}
use Rattle.rule_head.specs.Heads.{IsHead}
use Rattle.rule_detections.specs.Items.{key_chain, IsItem, bare_chain, IsKeyword}
use Rattle.yaml_tree.specs.Nodes.{entered, entries_in, parts_in, text_in, value_in}
use Rattle.rule_head.specs.Plain.{PlainHead}
use Rattle.rule_model.specs.Plain.{PlainRule}
use Rattle.rule_model.specs.Rules.{IsRule}
use Rattle.rule_head.specs.Sources.{source_of}
use Rattle.rule_detections.specs.declared.detection.Detection.{Detection}
use Rattle.rule_detections.specs.declared.item.Fields.{Fields}
use Rattle.rule_detections.specs.declared.item.Item.{Item}
use Rattle.rule_head.specs.declared.source.LogSource.{LogSource}

zip_one : {A B : Type 0} (R : A → B → Type 0) → ((x : A) (y z : B) → R x y → R x z → y ≡ z) → (xs : List A) (ys zs : List B)
    → AllZip R xs ys → AllZip R xs zs → ys ≡ zs
zip_one R f [] [] [] p q = refl
zip_one R f [] [] (z ∷ zs) p q = absurd q
zip_one R f [] (y ∷ ys) zs p q = absurd p
zip_one R f (x ∷ xs) [] zs p q = absurd p
zip_one R f (x ∷ xs) (y ∷ ys) [] p q = absurd q
zip_one {B = B} R f (x ∷ xs) (y ∷ ys) (z ∷ zs) p q =
    ap (λ (v : B). v ∷ ys) (f x y z p.0 q.0) ∙ ap (λ (vs : List B). z ∷ vs) (zip_one R f xs ys zs p.1 q.1)

some_same : {A : Type 0} (o : Option A) (x y : A) → o ≡ Some x → o ≡ Some y → x ≡ y
some_same o x y p q = cc

same_item : (i j : Item) → i.fields ≡ j.fields → i.tests ≡ j.tests → i.joined ≡ j.joined → i.place ≡ j.place → i ≡ j
same_item i j f t o p =
    let put : Fields → List (List Test) → Joined → Place → Item = λ a b c d. record { fields = a; tests = b; joined = c; place = d } in
    ap (λ (x : Fields). put x i.tests i.joined i.place) f
    ∙ (ap (λ (x : List (List Test)). put j.fields x i.joined i.place) t
    ∙ (ap (λ (x : Joined). put j.fields j.tests x i.place) o ∙ ap (put j.fields j.tests j.joined) p))

same_detection : (d e : Detection) → d.name ≡ e.name → d.alternatives ≡ e.alternatives → d.place ≡ e.place → d ≡ e
same_detection d e n a p =
    let put : List ℕ → List (List Item) → Place → Detection = λ a b c. record { name = a; alternatives = b; place = c } in
    ap (λ (x : List ℕ). put x d.alternatives d.place) n ∙ (ap (λ (x : List (List Item)). put e.name x d.place) a ∙ ap (put e.name e.alternatives) p)

same_head : (g h : PlainHead) → g.title ≡ h.title → g.id ≡ h.id → g.name ≡ h.name → g.place ≡ h.place → g.rest ≡ h.rest → g ≡ h
same_head g h t i n p r =
    let put : List ℕ → Option (List ℕ) → Option (List ℕ) → Place → List Member → PlainHead =
    λ a b c d e. record { title = a; id = b; name = c; place = d; rest = e } in
    ap (λ (x : List ℕ). put x g.id g.name g.place g.rest) t
    ∙ (ap (λ (x : Option (List ℕ)). put h.title x g.name g.place g.rest) i
    ∙ (ap (λ (x : Option (List ℕ)). put h.title h.id x g.place g.rest) n
    ∙ (ap (λ (x : Place). put h.title h.id h.name x g.rest) p ∙ ap (put h.title h.id h.name h.place) r)))

same_rule : (r s : PlainRule) → r.head ≡ s.head → r.source ≡ s.source → r.detections ≡ s.detections → r.conditions ≡ s.conditions → r ≡ s
same_rule r s h o d c =
    let put : PlainHead → LogSource → List Detection → List PlainFormula → PlainRule = λ a b e f. record { head = a; source = b; detections = e; conditions = f } in
    ap (λ (x : PlainHead). put x r.source r.detections r.conditions) h
    ∙ (ap (λ (x : LogSource). put s.head x r.detections r.conditions) o
    ∙ (ap (λ (x : List Detection). put s.head s.source x r.conditions) d ∙ ap (put s.head s.source s.detections) c))

head_one : (t : Tree) (g h : PlainHead) → IsHead t g → IsHead t h → g ≡ h
head_one t g h p q =
    same_head g h (some_same _ g.title h.title p.title q.title) (p.id ∙ sym q.id) (p.name ∙ sym q.name) (p.place ∙ sym q.place) (p.rest ∙ sym q.rest)

module _
    (tests_one : (chain : Written) (value : Tree) (a b : List Test) → TestsOf chain value a → TestsOf chain value b → a ≡ b)
    (condition_one : (ws : List Word) (c d : Cond) → ConditionReads ws c → ConditionReads ws d → c ≡ d) where
  item_one : (e : Member) (i j : Item) → IsItem e i → IsItem e j → i ≡ j
  item_one e i j p q =
      same_item i j (p.fields ∙ sym q.fields) (zip_one (TestsOf (key_chain e)) (tests_one (key_chain e)) (parts_in e.value) i.tests j.tests p.tests q.tests)
      (p.joined ∙ sym q.joined) (p.place ∙ sym q.place)

  keyword_one : (t : Tree) (i j : Item) → IsKeyword t i → IsKeyword t j → i ≡ j
  keyword_one t i j p q =
      same_item i j (p.fields ∙ sym q.fields) (zip_one (TestsOf (bare_chain t)) (tests_one (bare_chain t)) (t ∷ []) i.tests j.tests p.tests q.tests)
      (p.joined ∙ sym q.joined) (p.place ∙ sym q.place)

  alternative_one : (t : Tree) (is js : List Item) → IsAlternative t is → IsAlternative t js → is ≡ js
  alternative_one (scalar a s) is js p q = p.1 ∙ (ap (λ (i : Item). i ∷ []) (keyword_one (scalar a s) p.0 q.0 p.2 q.2) ∙ sym q.1)
  alternative_one (list a es) is js p q = absurd p
  alternative_one (map a ms) is js p q = zip_one IsItem item_one (entered ms) is js p q

  detection_one : (e : Member) (d f : Detection) → IsDetection e d → IsDetection e f → d ≡ f
  detection_one e d f p q =
      same_detection d f (p.name ∙ sym q.name)
      (zip_one IsAlternative alternative_one (parts_in e.value) d.alternatives f.alternatives p.alternatives q.alternatives) (p.place ∙ sym q.place)

  formula_one : (names : List (List ℕ)) (t : Tree) (f g : PlainFormula) → IsFormula names t f → IsFormula names t g → f ≡ g
  formula_one names t f g p q =
      let same : p.condition ≡ q.condition = condition_one (words (text_in t)) p.condition q.condition p.reads q.reads in
      some_same (formula_of names q.condition) f g (ap (formula_of names) (sym same) ∙ p.formula) q.formula

  detections_one : (t u : Tree) (ds es : List Detection) → t ≡ u → AreDetections t ds → AreDetections u es → ds ≡ es
  detections_one t u ds es same p q =
      zip_one IsDetection detection_one (detection_entries u) ds es (subst (λ (v : Tree). AreDetections v ds) same p) q

  conditions_one : (t u : Tree) (fs gs : List PlainFormula) → t ≡ u → AreConditions t fs → AreConditions u gs → fs ≡ gs
  conditions_one t u fs gs same p q =
      zip_one (IsFormula (names_of u)) (formula_one (names_of u)) (conditions_in (value_in (codes "condition") (entries_in u))) fs gs
      (subst (λ (v : Tree). AreConditions v fs) same p) q

  pub rule_one : (t : Tree) (r s : PlainRule) → IsRule t r → IsRule t s → r ≡ s
  rule_one t r s p q =
      let source : p.logsource ≡ q.logsource = some_same _ p.logsource q.logsource p.source_there q.source_there in
      let there : p.detection ≡ q.detection = some_same _ p.detection q.detection p.detection_there q.detection_there in
      same_rule r s (head_one t r.head s.head p.head q.head) (p.source ∙ (ap source_of source ∙ sym q.source))
      (detections_one p.detection q.detection r.detections s.detections there p.detections q.detections)
      (conditions_one p.detection q.detection r.conditions s.conditions there p.conditions q.conditions)
