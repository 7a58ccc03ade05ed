-- Which items the entries of a step are: one each, some where none is refused, and whole ones where texts are of scalar values.
use Rattle.std.proofs.Common.{◌≡◌, true, not, List, refl, sym, ap, ◌∙◌, map, nat_le, length}
use Rattle.std.specs.Prelude.{ℕ, None}
use Rattle.event_schema.specs.Lists.{EachOf, HasElement}
use Rattle.sig_base.specs.declared.limits.Limits.{Limits}
use Rattle.sig_base.specs.declared.refusal.Place.{Place}
use Rattle.sig_base.specs.Judged.{must, first}
use Rattle.modifier_words.specs.Chains.{chain_refusal, joined_of}
use Rattle.modifier_words.specs.Written.{Written}
use Rattle.modifier_words.specs.declared.modifier.Joined.{Joined}
use Rattle.rule_detections.specs.PlainTests.{ArePlainTests, IsPatternTest}
use Rattle.rule_detections.specs.TestsOf.{TestsOf, value_refusal}
use Rattle.rule_detections.specs.declared.test.Test.{Test}
use Rattle.yaml_tree.specs.Nodes.{place_of, is_empty, parts_in, key_place}
use Rattle.yaml_tree.specs.Texts.{HasScalarTexts}
use Rattle.yaml_tree.specs.Tree.{Tree, Member}
use Rattle.rule_detections.specs.Items.{IsItem, key_chain, fields_of, shape_refusal, values_refusal, item_refusal}
use Rattle.rule_detections.specs.Keys.{words_in, is_item_key, is_keyword_key}
use Rattle.rule_detections.specs.Whole.{IsWholeItem}
use Rattle.rule_detections.specs.declared.item.Fields.{Fields}
use Rattle.rule_detections.specs.declared.item.Item.{Item}
use Rattle.rule_detections.proofs.WholeItems.{whole_item}
use Rattle.rule_model.proofs.SomeRule.{zip_all, three_hold, four_hold}
use Rattle.pipeline_run.proofs.Lists.{zip_one, zip_each, each_both}
use Rattle.pipeline_run.proofs.ScalarTexts.{IsScalarMember, name_scalars, each_part}
use Rattle.pipeline_run.proofs.Unrefused.{first_each}

same_item : (i j : Item) → i.fields ≡ j.fields → i.tests ≡ j.tests → i.joined ≡ j.joined → i.place ≡ j.place → i ≡ j
same_item i j f t o p =
    let put : Fields → List (List Test) → Joined → Place → Item = λ a b c d. record { fields = a; tests = b; joined = c; place = d } in
    ap (λ (x : Fields). put x i.tests i.joined i.place) f
    ∙ (ap (λ (x : List (List Test)). put j.fields x i.joined i.place) t
    ∙ (ap (λ (x : Joined). put j.fields j.tests x i.place) o ∙ ap (put j.fields j.tests j.joined) p))

pub item_one : ((chain : Written) (value : Tree) (a b : List Test) → TestsOf chain value a → TestsOf chain value b → a ≡ b)
    → (e : Member) (i j : Item) → IsItem e i → IsItem e j → i ≡ j
item_one tests_one e i j p q =
    same_item i j (p.fields ∙ sym q.fields) (zip_one (TestsOf (key_chain e)) (tests_one (key_chain e)) (parts_in e.value) i.tests j.tests p.tests q.tests)
    (p.joined ∙ sym q.joined) (p.place ∙ sym q.place)

-- none of an entry's values is refused
values_pass : (unbuilt : List Place) (limits : Limits) (e : Member) → item_refusal unbuilt limits e ≡ None
    → first (map (value_refusal unbuilt limits.value_chars limits.dashes (key_chain e)) (parts_in e.value)) ≡ None
values_pass unbuilt limits e none =
    let lines = three_hold (must 71 (key_place e) (is_item_key e.key)) (chain_refusal (is_keyword_key e.key) (key_place e) (words_in e.key))
    (values_refusal unbuilt limits (key_chain e) (key_place e) e.value) none in
    let values = four_hold (first (map shape_refusal (parts_in e.value))) (must 78 (place_of e.value) (not (is_empty (parts_in e.value))))
    (must 79 (key_place e) (nat_le (length (parts_in e.value)) limits.list_values))
    (first (map (value_refusal unbuilt limits.value_chars limits.dashes (key_chain e)) (parts_in e.value))) lines.2 in
    values.3

pub item_some : (unbuilt : List Place)
    → ((most dashes : ℕ) (chain : Written) (value : Tree) → value_refusal unbuilt most dashes chain value ≡ None → (tests : List Test) × TestsOf chain value tests)
    → (limits : Limits) (e : Member) → item_refusal unbuilt limits e ≡ None → (i : Item) × IsItem e i
item_some unbuilt tests_some limits e none =
    let all = zip_all (TestsOf (key_chain e)) (value_refusal unbuilt limits.value_chars limits.dashes (key_chain e)) (tests_some limits.value_chars limits.dashes (key_chain e))
    (parts_in e.value) (values_pass unbuilt limits e none) in (
      record { fields = fields_of e.key; tests = all.0; joined = joined_of (key_chain e); place = key_place e },
      record { fields = refl; tests = all.1; joined = refl; place = refl },
    )

pub item_whole : (unbuilt : List Place)
    → ((most dashes : ℕ) (chain : Written) (value : Tree) (tests : List Test) → value_refusal unbuilt most dashes chain value ≡ None → HasScalarTexts value
    → TestsOf chain value tests → ArePlainTests tests)
    → ((chain : Written) (value : Tree) (tests : List Test) → TestsOf chain value tests → HasElement tests)
    → ((chain : Written) (value : Tree) (tests : List Test) → chain.keyword ≡ true → TestsOf chain value tests → EachOf IsPatternTest tests)
    → (limits : Limits) (e : Member) (i : Item) → item_refusal unbuilt limits e ≡ None → IsScalarMember e → IsItem e i → IsWholeItem i
item_whole unbuilt plain_tests some_test keyword_tests limits e i none scalars read =
    let chain = key_chain e in
    let refusal = value_refusal unbuilt limits.value_chars limits.dashes chain in
    let IsFine : Tree → Type 0 = λ t. (refusal t ≡ None) × HasScalarTexts t in
    let fine = each_both (λ t. refusal t ≡ None) HasScalarTexts IsFine (λ t passes texts. (passes, texts)) (parts_in e.value)
    (first_each refusal (parts_in e.value) (values_pass unbuilt limits e none)) (each_part e.value scalars.1) in
    whole_item some_test keyword_tests unbuilt limits e i none read (name_scalars e.key scalars.0)
    (zip_each IsFine (TestsOf chain) ArePlainTests (λ t tests both made. plain_tests limits.value_chars limits.dashes chain t tests both.0 both.1 made)
    (parts_in e.value) i.tests fine read.tests)
