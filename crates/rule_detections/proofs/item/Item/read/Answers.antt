use Rattle.std.proofs.Common.{◌≡◌, ◌∙◌, ◌∷◌, [], Bool, List, ℕ, sym, subst, refl, ap, if◌then◌else◌}
use Rattle.std.specs.Prelude.{Result, None}
use Rattle.std.specs.List.{AllZip}
use Rattle.std.specs.Str.{all_scalars}
use Rattle.sig_base.specs.declared.limits.Limits.{Limits}
use Rattle.sig_base.specs.declared.refusal.Fault.{Fault}
use Rattle.sig_base.specs.declared.refusal.Place.{Place}
use Rattle.modifier_words.specs.Chains.{chain_of, chain_refusal, joined_of}
use Rattle.sig_base.specs.Judged.{Judged, must}
use Rattle.modifier_words.specs.Written.{Written}
use Rattle.rule_detections.specs.TestsOf.{TestsOf}
use Rattle.yaml_tree.specs.Tree.{Member}
use Rattle.yaml_tree.specs.View.{node_view, entry_view}
use Rattle.rule_detections.specs.Items.{IsItem, item_refusal, values_refusal, key_chain}
use Rattle.rule_detections.specs.Keys.{is_item_key, is_keyword_key, name_in, words_in}
use Rattle.yaml_tree.specs.Nodes.{parts_in}
use Rattle.rule_detections.specs.Pieces.{IsKey}
use Rattle.rule_detections.specs.declared.item.Fields.TheVariants.{Keyword, Names}
use Rattle.rule_detections.specs.declared.item.Item.{Item}
use Rattle.sig_base.proofs.Firsts.{hands_on}
use Rattle.sig_base.proofs.Checks.{skips, stops, first_one}
use Rattle.yaml_tree.proofs.NodeViews.{member_of, view-Entry}
use Rattle.rule_detections.proofs.Chained.{chain_same, key_chain_is}
use Rattle.rule_detections.proofs.WholeItems.{whole_item}
use Rattle.rule_detections.proofs.item.Item.read.Goals as goal

abbrev Answered : List Place → Limits → Result Item Fault → Member → Type 0
Answered unbuilt limits r e = Judged (IsItem e) (item_refusal unbuilt limits e) r

fields_are : (a b : Bool) (name key : List ℕ) → a ≡ b → name ≡ key → (if a then Keyword else Names (name ∷ [])) ≡ (if b then Keyword else Names (key ∷ []))
fields_are a b name key same names =
    ap (λ x. if x then Keyword else Names (name ∷ [])) same ∙ ap (λ x. if b then Keyword else Names (x ∷ [])) names

pub returns-in_err-key-clause-judged : goal.returns-in_err-key-clause-judged
returns-in_err-key-clause-judged c =
    let entry = c.args.entry.now in
    subst (Answered c.args.unbuilt.now c.args.limits.now _) (sym (view-Entry entry))
    (hands_on (IsItem (member_of entry)) (IsKey entry.key) c.from_residual.result c.in_err-key.field-0.0 _ (item_refusal c.args.unbuilt.now c.args.limits.now (member_of entry)) (must 71 entry.place (is_item_key entry.key))
    c.from_residual.ensures.1 (λ y p. p) c.in_err-key.ensures.judged (λ r p. stops _ _ r p))

pub returns-in_err-chain-clause-judged : goal.returns-in_err-chain-clause-judged
returns-in_err-chain-clause-judged c =
    let entry = c.args.entry.now in
    let key = c.in_ok-key.key in
    let is_key = c.in_ok-key.ensures.judged.1 in
    subst (Answered c.args.unbuilt.now c.args.limits.now _) (sym (view-Entry entry))
    (hands_on (IsItem (member_of entry)) (λ w. w ≡ chain_of c.as_slice.result.now key.keyword entry.place) c.from_residual-in_err-chain.result c.in_err-chain.field-0.0 _
    (item_refusal c.args.unbuilt.now c.args.limits.now (member_of entry)) (chain_refusal key.keyword entry.place c.as_slice.result.now)
    c.from_residual-in_err-chain.ensures.1 (λ y p. p) c.in_err-chain.ensures
    (λ r p. skips _ _ c.in_ok-key.ensures.judged.0 ∙ stops _ _ r
    (sym (chain_same key.keyword (is_keyword_key entry.key) entry.place c.as_slice.result.now (words_in entry.key) is_key.keyword (c.as_slice.ensures ∙ is_key.words)) ∙ p)))

pub returns-in_err-tests-clause-judged : goal.returns-in_err-tests-clause-judged
returns-in_err-tests-clause-judged c =
    let entry = c.args.entry.now in
    let key = c.in_ok-key.key in
    let is_key = c.in_ok-key.ensures.judged.1 in
    let words = c.as_slice.ensures ∙ is_key.words in
    let limits = c.args.limits.now in
    subst (Answered c.args.unbuilt.now limits _) (sym (view-Entry entry))
    (hands_on (IsItem (member_of entry)) (λ all. AllZip (TestsOf c.in_ok-chain.chain) (parts_in (node_view entry.value)) all) c.from_residual-in_err-tests.result c.in_err-tests.field-0.0 _
    (item_refusal c.args.unbuilt.now limits (member_of entry)) (values_refusal c.args.unbuilt.now limits c.in_ok-chain.chain entry.place (node_view entry.value))
    c.from_residual-in_err-tests.ensures.1 (λ y p. p) c.in_err-tests.ensures.judged
    (λ r p. skips _ _ c.in_ok-key.ensures.judged.0
    ∙ (skips _ _ (sym (chain_same key.keyword (is_keyword_key entry.key) entry.place c.as_slice.result.now (words_in entry.key) is_key.keyword words) ∙ c.in_ok-chain.ensures.0)
    ∙ (first_one _
    ∙ (ap (λ (w : Written). values_refusal c.args.unbuilt.now limits w entry.place (node_view entry.value))
    (sym (key_chain_is c.in_ok-chain.chain key.keyword (is_keyword_key entry.key) entry.place c.as_slice.result.now (words_in entry.key) is_key.keyword words c.in_ok-chain.ensures.1))
    ∙ p)))))

pub returns-clause-judged : goal.returns-clause-judged
returns-clause-judged c =
    let entry = c.args.entry.now in
    let key = c.in_ok-key.key in
    let is_key = c.in_ok-key.ensures.judged.1 in
    let words = c.as_slice.ensures ∙ is_key.words in
    let limits = c.args.limits.now in
    let chain : c.in_ok-chain.chain ≡ key_chain (member_of entry) =
    key_chain_is c.in_ok-chain.chain key.keyword (is_keyword_key entry.key) entry.place c.as_slice.result.now (words_in entry.key) is_key.keyword words c.in_ok-chain.ensures.1 in
    let i : Item = record { fields = c.in_ok-fields.fields; tests = c.in_ok-tests.tests; joined = c.joined.result; place = entry.place } in
    subst (λ (e : Member). (item_refusal c.args.unbuilt.now limits e ≡ None) × IsItem e i) (sym (view-Entry entry)) (
      skips _ _ c.in_ok-key.ensures.judged.0
          ∙ (skips _ _ (sym (chain_same key.keyword (is_keyword_key entry.key) entry.place c.as_slice.result.now (words_in entry.key) is_key.keyword words) ∙ c.in_ok-chain.ensures.0)
          ∙ (first_one _
          ∙ (ap (λ (w : Written). values_refusal c.args.unbuilt.now limits w entry.place (node_view entry.value)) (sym chain) ∙ c.in_ok-tests.ensures.judged.0))),
      record {
        fields = c.in_ok-fields.ensures.ok ∙ fields_are key.keyword (is_keyword_key entry.key) key.name (name_in entry.key) is_key.keyword is_key.name;
        tests = subst (λ (w : Written). AllZip (TestsOf w) (parts_in (node_view entry.value)) c.in_ok-tests.tests) chain c.in_ok-tests.ensures.judged.1;
        joined = c.joined.ensures ∙ ap joined_of chain;
        place = refl;
      },
    )

pub returns-clause-whole : goal.returns-clause-whole
returns-clause-whole c =
    let entry = c.args.entry.now in
    let judged = returns-clause-judged c in
    whole_item c.some_test.ensures c.keyword_tests.ensures c.args.unbuilt.now c.args.limits.now (entry_view entry) _ judged.0 judged.1
    (ap (λ (e : Member). all_scalars (name_in e.key)) (view-Entry entry) ∙ (ap all_scalars (sym c.in_ok-key.ensures.judged.1.name) ∙ c.in_ok-key.ensures.scalars))
    c.in_ok-tests.ensures.plain
