use Rattle.std.proofs.Common.{◌≡◌, ◌∙◌, sym, subst}
use Rattle.std.specs.Prelude.{Option, Some, None}
use Rattle.modifier_words.specs.Chains.{chain_refusal}
use Rattle.modifier_words.specs.Written.{Written}
use Rattle.rule_detections.specs.Items.{key_chain}
use Rattle.rule_detections.specs.Keys.{is_item_key, is_keyword_key, words_in}
use Rattle.sig_base.specs.Judged.{must}
use Rattle.yaml_tree.proofs.NodeViews.{member_of, view-Entry}
use Rattle.yaml_tree.specs.Nodes.{key_place}
use Rattle.yaml_tree.specs.Tree.{Member}
use Rattle.rule_detections.proofs.Chained.{chain_same, key_chain_is, chain_if, chain_there, unnamed, unchained}
use Rattle.rule_detections.proofs.expressions.read_chain.Goals as goal

abbrev Answered : Option Written → Member → Type 0
Answered found e =
    found ≡ chain_if (must 71 (key_place e) (is_item_key e.key)) (chain_refusal (is_keyword_key e.key) (key_place e) (words_in e.key)) (key_chain e)

pub returns-in-Err-Refused-clause-ok : goal.returns-in-Err-Refused-clause-ok
returns-in-Err-Refused-clause-ok c =
    let entry = c.args.entry.now in
    let answered = rw c.in-Err-Refused.field-0-is at c.in-Err-Refused.ensures in
    subst (Answered None) (sym (view-Entry entry)) (unnamed _ _ _ _ answered.judged)

pub returns-in-Ok-read-clause-ok : goal.returns-in-Ok-read-clause-ok
returns-in-Ok-read-clause-ok c =
    let entry = c.args.entry.now in
    let key = c.in-Ok.key in
    let is_key = c.in-Ok.ensures.judged.1 in
    let words = c.as_slice.ensures ∙ is_key.words in
    subst (Answered (Some c.in-Ok-read.chain)) (sym (view-Entry entry)) (
    chain_there _ _ _ _ c.in-Ok.ensures.judged.0
    (sym (chain_same key.keyword (is_keyword_key entry.key) entry.place c.as_slice.result.now (words_in entry.key) is_key.keyword words) ∙ c.in-Ok-read.ensures.0)
    (key_chain_is c.in-Ok-read.chain key.keyword (is_keyword_key entry.key) entry.place c.as_slice.result.now (words_in entry.key) is_key.keyword words c.in-Ok-read.ensures.1)
    )

pub returns-clause-ok : goal.returns-clause-ok
returns-clause-ok c =
    let entry = c.args.entry.now in
    let key = c.in-Ok.key in
    let is_key = c.in-Ok.ensures.judged.1 in
    let words = c.as_slice.ensures ∙ is_key.words in
    let refused = rw c.in-Err-Refused-read.field-0-is at c.in-Err-Refused-read.ensures in
    subst (Answered None) (sym (view-Entry entry)) (
    unchained _ _ _ _ c.in-Ok.ensures.judged.0
    (sym (chain_same key.keyword (is_keyword_key entry.key) entry.place c.as_slice.result.now (words_in entry.key) is_key.keyword words) ∙ refused)
    )
