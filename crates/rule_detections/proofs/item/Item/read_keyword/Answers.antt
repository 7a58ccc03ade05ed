use Rattle.std.proofs.Common.{◌≡◌, ◌∙◌, ◌∷◌, ◌++◌, [], List, Bool, true, ap, sym, subst}
use Rattle.event_schema.specs.Lists.{EachOf, HasElement}
use Rattle.modifier_words.specs.Written.{Written}
use Rattle.rule_detections.specs.PlainTests.{IsPatternTest}
use Rattle.rule_detections.specs.declared.test.Test.{Test}
use Rattle.yaml_tree.specs.View.{node_view}
use Rattle.rule_detections.specs.Whole.{IsWholeValue}
use Rattle.rule_detections.proofs.item.Item.read_keyword.Goals as goal

pub returns-clause-whole : goal.returns-clause-whole
returns-clause-whole c =
    let chain = c.in_ok-chain.chain in
    let node = node_view c.args.node.now in
    let made = c.in_ok-tests.tests in
    let read = c.in_ok-tests.ensures.judged.1 in
    let keyword : chain.keyword ≡ true = ap (λ (w : Written). w.keyword) c.in_ok-chain.ensures.1 in
    let one : c.push.new.self ≡ made ∷ [] = c.in_ok-push.ensures.ok ∙ ap (λ (all : List (List Test)). all ++ made ∷ []) c.in_ok-values.ensures in
    record {
      fields = subst (λ (all : List (List Test)). EachOf (EachOf IsPatternTest) all) (sym one) (c.keyword_tests.ensures chain node made keyword read, tt);
      some = subst (λ (all : List (List Test)). HasElement all) (sym one) tt;
      each = subst (λ (all : List (List Test)). EachOf IsWholeValue all) (sym one)
          (record { some = c.some_test.ensures chain node made read; each = c.in_ok-tests.ensures.plain }, tt);
    }
