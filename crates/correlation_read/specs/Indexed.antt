-- How the code keeps an index of rules.
use Rattle.std.specs.Prelude.{ℕ, ◌≡◌, ◌<◌, ◌^◌, List, length, IfSome}
use Rattle.rule_head.specs.declared.head.Head.{Head}
use Rattle.correlation_read.specs.declared.index.RuleIndex.{RuleIndex}
use Rattle.correlation_read.specs.Sources.{texts_of, rules_from}

-- texts, if there are any, are the names and identifiers of these rules, with the numbers of the rules beside them
pub record AreMeanings (heads : List Head) (rules : List ℕ) (texts : List (List ℕ)) : Type 0 where
  pub all : texts ≡ texts_of heads
  pub beside : rules ≡ rules_from 0 heads

-- rules that can be numbered, and the index of their names and identifiers, if there is one
pub record IsRuleIndex (heads : List Head) (index : RuleIndex) : Type 0 where
  pub few : length heads < 2 ^ 32
  pub texts : IfSome index.texts (AreMeanings heads index.rules.items)
