use Rattle.std.proofs.Common.{◌≡◌, ◌++◌, drop}
use Rattle.correlation_read.specs.Sources as sources
use Rattle.correlation_read.proofs.index.list_meanings.Given as goal

abbrev pub invariant-loop-head : goal.invariant-loop-head
invariant-loop-head l = record {
  texts : l.all.texts ++ sources.texts_of (drop l.head-index l.heads) ≡ sources.texts_of l.heads;
  rules : l.all.rules.items ++ sources.rules_from l.head-index (drop l.head-index l.heads) ≡ sources.rules_from 0 l.heads;
  number : l.rule ≡ l.head-index;
}
