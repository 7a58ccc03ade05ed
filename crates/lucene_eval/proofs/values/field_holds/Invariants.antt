use Rattle.std.proofs.Common.{◌≡◌, drop}
use Rattle.lucene_lang.specs.Meaning.{field_holds}
use Rattle.lucene_lang.specs.View.{sought_view}
use Rattle.lucene_eval.proofs.values.field_holds.Given as goal

abbrev pub invariant-loop-value : goal.invariant-loop-value
invariant-loop-value l = field_holds l.fn.cased (sought_view l.fn.sought) (drop l.value-index l.values) ≡ field_holds l.fn.cased (sought_view l.fn.sought) l.values
