use Rattle.std.proofs.Common.{◌≡◌, ◌++◌, drop, map}
use Rattle.pipeline_rename.specs.Names.{each_before}
use Rattle.rule_detections.specs.declared.test.Test.TheVariants as tests
use Rattle.pipeline_rename.proofs.references.push_each.Given as goal

abbrev pub invariant-loop-front : goal.invariant-loop-front
invariant-loop-front l = l.all.items ++ map tests.SameAs (each_before (drop l.front-index l.prefixes) l.back) ≡ l.fn.all.items ++ map tests.SameAs (each_before l.prefixes l.back)
