use Rattle.std.proofs.Common.{◌≡◌, map, take}
use Rattle.rule_detections.specs.declared.test.Test.TheVariants.{Fits}
use Rattle.rule_detections.proofs.value_tests.fits_tests.Given as goal

abbrev pub invariant-loop-pattern : goal.invariant-loop-pattern
invariant-loop-pattern l = l.tests ≡ map (λ parts. Fits parts l.cased) (take l.pattern-index l.patterns)
