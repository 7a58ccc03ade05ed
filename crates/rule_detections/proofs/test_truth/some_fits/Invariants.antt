use Rattle.std.proofs.Common.{drop}
use Rattle.event_schema.specs.Lists.{SomeOf}
use Rattle.event_schema.specs.Rows.{value_text}
use Rattle.sig_strings.specs.Fits.{Fits}
use Rattle.rule_detections.proofs.test_truth.some_fits.Given as goal

abbrev pub invariant-loop-value : goal.invariant-loop-value
invariant-loop-value l =
    SomeOf (λ value. Fits l.pattern (value_text value) l.cased) l.values
    → SomeOf (λ value. Fits l.pattern (value_text value) l.cased) (drop l.value-index l.values)
