use Rattle.std.proofs.Common.{refl}
use Rattle.event_schema.specs.Rows.{value_text}
use Rattle.event_schema.proofs.ListLemmas.{some_here}
use Rattle.sig_strings.specs.Fits.{Fits}
use Rattle.rule_detections.proofs.test_truth.some_fits.Goals as goal

pub returns-then-fits_value : goal.returns-then-fits_value
returns-then-fits_value c = (
  (λ yes. some_here (λ value. Fits c.args.pattern.now (value_text value) c.args.cased) c.args.values.now c.loop-value.value-index c.value-item.result
      c.loop-value-test.true c.value-item.is (c.fits_value.ensures.0 c.if-fits_value.true)),
  (λ some. refl),
)
