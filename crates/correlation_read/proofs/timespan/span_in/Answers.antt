use Rattle.std.proofs.Common.{◌∙◌, ap}
use Rattle.std.specs.Prelude.{Option, ℕ}
use Rattle.correlation_read.specs.Timespans.{count_of, nanoseconds}
use Rattle.correlation_read.proofs.Spans.{parted}
use Rattle.correlation_read.proofs.timespan.span_in.Goals as goal

pub returns : goal.returns
returns c =
    let digits = c.in-Some.digits.now in
    parted c.args.bytes.now digits c.in-Some.unit.now c.nanoseconds.result c.in-Some.ensures.cases.0
    (c.nanoseconds.ensures
    ∙ (ap (λ (o : Option ℕ). nanoseconds o c.seconds_of.result) c.count_of.ensures ∙ ap (λ (o : Option ℕ). nanoseconds (count_of digits) o) c.seconds_of.ensures))
