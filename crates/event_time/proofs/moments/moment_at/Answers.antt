use Rattle.event_time.proofs.Sums.{moment_is}
use Rattle.event_time.proofs.moments.moment_at.Goals as goal

pub returns-clause-value : goal.returns-clause-value
returns-clause-value c = moment_is c.args.day c.args.offset c.args.clock c.args.fraction c.ranges.day c.requires c.ranges.offset c.ranges.clock.fits c.ranges.fraction.fits
