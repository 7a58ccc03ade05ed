use Rattle.correlation_run.proofs.event_reports.EventFollowerLineFollower.each_line.Goals as goal

pub returns : goal.returns
returns c = c.one_follower.ensures.each _
