use Rattle.correlation_windows.proofs.Pushing.{use_ok}
use Rattle.correlation_windows.proofs.Tallying.{comes, more_long}
use Rattle.correlation_windows.proofs.tallies.text_enters.Goals as goal

pub returns-clause-times : goal.returns-clause-times
returns-clause-times c = λ texts few so.
    let put = c.insert-inserted.ensures.succeeds c.requires in
    comes c.args.counts.now.entries c.insert-inserted.new.self.entries c.args.text c.times_of-times.result c.saturating_add.result texts c.times_of-times.ensures c.saturating_add.ensures few
    (use_ok c.insert-inserted.result put c.insert-inserted.ensures.updates).0
    (more_long c.insert-inserted.result _ _ _ put c.insert-inserted.ensures.old c.insert-inserted.ensures.len) so
