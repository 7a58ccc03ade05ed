use Rattle.std.proofs.Common.{rules, ◌≡◌, ℕ, List, length, subst}
use Rattle.correlation_windows.specs.Noted.{Queued}
use Rattle.correlation_windows.specs.Windows.{fires}
use Rattle.correlation_windows.proofs.Noting.{each_fires}
use Rattle.correlation_windows.proofs.queue.Queue.fires.Goals as goal

pub returns-in-Temporal : goal.returns-in-Temporal
returns-in-Temporal c =
    subst (λ (q : Queued). (rules : List ℕ) → length rules ≡ q.rules → c.all_reached.result ≡ fires q.kind rules c.args.condition.now q.items) c.self.view_is
    (each_fires c.self.inside.kind c.self.inside.rules c.self.inside.counts.entries c.self.inside.reaches.items c.self.inside.matches.items c.args.condition.now c.len-in-Temporal.result c.all_reached.result c.in-Temporal.is
    (search rules) (search rules) c.self.invariant)
