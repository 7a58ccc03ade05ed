use Rattle.std.proofs.Common.{rules, arith, ◌≡◌, ◌<◌, ◌-◌, ◌+◌, ◌^◌, min, length, ◌∙◌}
use Rattle.correlation_engine.proofs.Standing.{count_step}
use Rattle.correlation_engine.proofs.engine.count_held.Goals as goal

pub loop-watch-preserved : goal.loop-watch-preserved
loop-watch-preserved c =
    let lt : c.loop-watch.watch-index < length c.args.watches.now = search (rules, arith, c.loop-watch-test.true) in
    let next : c.saturating_add-sum.result ≡ min (c.loop-watch.sum + c.held.result) (2 ^ 64 - 1) = c.saturating_add-sum.ensures in (
      omega (arith, next),
      λ history so.
          let now = c.loop-watch.invariant.1 history so in
          let both = count_step c.args.watches.now c.loop-watch.watch-index c.watch-item.result history c.loop-watch.sum c.held.result c.saturating_add-sum.result lt c.watch-item.is c.loop-watch.invariant.0 now.0 c.held.ensures.kept next in
          (both.0, both.1 ∙ now.1),
    )
