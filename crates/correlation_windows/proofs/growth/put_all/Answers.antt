use Rattle.std.proofs.Common.{refl, ◌∙◌}
use Rattle.std.specs.Vec.Iter.{into_iter_items}
use Rattle.correlation_windows.proofs.Committing.{going, going_at}
use Rattle.correlation_windows.proofs.growth.put_all.Goals as goal

pub loop-found-preserved : goal.loop-found-preserved
loop-found-preserved c = (
  tt,
  tt,
  going c.args.number c.args.bound.now c.args.map.now.entries c.args.reports.now.items (into_iter_items c.into_iter-found-iterator.result)
      c.loop-found.map.entries c.push.new.map.entries _ _ c.loop-found.reports.items c.push.new.reports.items c.in-Some.found (into_iter_items c.next.new.self)
      (going_at c.args.number c.args.bound.now c.args.map.now.entries c.args.reports.now.items (into_iter_items c.into_iter-found-iterator.result) c.loop-found.map.entries _ c.loop-found.reports.items c.in-Some.found
      (into_iter_items c.loop-found.found-iterator) (into_iter_items c.next.new.self) c.in-Some.ensures.steps.0 c.loop-found.invariant.2)
      c.push.ensures.orderly c.push.ensures.fit c.push.ensures.until c.push.ensures.held c.push.ensures.room c.push.ensures.ready c.push.ensures.added c.push.ensures.few c.push.ensures.capacity refl,
  c.push.ensures.capacity ∙ c.loop-found.invariant.3,
)
