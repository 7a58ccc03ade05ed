use Rattle.event_read.proofs.EachLemmas.{each_more, each_refused, each_so_far}
use Rattle.event_schema.specs.Events.{IsOfKind}
use Rattle.event_read.proofs.field_values.take_each.Goals as goal

pub returns-in-Err-clause-taken : goal.returns-in-Err-clause-taken
returns-in-Err-clause-taken c =
    each_refused c.args.place c.args.kind c.args.items.now c.loop-item.item-index c.item-item.result c.loop-item.values.items c.in-Err.fault
    c.item-item.is c.loop-item-test.true c.in-Err.ensures.taken c.loop-item.invariant.0

pub loop-item-preserved : goal.loop-item-preserved
loop-item-preserved c = (
  each_more c.args.place c.args.kind c.args.items.now c.loop-item.item-index c.item-item.result c.loop-item.values.items c.push.new.self.items c.in-Ok-Some.value
      c.item-item.is c.loop-item-test.true (rw c.in-Ok-Some.field-0-is at c.in-Ok-Some.ensures.taken) c.in_ok-push-in-Ok-Some.ensures.items c.loop-item.invariant.0,
  each_so_far (IsOfKind c.args.kind) c.loop-item.values.items c.push.new.self.items c.in-Ok-Some.value c.loop-item.invariant.1 (rw c.in-Ok-Some.field-0-is at c.in-Ok-Some.ensures.kind) c.in_ok-push-in-Ok-Some.ensures.items,
)
