use Rattle.std.proofs.Common.{map, true, false}
use Rattle.correlation_run.specs.Followed.{Correlating}
use Rattle.rule_model.specs.Plain.{rule_view}
use Rattle.sigma_serve.proofs.FollowServed.{follow_whole, follow_unread, follow_unwritten, follow_memory}
use Rattle.sigma_serve.proofs.line_follower.follow_outside.Goals as goal

pub returns-in-Ok-true-clause-serves : goal.returns-in-Ok-true-clause-serves
returns-in-Ok-true-clause-serves g c =
    let w : Correlating = record { schema = c.args.schema.now; rules = map rule_view c.args.rules.now; bounds = c.args.engine.now.bounds; names = c.args.names.now } in
    follow_whole w c.args.limits.now c.args.engine.now c.follow_events.new.engine (g.W.Outside.state c.args.outside.now) (g.W.Outside.state c.follow_events.new.outside) c.requires.stands c.in-Ok-true.ensures.bounds
    c.one_follower.ensures.one c.in-Ok-true.field-0 true c.in-Ok-true.field-0-test c.in-Ok-true.ensures.ends c.in-Ok-true.ensures.stands

pub returns-in-Ok-false-clause-serves : goal.returns-in-Ok-false-clause-serves
returns-in-Ok-false-clause-serves g c =
    let w : Correlating = record { schema = c.args.schema.now; rules = map rule_view c.args.rules.now; bounds = c.args.engine.now.bounds; names = c.args.names.now } in
    follow_whole w c.args.limits.now c.args.engine.now c.follow_events.new.engine (g.W.Outside.state c.args.outside.now) (g.W.Outside.state c.follow_events.new.outside) c.requires.stands c.in-Ok-false.ensures.bounds
    c.one_follower.ensures.one c.in-Ok-false.field-0 false c.in-Ok-false.field-0-test c.in-Ok-false.ensures.ends c.in-Ok-false.ensures.stands

pub returns-in-Err-Unread-clause-serves : goal.returns-in-Err-Unread-clause-serves
returns-in-Err-Unread-clause-serves g c =
    let w : Correlating = record { schema = c.args.schema.now; rules = map rule_view c.args.rules.now; bounds = c.args.engine.now.bounds; names = c.args.names.now } in
    let ends = rw c.in-Err-Unread.field-0-is at c.in-Err-Unread.ensures.ends in
    follow_unread w c.args.limits.now c.args.engine.now c.follow_events.new.engine (g.W.Outside.state c.args.outside.now) (g.W.Outside.state c.follow_events.new.outside) c.requires.stands c.in-Err-Unread.ensures.bounds ends

pub returns-in-Err-Unwritten-clause-serves : goal.returns-in-Err-Unwritten-clause-serves
returns-in-Err-Unwritten-clause-serves g c =
    let w : Correlating = record { schema = c.args.schema.now; rules = map rule_view c.args.rules.now; bounds = c.args.engine.now.bounds; names = c.args.names.now } in
    let ends = rw c.in-Err-Unwritten.field-0-is at c.in-Err-Unwritten.ensures.ends in
    follow_unwritten w c.args.limits.now c.args.engine.now c.follow_events.new.engine (g.W.Outside.state c.args.outside.now) (g.W.Outside.state c.follow_events.new.outside) c.requires.stands c.in-Err-Unwritten.ensures.bounds ends

pub returns-in-Err-Memory-clause-serves : goal.returns-in-Err-Memory-clause-serves
returns-in-Err-Memory-clause-serves g c =
    let w : Correlating = record { schema = c.args.schema.now; rules = map rule_view c.args.rules.now; bounds = c.args.engine.now.bounds; names = c.args.names.now } in
    let ends = rw c.in-Err-Memory.field-0-is at c.in-Err-Memory.ensures.ends in
    follow_memory w c.args.limits.now c.args.engine.now c.follow_events.new.engine (g.W.Outside.state c.args.outside.now) (g.W.Outside.state c.follow_events.new.outside) c.requires.stands c.in-Err-Memory.ensures.bounds ends
