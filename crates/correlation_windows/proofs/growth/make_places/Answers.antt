use Rattle.std.proofs.Common.{rules, ◌≡◌, Some, sym}
use Rattle.std.specs.Map.{lookup}
use Rattle.correlation_windows.specs.Groups.{same_group}
use Rattle.correlation_windows.proofs.Ordering.{orderly_room, fit_room}
use Rattle.correlation_windows.proofs.Pushing.{held_room, places_room}
use Rattle.correlation_windows.proofs.growth.make_places.Goals as goal

pub returns-in-Some-clause-orderly : goal.returns-in-Some-clause-orderly
returns-in-Some-clause-orderly c =
    let at : lookup (same_group c.args.group.now) c.args.map.now.entries ≡ Some c.in-Some.queue.now = sym c.in-Some.ensures.value in
    let writes = c.get_mut.follows.holds c.reserve.new.self in
    orderly_room (same_group c.args.group.now) c.args.map.now.entries (c.get_mut.follows.lender c.reserve.new.self).entries c.in-Some.queue.now c.reserve.new.self writes.0 writes.4 at c.reserve.ensures.items c.requires.orderly

pub returns-in-Some-clause-fit : goal.returns-in-Some-clause-fit
returns-in-Some-clause-fit c = λ kind count all.
    let at : lookup (same_group c.args.group.now) c.args.map.now.entries ≡ Some c.in-Some.queue.now = sym c.in-Some.ensures.value in
    fit_room kind count (same_group c.args.group.now) c.args.map.now.entries (c.get_mut.follows.lender c.reserve.new.self).entries c.in-Some.queue.now c.reserve.new.self (c.get_mut.follows.holds c.reserve.new.self).0 at c.reserve.ensures.kind c.reserve.ensures.rules all

pub returns-in-Some-clause-held : goal.returns-in-Some-clause-held
returns-in-Some-clause-held c =
    let at : lookup (same_group c.args.group.now) c.args.map.now.entries ≡ Some c.in-Some.queue.now = sym c.in-Some.ensures.value in
    held_room c.args.map.now.entries (c.get_mut.follows.lender c.reserve.new.self).entries c.args.group.now c.in-Some.queue.now c.reserve.new.self at
    (((c.get_mut.follows.holds c.reserve.new.self).3 (search (rules, at))).0) c.reserve.ensures.items

pub returns-in-Some-clause-others : goal.returns-in-Some-clause-others
returns-in-Some-clause-others c =
    let at : lookup (same_group c.args.group.now) c.args.map.now.entries ≡ Some c.in-Some.queue.now = sym c.in-Some.ensures.value in
    places_room c.args.map.now.entries (c.get_mut.follows.lender c.reserve.new.self).entries c.args.group.now c.in-Some.queue.now c.reserve.new.self at
    (((c.get_mut.follows.holds c.reserve.new.self).3 (search (rules, at))).0) c.reserve.ensures.room
