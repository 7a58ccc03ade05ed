use Rattle.std.proofs.Common.{rules, ◌≡◌, ◌<◌, ◌≤◌, length, ◌∙◌, sym, subst, arith}
use Rattle.correlation_windows.specs.Queues.{AllFor}
use Rattle.indexmap.specs.IndexMap.{spare}
use Rattle.correlation_windows.proofs.Rooms.{placed_more, placed_all}
use Rattle.correlation_windows.proofs.growth.make_places_for_all.Goals as goal

pub loop-found-preserved : goal.loop-found-preserved
loop-found-preserved c =
    let so = c.loop-found.invariant in
    let made = c.in_ok-make_places.ensures in
    let within : c.loop-found.found-index < length c.args.founds.now = search (rules, arith, c.loop-found-test.true) in
    let left : length c.args.founds.now ≤ spare c.loop-found.map = so.2 in
    let room : spare c.make_places.new.map ≡ spare c.loop-found.map = made.room in (
      made.orderly,
      (λ g. made.held g ∙ so.1 g),
      omega (arith, left, room),
      placed_more (length c.args.founds.now) c.loop-found.map.entries c.make_places.new.map.entries made.others c.args.founds.now c.loop-found.found-index c.found-item.result within c.found-item.is made.places so.3,
      (λ kind count all. made.fit kind count (so.4 kind count all)),
    )

pub returns-clause-placed : goal.returns-clause-placed
returns-clause-placed c =
    let beyond : length c.args.founds.now ≤ c.loop-found.found-index = search (rules, arith, c.loop-found-test.false) in
    placed_all (length c.args.founds.now) c.loop-found.map.entries c.args.founds.now c.loop-found.found-index beyond c.loop-found.invariant.3

pub returns-clause-fit : goal.returns-clause-fit
returns-clause-fit c = λ kind count all. c.loop-found.invariant.4 kind count (subst (AllFor kind count) (sym c.reserve.ensures.entries) all)

pub returns-in_err-make_places-clause-fit : goal.returns-in_err-make_places-clause-fit
returns-in_err-make_places-clause-fit c = λ kind count all. c.make_places.ensures.fit kind count (c.loop-found.invariant.4 kind count (subst (AllFor kind count) (sym c.reserve.ensures.entries) all))
