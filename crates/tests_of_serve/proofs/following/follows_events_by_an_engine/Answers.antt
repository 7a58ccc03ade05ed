use Rattle.tests_of_serve.proofs.following.follows_events_by_an_engine.Goals as goal

pub make-requires-clause-limits : goal.make-requires-clause-limits
make-requires-clause-limits g c =
    let found = c.in_ok-found.ensures in
    let b = c.in_ok-bindings.ensures.judged found.0 found.1 found.2 in
    b.5

pub make-requires-clause-few : goal.make-requires-clause-few
make-requires-clause-few g c =
    let found = c.in_ok-found.ensures in
    let b = c.in_ok-bindings.ensures.judged found.0 found.1 found.2 in
    b.6
