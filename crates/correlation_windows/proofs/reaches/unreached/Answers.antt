use Rattle.std.proofs.Common.{rules, ◌<◌, ◌≡◌, refl, arith, length}
use Rattle.correlation_windows.proofs.Reached.{reaches_none}
use Rattle.correlation_windows.proofs.reaches.unreached.Goals as goal

pub returns-clause-none : goal.returns-clause-none
returns-clause-none c = λ ordered.
    reaches_none ordered c.resize.new.self.items (λ p lt.
    let long : length c.resize.new.self.items ≡ c.args.places = search rules in
    let within : p < c.args.places = omega (arith, lt, long) in
    let most = c.in_ok-resize.ensures.by_index.1 p 0 refl (search (rules, arith)) within in
    search (rules, arith, most))
