use Rattle.std.proofs.Common.{◌≡◌, ◌-◌, ◌^◌, min, List, sym, subst}
use Rattle.correlation_windows.specs.Kept.{State, StandsFor, HoldsEach}
use Rattle.correlation_engine.specs.Engines.{bounds_of, queues_of, total_kept}
use Rattle.correlation_engine.specs.declared.watch.Watch.{Watch}
use Rattle.correlation_engine.proofs.engine.Engine.held.Goals as goal

pub returns : goal.returns
returns c = λ history so.
    let at : StandsFor _ history = subst (λ (s : State). StandsFor s history) (sym c.self.view_is) so in
    subst (λ (s : State). c.count_held.result ≡ min (total_kept s.bounds history) (2 ^ 64 - 1)) c.self.view_is
    (subst (λ (ws : List Watch). c.count_held.result ≡ min (total_kept (bounds_of ws) history) (2 ^ 64 - 1)) c.as_slice.ensures.value
    (c.count_held.ensures history (subst (λ (ws : List Watch). HoldsEach (queues_of ws) (bounds_of ws) history) (sym c.as_slice.ensures.value) at.1)))
