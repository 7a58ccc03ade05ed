use Rattle.std.proofs.Common.{◌∙◌, ◌-◌, ◌^◌, ℕ, ap, sym, subst, min}
use Rattle.correlation_windows.specs.Kept.{Holds}
use Rattle.correlation_windows.specs.Queues.{Stored, held}
use Rattle.correlation_windows.proofs.Held.{count_is}
use Rattle.correlation_windows.proofs.store.Queues.held.Goals as goal

pub returns-clause-kept : goal.returns-clause-kept
returns-clause-kept c = λ ms holds.
    c.count_held.ensures ∙ ap (λ (n : ℕ). min n (2 ^ 64 - 1)) (count_is c.self.inside.map.entries c.self.invariant.0.unique ms (subst (λ (s : Stored). Holds (held s.entries) ms) (sym c.self.view_is) holds))
