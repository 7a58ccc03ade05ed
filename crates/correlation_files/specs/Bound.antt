-- What the code keeps of the correlations that are judged.
use Rattle.std.specs.Prelude.{◌≡◌, List, map}
use Rattle.std.specs.List.{AllByRecursion}
use Rattle.correlation_engine.specs.Limits.{IsWithinLimits}
use Rattle.correlation_files.specs.Bindings.{Verdict, bounds_in, names_in, unbound_in}
use Rattle.correlation_files.specs.Found.{Named}
use Rattle.correlation_files.specs.declared.bindings.Bindings.{Bindings}

-- the bounds, the names and the refusals of these verdicts
pub record AreKept (judged : List (Named × Verdict)) (b : Bindings) : Type 0 where
  pub bounds : b.bounds.items ≡ bounds_in judged
  pub names : b.names.items ≡ names_in judged
  pub unbound : map (λ u. (u.file, u.refusal)) b.unbound.items ≡ unbound_in judged
  pub within : AllByRecursion IsWithinLimits b.bounds.items
