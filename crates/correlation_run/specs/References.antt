-- Which engine it is that events are brought to.
use Rattle.std.specs.Borrow.{GName}
use Rattle.std.specs.Prelude.{List}
use Rattle.correlation_windows.specs.declared.bound.Bound.{Bound}

-- a reference to an engine, and its correlations
pub record Reference : Type 0 where
  pub name : GName
  pub bounds : List Bound
