-- How many tests a tree has, where what never holds is one too.
use Rattle.std.specs.Prelude.{ℕ, ◌+◌}
use Rattle.backend_core.specs.Trees.{Plain, all, any, negated, leaf, never, Plains, no_parts, a_part}

abbrev mutual
  pub leaves : Plain → ℕ
  leaves (all ts) = leaves_in ts
  leaves (any ts) = leaves_in ts
  leaves (negated t) = leaves t
  leaves (leaf l) = 1
  leaves never = 1

  pub leaves_in : Plains → ℕ
  leaves_in no_parts = 0
  leaves_in (a_part t ts) = leaves t + leaves_in ts
