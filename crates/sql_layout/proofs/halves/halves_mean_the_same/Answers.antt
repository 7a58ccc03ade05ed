use Rattle.sql_layout.specs.Halves.{or_count, and_count}
use Rattle.sql_layout.proofs.InHalves.{halves_value_or, halves_value_and}
use Rattle.sql_layout.proofs.halves.halves_mean_the_same.Goals as goal

pub returns : goal.returns
returns c = record {
  ors = λ fields o row. halves_value_or fields row (or_count o) o;
  ands = λ fields a row. halves_value_and fields row (and_count a) a;
}
