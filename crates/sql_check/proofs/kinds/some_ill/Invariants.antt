use Rattle.std.proofs.Common.{◌≡◌, drop}
use Rattle.std.specs.List.{list_any}
use Rattle.sql_parse.specs.View.{literals_view}
use Rattle.sql_check.specs.Kinds.{is_ill_literal}
use Rattle.sql_check.proofs.kinds.some_ill.Given as goal

abbrev pub invariant-loop-literal : goal.invariant-loop-literal
invariant-loop-literal l = list_any (is_ill_literal l.kind) (literals_view (drop l.literal-index l.literals)) ≡ list_any (is_ill_literal l.kind) (literals_view l.literals)
