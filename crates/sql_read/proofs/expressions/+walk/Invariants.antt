use Rattle.std.proofs.Common.{◌≡◌, drop}
use Rattle.sql_lang.specs.Expression.{not_expr, and_expr}
use Rattle.sql_scan.specs.View.{places_view}
use Rattle.sql_parse.specs.View.{nots_view, ands_view}
use Rattle.sql_read.specs.Checks.{not_checks, and_checks}
use Rattle.sql_read.specs.Walks.{nots_size, ands_size}
use Rattle.sql_read.proofs.Going.{Going}
use Rattle.sql_read.proofs.expressions.+walk.Given as goal

abbrev pub invariant-and_chain-loop-part : goal.invariant-and_chain-loop-part
invariant-and_chain-loop-part g l = record {
  same : g.B.Builder.refused l.builder ≡ g.B.Builder.refused l.fn.builder;
  going : Going nots_view (not_checks l.columns) nots_size (not_expr l.columns) l.before (places_view l.fn.places) (drop l.part-index l.before) (places_view l.rest) l.done.items;
}

abbrev pub invariant-or_chain-loop-part : goal.invariant-or_chain-loop-part
invariant-or_chain-loop-part g l = record {
  same : g.B.Builder.refused l.builder ≡ g.B.Builder.refused l.fn.builder;
  going : Going ands_view (and_checks l.columns) ands_size (and_expr l.columns) l.before (places_view l.fn.places) (drop l.part-index l.before) (places_view l.rest) l.done.items;
}
