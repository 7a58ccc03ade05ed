use Rattle.std.proofs.Common.{sym, ◌∙◌}
use Rattle.sql_lang.specs.View.{expr_view}
use Rattle.sql_scan.specs.View.{places_view}
use Rattle.sql_parse.specs.View.{query_view}
use Rattle.sql_read.proofs.Wholes.{table_stop, walked_ok, walked_err}
use Rattle.sql_read.proofs.select.select_of.Goals as goal

pub returns-then-not-is_named : goal.returns-then-not-is_named
returns-then-not-is_named g c =
    table_stop c.args.schema.now (query_view c.args.query) (places_view c.args.places.now) (g.B.Builder.refused c.args.builder.now) c.place_at.result c.refused.result
    (sym c.is_named.ensures ∙ c.if-not-is_named.true) c.place_at.ensures c.refused.ensures

pub returns-in-Ok : goal.returns-in-Ok
returns-in-Ok g c =
    walked_ok c.args.schema.now (query_view c.args.query) (places_view c.args.places.now) _ (c.in_ok-columns.ensures.ok ∙ c.as_slice.ensures) (sym c.is_named.ensures ∙ c.if-not-is_named.false)
    (places_view c.behind.result.now) c.behind.ensures (g.B.Builder.refused c.args.builder.now) (g.B.Builder.refused c.walk_ors.new.builder) (expr_view c.in-Ok.walked.expr) _ _ c.in-Ok.ensures

pub returns : goal.returns
returns g c =
    walked_err c.args.schema.now (query_view c.args.query) (places_view c.args.places.now) _ (c.in_ok-columns.ensures.ok ∙ c.as_slice.ensures) (sym c.is_named.ensures ∙ c.if-not-is_named.false)
    (places_view c.behind.result.now) c.behind.ensures (g.B.Builder.refused c.args.builder.now) (g.B.Builder.refused c.walk_ors.new.builder) c.in-Err.stop c.in-Err.ensures
