use Rattle.std.proofs.Common.{sym, ◌∙◌, ap}
use Rattle.sql_lang.specs.Expression.{Test}
use Rattle.sql_parse.specs.View.{leaf_view}
use Rattle.query_tokens.specs.PlaceView.{place_view}
use Rattle.sql_scan.specs.View.{places_view}
use Rattle.sql_check.specs.View.{read_view}
use Rattle.sql_read.proofs.Leaf.{judged, leaf_built, leaf_stops}
use Rattle.sql_read.proofs.leaves.walk_leaf.Goals as goal

pub returns-in-Some : goal.returns-in-Some
returns-in-Some g c =
    judged c.args.columns.now (g.B.Builder.refused c.args.builder.now) (leaf_view c.args.leaf.now) (places_view c.args.places.now) c.in-Some.refusal (sym c.judge.ensures ∙ c.in-Some.is)

pub returns-in-Ok : goal.returns-in-Ok
returns-in-Ok g c =
    let is = c.in-Ok.ensures.1 ∙ c.in_ok-test.ensures.ok in (
      c.in-Ok.ensures.0,
      leaf_built c.args.columns.now (leaf_view c.args.leaf.now) (places_view c.args.places.now) c.in-Ok.test (sym c.judge.ensures ∙ c.in_default.is) is,
      c.tested.ensures.expr ∙ ap Test is,
      ap places_view c.tested.ensures.rest ∙ c.behind_test-rest.ensures,
    )

pub returns-in-Err : goal.returns-in-Err
returns-in-Err g c =
    leaf_stops c.args.columns.now (g.B.Builder.refused c.args.builder.now) (g.B.Builder.refused c.build.new.builder) (leaf_view c.args.leaf.now) (places_view c.args.places.now)
    (read_view c.in_ok-test.test) (place_view c.pattern_place-place.result) c.in-Err.stop (sym c.judge.ensures ∙ c.in_default.is) c.in_ok-test.ensures.ok c.pattern_place-place.ensures c.in-Err.ensures
