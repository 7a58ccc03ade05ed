use Rattle.std.proofs.Common.{refl, sym, ◌∙◌, ap}
use Rattle.query_tokens.specs.Tokens.{sorts, places}
use Rattle.sql_parse.specs.View.{sorts_view, query_view}
use Rattle.sql_read.proofs.Verdicts.{stops_told, deep_is, read_is}
use Rattle.sql_read.proofs.select.read_tokens.Goals as goal

pub returns-in-Stops : goal.returns-in-Stops
returns-in-Stops g c cs same there none near =
    let before = g.B.Builder.refused c.args.builder.now in
    let parted = c.in_ok-parted.parted in
    let shown = rw c.in-Stops.is at c.in_ok-query.ensures in
    stops_told c.args.limit c.args.schema.now cs before before none near (sorts_view parted.sorts.items) (c.in_ok-parted.ensures.sorts ∙ ap sorts same) c.in-Stops.count shown
    c.place_or-place.result c.args.end c.as_slice.result.now parted.places.items c.refused.result c.as_slice.ensures.value (c.in_ok-parted.ensures.places ∙ ap places same) there
    c.place_or-place.ensures c.refused.ensures refl

pub returns-then-is_too_deep : goal.returns-then-is_too_deep
returns-then-is_too_deep g c cs same there none near =
    let before = g.B.Builder.refused c.args.builder.now in
    let shown = rw c.in-Read.is at c.in_ok-query.ensures in
    deep_is c.args.limit c.args.schema.now cs before before none near (query_view c.in-Read.query) c.refused-then-is_too_deep.result (shown ∙ (c.in_ok-parted.ensures.sorts ∙ ap sorts same))
    (sym (c.is_too_deep.ensures c.args.schema.now.fields) ∙ c.if-is_too_deep.true) c.refused-then-is_too_deep.ensures refl

pub returns : goal.returns
returns g c cs same there none near =
    let shown = rw c.in-Read.is at c.in_ok-query.ensures in
    read_is c.args.limit c.args.schema.now cs (g.B.Builder.refused c.args.builder.now) (g.B.Builder.refused c.select_of.new.builder) none near (c.places_rise.ensures.rising cs)
    (query_view c.in-Read.query) c.as_slice-2.result.now c.in_ok-parted.parted.places.items (shown ∙ (c.in_ok-parted.ensures.sorts ∙ ap sorts same))
    (sym (c.is_too_deep.ensures c.args.schema.now.fields) ∙ c.if-is_too_deep.false) c.as_slice-2.ensures.value (c.in_ok-parted.ensures.places ∙ ap places same) c.select_of.result c.select_of.ensures
