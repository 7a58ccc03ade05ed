use Rattle.std.proofs.Common.{◌∙◌, ap}
use Rattle.std.specs.Str.{chars}
use Rattle.query_tokens.specs.PlaceView.{place_if}
use Rattle.sql_read.proofs.Verdicts.{other_told, near_told, other_is, nested_is}
use Rattle.sql_read.proofs.select.read_text.Goals as goal

pub returns-in-Some : goal.returns-in-Some
returns-in-Some g c =
    other_is c.args.limit c.args.schema.now (chars c.args.text.now) (g.B.Builder.refused c.args.builder.now) c.in_ok-scanned.scanned.tokens.items c.in_ok-scanned.ensures.tokens c.as_slice.result.now
    c.first_other.result c.in-Some.place c.refused.result c.as_slice.ensures.value c.first_other.ensures c.in-Some.is c.refused.ensures

pub returns-then-nests_too_far : goal.returns-then-nests_too_far
returns-then-nests_too_far g c =
    nested_is c.args.limit c.args.schema.now (chars c.args.text.now) (g.B.Builder.refused c.args.builder.now) c.in_ok-scanned.scanned.tokens.items c.in_ok-scanned.ensures.tokens c.as_slice.result.now
    c.as_slice-2.result.now c.first_other.result c.nests_too_far.result c.refused-then-nests_too_far.result c.as_slice.ensures.value c.first_other.ensures c.in_default.is c.as_slice-2.ensures.value c.nests_too_far.ensures
    c.if-nests_too_far.true c.refused-then-nests_too_far.ensures

pub returns : goal.returns
returns g c =
    let tokens = c.in_ok-scanned.scanned.tokens.items in
    let scanned = c.in_ok-scanned.ensures.tokens in
    let before = g.B.Builder.refused c.args.builder.now in
    let cs = chars c.args.text.now in
    c.read_tokens.ensures cs scanned c.in_ok-scanned.ensures.end
    (other_told c.args.limit c.args.schema.now cs before tokens scanned c.as_slice.result.now c.first_other.result c.as_slice.ensures.value c.first_other.ensures ∙ ap place_if c.in_default.is)
    (near_told c.args.limit c.args.schema.now cs before tokens scanned c.as_slice-2.result.now c.nests_too_far.result c.as_slice-2.ensures.value c.nests_too_far.ensures ∙ c.if-nests_too_far.false)
