use Rattle.std.specs.Str.{chars}
use Rattle.lucene_read.specs.View.{place_view}
use Rattle.lucene_read.proofs.Verdicts.{verdict_is}
use Rattle.lucene_read.proofs.query.read_text.Goals as goal

pub returns : goal.returns
returns c =
    verdict_is c.args.limit c.args.schema.now (chars c.args.text.now) c.as_slice-2.result.now c.in_ok-tokens.tokens c.as_slice.result.now (place_view c.place_behind-end.result) c.judge.result
    c.in_ok-tokens.ensures.ok c.as_slice-2.ensures c.as_slice.ensures c.place_behind-end.ensures c.judge.ensures
