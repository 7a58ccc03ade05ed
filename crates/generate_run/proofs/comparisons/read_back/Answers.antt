use Rattle.std.proofs.Common.{◌≡◌, ◌∙◌, None}
use Rattle.backend_core.specs.View.{tree_view}
use Rattle.backend_core.specs.Writing.{write_refusal}
use Rattle.generate_run.proofs.Reading.{read}
use Rattle.generate_run.proofs.comparisons.read_back.Goals as goal

pub returns : goal.returns
returns g c =
    let limits = c.args.limits.now in
    let schema = c.args.schema.now in
    let t = tree_view c.args.tree.now in
    let text = g.K.Backend.text schema t in
    let refusal = write_refusal g.K.Lacking.missing g.K.Backend.text g.K.Backend.too_deep limits schema t c.args.place in
    let none : refusal ≡ None = c.in-Ok.ensures.0 in
    let means = c.reads_back.ensures.query limits schema t c.args.place c.requires.named c.requires.sound none in
    read g.K.Reader.Language.plain (g.K.Reader.Language.is_query schema) (g.K.Reader.Language.is_within limits schema) g.K.Reader.Language.picks
    (g.K.Reader.Language.refuses limits schema) g.K.Reader.Language.patterns refusal schema t text (g.B.Builder.refused c.args.builder.now) (g.B.Builder.refused c.read.new.builder)
    (record {
      query = means.query;
      within = means.within;
      only = means.only;
      selects = means.selects;
      alone = λ places r refused. c.reads_back.ensures.patterns limits schema text means.query places r means.within refused;
    })
    none c.as_slice.result.now c.read.result (c.as_slice.ensures ∙ c.in-Ok.ensures.1) c.read.ensures.answers
