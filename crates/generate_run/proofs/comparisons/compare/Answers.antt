use Rattle.std.proofs.Common.{Vec, Bool, Global}
use Rattle.backend_core.specs.View.{tree_view}
use Rattle.backend_core.specs.Writing.{write_refusal}
use Rattle.generate_run.proofs.Reading.{compared}
use Rattle.generate_run.proofs.comparisons.compare.Goals as goal

pub returns : goal.returns
returns g c =
    let limits = c.args.limits.now in
    let schema = c.args.schema.now in
    let t = tree_view c.args.tree.now in
    let text = g.K.Backend.text schema t in
    compared (λ (flags : Vec Bool Global). flags.items)
    (write_refusal g.K.Lacking.missing g.K.Backend.text g.K.Backend.too_deep limits schema t c.args.place)
    (g.K.Reader.Language.refuses limits schema text) (g.K.Reader.Language.patterns text) schema t
    (λ query. g.K.Reader.Language.picks (g.K.Reader.Language.plain query)) c.args.events.now
    (g.B.Builder.refused c.args.builder.now) (g.B.Builder.refused c.read_back.new.builder) c.in-Ok.query c.select_all.result
    c.in-Ok.ensures c.requires.events c.select_all.ensures.flags c.select_all.ensures.err
