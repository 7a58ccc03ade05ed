use Rattle.std.proofs.Common.{Vec, Bool, Global}
use Rattle.backend_core.specs.Holds.{TreeHolds}
use Rattle.backend_core.specs.View.{tree_view}
use Rattle.backend_core.specs.Writing.{write_refusal}
use Rattle.generate_run.specs.Compared.{Flags}
use Rattle.generate_run.specs.Rules.{start}
use Rattle.generate_run.proofs.Deciding.{never_refused}
use Rattle.generate_run.proofs.matches.select_by_query.Goals as goal

pub returns-clause-err : goal.returns-clause-err
returns-clause-err g c =
    let limits = c.args.limits.now in
    let schema = c.args.schema.now in
    let t = tree_view c.args.tree.now in
    let text = g.K.Backend.text schema t in
    never_refused (write_refusal g.K.Lacking.missing g.K.Backend.text g.K.Backend.too_deep limits schema t start)
    (g.K.Reader.Language.refuses limits schema text) (g.K.Reader.Language.patterns text)
    (λ (flags : Vec Bool Global). Flags (λ row. TreeHolds row t) c.args.events.now flags.items) c.compare.result c.requires.written c.compare.ensures
