use Rattle.std.proofs.Common.{◌∙◌, ap}
use Rattle.sig_conditions.specs.Named.{Named}
use Rattle.sig_conditions.specs.Taken.{number_of}
use Rattle.sig_conditions.proofs.Knowing.{first_is}
use Rattle.sig_conditions.proofs.names.Names.find.Goals as goal

pub returns : goal.returns
returns c =
    c.find.ensures
    ∙ (first_is c.args.name.now c.self.inside.index ∙ ap (λ (v : Named). number_of c.args.name.now v.names) c.self.view_is)
