use Rattle.std.proofs.Common.{refl, sym, ◌∙◌}
use Rattle.pipeline_rename.proofs.Fronts.{mapped_found, mapped_missing}
use Rattle.pipeline_rename.proofs.mapping.targets_of.Goals as goal

pub returns-in-Some : goal.returns-in-Some
returns-in-Some c = mapped_found c.args.pairs.now _ c.args.name.now c.in-Some.number c.index-pairs-number.result refl c.in-Some.ensures ∙ sym c.as_slice.ensures

pub returns-in-None : goal.returns-in-None
returns-in-None c = mapped_missing c.args.pairs.now _ c.args.name.now refl c.in-None.ensures
