use Rattle.std.proofs.Common.{ap, sym, ◌∙◌}
use Rattle.pipeline_rename.specs.Names.{each_before}
use Rattle.pipeline_rename.proofs.Fronts.{each_alone}
use Rattle.pipeline_rename.proofs.mapping.mapped.Goals as goal

pub returns-in-Some-clause-ok : goal.returns-in-Some-clause-ok
returns-in-Some-clause-ok c = ap (each_before c.in-Some.prefixes.now) c.new.ensures ∙ (each_alone c.in-Some.prefixes.now ∙ sym c.in-Some.ensures)
