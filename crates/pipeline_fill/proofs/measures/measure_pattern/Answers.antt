use Rattle.std.proofs.Common.{refl}
use Rattle.pipeline_fill.proofs.Growing.{holes_grow}
use Rattle.pipeline_fill.proofs.measures.measure_pattern.Goals as goal

pub returns-in-FillHoles-clause-ok : goal.returns-in-FillHoles-clause-ok
returns-in-FillHoles-clause-ok c =
    holes_grow c.args.change.now.vars.now _ _ c.args.pattern.now _ c.measure_holes.result c.in-FillHoles.is c.parts.ensures refl refl c.measure_holes.ensures.ok

pub returns-in-WildHoles-clause-ok : goal.returns-in-WildHoles-clause-ok
returns-in-WildHoles-clause-ok c =
    holes_grow c.args.change.now.vars.now _ _ c.args.pattern.now _ c.measure_holes-in-WildHoles.result c.in-WildHoles.is c.parts-in-WildHoles.ensures refl refl c.measure_holes-in-WildHoles.ensures.ok
