use Rattle.pipeline_fill.proofs.Found.{some_found}
use Rattle.pipeline_fill.proofs.entries.find.Goals as goal

pub returns-in-Some-get : goal.returns-in-Some-get
returns-in-Some-get c =
    λ pairs keyed listed.
    some_found c.args.text.now pairs c.args.keys.now c.args.lists.now c.in-Some.number c.in-Some-get.entry.now keyed listed c.in-Some.ensures
    c.in-Some-get.ensures.lookup.1 c.in-Some-get.ensures.lookup.3.0
