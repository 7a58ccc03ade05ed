use Rattle.lucene_read.proofs.Bases.{some_base, no_base}
use Rattle.lucene_read.proofs.names.twin_base.Goals as goal

pub returns-in-Some : goal.returns-in-Some
returns-in-Some c =
    let found = c.in-Some.ensures.cases in
    some_base c.args.name.now c.as_str.result.now c.in-Some.base.now found.0 c.as_str.ensures.chars c.as_str.utf8 found.1 found.2

pub returns-in-None : goal.returns-in-None
returns-in-None c = no_base c.args.name.now c.as_str.result.now c.as_str.ensures.bytes (c.in-None.ensures.cases)
