use Rattle.sqlite_writer.proofs.Lists.{lists_are_shallow}
use Rattle.sqlite_writer.proofs.laws.lists_are_shallow.Goals as goal

pub returns : goal.returns
returns c = λ fields t. lists_are_shallow fields (c.halves_are_shallow.ensures.ors fields) (c.halves_are_shallow.ensures.ands fields) t
