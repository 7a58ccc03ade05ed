use Rattle.lucene_lang.specs.View.{group_view, atom_view}
use Rattle.lucene_read.specs.View.{wrong_view}
use Rattle.lucene_read.proofs.Levels.{closed}
use Rattle.lucene_read.proofs.transitions.close.Goals as goal

pub returns : goal.returns
returns c =
    closed (group_view c.args.group) (atom_view c.group_atom.result) c.args.outer.items c.pop.new.self.items c.in-Some.level (wrong_view c.args.wrong)
    c.group_atom.ensures c.in-Some.ensures.items
