use Rattle.command_line.proofs.Exact.{unclean_none}
use Rattle.command_line.proofs.words.read.Goals as goal

pub returns-then-not-are_clean-clause-untaken : goal.returns-then-not-are_clean-clause-untaken
returns-then-not-are_clean-clause-untaken g c = unclean_none c.args.which _ c.are_clean.result c.if-not-are_clean.true c.are_clean.ensures
