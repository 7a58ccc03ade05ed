use Rattle.std.proofs.Common.{◌∙◌, map}
use Rattle.command_line.proofs.Exact.{clean_same}
use Rattle.command_line.proofs.words.are_clean.Goals as goal

pub returns : goal.returns
returns g c = c.are_clean_in_turn.ensures ∙ clean_same (map g.S.AsStr.text c.args.words.now)
