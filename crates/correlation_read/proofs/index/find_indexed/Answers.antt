use Rattle.std.proofs.Common.{◌∙◌}
use Rattle.correlation_read.proofs.Meanings.{found_beside}
use Rattle.correlation_read.proofs.index.find_indexed.Goals as goal

pub returns : goal.returns
returns c =
    c.find_beside.ensures ∙ found_beside c.args.texts.now c.args.rules.now c.args.heads.now c.args.text.now c.requires.texts c.requires.rules
