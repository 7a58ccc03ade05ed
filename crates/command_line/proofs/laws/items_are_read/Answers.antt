use Rattle.command_line.specs.Table.{row_of}
use Rattle.command_line.proofs.Computing.{computed, plain_names}
use Rattle.command_line.proofs.laws.items_are_read.Goals as goal

pub returns : goal.returns
returns c = λ command words items. computed (row_of command) words items (plain_names command)
