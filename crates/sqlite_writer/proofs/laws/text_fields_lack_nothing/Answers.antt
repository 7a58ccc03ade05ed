use Rattle.sqlite_writer.proofs.NoLack.{no_lack}
use Rattle.sqlite_writer.proofs.laws.text_fields_lack_nothing.Goals as goal

pub returns : goal.returns
returns c = no_lack
