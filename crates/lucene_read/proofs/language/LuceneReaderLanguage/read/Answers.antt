use Rattle.std.proofs.Common.{[], sym, append-nil}
use Rattle.lucene_read.proofs.language.LuceneReaderLanguage.read.Goals as goal

pub returns : goal.returns
returns g c = record { answers = record { gained = []; follows = sym (append-nil (g.B.Builder.refused c.args._builder.now)); answers = c.read_bytes.ensures } }
