use Rattle.lucene_layout.proofs.Escapes.{term_scanned, term_fine}
use Rattle.lucene_layout.proofs.leaves.patterns_are_scanned.Goals as goal

pub returns : goal.returns
returns c = record { term = term_scanned; pattern = λ g gs h. (term_fine g gs h).glyphs }
