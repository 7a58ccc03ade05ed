use Rattle.sig_strings.proofs.SpellsLemmas.{spells_same}
use Rattle.sig_strings.proofs.TotalLemmas.{some_pattern}
use Rattle.sig_strings.proofs.laws.one_pattern.Goals as goal

pub returns : goal.returns
returns c = record { some = some_pattern; same = spells_same }
