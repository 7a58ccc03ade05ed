use Rattle.std.proofs.Common.{refl}
use Rattle.lucene_lang.proofs.Atoms.{value_is, term_is, phrase_is, range_is}
use Rattle.lucene_lang.proofs.meaning.atoms_hold.Goals as goal

pub returns : goal.returns
returns c = record { everything = λ row. refl; group = λ row g. ((λ h. h), (λ h. h)); value = value_is; term = term_is; phrase = phrase_is; range = range_is }
