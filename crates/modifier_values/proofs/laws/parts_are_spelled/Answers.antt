use Rattle.modifier_values.proofs.PartsLemmas.{parts_spell, spelled_is}
use Rattle.modifier_values.proofs.laws.parts_are_spelled.Goals as goal

pub returns : goal.returns
returns c = record { spelled = parts_spell; no_other = λ expand text parts h. spelled_is expand parts text h }
