use Rattle.std.proofs.Common.{refl}
use Rattle.sql_lang.specs.Tokens.{is_number}
use Rattle.sql_layout.proofs.Sound.{sound_number}
use Rattle.sql_layout.proofs.leaves.leaves_are_sound.Goals as goal

pub returns-clause-never : goal.returns-clause-never
unfolding is_number
returns-clause-never c = λ fields. record { writable = refl; faultless = λ ps. refl }

pub returns-clause-number : goal.returns-clause-number
returns-clause-number c = sound_number
