-- The word that is a sign.
use Rattle.std.proofs.Common.{◌≡◌, true, ap}
use denote.Enum.Bare.{same_true}
use Rattle.sig_conditions.specs.contracts.word.Sign.{the_type}
use Rattle.sig_conditions.specs.declared.word.Sign.{Sign}
use Rattle.sig_conditions.specs.declared.word.Word.{Word}
use Rattle.sig_conditions.specs.declared.word.Word.TheVariants.{Fixed, Name, Pattern}
use Rattle.sig_conditions.specs.Words.{same, is_sign}

pub same_sign : (s t : Sign) → same s t ≡ true → s ≡ t
same_sign s t e = same_true the_type tt s t e

pub sign_word : (sign : Sign) (w : Word) → is_sign sign w ≡ true → w ≡ Fixed sign
sign_word sign (Fixed s) e = ap Fixed (same_sign s sign e)
sign_word sign (Name n) e = absurd cc
sign_word sign (Pattern n) e = absurd cc
