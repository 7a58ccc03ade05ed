use Rattle.std.proofs.Common.{◌∙◌, [], ◌∷◌, refl, ap, sym}
use Rattle.sig_base.proofs.TextLemmas.{ascii_chars}
use Rattle.sig_conditions.specs.Named.{selector_word}
use Rattle.sig_conditions.proofs.names.selector_word.Goals as goal

pub returns-in-Them : goal.returns-in-Them
returns-in-Them c = ascii_chars (42 ∷ []) refl ∙ ap selector_word (sym c.in-Them.is)
