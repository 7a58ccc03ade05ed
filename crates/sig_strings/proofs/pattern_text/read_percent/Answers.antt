use Rattle.std.proofs.Common.{refl}
use Rattle.sig_strings.specs.Spells.SpellsFront.{hole, other}
use Rattle.sig_strings.proofs.pattern_text.read_percent.Goals as goal

pub returns-in_default : goal.returns-in_default
returns-in_default c = other 37 refl refl (λ expands. c.in_default.ensures) refl

pub returns : goal.returns
returns c = hole _ refl c.in-Some.ensures refl
