use Rattle.std.proofs.Common.{refl, ap, sym, ◌∙◌, ◌∷◌, List, ℕ}
use Rattle.std.specs.Str.{chars}
use Rattle.std.proofs.lemmas.Str.{chars-nil}
use Rattle.sig_strings.specs.Spells.{begins_special}
use Rattle.sig_strings.specs.Spells.SpellsFront.{escaped, backslash}
use Rattle.sig_strings.proofs.pattern_text.read_escape.Goals as goal

pub returns-in_default : goal.returns-in_default
returns-in_default c = backslash refl (ap begins_special (ap chars c.in_default.ensures ∙ chars-nil)) refl

pub returns-then-is_special : goal.returns-then-is_special
returns-then-is_special c = escaped c.in-Some.c (ap (λ (t : List ℕ). 92 ∷ t) c.in-Some.ensures.0) (sym c.if-is_special.ensures) refl
