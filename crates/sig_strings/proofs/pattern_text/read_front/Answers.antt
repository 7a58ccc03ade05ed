use Rattle.std.proofs.Common.{refl, ap, ◌∙◌}
use Rattle.std.specs.Str.{chars}
use Rattle.std.proofs.lemmas.Str.{chars-nil}
use Rattle.sig_strings.specs.Spells.SpellsFront.{other}
use Rattle.sig_strings.proofs.ReadingLemmas.{not_special, no_hole_there}
use Rattle.sig_strings.proofs.pattern_text.read_front.Goals as goal
use Rattle.sig_strings.proofs.pattern_text.read_front.Goals.{else-expand-via-then-expand+else-c-eq37, else-expand-via-else-expand}

pub returns-in_default : goal.returns-in_default
returns-in_default c = ap chars c.in_default.ensures ∙ chars-nil

pub returns : goal.returns
returns c =
    other c.in-Some.c c.in-Some.ensures.0 (not_special c.in-Some.c c.if-c-eq42.false c.if-c-eq63.false c.if-c-eq92.false)
    (λ expands. elim c.else-expand.branch [
      | else-expand-via-then-expand+else-c-eq37 w ↦ no_hole_there _ _ _ c.in-Some.ensures.0 w.if-c-eq37.false
      | else-expand-via-else-expand w ↦ absurd (let off : _ = w.if-expand.false in cc)
    ])
    refl
