use Rattle.std.proofs.Common.{refl, sym}
use Rattle.sig_strings.specs.Spells.SpellsFront.{other}
use Rattle.sig_strings.proofs.ReadingLemmas.{no_hole_there}
use Rattle.sig_strings.proofs.pattern_text.plain_front.Goals as goal

pub returns : goal.returns
returns c = λ expand.
    other c.in-Some.c c.in-Some.ensures.0 (sym c.if-is_special.ensures) (λ expands. no_hole_there _ _ _ c.in-Some.ensures.0 c.if-c-eq37.false) refl
