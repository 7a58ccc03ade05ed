use Rattle.std.proofs.Common.{List, ℕ, ◌∙◌, sym, ap, map, map-id}
use Rattle.std.proofs.lemmas.Iterator.{YieldsList-from_chars}
use Rattle.std.proofs.lemmas.Iterator.Consumers.{YieldsList-end}
use Rattle.sig_strings.specs.declared.part.Part.TheVariants.{Char}
use Rattle.modifier_values.proofs.text_patterns.as_pattern.Goals as goal

pub returns-clause-ok : goal.returns-clause-ok
returns-clause-ok c =
    let end = YieldsList-end (YieldsList-from_chars c.as_str.result.now c.as_str.utf8 cc) c.loop-c.yielded _ c.loop-c.yielded_by _ _ c.in-None.is c.next.ensures.steps in
    c.of_parts.ensures ∙ (c.loop-c.invariant ∙ ap (λ (cs : List ℕ). map Char cs) (sym (map-id c.loop-c.yielded) ∙ (end.0 ∙ c.as_str.ensures.chars)))
