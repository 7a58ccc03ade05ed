use Rattle.std.proofs.Common.{sym, ◌∙◌, ap, map, map-id, List, ℕ}
use Rattle.std.proofs.lemmas.Iterator.{YieldsList-from_chars}
use Rattle.std.proofs.lemmas.Iterator.Consumers.{YieldsList-end}
use Rattle.lucene_lang.specs.declared.query.Glyph.TheVariants.{Char}
use Rattle.lucene_read.proofs.leaves.plain_glyphs.Goals as goal

pub returns-clause-ok : goal.returns-clause-ok
returns-clause-ok c =
    let text = c.as_str.result.now in
    let end = YieldsList-end (YieldsList-from_chars text c.as_str.utf8 cc) c.loop-c.yielded _ c.loop-c.yielded_by _ _ c.in-None.is c.next.ensures.steps in
    c.loop-c.invariant ∙ ap (λ (cs : List ℕ). map (λ d. Char d) cs) ((sym (map-id c.loop-c.yielded) ∙ end.0) ∙ c.as_str.ensures.chars)
