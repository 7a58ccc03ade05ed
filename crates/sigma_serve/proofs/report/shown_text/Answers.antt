use Rattle.std.proofs.Common.{List, ℕ, map, ◌∙◌, sym, ap, map-id}
use Rattle.std.proofs.lemmas.Iterator.{YieldsList-from_chars}
use Rattle.std.proofs.lemmas.Iterator.Consumers.{YieldsList-end}
use Rattle.sigma_serve.specs.Reports.{shown}
use Rattle.sigma_serve.proofs.report.shown_text.Goals as goal

pub returns : goal.returns
returns c =
    let end = YieldsList-end (YieldsList-from_chars c.as_str-text.result.now c.as_str-text.utf8 cc) c.loop-c.yielded _ c.loop-c.yielded_by _ _ c.in-None.is c.next.ensures.steps in
    c.loop-c.invariant ∙ ap (λ (cs : List ℕ). map shown cs) (sym (map-id c.loop-c.yielded) ∙ (end.0 ∙ c.as_str-text.ensures.chars))
