use Rattle.std.proofs.Common.{refl, sym, subst, ◌≡◌, ◌∙◌, IfOk}
use Rattle.pipeline_rename.specs.Made.{texts_made}
use Rattle.pipeline_rename.proofs.Fronts.{prefixed_found, prefixed_missing}
use Rattle.pipeline_rename.proofs.mapping.prefixed.Goals as goal

pub returns-in-Some-clause-ok : goal.returns-in-Some-clause-ok
returns-in-Some-clause-ok c =
    subst (λ names. IfOk c.each_front.result (λ made. texts_made made ≡ names))
    (sym (prefixed_found c.args.pairs.now _ c.args.name.now c.in-Some.number c.index-pairs-number.result refl (sym c.in-Some.is ∙ c.in_ok-number.ensures.ok) c.index-pairs-number.is))
    c.each_front.ensures.ok

pub returns-in-None-clause-ok : goal.returns-in-None-clause-ok
returns-in-None-clause-ok c =
    subst (λ names. IfOk c.itself.result (λ made. texts_made made ≡ names))
    (sym (prefixed_missing c.args.pairs.now _ c.args.name.now refl (sym c.in-None.is ∙ c.in_ok-number.ensures.ok)))
    c.itself.ensures.ok
