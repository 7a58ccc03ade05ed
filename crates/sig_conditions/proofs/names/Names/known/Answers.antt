use Rattle.std.proofs.Common.{◌∙◌, ap}
use Rattle.sig_conditions.specs.Named.{Named}
use Rattle.sig_conditions.specs.Taken.{taken}
use Rattle.sig_conditions.proofs.Knowing.{is_known}
use Rattle.sig_conditions.proofs.names.Names.known.Goals as goal

pub returns-in_ok-copy_numbers-in-Some-clause-ok : goal.returns-in_ok-copy_numbers-in-Some-clause-ok
returns-in_ok-copy_numbers-in-Some-clause-ok c =
    c.in_ok-copy_numbers-in-Some.ensures
    ∙ (is_known c.self.inside.index c.self.inside.known c.self.invariant.words c.args.selector.now c.selector_word.result.now c.selector_word.utf8 c.selector_word.ensures _ c.in-Some.ensures.value
    ∙ ap (λ (v : Named). taken c.args.selector.now v.names) c.self.view_is)
