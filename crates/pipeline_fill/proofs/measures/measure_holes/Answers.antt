use Rattle.std.proofs.Common.{sym, ◌∙◌}
use Rattle.pipeline_fill.proofs.Growing.{kept_growth, filled_growth}
use Rattle.pipeline_fill.proofs.Products.{longest_told}
use Rattle.pipeline_fill.proofs.measures.measure_holes.Goals as goal

pub returns-then-not-branch-clause-ok : goal.returns-then-not-branch-clause-ok
returns-then-not-branch-clause-ok c = kept_growth c.args.change.now.vars.now c.args.change.now.step.now.action c.args.parts.now _ (sym c.in_ok-has_chosen.ensures.ok ∙ c.if-not-branch.true) c.one_test.ensures

pub returns-clause-ok : goal.returns-clause-ok
returns-clause-ok c =
    let told =
    longest_told c.args.change.now.vars.now c.args.change.now.step.now.action c.args.parts.now _ _ c.in_ok-growth.ensures.tests c.in_ok-growth.ensures.longest in
    let sizes =
    filled_growth c.args.change.now.vars.now c.args.change.now.step.now.action c.args.parts.now _ _ _ (sym c.in_ok-has_chosen.ensures.ok ∙ c.if-not-branch.false)
    c.in_ok-growth.ensures.tests (c.longest_if_any-longest.ensures ∙ told) c.in_ok-growth.ensures.extent in
    (sizes.0, sizes.1, sizes.2, c.in_ok-growth.ensures.lacking)
