use Rattle.std.proofs.Common.{◌≡◌, ◌∙◌, sym, subst, [], ◌∷◌}
use Rattle.backend_core.specs.FieldAt.{kind_at}
use Rattle.rule_detections.specs.declared.test.Test.{Test}
use Rattle.rule_lowering.specs.TreeOf.{written_tests}
use Rattle.rule_lowering.proofs.ChoiceLemmas.{alone_fits, no_pattern}
use Rattle.rule_lowering.proofs.Ones.{alone}
use Rattle.rule_lowering.proofs.detection_trees.lower_test.Goals as goal

pub returns-then-dash_count-eq0-clause-ok : goal.returns-then-dash_count-eq0-clause-ok
returns-then-dash_count-eq0-clause-ok c =
    alone c.args.fields.now c.lower_written.result c.args.place (kind_at c.args.fields.now c.args.field) c.args.field c.args.test.now
    (subst (λ (t : Test). written_tests t ≡ t ∷ []) (sym c.in-Fits.is)
    (alone_fits c.in-Fits.pattern c.in-Fits.cased (sym c.dash_count.ensures ∙ c.if-dash_count-eq0.true)))
    c.lower_written.ensures.ok

pub returns-in-Absent-clause-ok : goal.returns-in-Absent-clause-ok
returns-in-Absent-clause-ok c =
    alone c.args.fields.now c.lower_written-in-Absent.result c.args.place (kind_at c.args.fields.now c.args.field) c.args.field c.args.test.now (no_pattern c.args.test.now c.in-Absent.is)
    c.lower_written-in-Absent.ensures.ok
