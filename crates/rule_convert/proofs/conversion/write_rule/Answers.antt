use Rattle.std.proofs.Common.{◌≡◌}
use Rattle.backend_core.specs.View.{tree_view}
use Rattle.backend_core.specs.declared.tree.Tree.{Tree}
use Rattle.rule_lowering.specs.TreeOf.{tree_of}
use Rattle.rule_model.specs.Expressions.{rule_expressions}
use Rattle.rule_model.specs.Plain.{rule_view}
use Rattle.rule_convert.proofs.Judging.{rule_written, too_many, rebuilt_none}
use Rattle.rule_convert.proofs.conversion.write_rule.Goals as goal

pub returns-in-Ok : goal.returns-in-Ok
returns-in-Ok g c =
    rule_written g.B.Lacking.missing g.B.Backend.text g.B.Backend.too_deep c.args.limits.now (rule_view c.args.rule.now) c.args.schema.now (tree_view c.in-Ok.tree) _ _ c.write_built.result
    c.in-Ok.ensures.tree.1 c.in-Ok.ensures.tree.0 c.write_built.ensures

pub returns-in-Err : goal.returns-in-Err
returns-in-Err g c =
    let rule = rule_view c.args.rule.now in
    rebuilt_none (rule_expressions rule) _ _
    (too_many g.B.Lacking.missing g.B.Backend.text g.B.Backend.too_deep c.args.limits.now rule c.args.schema.now (λ (t : Tree). tree_view t ≡ tree_of c.args.schema.now rule) c.in-Err.fault c.in-Err.ensures.tree)
