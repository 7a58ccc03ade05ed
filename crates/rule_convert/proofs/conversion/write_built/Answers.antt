use Rattle.std.proofs.Common.{◌≡◌, List, ℕ, Ok, Err}
use Rattle.backend_core.specs.View.{tree_view}
use Rattle.rule_model.specs.Expressions.{rule_expressions}
use Rattle.rule_model.specs.Plain.{rule_view}
use Rattle.rule_convert.proofs.Judging.{all_built, not_built, rebuilt_by}
use Rattle.rule_convert.proofs.conversion.write_built.Goals as goal

pub returns-in-Ok : goal.returns-in-Ok
returns-in-Ok g c =
    let rule = rule_view c.args.rule.now in
    rebuilt_by (rule_expressions rule) {X = Unit {0}} _ _ (λ done. Unit {0}) (Ok tt) _
    (λ unbuilt judged. all_built g.B.Lacking.missing g.B.Backend.text g.B.Backend.too_deep unbuilt c.args.limits.now rule c.args.schema.now (tree_view c.args.tree.now) rule.head.place
    c.write.result judged.0 c.write.ensures) c.in-Ok.ensures.builds

pub returns-in-Err : goal.returns-in-Err
returns-in-Err g c =
    let rule = rule_view c.args.rule.now in
    rebuilt_by (rule_expressions rule) {X = Unit {0}} _ _ (λ done. Unit {0}) (Err c.in-Err.fault) _
    (λ unbuilt judged. not_built g.B.Lacking.missing g.B.Backend.text g.B.Backend.too_deep unbuilt c.args.limits.now rule c.args.schema.now (tree_view c.args.tree.now) rule.head.place
    (λ (done : Unit {0}). Unit {0}) (λ (bytes : List ℕ). bytes ≡ g.B.Backend.text c.args.schema.now (tree_view c.args.tree.now)) c.in-Err.fault judged) c.in-Err.ensures.builds
