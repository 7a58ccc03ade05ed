use Rattle.std.proofs.Common.{List, ℕ, sym, ap}
use Rattle.modifier_values.specs.Uses.{pattern}
use Rattle.yaml_tree.specs.Tree.{truth}
use Rattle.rule_detections.proofs.FormLemmas.{as_text}
use Rattle.rule_detections.proofs.value_tests.resolve_truth.Goals as goal

pub returns-in-Bare-clause-judged : goal.returns-in-Bare-clause-judged
returns-in-Bare-clause-judged c = λ unbuilt.
    let taken = ap (λ (cs : List ℕ). pattern cs) (sym c.truth_text.ensures) in
    as_text unbuilt c.args.chain.now c.args.limits.now c.args.place (truth c.args.value) c.resolve_text.result c.form.result _
    c.form.ensures c.in-Bare.is taken (λ nulls. taken) (c.resolve_text.ensures.judged unbuilt)
