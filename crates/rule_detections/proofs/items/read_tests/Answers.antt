use Rattle.std.proofs.Common.{ℕ, refl, ◌≡◌, ◌∙◌, List, length, map, not, nat_le, subst, ap, sym}
use Rattle.std.specs.Prelude.{None}
use Rattle.std.specs.List.{AllZip}
use Rattle.std.proofs.lemmas.List.{length-map}
use Rattle.sig_base.specs.Judged.{first, must, Judged}
use Rattle.rule_detections.specs.TestsOf.{TestsOf, value_refusal}
use Rattle.yaml_tree.specs.Nodes.{place_of}
use Rattle.yaml_tree.specs.Tree.{Tree}
use Rattle.yaml_tree.specs.View.{node_view, nodes_view}
use Rattle.rule_detections.specs.Items.{shape_refusal, values_refusal}
use Rattle.yaml_tree.specs.Nodes.{is_empty}
use Rattle.yaml_tree.specs.Nodes.{parts_in}
use Rattle.sig_base.proofs.Checks.{skips, first_one, judged_last, must_same}
use Rattle.rule_detections.proofs.items.read_tests.Goals as goal

pub returns-clause-judged : goal.returns-clause-judged
returns-clause-judged c =
    subst (λ (parts : List Tree). Judged (λ all. AllZip (TestsOf c.args.chain.now) parts all) (values_refusal c.args.unbuilt.now c.args.limits.now c.args.chain.now c.args.place (node_view c.args.value.now)) c.read_values.result)
    c.parts_of-values.ensures
    (judged_last (λ all. AllZip (TestsOf c.args.chain.now) (nodes_view c.parts_of-values.result.now) all) _ _ c.read_values.result
    (let parts : parts_in (node_view c.args.value.now) ≡ nodes_view c.parts_of-values.result.now = sym c.parts_of-values.ensures in
    let shapes : first (map shape_refusal (parts_in (node_view c.args.value.now))) ≡ None = ap (λ (ts : List Tree). first (map shape_refusal ts)) parts ∙ c.in_ok-check_shapes.ensures.0 in
    let some : must 78 (place_of (node_view c.args.value.now)) (not (is_empty (parts_in (node_view c.args.value.now)))) ≡ None =
    must_same 78 _ _ _ _ (sym c.place_of.ensures) (ap (λ (ts : List Tree). not (is_empty ts)) parts ∙ ap not (sym c.is_empty.ensures)) ∙ c.in_ok-must.ensures.judged.0 in
    let few : must 79 c.args.place (nat_le (length (parts_in (node_view c.args.value.now))) c.args.limits.now.list_values) ≡ None =
    must_same 79 _ _ _ _ refl (ap (λ (n : ℕ). nat_le n c.args.limits.now.list_values) (ap (λ (ts : List Tree). length ts) parts ∙ length-map c.parts_of-values.result.now node_view)) ∙ c.in_ok-must-2.ensures.judged.0 in
    let rest = ap (λ (ts : List Tree). first (map (value_refusal c.args.unbuilt.now c.args.limits.now.value_chars c.args.limits.now.dashes c.args.chain.now) ts)) (sym c.parts_of-values.ensures) in
    skips _ _ shapes ∙ (skips _ _ some ∙ (skips _ _ few ∙ (first_one _ ∙ rest))))
    c.read_values.ensures.judged)
