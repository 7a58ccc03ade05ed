use Rattle.std.proofs.Common.{List, ℕ, refl, sym, ap, ◌∙◌}
use Rattle.modifier_words.specs.declared.form.ChainForm.TheVariants.{Networks, Reference}
use Rattle.modifier_values.specs.Uses.{network, pattern, reference}
use Rattle.yaml_tree.specs.Tree.{text}
use Rattle.rule_detections.proofs.FormLemmas.{as_form, as_text}
use Rattle.rule_detections.proofs.value_tests.resolve_string.Goals as goal

pub returns-in-Reference-clause-judged : goal.returns-in-Reference-clause-judged
returns-in-Reference-clause-judged c =
    let t = c.args.value.now in
    let unbuilt = c.args.unbuilt.now in
    as_form unbuilt c.args.chain.now c.args.limits.now c.args.place (text t) c.resolve_reference.result Reference (reference t)
    (sym c.in-Reference.is ∙ c.form.ensures) refl (c.resolve_reference.ensures.judged unbuilt)

pub returns-in-Networks-clause-judged : goal.returns-in-Networks-clause-judged
returns-in-Networks-clause-judged c =
    let t = c.args.value.now in
    let unbuilt = c.args.unbuilt.now in
    as_form unbuilt c.args.chain.now c.args.limits.now c.args.place (text t) c.resolve_network.result Networks _
    (sym c.in-Networks.is ∙ c.form.ensures) (ap (λ (cs : List ℕ). network cs) (sym c.as_str.ensures.chars)) (c.resolve_network.ensures.judged unbuilt)

pub returns-in-Bare-clause-judged : goal.returns-in-Bare-clause-judged
returns-in-Bare-clause-judged c =
    let t = c.args.value.now in
    let unbuilt = c.args.unbuilt.now in
    let taken = ap (λ (cs : List ℕ). pattern cs) (sym c.as_str-in-Bare.ensures.chars) in
    as_text unbuilt c.args.chain.now c.args.limits.now c.args.place (text t) c.resolve_text.result c.form.result _
    c.form.ensures c.in-Bare.is taken (λ nulls. taken) (c.resolve_text.ensures.judged unbuilt)
