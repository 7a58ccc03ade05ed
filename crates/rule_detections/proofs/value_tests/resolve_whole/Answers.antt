use Rattle.std.proofs.Common.{◌≡◌, ℤ, ℕ, List, rules, sym, ap, ◌∙◌, w64, to_z, of_z}
use Rattle.std.specs.Fmt.{signed_decimal}
use Rattle.modifier_words.specs.declared.form.ChainForm.TheVariants.{Orders, Texts}
use Rattle.modifier_values.specs.Uses.{ordered, pattern}
use Rattle.yaml_tree.specs.Tree.{whole}
use Rattle.rule_detections.proofs.FormLemmas.{as_form}
use Rattle.rule_detections.proofs.value_tests.resolve_whole.Goals as goal

pub returns-in-Orders-clause-judged : goal.returns-in-Orders-clause-judged
returns-in-Orders-clause-judged c = λ unbuilt.
    let n = c.args.value.now in
    let back : to_z w64 (of_z w64 n) ≡ n = search rules in
    as_form unbuilt c.args.chain.now c.args.limits.now c.args.place (whole n) c.resolve_ordered.result (Orders c.in-Orders.op) _
    (sym c.in-Orders.is ∙ c.form.ensures) (ap (λ (m : ℤ). ordered c.in-Orders.op m) (sym back)) (c.resolve_ordered.ensures.judged unbuilt)

pub returns-in-Texts-clause-judged : goal.returns-in-Texts-clause-judged
returns-in-Texts-clause-judged c = λ unbuilt.
    let n = c.args.value.now in
    let back : to_z w64 (of_z w64 n) ≡ n = search rules in
    as_form unbuilt c.args.chain.now c.args.limits.now c.args.place (whole n) c.resolve_text.result (Texts c.in-Texts.nulls) _
    (sym c.in-Texts.is ∙ c.form.ensures)
    (ap (λ (m : ℤ). pattern (signed_decimal m)) (sym back) ∙ ap (λ (cs : List ℕ). pattern cs) (sym c.decimal_in-text.ensures)) (c.resolve_text.ensures.judged unbuilt)
