use Rattle.std.proofs.Common.{◌≡◌, true, List, ℕ, sym, ap, ◌∙◌, subst}
use Rattle.std.proofs.lemmas.Result.{IfOk-weaker}
use Rattle.std.specs.Str.{chars}
use Rattle.query_lang.specs.Patterns.{is_pattern}
use Rattle.modifier_values.specs.Expressions.{expression_text, IsPlainExpression}
use Rattle.modifier_values.specs.Parts.{has_nul}
use Rattle.modifier_values.proofs.Plain.{no_nul}
use Rattle.modifier_values.proofs.expressions.read_expression.Goals as goal

pub returns-clause-plain : goal.returns-clause-plain
returns-clause-plain c =
    let flags = c.args.flags in
    let t = c.args.text.now in
    let spelled = c.in_ok-expression.ensures.ok ∙ ap (λ (cs : List ℕ). expression_text flags cs) c.as_str-3.ensures.chars in
    let read : is_pattern (expression_text flags t) ≡ true =
    ap is_pattern (sym (c.as_str-4.ensures.chars ∙ spelled)) ∙ sym c.in_ok-is_pattern.ensures.ok ∙ c.if-not-branch.false in
    let free = no_nul t (ap has_nul (sym c.as_str-2.ensures.chars) ∙ sym c.has_nul.ensures ∙ c.if-has_nul.false) in
    let plain : IsPlainExpression flags t = (read, (c.as_str.ensures.scalars, free)) in
    IfOk-weaker c.copy.result _ (λ (copy : List ℕ). IsPlainExpression flags copy)
    (λ copy is. subst (λ (cs : List ℕ). IsPlainExpression flags cs) (sym (is ∙ c.as_str-5.ensures.chars)) plain) c.copy.ensures.ok
