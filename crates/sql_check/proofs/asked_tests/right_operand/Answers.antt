use Rattle.std.proofs.Common.{◌≡◌, sym, subst, IfOk}
use Rattle.std.proofs.lemmas.Result.{IfOk-weaker}
use Rattle.sql_lang.specs.Expression.{right_operand}
use Rattle.sql_parse.specs.View.{right_view}
use Rattle.sql_lang.specs.View.{operand_view}
use Rattle.sql_check.proofs.asked_tests.right_operand.Goals as goal

pub returns-in-Literal-clause-ok : goal.returns-in-Literal-clause-ok
returns-in-Literal-clause-ok c =
    subst (λ right. IfOk c.literal_operand.result (λ o. operand_view o ≡ right_operand c.args.columns.now (right_view right))) (sym c.in-Literal.is)
    (IfOk-weaker c.literal_operand.result _ _ (λ o all. all c.args.columns.now) c.literal_operand.ensures.ok)
