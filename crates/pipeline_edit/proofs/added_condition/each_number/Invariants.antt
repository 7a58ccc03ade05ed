use Rattle.std.proofs.Common.{◌≡◌, ◌++◌, drop}
use Rattle.sig_conditions.specs.Formulas.{forms_view, numbered}
use Rattle.pipeline_edit.proofs.added_condition.each_number.Given as goal

abbrev pub invariant-loop-number : goal.invariant-loop-number
invariant-loop-number l = forms_view l.parts.items ++ numbered (drop l.number-index l.numbers) ≡ numbered l.numbers
