use Rattle.std.proofs.Common.{◌≡◌, drop}
use Rattle.sig_conditions.specs.Formulas.{forms_of, numbered, some_true}
use Rattle.detection_eval.specs.Truths.{truth_at}
use Rattle.detection_eval.proofs.formula.is_some_detection_true.Given as goal

abbrev pub invariant-loop-number : goal.invariant-loop-number
invariant-loop-number l =
    some_true (truth_at l.truths) (forms_of (numbered (drop l.number-index l.numbers))) ≡ some_true (truth_at l.truths) (forms_of (numbered l.numbers))
