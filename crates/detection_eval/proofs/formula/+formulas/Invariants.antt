use Rattle.std.proofs.Common.{◌≡◌, drop}
use Rattle.sig_conditions.specs.Formulas.{forms_of, forms_view, all_true, some_true}
use Rattle.detection_eval.specs.Truths.{truth_at}
use Rattle.detection_eval.proofs.formula.+formulas.Given as goal

abbrev pub invariant-are_all_true-loop-part : goal.invariant-are_all_true-loop-part
invariant-are_all_true-loop-part l =
    all_true (truth_at l.truths) (forms_of (forms_view (drop l.part-index l.parts))) ≡ all_true (truth_at l.truths) (forms_of (forms_view l.parts))

abbrev pub invariant-is_some_true-loop-part : goal.invariant-is_some_true-loop-part
invariant-is_some_true-loop-part l =
    some_true (truth_at l.truths) (forms_of (forms_view (drop l.part-index l.parts))) ≡ some_true (truth_at l.truths) (forms_of (forms_view l.parts))
