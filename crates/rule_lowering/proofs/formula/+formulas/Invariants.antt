use Rattle.std.proofs.Common.{◌≡◌, ◌++◌, map, drop}
use Rattle.std.specs.List.{flat_map}
use Rattle.backend_core.specs.View.{tree_view}
use Rattle.sig_conditions.specs.Formulas.{form_view}
use Rattle.rule_lowering.specs.Joining.{parts_of}
use Rattle.rule_lowering.specs.TreeOf.{form_tree}
use Rattle.rule_lowering.proofs.formula.+formulas.Given as goal

abbrev pub invariant-lower_formulas-loop-formula : goal.invariant-lower_formulas-loop-formula
invariant-lower_formulas-loop-formula l =
    map tree_view l.parts.items ++ flat_map (parts_of l.joined) (map (λ f. form_tree l.fields l.detections (form_view f)) (drop l.formula-index l.formulas))
    ≡ flat_map (parts_of l.joined) (map (λ f. form_tree l.fields l.detections (form_view f)) l.formulas)
