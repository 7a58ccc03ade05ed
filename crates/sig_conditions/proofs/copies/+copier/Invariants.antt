use Rattle.std.proofs.Common.{◌≡◌, ◌++◌, drop}
use Rattle.sig_conditions.specs.Formulas.{forms_view}
use Rattle.sig_conditions.proofs.copies.+copier.Given as goal

abbrev pub invariant-copy_formulas-loop-part : goal.invariant-copy_formulas-loop-part
invariant-copy_formulas-loop-part l = forms_view l.all.items ++ forms_view (drop l.part-index l.parts) ≡ forms_view l.parts
