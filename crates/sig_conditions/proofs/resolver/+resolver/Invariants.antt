use Rattle.std.proofs.Common.{◌≡◌, ◌≤◌, ◌+◌, drop}
use Rattle.sig_conditions.specs.Conditions.{conds_of, conds_view}
use Rattle.sig_conditions.specs.Formulas.{faults_of, forms_view, formulas_of, made}
use Rattle.sig_conditions.specs.Selectors.{taken_counts}
use Rattle.sig_conditions.proofs.Parts.{before}
use Rattle.sig_conditions.proofs.resolver.+resolver.Given as goal

abbrev pub invariant-resolve_all-loop-part : goal.invariant-resolve_all-loop-part
invariant-resolve_all-loop-part l = record {
  names : l.names.names ≡ l.fn.names.names;
  steps : l.names.steps ≤ l.fn.names.steps;
  most : l.names.left ≤ l.fn.names.left;
  formulas : made (before (forms_view l.all.items)) (formulas_of l.fn.names.names (conds_of (conds_view (drop l.part-index l.parts))))
      ≡ formulas_of l.fn.names.names (conds_of (conds_view l.parts));
  faults : faults_of l.fn.names.names (conds_of (conds_view (drop l.part-index l.parts))) ≡ faults_of l.fn.names.names (conds_of (conds_view l.parts));
  left : l.names.left + taken_counts l.fn.names.names (conds_of (conds_view l.parts))
      ≡ l.fn.names.left + taken_counts l.fn.names.names (conds_of (conds_view (drop l.part-index l.parts)));
}
