use Rattle.std.proofs.Common.{◌≡◌, drop, take, map}
use Rattle.std.specs.List.{AllZip}
use Rattle.sig_conditions.specs.Formulas.{forms_view}
use Rattle.sig_base.specs.Judged.{first}
use Rattle.yaml_tree.specs.View.{nodes_view}
use Rattle.rule_model.specs.Conditions.{IsFormula, condition_refusal}
use Rattle.rule_model.proofs.conditions.read_listed.Given as goal

abbrev pub invariant-loop-part : goal.invariant-loop-part
invariant-loop-part l = record {
  same : l.names.names ≡ l.fn.names.names;
  unrefused : first (map (condition_refusal l.limits l.fn.names.names) (nodes_view l.parts))
      ≡ first (map (condition_refusal l.limits l.fn.names.names) (nodes_view (drop l.part-index l.parts)));
  read : AllZip (IsFormula l.fn.names.names) (nodes_view (take l.part-index l.parts)) (forms_view l.formulas.items);
}
