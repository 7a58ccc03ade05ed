use Rattle.std.proofs.Common.{◌∙◌, sym, ap, subst, map, List, take, ◌+◌, ℕ}
use Rattle.std.specs.Prelude.{Ok, Err}
use Rattle.std.specs.List.{AllZip}
use Rattle.sig_base.specs.Judged.{Judged, first}
use Rattle.sig_conditions.specs.Formulas.{PlainFormula, form_view, forms_view}
use Rattle.sig_conditions.specs.declared.formula.Formula.{Formula}
use Rattle.yaml_tree.specs.Tree.{Tree}
use Rattle.yaml_tree.specs.View.{node_view}
use Rattle.rule_model.specs.Conditions.{IsFormula, condition_refusal}
use Rattle.rule_model.proofs.ConditionLists.{unempty, pushed_view}
use Rattle.sig_base.proofs.Firsts.{hands_on, behind, part_first, rest_first, one_more}
use Rattle.rule_model.proofs.conditions.read_listed.Goals as goal

pub returns-in_err-formula : goal.returns-in_err-formula
returns-in_err-formula c =
    let t = node_view c.args.node.now in
    let ns = c.parts_of-parts.result.now in
    let refusal = condition_refusal c.args.limits.now c.args.names.now.names in
    hands_on _ (λ (f : Formula). IsFormula c.args.names.now.names (node_view c.part-item.result) (form_view f)) c.from_residual-in_err-formula.result c.in_err-formula.field-0.0 _ _
    (refusal (node_view c.part-item.result)) c.from_residual-in_err-formula.ensures.1 (λ e p. p)
    (subst (λ (ms : List (List ℕ)). Judged (λ (f : Formula). IsFormula ms (node_view c.part-item.result) (form_view f)) (condition_refusal c.args.limits.now ms (node_view c.part-item.result)) (Err c.in_err-formula.field-0.0))
    c.loop-part.invariant.same c.in_err-formula.ensures.judged)
    (λ r p.
    behind _ _ (unempty ns t c.place_of.result c.is_empty.result c.parts_of-parts.ensures c.place_of.ensures c.is_empty.ensures c.in_ok-must.ensures.judged.0)
    ∙ (ap (λ (ts : List Tree). first (map refusal ts)) (sym c.parts_of-parts.ensures)
    ∙ (c.loop-part.invariant.unrefused ∙ part_first node_view refusal c.loop-part.part-index ns c.part-item.result r c.loop-part-test.true c.part-item.is p)))

pub loop-part-preserved : goal.loop-part-preserved
loop-part-preserved c =
    let judged : Judged (λ (f : Formula). IsFormula c.args.names.now.names (node_view c.part-item.result) (form_view f)) (condition_refusal c.args.limits.now c.args.names.now.names (node_view c.part-item.result)) (Ok c.in_ok-formula.formula) =
    subst (λ (ms : List (List ℕ)). Judged (λ (f : Formula). IsFormula ms (node_view c.part-item.result) (form_view f)) (condition_refusal c.args.limits.now ms (node_view c.part-item.result)) (Ok c.in_ok-formula.formula))
    c.loop-part.invariant.same c.in_ok-formula.ensures.judged in
    record {
      same = c.in_ok-formula.ensures.names ∙ c.loop-part.invariant.same;
      unrefused =
          c.loop-part.invariant.unrefused
          ∙ rest_first node_view (condition_refusal c.args.limits.now c.args.names.now.names) c.loop-part.part-index c.parts_of-parts.result.now c.part-item.result
          c.loop-part-test.true c.part-item.is judged.0;
      read =
          subst (λ (fs : List PlainFormula). AllZip (IsFormula c.args.names.now.names) (map node_view (take (c.loop-part.part-index + 1) c.parts_of-parts.result.now)) fs) (sym (pushed_view c.loop-part.formulas.items c.push.new.self.items c.in_ok-formula.formula c.in_ok-push.ensures.items))
          (one_more node_view (IsFormula c.args.names.now.names) c.loop-part.part-index c.parts_of-parts.result.now c.part-item.result
          (forms_view c.loop-part.formulas.items) (form_view c.in_ok-formula.formula) c.loop-part-test.true c.part-item.is c.loop-part.invariant.read judged.1);
    }
