use Rattle.std.proofs.Common.{◌≡◌, ◌∙◌, ◌+◌, ℕ, List, ap, sym, subst, drop, arith}
use Rattle.std.proofs.lemmas.List.{at_drop_all}
use Rattle.sig_conditions.specs.Conditions.{cond_view}
use Rattle.sig_conditions.specs.Formulas.{faults, formula_of}
use Rattle.sig_conditions.specs.Resolved.{Fails}
use Rattle.sig_conditions.specs.Selectors.{taken_count}
use Rattle.sig_conditions.specs.declared.condition.Condition.{Condition}
use Rattle.sig_conditions.proofs.Parts.{faults_end, faults_go, formula_goes, formulas_end, resolves_on, left_end, left_goes, part_fails}
use Rattle.sig_conditions.proofs.resolver.+resolver.Goals as goal

pub resolve_all-loop-part-preserved : goal.resolve_all-loop-part-preserved
resolve_all-loop-part-preserved t c =
    let names = c.args.names.now.names in
    let part = cond_view c.part-item.result in
    record {
      names = c.in_ok-formula.ensures.names ∙ c.loop-part.invariant.names;
      steps = omega (arith, c.in_ok-formula.ensures.steps, c.loop-part.invariant.steps);
      most = omega (arith, c.in_ok-formula.ensures.most, c.loop-part.invariant.most);
      formulas = formula_goes names c.loop-part.part-index c.args.parts.now c.part-item.result c.loop-part.all.items c.push.new.self.items c.in_ok-formula.formula _
          c.loop-part-test.true c.part-item.is c.loop-part.invariant.formulas
          (sym (ap (λ (ns : List (List ℕ)). formula_of ns part) c.loop-part.invariant.names) ∙ c.in_ok-formula.ensures.formula.0) c.in_ok-push.ensures.items;
      faults = faults_go names c.loop-part.part-index c.args.parts.now c.part-item.result _ c.loop-part-test.true c.part-item.is c.loop-part.invariant.faults
          (sym (ap (λ (ns : List (List ℕ)). faults ns part) c.loop-part.invariant.names) ∙ c.in_ok-formula.ensures.formula.1);
      left = left_goes names c.loop-part.part-index c.args.parts.now c.part-item.result c.loop-part.names.left _ _ _ c.loop-part-test.true c.part-item.is c.loop-part.invariant.left
          (sym (ap (λ (ns : List (List ℕ)). c.resolve.new.names.left + taken_count ns part) c.loop-part.invariant.names) ∙ c.in_ok-formula.ensures.left);
    }

pub resolve_all-returns : goal.resolve_all-returns
resolve_all-returns t c =
    let names = c.args.names.now.names in
    let e : drop c.loop-part.part-index c.args.parts.now ≡ _ = at_drop_all (λ (ds : List Condition). ds) c.args.parts.now c.loop-part.part-index c.loop-part-test.false in
    record {
      formulas = (formulas_end names _ c.loop-part.all.items _ e c.loop-part.invariant.formulas, faults_end names _ _ e c.loop-part.invariant.faults);
      names = c.loop-part.invariant.names;
      steps = c.loop-part.invariant.steps;
      most = c.loop-part.invariant.most;
      left = left_end names _ _ _ _ e c.loop-part.invariant.left;
    }

pub resolve_all-returns-in_err-formula-clause-formulas : goal.resolve_all-returns-in_err-formula-clause-formulas
resolve_all-returns-in_err-formula-clause-formulas t c =
    resolves_on _ _ c.in_err-formula.field-0.0 _ _ _ c.from_residual.ensures.1 (λ e p. p)
    (part_fails c.args.names.now.names c.loop-part.part-index c.args.parts.now c.part-item.result c.in_err-formula.field-0.0 _ c.loop-part-test.true c.part-item.is
    c.loop-part.invariant.faults
    (subst (λ (ns : List (List ℕ)). Fails c.in_err-formula.field-0.0 (faults ns (cond_view c.part-item.result))) c.loop-part.invariant.names c.in_err-formula.ensures.formula))
