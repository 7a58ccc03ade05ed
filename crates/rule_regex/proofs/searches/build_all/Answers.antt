use Rattle.std.proofs.Common.{◌∙◌, ◌∷◌, [], sym, subst, take}
use Rattle.std.specs.Prelude.{Result}
use Rattle.std.proofs.lemmas.List.{take_all}
use Rattle.rule_regex.specs.Building.{ArePatterns, AreBuilt, Builds}
use Rattle.rule_detections.specs.declared.expression.Expression.{Expression}
use Rattle.sig_base.proofs.Firsts.{from_error}
use Rattle.sig_base.specs.declared.refusal.Fault.{Fault}
use Rattle.rule_regex.proofs.BuiltRows.{stops_at, no_memory, is_refused, patterns_more}
use Rattle.rule_regex.proofs.Lists.{each_map, each_joined, taken}
use Rattle.rule_regex.proofs.searches.build_all.Goals as goal

abbrev Done : Unit {0} → Type 0
Done done = Unit {0}

pub returns-in_err-is_built-clause-builds : goal.returns-in_err-is_built-clause-builds
returns-in_err-is_built-clause-builds g c =
    let before = g.B.Builder.refused c.args.builder.now in
    let after = g.B.Builder.refused c.is_built.new.builder in
    let told = c.in_err-is_built.ensures.tells in
    from_error (λ (r : Result (Unit {0}) Fault). Builds Done c.args.expressions.now before after r) c.from_residual.result c.in_err-is_built.field-0.0 _ c.from_residual.ensures.1 (λ y p. p)
    (no_memory Done c.args.expressions.now before after c.in_err-is_built.field-0.0 told.1 (told.0 ∙ c.loop-expression.invariant.refused))

pub returns-then-not-branch-clause-builds : goal.returns-then-not-branch-clause-builds
returns-then-not-branch-clause-builds g c =
    let at = c.loop-expression in
    let before = g.B.Builder.refused c.args.builder.now in
    let now = g.B.Builder.refused at.builder in
    let after = g.B.Builder.refused c.is_built.new.builder in
    let e = c.expression-item.result in
    stops_at Done Done c.args.expressions.now at.expression-index e before now after c.refused.result c.loop-expression-test.true c.expression-item.is at.invariant.refused
    (is_refused Done e now after c.refused.result c.refused.ensures (rw c.if-not-branch.true at c.in_ok-is_built.ensures.tells))

pub loop-expression-preserved : goal.loop-expression-preserved
loop-expression-preserved g c =
    let at = c.loop-expression in
    let es = c.args.expressions.now in
    let e = c.expression-item.result in
    let HasBuilt = g.B.Builder.has_built c.is_built.new.builder in
    let told = rw c.if-not-branch.false at c.in_ok-is_built.ensures.tells in
    record {
      refused = told.0 ∙ at.invariant.refused;
      patterns = patterns_more es at.expression-index e c.loop-expression-test.true c.expression-item.is at.invariant.patterns told.1;
      built = subst (AreBuilt HasBuilt) (sym (taken es at.expression-index e c.loop-expression-test.true c.expression-item.is))
          (each_joined (λ (x : Expression). HasBuilt x.text) (take at.expression-index es) (e ∷ [])
          (each_map (λ (x : Expression). g.B.Builder.has_built at.builder x.text) (λ (x : Expression). HasBuilt x.text) (take at.expression-index es)
          (λ x is. c.in_ok-is_built.ensures.keeps x.text is) at.invariant.built)
          (c.in_ok-is_built.ensures.built c.if-not-branch.false, tt));
    }

pub returns-clause-builds : goal.returns-clause-builds
returns-clause-builds g c =
    let at = c.loop-expression in
    (at.invariant.refused, subst ArePatterns (take_all at.expression-index c.args.expressions.now c.loop-expression-test.false) at.invariant.patterns, tt)

pub returns-clause-built : goal.returns-clause-built
returns-clause-built g c =
    let at = c.loop-expression in
    subst (AreBuilt (g.B.Builder.has_built at.builder)) (take_all at.expression-index c.args.expressions.now c.loop-expression-test.false) at.invariant.built
