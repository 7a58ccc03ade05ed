use Rattle.std.proofs.Common.{ℕ, ◌≡◌, inl, inr, ◌∷◌, ◌++◌, ◌+◌, [], List, Vec, Global, take, drop, refl, subst, sym}
use Rattle.std.specs.Prelude.{Result, Ok}
use Rattle.std.proofs.lemmas.List.{take_all, take-append-drop}
use Rattle.rule_regex.specs.Building.{FoundUnbuilt, AreBuiltOrFound, places_in}
use Rattle.rule_detections.specs.declared.expression.Expression.{Expression}
use Rattle.sig_base.proofs.Firsts.{from_error}
use Rattle.sig_base.specs.declared.refusal.Fault.{Fault}
use Rattle.sig_base.specs.declared.refusal.Place.{Place}
use Rattle.rule_regex.proofs.Lists.{taken, around, some_left, some_right}
use Rattle.rule_regex.proofs.FoundPlaces.{one_built, one_unbuilt, one_more, found_no_memory}
use Rattle.rule_regex.proofs.unbuilt.find_unbuilt_among.Goals as goal

pub loop-expression-preserved-then-branch : goal.loop-expression-preserved-then-branch
loop-expression-preserved-then-branch g c =
    let at = c.loop-expression in
    let before = g.B.Builder.refused c.args.builder.now in
    let now = g.B.Builder.refused at.builder in
    let after = g.B.Builder.refused c.is_built.new.builder in
    let es = c.args.expressions.now in
    let e = c.expression-item.result in
    let places = at.unbuilt.items in
    let told = c.in_ok-is_built.ensures in
    let is_taken = sym (taken es at.expression-index e c.loop-expression-test.true c.expression-item.is) in
    record {
      found = subst (λ (xs : List Expression). FoundUnbuilt xs before after (Ok places)) is_taken
          (one_built (take at.expression-index es) e before now after places at.invariant.found (rw c.if-branch.true at told.tells));
      built = subst (λ (xs : List Expression). AreBuiltOrFound (g.B.Builder.has_built c.is_built.new.builder) places xs) is_taken
          (one_more (g.B.Builder.has_built at.builder) (g.B.Builder.has_built c.is_built.new.builder) told.keeps places places (λ p there. there)
          (take at.expression-index es) e at.invariant.built (inl (told.built c.if-branch.true)));
    }

pub loop-expression-preserved : goal.loop-expression-preserved
loop-expression-preserved g c =
    let at = c.loop-expression in
    let before = g.B.Builder.refused c.args.builder.now in
    let now = g.B.Builder.refused at.builder in
    let after = g.B.Builder.refused c.is_built.new.builder in
    let HasBuilt = g.B.Builder.has_built c.is_built.new.builder in
    let es = c.args.expressions.now in
    let e = c.expression-item.result in
    let places = at.unbuilt.items in
    let told = c.in_ok-is_built.ensures in
    let is_taken = sym (taken es at.expression-index e c.loop-expression-test.true c.expression-item.is) in
    let pushed = sym c.in_ok-push.ensures.items in
    record {
      found = subst (λ (ps : List Place). FoundUnbuilt (take (at.expression-index + 1) es) before after (Ok ps)) pushed
          (subst (λ (xs : List Expression). FoundUnbuilt xs before after (Ok (places ++ e.place ∷ []))) is_taken
          (one_unbuilt (take at.expression-index es) e before now after places at.invariant.found (rw c.if-branch.false at told.tells)));
      built = subst (λ (ps : List Place). AreBuiltOrFound HasBuilt ps (take (at.expression-index + 1) es)) pushed
          (subst (λ (xs : List Expression). AreBuiltOrFound HasBuilt (places ++ e.place ∷ []) xs) is_taken
          (one_more (g.B.Builder.has_built at.builder) HasBuilt told.keeps places (places ++ e.place ∷ [])
          (λ p there. some_left (λ (q : Place). q ≡ p) places (e.place ∷ []) there) (take at.expression-index es) e at.invariant.built
          (inr (some_right (λ (q : Place). q ≡ e.place) places (e.place ∷ []) (inl refl)))));
    }

abbrev Finds : List Expression → List (List ℕ) → List (List ℕ) → Result (Vec Place Global) Fault → Type 0
Finds es before after r = FoundUnbuilt es before after (places_in r)

pub returns-in_err-is_built-clause-found : goal.returns-in_err-is_built-clause-found
returns-in_err-is_built-clause-found g c =
    let at = c.loop-expression in
    let before = g.B.Builder.refused c.args.builder.now in
    let now = g.B.Builder.refused at.builder in
    let after = g.B.Builder.refused c.is_built.new.builder in
    let es = c.args.expressions.now in
    let told = c.in_err-is_built.ensures.tells in
    from_error (Finds es before after) c.from_residual.result c.in_err-is_built.field-0.0 _ c.from_residual.ensures.1 (λ y p. p)
    (found_no_memory (take at.expression-index es) (drop at.expression-index es) es before now after at.unbuilt.items c.in_err-is_built.field-0.0
    (take-append-drop at.expression-index es) at.invariant.found told.0 told.1)

pub returns-in_err-push-clause-found : goal.returns-in_err-push-clause-found
returns-in_err-push-clause-found g c =
    let at = c.loop-expression in
    let before = g.B.Builder.refused c.args.builder.now in
    let now = g.B.Builder.refused at.builder in
    let after = g.B.Builder.refused c.is_built.new.builder in
    let es = c.args.expressions.now in
    let e = c.expression-item.result in
    let front = take at.expression-index es in
    from_error (Finds es before after) c.from_residual-in_err-push.result _ _ c.from_residual-in_err-push.ensures.1 (λ y p. p)
    (found_no_memory (front ++ e ∷ []) (drop (at.expression-index + 1) es) es before after after (at.unbuilt.items ++ e.place ∷ []) _
    (around es at.expression-index e c.loop-expression-test.true c.expression-item.is)
    (one_unbuilt front e before now after at.unbuilt.items at.invariant.found (rw c.if-branch.false at c.in_ok-is_built.ensures.tells)) refl refl)

pub returns-clause-found : goal.returns-clause-found
returns-clause-found g c =
    let at = c.loop-expression in
    let es = c.args.expressions.now in
    subst (λ (xs : List Expression). FoundUnbuilt xs (g.B.Builder.refused c.args.builder.now) (g.B.Builder.refused at.builder) (Ok at.unbuilt.items))
    (take_all at.expression-index es c.loop-expression-test.false) at.invariant.found

pub returns-clause-built : goal.returns-clause-built
returns-clause-built g c =
    let at = c.loop-expression in
    subst (λ (xs : List Expression). AreBuiltOrFound (g.B.Builder.has_built at.builder) at.unbuilt.items xs)
    (take_all at.expression-index c.args.expressions.now c.loop-expression-test.false) at.invariant.built
