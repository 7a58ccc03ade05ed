use Rattle.std.proofs.Common.{ℕ, ◌≡◌, ◌<◌, ◌+◌, ◌∙◌, ◌∷◌, ◌++◌, [], List, Vec, Global, length, get_or, take, map, ap, refl, subst, sym, true}
use Rattle.std.specs.Prelude.{Result, Err}
use Rattle.std.proofs.lemmas.List.{map-append, take_all}
use Rattle.query_lang.specs.declared.search.Search.{Search}
use Rattle.query_lang.specs.Patterns.{is_pattern}
use Rattle.rule_regex.specs.Building.{ArePatterns, Builds}
use Rattle.rule_detections.specs.declared.expression.Expression.{Expression}
use Rattle.sig_base.proofs.Firsts.{from_error}
use Rattle.sig_base.specs.declared.refusal.Fault.{Fault}
use Rattle.rule_regex.proofs.BuiltRows.{stops_at, no_memory, patterns_more}
use Rattle.rule_regex.proofs.Lists.{taken}
use Rattle.rule_regex.proofs.searches.build_searches.Goals as goal

abbrev Searches : List Expression → Vec Search Global → Type 0
Searches es searches = map (λ search. search.text) searches.items ≡ map (λ e. e.text) es

abbrev Answered : List Expression → List (List ℕ) → List (List ℕ) → Result (Vec Search Global) Fault → Type 0
Answered es before after r = Builds (Searches es) es before after r

abbrev IsSearch : Expression → Search → Type 0
IsSearch e search = search.text ≡ e.text

-- of a copy of its text
of_copy : (e : Expression) (text : List ℕ) (now after : List (List ℕ)) (r : Result Search Fault) → text ≡ e.text
    → Builds (λ search. search.text ≡ text) (record { place = e.place; text = text } ∷ []) now after r → Builds (IsSearch e) (e ∷ []) now after r
of_copy e text now after r same built =
    subst (λ (t : List ℕ). Builds (λ (search : Search). search.text ≡ t) (record { place = e.place; text = t } ∷ []) now after r) same built

abbrev text_of : Search → List ℕ
text_of search = search.text

abbrev expression_text : Expression → List ℕ
expression_text e = e.text

texts_more : (searches : List Search) (search : Search) (es : List Expression) (e : Expression) (i : ℕ) → i < length es → e ≡ get_or es i e
    → map (λ s. s.text) searches ≡ map (λ x. x.text) (take i es) → search.text ≡ e.text → map (λ s. s.text) (searches ++ search ∷ []) ≡ map (λ x. x.text) (take (i + 1) es)
texts_more searches search es e i below is so_far same =
    map-append text_of searches (search ∷ [])
    ∙ (ap (λ (texts : List (List ℕ)). texts ++ search.text ∷ []) so_far
    ∙ (ap (λ (text : List ℕ). map expression_text (take i es) ++ text ∷ []) same
    ∙ (sym (map-append expression_text (take i es) (e ∷ [])) ∙ ap (map expression_text) (sym (taken es i e below is)))))

pub returns-in_err-searches : goal.returns-in_err-searches
returns-in_err-searches g c =
    let before = g.B.Builder.refused c.args.builder.now in
    let es = c.args.expressions.now in
    from_error (Answered es before before) c.from_residual.result _ _ c.from_residual.ensures.1 (λ y p. p)
    (no_memory (Searches es) es before before _ refl refl)

pub returns-in_err-text : goal.returns-in_err-text
returns-in_err-text g c =
    let at = c.loop-expression in
    let before = g.B.Builder.refused c.args.builder.now in
    let now = g.B.Builder.refused at.builder in
    let es = c.args.expressions.now in
    from_error (Answered es before now) c.from_residual-in_err-text.result c.in_err-text.field-0.0 _ c.from_residual-in_err-text.ensures.1 (λ y p. p)
    (no_memory (Searches es) es before now _ c.in_err-text.ensures.err at.invariant.built)

pub returns-in_err-search : goal.returns-in_err-search
returns-in_err-search g c =
    let at = c.loop-expression in
    let before = g.B.Builder.refused c.args.builder.now in
    let after = g.B.Builder.refused c.build_at.new.builder in
    let es = c.args.expressions.now in
    let e = c.expression-item.result in
    from_error (Answered es before after) c.from_residual-in_err-search.result c.in_err-search.field-0.0 _ c.from_residual-in_err-search.ensures.1 (λ y p. p)
    (stops_at (IsSearch e) (Searches es) es at.expression-index e before (g.B.Builder.refused at.builder) after c.in_err-search.field-0.0
    c.loop-expression-test.true c.expression-item.is at.invariant.built
    (of_copy e c.in_ok-text.text _ after (Err c.in_err-search.field-0.0) (c.in_ok-text.ensures.ok ∙ c.as_str.ensures.chars) c.in_err-search.ensures))

pub returns-in_err-push : goal.returns-in_err-push
returns-in_err-push g c =
    let at = c.loop-expression in
    let before = g.B.Builder.refused c.args.builder.now in
    let after = g.B.Builder.refused c.build_at.new.builder in
    let es = c.args.expressions.now in
    from_error (Answered es before after) c.from_residual-in_err-push.result _ _ c.from_residual-in_err-push.ensures.1 (λ y p. p)
    (no_memory (Searches es) es before after _ refl (c.in_ok-search.ensures.0 ∙ at.invariant.built))

pub loop-expression-preserved : goal.loop-expression-preserved
loop-expression-preserved g c =
    let at = c.loop-expression in
    let es = c.args.expressions.now in
    let e = c.expression-item.result in
    let search = c.in_ok-search.search in
    record {
      built = c.in_ok-search.ensures.0 ∙ at.invariant.built;
      patterns = patterns_more es at.expression-index e c.loop-expression-test.true c.expression-item.is at.invariant.patterns
          (subst (λ (t : List ℕ). is_pattern t ≡ true) (c.in_ok-text.ensures.ok ∙ c.as_str.ensures.chars) c.in_ok-search.ensures.1.0);
      texts = ap (map text_of) c.in_ok-push.ensures.items
          ∙ texts_more at.searches.items search es e at.expression-index c.loop-expression-test.true c.expression-item.is at.invariant.texts
          (c.in_ok-search.ensures.2 ∙ (c.in_ok-text.ensures.ok ∙ c.as_str.ensures.chars));
    }

pub returns : goal.returns
returns g c =
    let at = c.loop-expression in
    let es = c.args.expressions.now in
    let all = take_all at.expression-index es c.loop-expression-test.false in (
      at.invariant.built,
      subst ArePatterns all at.invariant.patterns,
      subst (λ (xs : List Expression). map text_of at.searches.items ≡ map expression_text xs) all at.invariant.texts,
    )
