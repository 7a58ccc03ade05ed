-- The loop over the parts of a chain: the formulas so far and those of the parts that are left make the whole.
use Rattle.std.proofs.Common.{ℕ, ◌≡◌, ◌<◌, ◌+◌, List, [], ◌∷◌, ◌++◌, length, get_or, drop, refl, ap, sym, ◌∙◌, subst, arith}
use Rattle.std.specs.Prelude.{Some, None, Ok, Err}
use Rattle.std.specs.Result.{IsErrAnd}
use Rattle.std.specs.declared.option.Option.{Option}
use Rattle.std.specs.declared.result.Result.{Result}
use Rattle.std.proofs.lemmas.List.{drop_more}
use Rattle.sig_base.proofs.Firsts.{from_error}
use Rattle.sig_conditions.specs.declared.condition.Condition.{Condition}
use Rattle.sig_conditions.specs.declared.formula.Formula.{Formula}
use Rattle.sig_conditions.specs.declared.unresolved.Unresolved.{Unresolved}
use Rattle.sig_conditions.specs.declared.unresolved.Unresolved.TheVariants.{Memory, Unknown, Nothing}
use Rattle.sig_conditions.specs.Conditions.{Conds, conds_of, cond_view, conds_view}
use Rattle.sig_conditions.specs.Formulas.{PlainFormula, PlainFormulas, no_forms, form, form_view, forms_of, forms_view, both, formula_of, formulas_of, made, Why, faults, faults_of}
use Rattle.sig_conditions.specs.Resolved.{Fails, Resolves}
use Rattle.sig_conditions.specs.Selectors.{taken_count, taken_counts}

-- formulas before those that follow
abbrev pub before : List PlainFormula → PlainFormulas → PlainFormulas
before [] fs = fs
before (x ∷ xs) fs = form x (before xs fs)

-- nothing has been resolved yet
pub begun : (xs : List Formula) → xs ≡ [] → (o : Option PlainFormulas) → made (before (forms_view xs)) o ≡ o
begun xs e None = refl
begun xs e (Some fs) = ap (λ (ys : List Formula). Some (before (forms_view ys) fs)) e

before-end : (xs : List PlainFormula) → before xs no_forms ≡ forms_of xs
before-end [] = refl
before-end (x ∷ xs) = ap (form x) (before-end xs)

before-push : (xs : List Formula) (f : Formula) (fs : PlainFormulas) → before (forms_view (xs ++ f ∷ [])) fs ≡ before (forms_view xs) (form (form_view f) fs)
before-push [] f fs = refl
before-push (x ∷ xs) f fs = ap (form (form_view x)) (before-push xs f fs)

pushed : (xs : List Formula) (f : Formula) (o : Option PlainFormulas) → made (before (forms_view (xs ++ f ∷ []))) o ≡ made (before (forms_view xs)) (both (Some (form_view f)) o)
pushed xs f None = refl
pushed xs f (Some fs) = ap Some (before-push xs f fs)

part_at : {A : Type 0} (F : Conds → A) (i : ℕ) (cs : List Condition) (c : Condition) → i < length cs → c ≡ get_or cs i c
    → F (conds_of (conds_view (drop i cs))) ≡ F (conds_of (conds_view (c ∷ drop (i + 1) cs)))
part_at F i cs c l e =
    ap (λ (ds : List Condition). F (conds_of (conds_view ds))) (drop_more cs i c l ∙ ap (λ (d : Condition). d ∷ drop (i + 1) cs) (sym e))

module _ (names : List (List ℕ)) (i : ℕ) (cs : List Condition) (c : Condition) where
  -- one more part has a formula
  pub formula_goes : (xs ys : List Formula) (f : Formula) (whole : Option PlainFormulas) → i < length cs → c ≡ get_or cs i c
      → made (before (forms_view xs)) (formulas_of names (conds_of (conds_view (drop i cs)))) ≡ whole → formula_of names (cond_view c) ≡ Some (form_view f) → ys ≡ xs ++ f ∷ []
      → made (before (forms_view ys)) (formulas_of names (conds_of (conds_view (drop (i + 1) cs)))) ≡ whole
  formula_goes xs ys f whole l e inv p q =
      ap (λ (zs : List Formula). made (before (forms_view zs)) (formulas_of names (conds_of (conds_view (drop (i + 1) cs))))) q
      ∙ (pushed xs f (formulas_of names (conds_of (conds_view (drop (i + 1) cs))))
      ∙ (ap (λ (o : Option PlainFormula). made (before (forms_view xs)) (both o (formulas_of names (conds_of (conds_view (drop (i + 1) cs)))))) (sym p)
      ∙ (ap (made (before (forms_view xs))) (sym (part_at (formulas_of names) i cs c l e)) ∙ inv)))

  -- and no fault
  pub faults_go : (whole : List Why) → i < length cs → c ≡ get_or cs i c → faults_of names (conds_of (conds_view (drop i cs))) ≡ whole → faults names (cond_view c) ≡ []
      → faults_of names (conds_of (conds_view (drop (i + 1) cs))) ≡ whole
  faults_go whole l e inv p =
      ap (λ (ws : List Why). ws ++ faults_of names (conds_of (conds_view (drop (i + 1) cs)))) (sym p)
      ∙ (sym (part_at (faults_of names) i cs c l e) ∙ inv)

  -- a part has a fault, the first of all
  pub part_fails : (r : Unresolved) (whole : List Why) → i < length cs → c ≡ get_or cs i c → faults_of names (conds_of (conds_view (drop i cs))) ≡ whole
      → Fails r (faults names (cond_view c)) → Fails r whole
  part_fails Memory whole l e inv f = tt
  part_fails (Unknown name) whole l e inv f = record {
    later = f.later ++ faults_of names (conds_of (conds_view (drop (i + 1) cs)));
    shape = sym inv ∙ (part_at (faults_of names) i cs c l e ∙ ap (λ (ws : List Why). ws ++ faults_of names (conds_of (conds_view (drop (i + 1) cs)))) f.shape);
  }
  part_fails Nothing whole l e inv f = record {
    later = f.later ++ faults_of names (conds_of (conds_view (drop (i + 1) cs)));
    shape = sym inv ∙ (part_at (faults_of names) i cs c l e ∙ ap (λ (ws : List Why). ws ++ faults_of names (conds_of (conds_view (drop (i + 1) cs)))) f.shape);
  }

-- all parts have formulas
pub formulas_end : (names : List (List ℕ)) (cs : List Condition) (xs : List Formula) (whole : Option PlainFormulas) → cs ≡ []
    → made (before (forms_view xs)) (formulas_of names (conds_of (conds_view cs))) ≡ whole → whole ≡ Some (forms_of (forms_view xs))
formulas_end names cs xs whole e inv =
    sym inv
    ∙ (ap (λ (ds : List Condition). made (before (forms_view xs)) (formulas_of names (conds_of (conds_view ds)))) e
    ∙ ap Some (before-end (forms_view xs)))

-- no part has a fault
pub faults_end : (names : List (List ℕ)) (cs : List Condition) (whole : List Why) → cs ≡ [] → faults_of names (conds_of (conds_view cs)) ≡ whole → whole ≡ []
faults_end names cs whole e inv = sym inv ∙ ap (λ (ds : List Condition). faults_of names (conds_of (conds_view ds))) e

-- a fault that a `?` hands on
pub resolves_on : {X A : Type 0} (view : X → A) (r : Result X Unresolved) (e : Unresolved) (Q : Unresolved → Type 0) (o : Option A) (whys : List Why)
    → IsErrAnd r Q → ((y : Unresolved) → Q y → y ≡ e) → Fails e whys → Resolves view r o whys
resolves_on {X = X} view r e Q o whys h q f = from_error (λ (s : Result X Unresolved). Resolves view s o whys) r e Q h q f

-- one more part has taken names
pub left_goes : (names : List (List ℕ)) (i : ℕ) (cs : List Condition) (c : Condition) (before after whole all : ℕ) → i < length cs → c ≡ get_or cs i c
    → before + all ≡ whole + taken_counts names (conds_of (conds_view (drop i cs))) → after + taken_count names (cond_view c) ≡ before
    → after + all ≡ whole + taken_counts names (conds_of (conds_view (drop (i + 1) cs)))
left_goes names i cs c before after whole all l e inv paid =
    let step : taken_counts names (conds_of (conds_view (drop i cs))) ≡ taken_count names (cond_view c) + taken_counts names (conds_of (conds_view (drop (i + 1) cs))) =
    part_at (taken_counts names) i cs c l e in
    omega (arith, inv, paid, step)

-- all parts have
pub left_end : (names : List (List ℕ)) (cs : List Condition) (after whole all : ℕ) → cs ≡ []
    → after + all ≡ whole + taken_counts names (conds_of (conds_view cs)) → after + all ≡ whole
left_end names cs after whole all e inv =
    let none : taken_counts names (conds_of (conds_view cs)) ≡ 0 = ap (λ (ds : List Condition). taken_counts names (conds_of (conds_view ds))) e in
    omega (arith, inv, none)
