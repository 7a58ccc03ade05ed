-- A condition's formula has the value that the condition has.
use Rattle.std.proofs.Common.{ℕ, ◌≡◌, Bool, List, [], ◌∷◌, refl, ap, sym, ◌∙◌}
use Rattle.std.specs.Prelude.{Some, None, ◌||◌, ◌&&◌, not}
use Rattle.std.specs.declared.option.Option.{Option}
use Rattle.std.specs.List.{list_all, list_any}
use Rattle.sig_conditions.specs.Conditions.{Cond, CName, COneOf, CAllOf, CNot, CAnd, COr, Conds, no_conds, put}
use Rattle.sig_conditions.specs.Formulas.{PlainFormula, FDetection, FNot, FAnd, FOr, PlainFormulas, no_forms, form, forms_of, numbered, value, all_true, some_true, named, formula_taken, made, both, formula_of, formulas_of}
use Rattle.sig_conditions.specs.Meaning.{is_true_at, holds, all_hold, some_hold}
use Rattle.sig_conditions.specs.Taken.{number_of, taken}

same_form : (f g : PlainFormula) → Some f ≡ Some g → f ≡ g
same_form f g h = cc

same_forms : (f g : PlainFormulas) → Some f ≡ Some g → f ≡ g
same_forms f g h = cc

name_value : (is_true : ℕ → Bool) (o : Option ℕ) (f : PlainFormula) → named o ≡ Some f → value is_true f ≡ is_true_at is_true o
name_value is_true None f h = absurd cc
name_value is_true (Some i) f h = ap (value is_true) (sym (same_form (FDetection i) f h))

some_numbered : (is_true : ℕ → Bool) (is : List ℕ) → some_true is_true (forms_of (numbered is)) ≡ list_any is_true is
some_numbered is_true [] = refl
some_numbered is_true (i ∷ is) = ap (λ (b : Bool). is_true i || b) (some_numbered is_true is)

all_numbered : (is_true : ℕ → Bool) (is : List ℕ) → all_true is_true (forms_of (numbered is)) ≡ list_all is_true is
all_numbered is_true [] = refl
all_numbered is_true (i ∷ is) = ap (λ (b : Bool). is_true i && b) (all_numbered is_true is)

one_value : (is_true : ℕ → Bool) (is : List ℕ) (f : PlainFormula) → formula_taken FOr is ≡ Some f → value is_true f ≡ list_any is_true is
one_value is_true [] f h = absurd cc
one_value is_true (i ∷ is) f h = ap (value is_true) (sym (same_form (FOr (forms_of (numbered (i ∷ is)))) f h)) ∙ some_numbered is_true (i ∷ is)

each_value : (is_true : ℕ → Bool) (is : List ℕ) (f : PlainFormula) → formula_taken FAnd is ≡ Some f → value is_true f ≡ list_all is_true is
each_value is_true [] f h = absurd cc
each_value is_true (i ∷ is) f h = ap (value is_true) (sym (same_form (FAnd (forms_of (numbered (i ∷ is)))) f h)) ∙ all_numbered is_true (i ∷ is)

-- what was made of parts
record Made {A : Type 0} (make : A → PlainFormula) (o : Option A) (f : PlainFormula) : Type 0 where
  part : A
  is : o ≡ Some part
  makes : make part ≡ f

made_of : {A : Type 0} (make : A → PlainFormula) (o : Option A) (f : PlainFormula) → made make o ≡ Some f → Made make o f
made_of make None f h = absurd cc
made_of make (Some x) f h = record { part = x; is = refl; makes = cc }

record Both (o : Option PlainFormula) (p : Option PlainFormulas) (fs : PlainFormulas) : Type 0 where
  first : PlainFormula
  rest : PlainFormulas
  is : o ≡ Some first
  rest_is : p ≡ Some rest
  makes : form first rest ≡ fs

both_of : (o : Option PlainFormula) (p : Option PlainFormulas) (fs : PlainFormulas) → both o p ≡ Some fs → Both o p fs
both_of None p fs h = absurd cc
both_of (Some f) None fs h = absurd cc
both_of (Some f) (Some gs) fs h = record { first = f; rest = gs; is = refl; rest_is = refl; makes = cc }

mutual
  pub means : (names : List (List ℕ)) (is_true : ℕ → Bool) (c : Cond) (f : PlainFormula) → formula_of names c ≡ Some f → value is_true f ≡ holds names is_true c
  means names is_true (CName name) f h = name_value is_true (number_of name names) f h
  means names is_true (COneOf s) f h = one_value is_true (taken s names) f h
  means names is_true (CAllOf s) f h = each_value is_true (taken s names) f h
  means names is_true (CNot c) f h =
      let m = made_of FNot (formula_of names c) f h in
      ap (value is_true) (sym m.makes) ∙ ap not (means names is_true c m.part m.is)
  means names is_true (CAnd cs) f h =
      let m = made_of FAnd (formulas_of names cs) f h in
      ap (value is_true) (sym m.makes) ∙ means_all names is_true cs m.part m.is
  means names is_true (COr cs) f h =
      let m = made_of FOr (formulas_of names cs) f h in
      ap (value is_true) (sym m.makes) ∙ means_some names is_true cs m.part m.is

  means_all : (names : List (List ℕ)) (is_true : ℕ → Bool) (cs : Conds) (fs : PlainFormulas) → formulas_of names cs ≡ Some fs → all_true is_true fs ≡ all_hold names is_true cs
  means_all names is_true no_conds fs h = ap (all_true is_true) (sym (same_forms no_forms fs h))
  means_all names is_true (put c cs) fs h =
      let b = both_of (formula_of names c) (formulas_of names cs) fs h in
      ap (all_true is_true) (sym b.makes)
      ∙ (ap (λ (x : Bool). x && all_true is_true b.rest) (means names is_true c b.first b.is)
      ∙ ap (λ (x : Bool). holds names is_true c && x) (means_all names is_true cs b.rest b.rest_is))

  means_some : (names : List (List ℕ)) (is_true : ℕ → Bool) (cs : Conds) (fs : PlainFormulas) → formulas_of names cs ≡ Some fs → some_true is_true fs ≡ some_hold names is_true cs
  means_some names is_true no_conds fs h = ap (some_true is_true) (sym (same_forms no_forms fs h))
  means_some names is_true (put c cs) fs h =
      let b = both_of (formula_of names c) (formulas_of names cs) fs h in
      ap (some_true is_true) (sym b.makes)
      ∙ (ap (λ (x : Bool). x || some_true is_true b.rest) (means names is_true c b.first b.is)
      ∙ ap (λ (x : Bool). holds names is_true c || x) (means_some names is_true cs b.rest b.rest_is))
