-- A formula as plain data, its value, and the formula of a condition.
use Rattle.std.specs.Prelude.{ℕ, Bool, true, false, List, [], ◌∷◌, ◌++◌, ◌||◌, ◌&&◌, not, map, Some, None}
use Rattle.std.specs.declared.option.Option.{Option}
use Rattle.sig_conditions.specs.declared.formula.Formula.{Formula}
use Rattle.sig_conditions.specs.declared.formula.Formula.TheOpen.{Formula-F}
use Rattle.sig_conditions.specs.declared.formula.Formula.TheFolds.{fold-Formula}
use Rattle.sig_conditions.specs.Conditions.{Cond, CName, COneOf, CAllOf, CNot, CAnd, COr, Conds, no_conds, put}
use Rattle.sig_conditions.specs.Taken.{number_of, taken}

mutual
  pub data PlainFormula : Type 0 where
    FDetection : (n : ℕ) → PlainFormula
    FNot : (part : PlainFormula) → PlainFormula
    FAnd : (parts : PlainFormulas) → PlainFormula
    FOr : (parts : PlainFormulas) → PlainFormula

  pub data PlainFormulas : Type 0 where
    no_forms : PlainFormulas
    form : (first : PlainFormula) → (rest : PlainFormulas) → PlainFormulas

abbrev pub forms_of : List PlainFormula → PlainFormulas
forms_of [] = no_forms
forms_of (f ∷ fs) = form f (forms_of fs)

-- the detections of these numbers
abbrev pub numbered : List ℕ → List PlainFormula
numbered is = map FDetection is

abbrev pub form_step : Formula-F PlainFormula → PlainFormula
form_step (Formula-F.Detection n) = FDetection n
form_step (Formula-F.OneOf ns) = FOr (forms_of (numbered ns))
form_step (Formula-F.AllOf ns) = FAnd (forms_of (numbered ns))
form_step (Formula-F.Not f) = FNot f.value
form_step (Formula-F.And fs) = FAnd (forms_of fs.items)
form_step (Formula-F.Or fs) = FOr (forms_of fs.items)

abbrev pub form_view : Formula → PlainFormula
form_view = fold-Formula PlainFormula form_step

abbrev pub forms_view : List Formula → List PlainFormula
forms_view fs = map form_view fs

-- whether a formula is true, where the detections that are true are given by their numbers
abbrev mutual
  pub value : (ℕ → Bool) → PlainFormula → Bool
  value holds (FDetection n) = holds n
  value holds (FNot f) = not (value holds f)
  value holds (FAnd fs) = all_true holds fs
  value holds (FOr fs) = some_true holds fs

  pub all_true : (ℕ → Bool) → PlainFormulas → Bool
  all_true holds no_forms = true
  all_true holds (form f fs) = value holds f && all_true holds fs

  pub some_true : (ℕ → Bool) → PlainFormulas → Bool
  some_true holds no_forms = false
  some_true holds (form f fs) = value holds f || some_true holds fs

abbrev pub named : Option ℕ → Option PlainFormula
named None = None
named (Some i) = Some (FDetection i)

-- what a selector makes of those that it takes, if any
abbrev pub formula_taken : (PlainFormulas → PlainFormula) → List ℕ → Option PlainFormula
formula_taken make [] = None
formula_taken make (i ∷ is) = Some (make (forms_of (numbered (i ∷ is))))

abbrev pub made : {A B : Type 0} → (A → B) → Option A → Option B
made make None = None
made make (Some x) = Some (make x)

abbrev pub both : Option PlainFormula → Option PlainFormulas → Option PlainFormulas
both None fs = None
both (Some f) None = None
both (Some f) (Some fs) = Some (form f fs)

-- the formula of a condition, where each name and each selector has a detection: a name is its detection, and `1 of` and
-- `all of` are an or and an and over what is taken
abbrev mutual
  pub formula_of : List (List ℕ) → Cond → Option PlainFormula
  formula_of names (CName name) = named (number_of name names)
  formula_of names (COneOf s) = formula_taken FOr (taken s names)
  formula_of names (CAllOf s) = formula_taken FAnd (taken s names)
  formula_of names (CNot c) = made FNot (formula_of names c)
  formula_of names (CAnd cs) = made FAnd (formulas_of names cs)
  formula_of names (COr cs) = made FOr (formulas_of names cs)

  pub formulas_of : List (List ℕ) → Conds → Option PlainFormulas
  formulas_of names no_conds = Some no_forms
  formulas_of names (put c cs) = both (formula_of names c) (formulas_of names cs)

-- why a condition has no formula: a name that no detection has, or a selector that takes none
pub data Why : Type 0 where
  unknown : (name : List ℕ) → Why
  nothing : Why

abbrev pub none_named : List ℕ → Option ℕ → List Why
none_named name None = unknown name ∷ []
none_named name (Some i) = []

abbrev pub none_taken : List ℕ → List Why
none_taken [] = nothing ∷ []
none_taken (i ∷ is) = []

-- the names and selectors that have no detection, in the order of the text
abbrev mutual
  pub faults : List (List ℕ) → Cond → List Why
  faults names (CName name) = none_named name (number_of name names)
  faults names (COneOf s) = none_taken (taken s names)
  faults names (CAllOf s) = none_taken (taken s names)
  faults names (CNot c) = faults names c
  faults names (CAnd cs) = faults_of names cs
  faults names (COr cs) = faults_of names cs

  pub faults_of : List (List ℕ) → Conds → List Why
  faults_of names no_conds = []
  faults_of names (put c cs) = faults names c ++ faults_of names cs
