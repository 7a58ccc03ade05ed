-- A condition with a formula has no fault, and a condition of the grammar has a formula that is whole.
use Rattle.std.proofs.Common.{ℕ, ◌≡◌, ◌≤◌, ◌<◌, ◌+◌, Bool, true, false, List, [], ◌∷◌, ◌++◌, length, refl, ap, sym, ◌∙◌, subst, arith, cond}
use Rattle.std.specs.Prelude.{Option, Some, None, ⊤, bytes_eq}
use Rattle.sig_conditions.specs.Conditions.{Cond, CName, COneOf, CAllOf, CNot, CAnd, COr, Conds, no_conds, put, joined_or, joined_and}
use Rattle.sig_conditions.specs.Formulas.{PlainFormula, FDetection, FNot, FAnd, FOr, PlainFormulas, no_forms, form, forms_of, numbered, named, formula_taken, made, both, formula_of, formulas_of, Why, none_named, none_taken, faults, faults_of}
use Rattle.sig_conditions.specs.Grammar.{IsOr, or_chain, OrTail, or_end, or_next, IsAnd, and_chain, AndTail, and_end, and_next, IsNot, negated, plain, IsAtom, paren, named as named_atom, one_of, all_of}
use Rattle.sig_conditions.specs.Taken.{number_from, number_of, takes, taken_from, taken}
use Rattle.sig_conditions.specs.declared.selector.Selector.{Selector}
use Rattle.sig_conditions.specs.declared.word.Word.{Word}
use Rattle.event_schema.specs.Lists.{EachOf}
use Rattle.rule_model.specs.Whole.{IsWholeForm, AreSomeForms, AreWholeForms}

named_none : (name : List ℕ) (o : Option ℕ) (f : PlainFormula) → named o ≡ Some f → none_named name o ≡ []
named_none name None f h = absurd cc
named_none name (Some i) f h = refl

taken_none : (make : PlainFormulas → PlainFormula) (is : List ℕ) (f : PlainFormula) → formula_taken make is ≡ Some f → none_taken is ≡ []
taken_none make [] f h = absurd cc
taken_none make (i ∷ is) f h = refl

made_part : {A : Type 0} (make : A → PlainFormula) (o : Option A) (f : PlainFormula) → made make o ≡ Some f → (x : A) × (o ≡ Some x) × (make x ≡ f)
made_part make None f h = absurd cc
made_part make (Some x) f h = (x, refl, cc)

both_parts : (o : Option PlainFormula) (p : Option PlainFormulas) (fs : PlainFormulas) → both o p ≡ Some fs → (f : PlainFormula) × (gs : PlainFormulas) × (o ≡ Some f) × (p ≡ Some gs) × (form f gs ≡ fs)
both_parts None p fs h = absurd cc
both_parts (Some f) None fs h = absurd cc
both_parts (Some f) (Some gs) fs h = (f, gs, refl, refl, cc)

mutual
  pub no_faults : (names : List (List ℕ)) (c : Cond) (f : PlainFormula) → formula_of names c ≡ Some f → faults names c ≡ []
  no_faults names (CName name) f h = named_none name (number_of name names) f h
  no_faults names (COneOf s) f h = taken_none FOr (taken s names) f h
  no_faults names (CAllOf s) f h = taken_none FAnd (taken s names) f h
  no_faults names (CNot c) f h = let m = made_part FNot (formula_of names c) f h in no_faults names c m.0 m.1
  no_faults names (CAnd cs) f h = let m = made_part FAnd (formulas_of names cs) f h in none_faulty names cs m.0 m.1
  no_faults names (COr cs) f h = let m = made_part FOr (formulas_of names cs) f h in none_faulty names cs m.0 m.1

  none_faulty : (names : List (List ℕ)) (cs : Conds) (fs : PlainFormulas) → formulas_of names cs ≡ Some fs → faults_of names cs ≡ []
  none_faulty names no_conds fs h = refl
  none_faulty names (put c cs) fs h =
      let b = both_parts (formula_of names c) (formulas_of names cs) fs h in
      ap (λ (ws : List Why). ws ++ faults_of names cs) (no_faults names c b.0 b.2) ∙ none_faulty names cs b.1 b.3

-- ---- numbers are below the count of the names

number_below : (k : ℕ) (name : List ℕ) (names : List (List ℕ)) (i : ℕ) → number_from k name names ≡ Some i → i < k + length names
number_below k name [] i h = absurd cc
number_below k name (n ∷ names) i h =
    elim (bytes_eq n name) as (λ (b : Bool). cond b (Some k) (number_from (k + 1) name names) ≡ Some i → i < k + length (n ∷ names)) [
      | true ↦ λ e. let same : k ≡ i = cc in omega arith
      | false ↦ λ e. let less = number_below (k + 1) name names i e in omega arith
    ] h

taken_below : (k count : ℕ) (s : Selector) (names : List (List ℕ)) → k + length names ≤ count → EachOf (λ i. i < count) (taken_from k s names)
taken_below k count s [] h = tt
taken_below k count s (n ∷ names) h =
    let rest : EachOf (λ i. i < count) (taken_from (k + 1) s names) = taken_below (k + 1) count s names (omega arith) in
    elim (takes s n) as (λ (b : Bool). EachOf (λ i. i < count) (cond b (k ∷ taken_from (k + 1) s names) (taken_from (k + 1) s names))) [
      | true ↦ (omega arith, rest)
      | false ↦ rest
    ]

numbers_whole : (count : ℕ) (is : List ℕ) → EachOf (λ i. i < count) is → AreWholeForms count (forms_of (numbered is))
numbers_whole count [] h = tt
numbers_whole count (i ∷ is) h = (h.0, numbers_whole count is h.1)

named_whole : (name : List ℕ) (names : List (List ℕ)) (o : Option ℕ) (f : PlainFormula) → number_of name names ≡ o → named o ≡ Some f → IsWholeForm (length names) f
named_whole name names None f is h = absurd cc
named_whole name names (Some i) f is h =
    let same : FDetection i ≡ f = cc in
    let below : i < 0 + length names = number_below 0 name names i is in
    subst (IsWholeForm (length names)) same (omega arith)

one_whole : (count : ℕ) (is : List ℕ) (f : PlainFormula) → EachOf (λ i. i < count) is → formula_taken FOr is ≡ Some f → IsWholeForm count f
one_whole count [] f each h = absurd cc
one_whole count (i ∷ is) f each h =
    let same : FOr (forms_of (numbered (i ∷ is))) ≡ f = cc in
    subst (IsWholeForm count) same (each.0, numbers_whole count is each.1)

all_whole : (count : ℕ) (is : List ℕ) (f : PlainFormula) → EachOf (λ i. i < count) is → formula_taken FAnd is ≡ Some f → IsWholeForm count f
all_whole count [] f each h = absurd cc
all_whole count (i ∷ is) f each h =
    let same : FAnd (forms_of (numbered (i ∷ is))) ≡ f = cc in
    subst (IsWholeForm count) same (each.0, numbers_whole count is each.1)

-- ---- a condition of the grammar has no empty chain

abbrev mutual
  IsChained : Cond → Type 0
  IsChained (CName name) = ⊤
  IsChained (COneOf s) = ⊤
  IsChained (CAllOf s) = ⊤
  IsChained (CNot c) = IsChained c
  IsChained (CAnd cs) = SomeChained cs
  IsChained (COr cs) = SomeChained cs

  SomeChained : Conds → Type 0
  SomeChained no_conds = ⊥
  SomeChained (put c cs) = IsChained c × AllChained cs

  AllChained : Conds → Type 0
  AllChained no_conds = ⊤
  AllChained (put c cs) = IsChained c × AllChained cs

or_joined : (c : Cond) (cs : Conds) → IsChained c → AllChained cs → IsChained (joined_or c cs)
or_joined c no_conds one all = one
or_joined c (put d ds) one all = (one, all)

and_joined : (c : Cond) (cs : Conds) → IsChained c → AllChained cs → IsChained (joined_and c cs)
and_joined c no_conds one all = one
and_joined c (put d ds) one all = (one, all)

mutual
  or_chained : {ws : List Word} {e : Cond} → IsOr ws e → IsChained e
  or_chained (or_chain p q c cs w a t j) = subst IsChained (sym j) (or_joined c cs (and_chained a) (or_tail_chained t))

  or_tail_chained : {ws : List Word} {cs : Conds} → OrTail ws cs → AllChained cs
  or_tail_chained (or_end w) = tt
  or_tail_chained (or_next p q w a t) = (and_chained a, or_tail_chained t)

  and_chained : {ws : List Word} {e : Cond} → IsAnd ws e → IsChained e
  and_chained (and_chain p q c cs w a t j) = subst IsChained (sym j) (and_joined c cs (not_chained a) (and_tail_chained t))

  and_tail_chained : {ws : List Word} {cs : Conds} → AndTail ws cs → AllChained cs
  and_tail_chained (and_end w) = tt
  and_tail_chained (and_next p q w a t) = (not_chained a, and_tail_chained t)

  not_chained : {ws : List Word} {e : Cond} → IsNot ws e → IsChained e
  not_chained (negated p w a) = not_chained a
  not_chained (plain a) = atom_chained a

  atom_chained : {ws : List Word} {e : Cond} → IsAtom ws e → IsChained e
  atom_chained (paren p w a) = or_chained a
  atom_chained (named_atom n w) = tt
  atom_chained (one_of v s w i) = tt
  atom_chained (all_of v s w i) = tt

mutual
  formula_whole : (names : List (List ℕ)) (c : Cond) (f : PlainFormula) → IsChained c → formula_of names c ≡ Some f → IsWholeForm (length names) f
  formula_whole names (CName name) f ch h = named_whole name names (number_of name names) f refl h
  formula_whole names (COneOf s) f ch h = one_whole (length names) (taken s names) f (taken_below 0 (length names) s names (omega arith)) h
  formula_whole names (CAllOf s) f ch h = all_whole (length names) (taken s names) f (taken_below 0 (length names) s names (omega arith)) h
  formula_whole names (CNot c) f ch h =
      let m = made_part FNot (formula_of names c) f h in
      subst (IsWholeForm (length names)) m.2 (formula_whole names c m.0 ch m.1)
  formula_whole names (CAnd cs) f ch h =
      let m = made_part FAnd (formulas_of names cs) f h in
      subst (IsWholeForm (length names)) m.2 (some_whole names cs m.0 ch m.1)
  formula_whole names (COr cs) f ch h =
      let m = made_part FOr (formulas_of names cs) f h in
      subst (IsWholeForm (length names)) m.2 (some_whole names cs m.0 ch m.1)

  some_whole : (names : List (List ℕ)) (cs : Conds) (fs : PlainFormulas) → SomeChained cs → formulas_of names cs ≡ Some fs → AreSomeForms (length names) fs
  some_whole names no_conds fs ch h = absurd ch
  some_whole names (put c cs) fs ch h =
      let b = both_parts (formula_of names c) (formulas_of names cs) fs h in
      subst (AreSomeForms (length names)) b.4 (formula_whole names c b.0 ch.0 b.2, each_whole names cs b.1 ch.1 b.3)

  each_whole : (names : List (List ℕ)) (cs : Conds) (fs : PlainFormulas) → AllChained cs → formulas_of names cs ≡ Some fs → AreWholeForms (length names) fs
  each_whole names no_conds fs ch h = let same : no_forms ≡ fs = cc in subst (AreWholeForms (length names)) same tt
  each_whole names (put c cs) fs ch h =
      let b = both_parts (formula_of names c) (formulas_of names cs) fs h in
      subst (AreWholeForms (length names)) b.4 (formula_whole names c b.0 ch.0 b.2, each_whole names cs b.1 ch.1 b.3)

-- the formula of a condition of the grammar is whole
pub whole_formula : (names : List (List ℕ)) (ws : List Word) (c : Cond) (f : PlainFormula) → IsOr ws c → formula_of names c ≡ Some f → IsWholeForm (length names) f
whole_formula names ws c f reads is = formula_whole names c f (or_chained reads) is
