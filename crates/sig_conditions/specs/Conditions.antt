-- A condition as plain data, and what the code's condition is as such.
use Rattle.std.specs.Prelude.{ℕ, List, [], ◌∷◌, map}
use Rattle.sig_conditions.specs.declared.selector.Selector.{Selector}
use Rattle.sig_conditions.specs.declared.condition.Condition.{Condition}
use Rattle.sig_conditions.specs.declared.condition.Condition.TheOpen.{Condition-F}
use Rattle.sig_conditions.specs.declared.condition.Condition.TheFolds.{fold-Condition}

mutual
  pub data Cond : Type 0 where
    CName : (name : List ℕ) → Cond
    COneOf : (selector : Selector) → Cond
    CAllOf : (selector : Selector) → Cond
    CNot : (part : Cond) → Cond
    CAnd : (parts : Conds) → Cond
    COr : (parts : Conds) → Cond

  pub data Conds : Type 0 where
    no_conds : Conds
    put : (first : Cond) → (rest : Conds) → Conds

abbrev pub conds_of : List Cond → Conds
conds_of [] = no_conds
conds_of (c ∷ cs) = put c (conds_of cs)

abbrev pub cond_step : Condition-F Cond → Cond
cond_step (Condition-F.Name n) = CName n
cond_step (Condition-F.OneOf s) = COneOf s
cond_step (Condition-F.AllOf s) = CAllOf s
cond_step (Condition-F.Not c) = CNot c.value
cond_step (Condition-F.And cs) = CAnd (conds_of cs.items)
cond_step (Condition-F.Or cs) = COr (conds_of cs.items)

abbrev pub cond_view : Condition → Cond
cond_view = fold-Condition Cond cond_step

abbrev pub conds_view : List Condition → List Cond
conds_view cs = map cond_view cs

-- a chain of one part is the part itself
abbrev pub joined_or : Cond → Conds → Cond
joined_or c no_conds = c
joined_or c (put d ds) = COr (put c (put d ds))

abbrev pub joined_and : Cond → Conds → Cond
joined_and c no_conds = c
joined_and c (put d ds) = CAnd (put c (put d ds))
