-- What every rule that is read keeps: its detections are whole, it has a condition, no `and` or `or` of a condition is empty,
-- and their numbers name its detections.
use Rattle.std.specs.Prelude.{ℕ, ◌<◌, length, ⊤}
use Rattle.sig_conditions.specs.Formulas.{PlainFormula, FDetection, FNot, FAnd, FOr, PlainFormulas, no_forms, form}
use Rattle.event_schema.specs.Lists.{EachOf, HasElement}
use Rattle.rule_detections.specs.Whole.{IsWholeDetection}
use Rattle.rule_model.specs.Plain.{PlainRule}

-- the numbers are below this one, and no `and` or `or` is empty
abbrev mutual
  pub IsWholeForm : ℕ → PlainFormula → Type 0
  IsWholeForm count (FDetection n) = n < count
  IsWholeForm count (FNot f) = IsWholeForm count f
  IsWholeForm count (FAnd fs) = AreSomeForms count fs
  IsWholeForm count (FOr fs) = AreSomeForms count fs

  pub AreSomeForms : ℕ → PlainFormulas → Type 0
  AreSomeForms count no_forms = ⊥
  AreSomeForms count (form f fs) = IsWholeForm count f × AreWholeForms count fs

  pub AreWholeForms : ℕ → PlainFormulas → Type 0
  AreWholeForms count no_forms = ⊤
  AreWholeForms count (form f fs) = IsWholeForm count f × AreWholeForms count fs

pub record IsWhole (rule : PlainRule) : Type 0 where
  pub detections : EachOf IsWholeDetection rule.detections
  pub some : HasElement rule.conditions
  pub conditions : EachOf (IsWholeForm (length rule.detections)) rule.conditions
