-- When a condition holds, by the detections of a rule that are true (Sigma specification 2.0, condition).
use Rattle.std.specs.Prelude.{ℕ, Bool, true, false, List, ◌||◌, ◌&&◌, not, Some, None}
use Rattle.std.specs.declared.option.Option.{Option}
use Rattle.std.specs.List.{list_all, list_any}
use Rattle.sig_conditions.specs.Conditions.{Cond, CName, COneOf, CAllOf, CNot, CAnd, COr, Conds, no_conds, put}
use Rattle.sig_conditions.specs.Taken.{number_of, taken}

-- the detection of this number is there and true
abbrev pub is_true_at : (ℕ → Bool) → Option ℕ → Bool
is_true_at is_true None = false
is_true_at is_true (Some i) = is_true i

-- a name is its detection, `1 of` some and `all of` each of the detections that are taken
abbrev mutual
  pub holds : List (List ℕ) → (ℕ → Bool) → Cond → Bool
  holds names is_true (CName name) = is_true_at is_true (number_of name names)
  holds names is_true (COneOf s) = list_any is_true (taken s names)
  holds names is_true (CAllOf s) = list_all is_true (taken s names)
  holds names is_true (CNot c) = not (holds names is_true c)
  holds names is_true (CAnd cs) = all_hold names is_true cs
  holds names is_true (COr cs) = some_hold names is_true cs

  pub all_hold : List (List ℕ) → (ℕ → Bool) → Conds → Bool
  all_hold names is_true no_conds = true
  all_hold names is_true (put c cs) = holds names is_true c && all_hold names is_true cs

  pub some_hold : List (List ℕ) → (ℕ → Bool) → Conds → Bool
  some_hold names is_true no_conds = false
  some_hold names is_true (put c cs) = holds names is_true c || some_hold names is_true cs
