-- The regular expressions of an expression, in their order, and how searches with them are used up as it is valued.
use Rattle.std.specs.Prelude.{ℕ, ◌≡◌, Bool, true, false, List, [], ◌∷◌, ◌++◌, drop}
use Rattle.sql_lang.specs.Expression.{SqlTest, Regexp, Expr, Or, And, Not, Test, Exprs, no_exprs, an_expr}
use Rattle.sql_lang.specs.Meaning.{Truth}

abbrev pub test_patterns : SqlTest → List (List ℕ)
test_patterns (Regexp k b pattern) = pattern ∷ []
test_patterns t = []

abbrev mutual
  pub patterns_in : Expr → List (List ℕ)
  patterns_in (Or es) = all_patterns es
  patterns_in (And es) = all_patterns es
  patterns_in (Not e) = patterns_in e
  patterns_in (Test t) = test_patterns t

  pub all_patterns : Exprs → List (List ℕ)
  all_patterns no_exprs = []
  all_patterns (an_expr e es) = patterns_in e ++ all_patterns es

abbrev pub is_some_pattern : List (List ℕ) → Bool
is_some_pattern [] = false
is_some_pattern (p ∷ ps) = true

-- only regular expressions take memory
abbrev pub takes_memory : Expr → Bool
takes_memory e = is_some_pattern (patterns_in e)

-- regular expressions that are built, and how many of them are passed
pub record Passing : Type 0 where
  pub texts : List (List ℕ)
  pub passed : ℕ

abbrev pub left_of : Passing → List (List ℕ)
left_of p = drop p.passed p.texts

-- Where a part's own regular expressions are the next ones that are left, it's valued as is meant, and those behind them are left.
abbrev pub Values : List (List ℕ) → Truth → List (List ℕ) → List (List ℕ) → Truth → Type 0
Values own meant before after is = (rest : List (List ℕ)) → before ≡ own ++ rest → (is ≡ meant) × (after ≡ rest)

-- ... they are passed.
abbrev pub Passes : List (List ℕ) → List (List ℕ) → List (List ℕ) → Type 0
Passes own before after = (rest : List (List ℕ)) → before ≡ own ++ rest → after ≡ rest
