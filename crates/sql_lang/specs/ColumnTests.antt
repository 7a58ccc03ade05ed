-- Tests of a column, as they are read.
use Rattle.std.specs.Prelude.{ℕ, ℤ, true, false, List, Some}
use Rattle.sql_lang.specs.Tokens.{Op, Eq}
use Rattle.sql_lang.specs.Grammar.{Collate, Unsaid}
use Rattle.sql_lang.specs.Expression.{ColumnAt, Text, Whole, Side, Expr, Test, IsNull, Compare, Like, Glob}

abbrev pub column_side : ℕ → Side
column_side k = record { operand = ColumnAt k; collate = Unsaid }

abbrev pub value_test : ℕ → Expr
value_test k = Test (IsNull k true)

abbrev pub no_value_test : ℕ → Expr
no_value_test k = Test (IsNull k false)

abbrev pub text_test : ℕ → List ℕ → Collate → Expr
text_test k value c = Test (Compare (column_side k) Eq (record { operand = Text value; collate = c }))

abbrev pub number_test : ℕ → Op → ℤ → Expr
number_test k op z = Test (Compare (column_side k) op (record { operand = Whole z; collate = Unsaid }))

abbrev pub column_test : ℕ → ℕ → Collate → Expr
column_test k m c = Test (Compare (column_side k) Eq (record { operand = ColumnAt m; collate = c }))

abbrev pub like_test : ℕ → List ℕ → Expr
like_test k pattern = Test (Like k false pattern (Some 92))

abbrev pub glob_test : ℕ → List ℕ → Expr
glob_test k pattern = Test (Glob k false pattern)
