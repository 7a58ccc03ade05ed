-- The expression that a value of the crate's types is.
use Rattle.std.specs.Prelude.{List, [], ◌∷◌, map}
use Rattle.sql_lang.specs.declared.query.Collate.{Collate}
use Rattle.sql_lang.specs.declared.query.Collate.TheVariants as collates
use Rattle.sql_lang.specs.declared.query.SqlOp.{SqlOp}
use Rattle.sql_lang.specs.declared.query.SqlOp.TheVariants as ops
use Rattle.sql_lang.specs.declared.query.Operand.{Operand}
use Rattle.sql_lang.specs.declared.query.Operand.TheVariants as operands
use Rattle.sql_lang.specs.declared.query.Side.{Side}
use Rattle.sql_lang.specs.declared.query.SqlTest.{SqlTest}
use Rattle.sql_lang.specs.declared.query.SqlTest.TheVariants as tests
use Rattle.sql_lang.specs.declared.query.Expr.{Expr}
use Rattle.sql_lang.specs.declared.query.Expr.TheOpen.{Expr-F}
use Rattle.sql_lang.specs.declared.query.Expr.TheFolds.{fold-Expr}
use Rattle.sql_lang.specs.Tokens.{Op, Eq, Ne, Lt, Lte, Gt, Gte}
use Rattle.sql_lang.specs.Grammar.{Unsaid, NoCase, Binary}
use Rattle.sql_lang.specs.Grammar as grammar
use Rattle.sql_lang.specs.Expression as plain

abbrev pub collate_view : Collate → grammar.Collate
collate_view collates.Unsaid = Unsaid
collate_view collates.NoCase = NoCase
collate_view collates.Binary = Binary

abbrev pub op_view : SqlOp → Op
op_view ops.Eq = Eq
op_view ops.Ne = Ne
op_view ops.Lt = Lt
op_view ops.Lte = Lte
op_view ops.Gt = Gt
op_view ops.Gte = Gte

abbrev pub operand_view : Operand → plain.Operand
operand_view (operands.Column k) = plain.ColumnAt k
operand_view (operands.Text t) = plain.Text t
operand_view (operands.Whole z) = plain.Whole z

abbrev pub side_view : Side → plain.Side
side_view s = record { operand = operand_view s.operand; collate = collate_view s.collate }

abbrev pub test_view : SqlTest → plain.SqlTest
test_view (tests.Constant b) = plain.Constant b
test_view (tests.IsNull k b) = plain.IsNull k b
test_view (tests.Compare x op y) = plain.Compare (side_view x) (op_view op) (side_view y)
test_view (tests.Like k b p e) = plain.Like k b p e
test_view (tests.Glob k b p) = plain.Glob k b p
test_view (tests.Regexp k b s) = plain.Regexp k b s.value.text
test_view (tests.OneOf x b ys) = plain.OneOf (side_view x) b (map operand_view ys.items)
test_view (tests.Between x b low high) = plain.Between (side_view x) b low high

-- the expressions of a list, which are seen already
abbrev pub exprs_of : List plain.Expr → plain.Exprs
exprs_of [] = plain.no_exprs
exprs_of (e ∷ es) = plain.an_expr e (exprs_of es)

-- one level, with what is inside already seen
abbrev pub expr_step : Expr-F plain.Expr → plain.Expr
expr_step (Expr-F.Or parts) = plain.Or (exprs_of parts.items)
expr_step (Expr-F.And parts) = plain.And (exprs_of parts.items)
expr_step (Expr-F.Not part) = plain.Not part.value
expr_step (Expr-F.Test t) = plain.Test (test_view t)

abbrev pub expr_view : Expr → plain.Expr
expr_view = fold-Expr plain.Expr expr_step

abbrev pub exprs_view : List Expr → plain.Exprs
exprs_view es = exprs_of (map expr_view es)
