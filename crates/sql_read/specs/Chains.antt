-- What chains of expressions, and words NOT before one, are made to.
use Rattle.std.specs.Prelude.{ℕ, zero, suc, List, [], ◌∷◌, ◌++◌}
use Rattle.sql_lang.specs.Expression.{Expr, And, Or, Not}
use Rattle.sql_lang.specs.View.{exprs_of}

-- a chain of one part is that part
abbrev pub and_list : List Expr → Expr → Expr
and_list [] last = last
and_list (e ∷ es) last = And (exprs_of (e ∷ (es ++ last ∷ [])))

abbrev pub or_list : List Expr → Expr → Expr
or_list [] last = last
or_list (e ∷ es) last = Or (exprs_of (e ∷ (es ++ last ∷ [])))

abbrev pub nots_on : ℕ → Expr → Expr
nots_on zero e = e
nots_on (suc n) e = Not (nots_on n e)
