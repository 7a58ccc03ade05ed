-- What a text is, as a function that goes by the reading token by token: its expression, or its first refusal, where these
-- places are refused for their regular expressions.
use Rattle.std.specs.Prelude.{ℕ, ◌-◌, Bool, true, false, nat_lt, List, [], ◌∷◌, length, Option, Some, None, Result, Ok, Err}
use Rattle.event_schema.specs.declared.schema.Schema.{Schema}
use Rattle.query_tokens.specs.Places.{At, origin, CodeAt, code_at}
use Rattle.query_tokens.specs.Tokens.{sorts, places, token_place}
use Rattle.sql_lang.specs.Tokens.{Sort, tokens}
use Rattle.sql_lang.specs.Grammar.{Query}
use Rattle.sql_lang.specs.Expression.{Expr, or_expr, depth}
use Rattle.sql_lang.specs.Faults.{query_faults}
use Rattle.sql_lang.specs.Machine.{Begun, run, finish}
use Rattle.sql_lang.specs.Reading.{ReadsWithin, Refuses, first_other, nests_too_far}

abbrev pub on_faults : Expr → List CodeAt → Result Expr CodeAt
on_faults e [] = Ok e
on_faults e (f ∷ fs) = Err f

abbrev pub on_depth : Bool → Schema → List CodeAt → List ℕ → Query → Result Expr CodeAt
on_depth true schema refused cs q = Err (code_at 124 origin)
on_depth false schema refused cs q = on_faults (or_expr schema.fields q.condition) (query_faults schema refused q (places (tokens cs)))

abbrev pub on_query : ℕ → Schema → List CodeAt → List ℕ → Result (Option Query) (List Sort) → Result Expr CodeAt
on_query limit schema refused cs (Ok (Some q)) = on_depth (nat_lt limit (depth (or_expr schema.fields q.condition))) schema refused cs q
on_query limit schema refused cs (Ok None) = Err (code_at 120 (token_place cs (tokens cs) (length (sorts (tokens cs)))))
on_query limit schema refused cs (Err rest) = Err (code_at 120 (token_place cs (tokens cs) (length (sorts (tokens cs)) - length rest)))

abbrev pub on_nesting : Bool → ℕ → Schema → List CodeAt → List ℕ → Result Expr CodeAt
on_nesting true limit schema refused cs = Err (code_at 124 origin)
on_nesting false limit schema refused cs = on_query limit schema refused cs (finish (run Begun (sorts (tokens cs))))

abbrev pub on_other : Option At → ℕ → Schema → List CodeAt → List ℕ → Result Expr CodeAt
on_other (Some p) limit schema refused cs = Err (code_at 121 p)
on_other None limit schema refused cs = on_nesting (nests_too_far limit (sorts (tokens cs))) limit schema refused cs

unfoldable pub verdict : ℕ → Schema → List CodeAt → List ℕ → Result Expr CodeAt
verdict limit schema refused cs = on_other (first_other (tokens cs)) limit schema refused cs

-- a query within the limit that isn't refused, or the first refusal
abbrev pub IsVerdict : ℕ → Schema → List CodeAt → List ℕ → Result Expr CodeAt → Type 0
IsVerdict limit schema refused cs (Ok e) = ReadsWithin limit schema cs e × ((f : CodeAt) → Refuses limit schema refused cs f → ⊥)
IsVerdict limit schema refused cs (Err f) = Refuses limit schema refused cs f
