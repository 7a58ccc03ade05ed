-- What the reader answers, over the tokens.
use Rattle.std.specs.Prelude.{ℕ, ◌≡◌, ◌≤◌, List, [], ◌++◌, length, drop, Option, Some, None, Result, Ok, Err}
use Rattle.sql_lang.specs.Tokens.{Sort}
use Rattle.sql_lang.specs.Grammar.{spell_query, StopsAt, Query}
use Rattle.sql_lang.specs.Machine.{Begun, run, finish}
use Rattle.sql_parse.specs.View.{query_view}
use Rattle.sql_parse.specs.declared.state.Outcome.{Outcome}
use Rattle.sql_parse.specs.declared.state.Outcome.TheVariants as o

-- what the reading leaves: the rest at its first dead token, or nothing where the end comes too early
abbrev pub left_of : Result (Option Query) (List Sort) → Option (List Sort)
left_of (Ok (Some q)) = None
left_of (Ok None) = Some []
left_of (Err rest) = Some rest

-- by the reading from the left
abbrev pub Answers : List Sort → Outcome → Type 0
Answers ts (o.Read q) = finish (run Begun ts) ≡ Ok (Some (query_view q))
Answers ts (o.Stops n) = (n ≤ length ts) × (left_of (finish (run Begun ts)) ≡ Some (drop n ts))

-- by the grammar: the query that is spelled so, or the number of tokens before the place where they stop being a query's
abbrev pub Shows : List Sort → Outcome → Type 0
Shows ts (o.Read q) = spell_query (query_view q) ≡ ts
Shows ts (o.Stops n) = (front : List Sort) × (rest : List Sort) × StopsAt ts front rest × (length front ≡ n)
