-- SQL queries within the limits, and the events that they select.
use Rattle.std.specs.Prelude.{ℕ, ◌≤◌, ◌+◌, List, length}
use Rattle.event_schema.specs.Rows.{first_values}
use Rattle.event_schema.specs.declared.schema.Schema.{Schema}
use Rattle.event_schema.specs.declared.value.Value.{Value}
use Rattle.sig_base.specs.declared.limits.Limits.{Limits}
use Rattle.sql_lang.specs.Expression.{Expr}
use Rattle.sql_lang.specs.Meaning.{SqlSelects}
use Rattle.sql_lang.specs.Reading.{BytesRead}

-- no more bytes than a query may have, and one more, since a line feed may stand behind it; they're characters that are read as this
-- expression within the limit of depth
pub record IsWithin (limits : Limits) (schema : Schema) (bytes : List ℕ) (expr : Expr) : Type 0 where
  pub short : length bytes ≤ limits.query_bytes + 1
  pub reads : BytesRead limits.sql_depth schema bytes expr

-- an event is selected as the row that has the first value of each field
abbrev pub Picks : Expr → List (List Value) → Type 0
Picks expr row = SqlSelects expr (first_values row)
