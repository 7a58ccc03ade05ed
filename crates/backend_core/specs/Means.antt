-- What the bytes of a backend mean, said of its language's meanings.
use Rattle.std.specs.Prelude.{ℕ, ◌≡◌, ◌↔◌, List}
use Rattle.event_schema.specs.Events.{IsEvent}
use Rattle.event_schema.specs.declared.schema.Schema.{Schema}
use Rattle.event_schema.specs.declared.value.Value.{Value}
use Rattle.sig_base.specs.declared.limits.Limits.{Limits}

-- The bytes are one query of the schema, within the limits, and no other one; and it picks an event of the schema exactly where
-- this holds of the event's row.
pub record Means {Query : Type 0} (is_query : Schema → List ℕ → Query → Type 0) (is_within : Limits → Schema → List ℕ → Query → Type 0)
    (picks : Query → List (List Value) → Type 0) (limits : Limits) (schema : Schema) (Holds : List (List Value) → Type 0) (bytes : List ℕ) : Type 0 where
  pub query : Query
  pub reads : is_query schema bytes query
  pub within : is_within limits schema bytes query
  pub only : (other : Query) → is_query schema bytes other → other ≡ query
  pub selects : (row : List (List Value)) → IsEvent schema.fields row → (picks query row ↔ Holds row)
