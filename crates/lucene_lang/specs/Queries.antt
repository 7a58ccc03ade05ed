-- Lucene queries within the limits.
use Rattle.std.specs.Prelude.{ℕ, ◌≤◌, ◌+◌, List, length}
use Rattle.event_schema.specs.declared.schema.Schema.{Schema}
use Rattle.sig_base.specs.declared.limits.Limits.{Limits}
use Rattle.lucene_lang.specs.Query.{Group}
use Rattle.lucene_lang.specs.Reading.{BytesRead}

-- no more bytes than a query may have, and one more, since a line feed may stand behind it; they're characters that are read as this
-- group within the limit of parentheses
pub record IsWithin (limits : Limits) (schema : Schema) (bytes : List ℕ) (group : Group) : Type 0 where
  pub short : length bytes ≤ limits.query_bytes + 1
  pub reads : BytesRead limits.lucene_depth schema bytes group
