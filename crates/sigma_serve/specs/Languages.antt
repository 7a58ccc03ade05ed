-- The languages whose queries are asked of events, by the names of the backends that write them.
use Rattle.std.specs.Prelude.{ℕ, Bool, List, []}
use Rattle.answer_writer.specs.Input.{World}
use Rattle.event_schema.specs.declared.schema.Schema.{Schema}
use Rattle.query_lang.specs.RefusedPlaces.{PatternAt}
use Rattle.lucene_read.specs.Answered as lucene
use Rattle.rule_convert.specs.NamedQueries.{is_query, is_within, picks}
use Rattle.rule_convert.specs.declared.backend_name.BackendName.{BackendName}
use Rattle.rule_convert.specs.declared.backend_name.BackendName.TheVariants.{Sqlite, Lucene}
use Rattle.sig_base.specs.declared.limits.Limits.{Limits}
use Rattle.sig_base.specs.declared.refusal.Refusal.{Refusal}
use Rattle.sigma_serve.specs.Queried as queried
use Rattle.sigma_serve.specs.UnderSchema.{BySchema, ByBuilder}
use Rattle.sql_lang.specs.Regexps.{byte_regexps}
use Rattle.sql_read.specs.Answers as sql
use Rattle.query_tokens.specs.Places.{CodeAt}

-- the regular expressions in the bytes of a query; Lucene has none
abbrev pub patterns : BackendName → List ℕ → List PatternAt
patterns Sqlite = byte_regexps
patterns Lucene = λ bytes. []

-- the first refusal of bytes, where these places are refused for their regular expressions
abbrev pub refuses : BackendName → Limits → Schema → List ℕ → List CodeAt → Refusal → Type 0
refuses Sqlite = sql.IsRefused
refuses Lucene = lucene.IsRefused

-- ---- what is answered where a file is asked: the queries are those that the backend writes, and select what these do

-- for some places that are refused
abbrev pub AskedBy : BackendName → Limits → List ℕ → ByBuilder
AskedBy backend = queried.AskedBy (is_query backend) (is_within backend) (picks backend) (patterns backend) (refuses backend)

-- for these
abbrev pub AskedAt : BackendName → Limits → List ℕ → List CodeAt → BySchema
AskedAt backend = queried.AskedAt (is_query backend) (is_within backend) (picks backend) (patterns backend) (refuses backend)

-- these places of the query are refused for their regular expressions
abbrev pub AreOfQuery : BackendName → Limits → List ℕ → List (List ℕ) → List (List ℕ) → Bool → Schema → World → List CodeAt → Type 0
AreOfQuery backend = queried.AreOfQuery (is_query backend) (is_within backend) (picks backend) (patterns backend) (refuses backend)
