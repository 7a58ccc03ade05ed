-- What is told of a seed's rule, its two queries and its events.
use Rattle.std.specs.Prelude.{ℕ, ◌≡◌, ◌≤◌, ◌+◌, Bool, List, ◌++◌, codes, decimal, filter, length}
use Rattle.event_schema.specs.Occurrence.{Occurrence}
use Rattle.event_schema.specs.declared.schema.Schema.{Schema}
use Rattle.event_schema.specs.declared.value.Value.{Value}
use Rattle.generate_run.specs.Compared.{Flags}
use Rattle.generate_run.specs.Events.{schema, events_of}
use Rattle.generate_run.specs.Rules.{rule_of}
use Rattle.lucene_lang.specs.Meaning.{LuceneSelects}
use Rattle.lucene_lang.specs.Reading as lucene
use Rattle.lucene_writer.specs.Queries as lucene_queries
use Rattle.rule_lowering.specs.TreeOf.{tree_of}
use Rattle.rule_model.specs.Matching.{Matches}
use Rattle.sql_lang.specs.Reading as sql
use Rattle.sql_lang.specs.Queries.{Picks}
use Rattle.sqlite_writer.specs.Queries as sql_queries
use Rattle.generate_run.specs.declared.counts.Counts.{Counts}

-- how many of the flags are set
abbrev pub set_in : List Bool → ℕ
set_in flags = length (filter (λ flag. flag) flags)

-- the bytes are a query that picks the event
abbrev pub PickedBy : {Query : Type 0} → (Schema → List ℕ → Query → Type 0) → (Query → List (List Value) → Type 0) → List ℕ → List (List Value) → Type 0
PickedBy {Query} is_query picks bytes row = (query : Query) × is_query schema bytes query × picks query row

-- the queries of a seed's rule
abbrev pub sql_of : ℕ → List ℕ
sql_of seed = sql_queries.query_bytes schema (tree_of schema (rule_of seed))

abbrev pub lucene_of : ℕ → List ℕ
lucene_of seed = lucene_queries.query_bytes schema (tree_of schema (rule_of seed))

-- `seed N events K rule A sqlite B lucene C same`
abbrev pub line_of : (seed count rule sqlite lucene : ℕ) → List ℕ
line_of seed count rule sqlite lucene =
    codes "seed " ++ decimal seed
    ++ codes " events " ++ decimal count
    ++ codes " rule " ++ decimal rule
    ++ codes " sqlite " ++ decimal sqlite
    ++ codes " lucene " ++ decimal lucene
    ++ codes " same"

-- One flag for each event says that the rule matches it, that the SQL query picks it, and that the Lucene query does; and the line tells how
-- many are set, once for each of the three.
pub record IsGenerated (seed count : ℕ) (line : List ℕ) : Type 0 where
  pub flags : List Bool
  pub by_rule : Flags (λ row. Matches schema.fields row (rule_of seed)) (events_of seed count) flags
  pub by_sqlite : Flags (PickedBy sql.Reads Picks (sql_of seed)) (events_of seed count) flags
  pub by_lucene : Flags (PickedBy lucene.Reads LuceneSelects (lucene_of seed)) (events_of seed count) flags
  pub told : line ≡ line_of seed count (set_in flags) (set_in flags) (set_in flags)

-- ---- counts

-- they count the same flags, one for each event, three times
pub record AreCounts (Holds : List (List Value) → Type 0) (events : List Occurrence) (counts : Counts) : Type 0 where
  pub flags : List Bool
  pub each : Flags Holds events flags
  pub rule : counts.rule ≡ set_in flags
  pub sqlite : counts.sqlite ≡ set_in flags
  pub lucene : counts.lucene ≡ set_in flags
  pub few : set_in flags ≤ length events
