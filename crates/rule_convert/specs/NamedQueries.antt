-- What stands in Queries and Verdicts, said of each backend by its name.
use Rattle.std.specs.Prelude.{ℕ, List, Result}
use Rattle.std.specs.declared.option.Option.{Option}
use Rattle.backend_core.specs.Trees.{Plain}
use Rattle.backend_core.specs.declared.lack.Lack.{Lack}
use Rattle.backend_core.specs.declared.tree.Leaf.{Leaf}
use Rattle.event_schema.specs.declared.schema.Schema.{Schema}
use Rattle.event_schema.specs.declared.value.Value.{Value}
use Rattle.lucene_lang.specs.Meaning.{LuceneSelects}
use Rattle.lucene_lang.specs.Query.{Group}
use Rattle.lucene_lang.specs.Reading as lucene_reading
use Rattle.lucene_lang.specs.Queries as lucene_queries
use Rattle.lucene_writer.specs.Lacking.{lucene_lacks}
use Rattle.lucene_writer.specs.Queries as lucene
use Rattle.lucene_writer.specs.Refused as lucene_refused
use Rattle.pipeline_model.specs.declared.pipeline.Pipeline.{Pipeline}
use Rattle.rule_regex.specs.Unbuilt.{Unbuilt}
use Rattle.rule_model.specs.Plain.{PlainRule}
use Rattle.rule_convert.specs.Queries as queries
use Rattle.rule_convert.specs.Verdicts as verdicts
use Rattle.rule_convert.specs.declared.backend_name.BackendName.{BackendName}
use Rattle.rule_convert.specs.declared.backend_name.BackendName.TheVariants.{Sqlite, Lucene}
use Rattle.sig_base.specs.declared.limits.Limits.{Limits}
use Rattle.sig_base.specs.declared.refusal.Fault.{Fault}
use Rattle.sig_base.specs.declared.refusal.Place.{Place}
use Rattle.sig_base.specs.declared.refusal.Refusal.{Refusal}
use Rattle.sql_lang.specs.Expression.{Expr}
use Rattle.sql_lang.specs.Reading.{Reads}
use Rattle.sql_lang.specs.Queries.{IsWithin, Picks}
use Rattle.sqlite_writer.specs.Lacking.{sqlite_lacks}
use Rattle.sqlite_writer.specs.Queries.{query_bytes}
use Rattle.sqlite_writer.specs.Refused.{deep_refusal}
use Rattle.yaml_tree.specs.Tree.{Tree}

-- ---- what each backend writes

-- what it lacks for a leaf
abbrev pub missing : BackendName → Schema → Leaf → Option Lack
missing Sqlite schema l = sqlite_lacks schema.fields l
missing Lucene schema l = lucene_lacks schema.fields l

-- its text of a tree
abbrev pub text : BackendName → Schema → Plain → List ℕ
text Sqlite = query_bytes
text Lucene = lucene.query_bytes

-- how it refuses a tree for its depth or its number of clauses
abbrev pub too_deep : BackendName → Limits → Schema → Plain → Place → Option Refusal
too_deep Sqlite = deep_refusal
too_deep Lucene = lucene_refused.deep_refusal

-- ---- the language that it writes. (No field that a query of SQLite tests has more than one value, and the query selects an event as
-- the row with the first value of each field.)

abbrev pub Query : BackendName → Type 0
Query Sqlite = Expr
Query Lucene = Group

-- which bytes are which query of a schema
abbrev pub is_query : (backend : BackendName) → Schema → List ℕ → Query backend → Type 0
is_query Sqlite = Reads
is_query Lucene = lucene_reading.Reads

-- which are one within the limits
abbrev pub is_within : (backend : BackendName) → Limits → Schema → List ℕ → Query backend → Type 0
is_within Sqlite = IsWithin
is_within Lucene = lucene_queries.IsWithin

-- which rows it picks
abbrev pub picks : (backend : BackendName) → Query backend → List (List Value) → Type 0
picks Sqlite = Picks
picks Lucene = LuceneSelects

-- ---- rules and their queries

abbrev pub query_of : BackendName → Option Schema → PlainRule → List ℕ
query_of backend given rule = queries.query_of (text backend) given rule

abbrev pub query_refusal : BackendName → List Place → Limits → Option Schema → PlainRule → Option Refusal
query_refusal backend unbuilt limits given rule = queries.query_refusal (missing backend) (text backend) (too_deep backend) unbuilt limits given rule

abbrev pub Converts : BackendName → Limits → Option Schema → PlainRule → List ℕ → Type 0
Converts backend limits given rule bytes = queries.Converts (is_query backend) (is_within backend) (picks backend) limits given rule bytes

abbrev pub IsConverted : BackendName → Unbuilt → Limits → List Pipeline → Option Schema → Tree → PlainRule → Type 0
IsConverted backend unbuilt limits ps given t made = verdicts.IsConverted (missing backend) (text backend) (too_deep backend) unbuilt limits ps given t made

abbrev pub IsRefused : BackendName → Unbuilt → Limits → List Pipeline → Option Schema → Tree → Refusal → Type 0
IsRefused backend unbuilt limits ps given t refusal = verdicts.IsRefused (missing backend) (text backend) (too_deep backend) unbuilt limits ps given t refusal

abbrev pub ConvertAnswers : BackendName → Unbuilt → Limits → List Pipeline → Option Schema → Tree → Result (List ℕ) Fault → Type 0
ConvertAnswers backend unbuilt limits ps given t result = verdicts.ConvertAnswers (missing backend) (text backend) (too_deep backend) unbuilt limits ps given t result
