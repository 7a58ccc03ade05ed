-- What a rule's queries have to be for them to be written and read back.
use Rattle.std.specs.Prelude.{◌≡◌, ◌↔◌, List, Option, None}
use Rattle.backend_core.specs.Holds.{TreeHolds}
use Rattle.backend_core.specs.Schemas.{IsNamed}
use Rattle.backend_core.specs.Sound.{IsSound}
use Rattle.backend_core.specs.Trees.{Plain}
use Rattle.backend_core.specs.Writing.{write_refusal}
use Rattle.event_schema.specs.Events.{IsEvent}
use Rattle.event_schema.specs.declared.schema.Schema.{Schema}
use Rattle.event_schema.specs.declared.value.Value.{Value}
use Rattle.generate_run.specs.Rules.{start}
use Rattle.lucene_writer.specs.Lacking.{lucene_lacks}
use Rattle.lucene_writer.specs.Queries as lucene
use Rattle.lucene_writer.specs.Refused as lucene_refused
use Rattle.rule_model.specs.Matching.{Matches}
use Rattle.rule_model.specs.Plain.{PlainRule}
use Rattle.sig_base.specs.declared.limits.Limits.{Limits}
use Rattle.sig_base.specs.declared.refusal.Refusal.{Refusal}
use Rattle.sqlite_writer.specs.Lacking.{sqlite_lacks}
use Rattle.sqlite_writer.specs.Queries as sqlite
use Rattle.sqlite_writer.specs.Refused as sqlite_refused

-- why SQLite's and Lucene's backends write no query for a tree
abbrev pub sqlite_refusal : Limits → Schema → Plain → Option Refusal
sqlite_refusal limits schema t = write_refusal (λ s l. sqlite_lacks s.fields l) sqlite.query_bytes sqlite_refused.deep_refusal limits schema t start

abbrev pub lucene_refusal : Limits → Schema → Plain → Option Refusal
lucene_refusal limits schema t = write_refusal (λ s l. lucene_lacks s.fields l) lucene.query_bytes lucene_refused.deep_refusal limits schema t start

-- these are the standard limits, as far as trees and their queries go
pub record IsStandard (limits : Limits) : Type 0 where
  pub leaves : limits.leaves ≡ 16384
  pub sql_depth : limits.sql_depth ≡ 1000
  pub lucene_depth : limits.lucene_depth ≡ 1000
  pub lucene_clauses : limits.lucene_clauses ≡ 1024
  pub query_bytes : limits.query_bytes ≡ 4194304

-- a sound tree that means the rule, and that neither backend refuses
pub record IsSubject (limits : Limits) (schema : Schema) (rule : PlainRule) (t : Plain) : Type 0 where
  pub named : IsNamed schema
  pub sound : IsSound schema.fields t
  pub sqlite : sqlite_refusal limits schema t ≡ None
  pub lucene : lucene_refusal limits schema t ≡ None
  pub means : (row : List (List Value)) → IsEvent schema.fields row → TreeHolds row t ↔ Matches schema.fields row rule
