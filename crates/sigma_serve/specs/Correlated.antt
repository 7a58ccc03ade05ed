-- The answer to `correlate`: the reports of the correlations of rule files over the events.
use Rattle.std.specs.Prelude.{◌≡◌, ℕ, Bool, List, [], ◌∷◌, ◌++◌, map, Option, None, Some}
use Rattle.std.specs.List.{flat_map}
use Rattle.answer_writer.specs.Each.{AllShares, EachPart}
use Rattle.answer_writer.specs.FollowedLines.{FollowedLines}
use Rattle.answer_writer.specs.Input.{World, File}
use Rattle.answer_writer.specs.Parts.{Share, Part}
use Rattle.correlation_files.specs.Bindings.{Verdict, AreJudged, bounds_in, names_in, unbound_in}
use Rattle.correlation_files.specs.Found.{Named, named, names_of_rules}
use Rattle.correlation_files.specs.Outcomes.{Outcome, AreOutcomes, rules_in, correlations_in, refusals_in}
use Rattle.correlation_run.specs.Followed.{Follows}
use Rattle.correlation_windows.specs.History.{Taken}
use Rattle.event_schema.specs.declared.schema.Schema.{Schema}
use Rattle.event_schema.specs.declared.schema.Time.{Time}
use Rattle.pipeline_files.specs.Paired.{paired}
use Rattle.pipeline_model.specs.declared.pipeline.Pipeline.{Pipeline}
use Rattle.rule_regex.specs.Unbuilt.{Unbuilt}
use Rattle.rule_model.specs.Plain.{PlainRule}
use Rattle.sig_base.specs.Files.{file_start}
use Rattle.sig_base.specs.Judged.{refusal}
use Rattle.sig_base.specs.declared.limits.Limits.{Limits}
use Rattle.sig_base.specs.declared.refusal.Refusal.{Refusal}
use Rattle.sigma_serve.specs.Reports.{refusal_share}
use Rattle.sigma_serve.specs.RuleFiles.{AreOfFiles, all_texts, contents}
use Rattle.sigma_serve.specs.UnderPipelines.{AreReported, ByPipelines, UnderPipelines}
use Rattle.sigma_serve.specs.UnderSchema.{BySchema, ByBuilder}

-- ---- rule files

-- a rule file, the places at which regular expressions of its documents aren't built, and what its documents are
pub record SourceFile : Type 0 where
  pub name : List ℕ
  pub unbuilt : List Unbuilt
  pub outcomes : List Outcome

-- the part of the answer that belongs to it: a diagnostic about each document that is refused
pub record SourcePart (limits : Limits) (ps : List Pipeline) (schema : Schema) (file : SourceFile) (world : World) (part : Part) : Type 0 where
  pub input : part.input ≡ Some (File file.name)
  pub outcomes : AreOutcomes limits ps schema file.unbuilt (contents world.files file.name) file.outcomes
  pub share : AreReported file.name (refusals_in file.outcomes) part.share

-- the rules of some files, and their correlations, each behind the name of its file
abbrev pub rules_of : List SourceFile → List PlainRule
rules_of files = flat_map (λ f. rules_in f.outcomes) files

abbrev pub correlations_of : List SourceFile → List Named
correlations_of files = flat_map (λ f. named f.name (correlations_in f.outcomes)) files

-- ---- correlations

-- a part of the answer for which nothing is read
abbrev pub note_part : Share → Part
note_part share = record { input = None; share = share }

-- one diagnostic about each correlation that isn't bound, in the file that it stands in
abbrev pub AreUnbound : List (List ℕ × Refusal) → Share → Type 0
AreUnbound causes share = AllShares (λ c one. one ≡ refusal_share c.0 c.1) causes share

-- What is answered once the files are read, where these are the rules and the correlations that were found: the correlations that aren't bound
-- are told, and then the lines of the events are followed by the others.
pub record CorrelatedBy (limits : Limits) (schema : Schema) (rules : List PlainRule) (correlations : List Named) (world : World) (parts : List Part) : Type 0 where
  pub judged : List (Named × Verdict)
  pub are : AreJudged (names_of_rules rules) schema.fields correlations judged
  pub unbound : Share
  pub told : AreUnbound (unbound_in judged) unbound
  pub lines : List Part
  pub after : List Taken
  pub follows : FollowedLines (Follows (record { schema = schema; rules = rules; bounds = bounds_in judged; names = names_in judged })) limits [] world lines after
  pub all : parts ≡ note_part unbound ∷ lines

-- The answer in a world, under a schema and under these pipelines: each file is read, with its diagnostics, before the correlations are told and
-- the events are followed. Regular expressions of the files aren't built at these places.
pub record CorrelatedUnder (limits : Limits) (schema : Schema) (unbuilt : List (List Unbuilt)) (rules : List (List ℕ)) (ps : List Pipeline) (world : World) (parts : List Part) : Type 0 where
  pub files : List SourceFile
  pub of : map (λ f. (f.unbuilt, f.name)) files ≡ paired [] unbuilt rules
  pub before : List Part
  pub each : EachPart (SourcePart limits ps schema) files world before
  pub behind : List Part
  pub correlated : CorrelatedBy limits schema (rules_of files) (correlations_of files) world behind
  pub all : parts ≡ before ++ behind

-- ---- a schema with a time

-- A schema without a time is refused, at the start of its file, and nothing else is read; under another one it's answered.
pub data Timed (by : Schema → World → List Part → Type 0) (name : List ℕ) (given : Schema) (world : World) (parts : List Part) : Type 0 where
  untimed : given.time ≡ None → parts ≡ note_part (refusal_share name (refusal 24 file_start)) ∷ [] → Timed by name given world parts
  timed : (time : Time) → given.time ≡ Some time → by given world parts → Timed by name given world parts

-- under the pipelines of a file, if one is named
abbrev pub PipedCorrelated : Limits → List Unbuilt → List (List Unbuilt) → Option (List ℕ) → List (List ℕ) → Schema → World → List Part → Type 0
PipedCorrelated limits piped unbuilt pipelines rules given = UnderPipelines (λ ps. CorrelatedUnder limits given unbuilt rules ps) limits piped pipelines

-- the answer for these places; without a schema nothing is answered (but the words of `correlate` name one)
abbrev pub CorrelatedAt : Limits → List Unbuilt → List (List Unbuilt) → List ℕ → Option (List ℕ) → List (List ℕ) → BySchema
CorrelatedAt limits piped unbuilt name pipelines rules None world parts = parts ≡ []
CorrelatedAt limits piped unbuilt name pipelines rules (Some given) world parts = Timed (PipedCorrelated limits piped unbuilt pipelines rules) name given world parts

-- ---- for some such places, where the builder had refused the texts `before`, and then has refused the texts `after`: behind the former those of
-- these places, and nothing else

pub record CorrelatedBySome (limits : Limits) (rules : List (List ℕ)) (ps : List Pipeline) (before after : List (List ℕ)) (ended : Bool) (given : Schema) (world : World) (parts : List Part) : Type 0 where
  pub unbuilt : List (List Unbuilt)
  pub follows : after ≡ before ++ all_texts unbuilt
  pub are : AreOfFiles limits ps ended world unbuilt rules
  pub correlated : CorrelatedUnder limits given unbuilt rules ps world parts

abbrev pub FilesCorrelated : Limits → List (List ℕ) → ByPipelines
FilesCorrelated limits rules ps before after ended None world parts = parts ≡ []
FilesCorrelated limits rules ps before after ended (Some given) world parts = CorrelatedBySome limits rules ps before after ended given world parts

-- none where the schema has no time
pub record TimedBySome (by : ByBuilder) (name : List ℕ) (before after : List (List ℕ)) (ended : Bool) (given : Schema) (world : World) (parts : List Part) : Type 0 where
  pub answer : Timed (λ schema. by before after ended (Some schema)) name given world parts
  pub still : given.time ≡ None → after ≡ before

abbrev pub TimedBy : ByBuilder → List ℕ → ByBuilder
TimedBy by name before after ended None world parts = parts ≡ []
TimedBy by name before after ended (Some given) world parts = TimedBySome by name before after ended given world parts
