-- What reading rule files whose rules are correlated leaves.
use Rattle.std.specs.Prelude.{◌≡◌, ◌<◌, ◌^◌, ℕ, Bool, List, ◌++◌, map, length}
use Rattle.std.specs.List.{AllByRecursion}
use Rattle.answer_writer.specs.Each.{AllShares, EachPart}
use Rattle.answer_writer.specs.Input.{World}
use Rattle.answer_writer.specs.Parts.{Share, Part}
use Rattle.correlation_engine.specs.Limits.{IsWithinLimits}
use Rattle.correlation_files.specs.Bindings.{Verdict, AreJudged, bounds_in, names_in, unbound_in}
use Rattle.correlation_files.specs.Found.{StandsFor, Named, names_of_rules}
use Rattle.correlation_files.specs.Outcomes.{Outcome, AreOutcomes, refusals_in}
use Rattle.correlation_files.specs.Places.{AreOfFile}
use Rattle.correlation_files.specs.declared.bindings.Bindings.{Bindings}
use Rattle.correlation_files.specs.declared.bindings.Unbound.{Unbound}
use Rattle.correlation_files.specs.declared.found.Found.{Found}
use Rattle.event_schema.specs.Lists.{EachOf}
use Rattle.event_schema.specs.declared.schema.Schema.{Schema}
use Rattle.pipeline_files.specs.Places.{file_texts}
use Rattle.pipeline_model.specs.declared.pipeline.Pipeline.{Pipeline}
use Rattle.rule_regex.specs.Unbuilt.{Unbuilt}
use Rattle.rule_model.specs.Plain.{PlainRule}
use Rattle.sig_base.specs.declared.limits.Limits.{Limits}
use Rattle.sigma_serve.specs.Correlated.{SourceFile, SourcePart, rules_of, correlations_of}
use Rattle.sigma_serve.specs.Reports.{refusal_share}
use Rattle.sigma_serve.specs.RuleFiles.{all_texts, contents}
use Rattle.sigma_serve.specs.UnderPipelines.{AreReported}

-- ---- what was found

-- it stands for some rules and correlations
abbrev pub IsFound : Schema → Found → Type 0
IsFound schema found = (rules : List PlainRule) × (correlations : List Named) × StandsFor schema rules correlations found

-- it grew by those of these files
abbrev pub GrowsBy : Schema → List SourceFile → Found → Found → Type 0
GrowsBy schema files old new = (rules : List PlainRule) (correlations : List Named) → StandsFor schema rules correlations old
    → StandsFor schema (rules ++ rules_of files) (correlations ++ correlations_of files) new

-- ---- answers, where the builder had refused the texts `before`, and then has refused the texts `after`, with what is kept of the documents

-- the share of a file
pub record SourceShare (limits : Limits) (ps : List Pipeline) (schema : Schema) (before after : List (List ℕ)) (ended : Bool) (name bytes : List ℕ) (Keeps : List Outcome → Type 0) (share : Share) : Type 0 where
  pub unbuilt : List Unbuilt
  pub follows : after ≡ before ++ file_texts unbuilt
  pub are : AreOfFile limits ps bytes ended unbuilt
  pub outcomes : List Outcome
  pub is : AreOutcomes limits ps schema unbuilt bytes outcomes
  pub told : AreReported name (refusals_in outcomes) share
  pub keeps : Keeps outcomes

-- the parts of some files
pub record SourcesBySome (limits : Limits) (ps : List Pipeline) (schema : Schema) (before after : List (List ℕ)) (ended : Bool) (names : List (List ℕ)) (Keeps : List SourceFile → Type 0) (world : World) (parts : List Part) : Type 0 where
  pub files : List SourceFile
  pub of : map (λ f. f.name) files ≡ names
  pub follows : after ≡ before ++ all_texts (map (λ f. f.unbuilt) files)
  pub are : EachOf (λ f. AreOfFile limits ps (contents world.files f.name) ended f.unbuilt) files
  pub each : EachPart (SourcePart limits ps schema) files world parts
  pub keeps : Keeps files

-- ---- correlations

-- one diagnostic about each of these correlations, which aren't bound
abbrev pub AreTold : List Unbound → Share → Type 0
AreTold causes share = AllShares (λ u one. one ≡ refusal_share u.file u.refusal) causes share

-- these are the correlations that are bound of those that were found, the names of their reports, and why the others aren't bound
abbrev pub AreBindings : Schema → Found → Bindings → Type 0
AreBindings schema found b = (rules : List PlainRule) (correlations : List Named) → StandsFor schema rules correlations found
    → (judged : List (Named × Verdict)) × AreJudged (names_of_rules rules) schema.fields correlations judged
    × (b.bounds.items ≡ bounds_in judged) × (b.names.items ≡ names_in judged) × (map (λ u. (u.file, u.refusal)) b.unbound.items ≡ unbound_in judged)
    × AllByRecursion IsWithinLimits b.bounds.items × (length b.bounds.items < 2 ^ 32)
