-- Laws: each document, file and correlation has exactly one outcome.
use Rattle.std.specs.Prelude.{◌≡◌, ℕ, List}
use Rattle.correlation_read.specs.Binding.{Names}
use Rattle.event_schema.specs.declared.schema.Field.{Field}
use Rattle.event_schema.specs.declared.schema.Schema.{Schema}
use Rattle.pipeline_model.specs.declared.pipeline.Pipeline.{Pipeline}
use Rattle.rule_regex.specs.Unbuilt.{Unbuilt}
use Rattle.sig_base.specs.declared.limits.Limits.{Limits}
use Rattle.yaml_tree.specs.Tree.{Answer}
use Rattle.correlation_files.specs.Bindings.{Verdict, AreJudged}
use Rattle.correlation_files.specs.Found.{Named}
use Rattle.correlation_files.specs.Outcomes.{Outcome, IsOutcome, AreOutcomes}

-- each document is something
abbrev pub EachDocument : Type 0
EachDocument = (limits : Limits) (ps : List Pipeline) (schema : Schema) (document : Unbuilt × Answer) → (outcome : Outcome) × IsOutcome limits ps schema document outcome

-- and one thing only
abbrev pub OneDocument : Type 0
OneDocument = (limits : Limits) (ps : List Pipeline) (schema : Schema) (document : Unbuilt × Answer) (a b : Outcome) → IsOutcome limits ps schema document a
    → IsOutcome limits ps schema document b → a ≡ b

-- so are the documents of each file
abbrev pub EachFile : Type 0
EachFile = (limits : Limits) (ps : List Pipeline) (schema : Schema) (unbuilt : List Unbuilt) (bytes : List ℕ) → (outcomes : List Outcome) × AreOutcomes limits ps schema unbuilt bytes outcomes

abbrev pub OneFile : Type 0
OneFile = (limits : Limits) (ps : List Pipeline) (schema : Schema) (unbuilt : List Unbuilt) (bytes : List ℕ) (a b : List Outcome) → AreOutcomes limits ps schema unbuilt bytes a
    → AreOutcomes limits ps schema unbuilt bytes b → a ≡ b

-- correlations are judged in one way
abbrev pub EachJudged : Type 0
EachJudged = (names : List Names) (fields : List Field) (correlations : List Named) → (judged : List (Named × Verdict)) × AreJudged names fields correlations judged

abbrev pub OneJudged : Type 0
OneJudged = (names : List Names) (fields : List Field) (correlations : List Named) (a b : List (Named × Verdict)) → AreJudged names fields correlations a
    → AreJudged names fields correlations b → a ≡ b
