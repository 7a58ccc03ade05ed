-- What the documents of a file of pipelines are: each a pipeline, or refused.
use Rattle.std.specs.Prelude.{◌≡◌, ℕ, List, [], ◌∷◌, None, Some, Result, Ok, Err}
use Rattle.std.specs.List.{AllZip}
use Rattle.event_schema.specs.Lists.{HasElement}
use Rattle.rule_regex.specs.Unbuilt.{Unbuilt, none_unbuilt}
use Rattle.rule_run.specs.Files.{yaml_refusal}
use Rattle.rule_run.specs.Runs.{AreDocuments}
use Rattle.sig_base.specs.declared.limits.Limits.{Limits}
use Rattle.sig_base.specs.declared.refusal.Place.{Place}
use Rattle.sig_base.specs.declared.refusal.Refusal.{Refusal}
use Rattle.yaml_documents.specs.Call.{IsCallRefusal}
use Rattle.yaml_tree.specs.Tree.{At, Tree, Answer, tree, refusal}
use Rattle.pipeline_model.specs.Checks.{pipeline_refusal}
use Rattle.pipeline_model.specs.Pipelines.{IsPipeline}
use Rattle.pipeline_model.specs.declared.pipeline.Pipeline.{Pipeline}
use Rattle.pipeline_files.specs.Paired.{paired}

-- a document's outcome
abbrev pub Outcome : Type 0
Outcome = Result Pipeline Refusal

-- the tree is this pipeline, where regular expressions of items that it adds aren't built at these places
pub record IsTakenPipeline (unbuilt : List Place) (limits : Limits) (t : Tree) (p : Pipeline) : Type 0 where
  pub taken : pipeline_refusal unbuilt limits t ≡ None
  pub is : IsPipeline t p

-- a document is a pipeline, or refused as one, or by YAML
abbrev pub IsOutcome : List Place → Limits → Answer → Outcome → Type 0
IsOutcome unbuilt limits (tree t) (Ok p) = IsTakenPipeline unbuilt limits t p
IsOutcome unbuilt limits (tree t) (Err r) = pipeline_refusal unbuilt limits t ≡ Some r
IsOutcome unbuilt limits (refusal y) (Ok p) = ⊥
IsOutcome unbuilt limits (refusal y) (Err r) = r ≡ yaml_refusal y

-- each document with content of a file, in their order, with its places beside it; behind their end there are none
pub record AreOutcomes (unbuilt : List Unbuilt) (limits : Limits) (bytes : List ℕ) (outcomes : List Outcome) : Type 0 where
  pub documents : List Answer
  pub taken : AreDocuments limits bytes documents
  pub each : AllZip (λ d outcome. IsOutcome d.0.values limits d.1 outcome) (paired none_unbuilt unbuilt documents) outcomes

abbrev pub pipelines_in : List Outcome → List Pipeline
pipelines_in [] = []
pipelines_in (Ok p ∷ outcomes) = p ∷ pipelines_in outcomes
pipelines_in (Err r ∷ outcomes) = pipelines_in outcomes

abbrev pub refusals_in : List Outcome → List Refusal
refusals_in [] = []
refusals_in (Ok p ∷ outcomes) = refusals_in outcomes
refusals_in (Err r ∷ outcomes) = r ∷ refusals_in outcomes

-- ---- what the file is

-- the file is these pipelines: each of its documents is one
pub record ArePipelines (unbuilt : List Unbuilt) (limits : Limits) (bytes : List ℕ) (ps : List Pipeline) : Type 0 where
  pub outcomes : List Outcome
  pub read : AreOutcomes unbuilt limits bytes outcomes
  pub none : refusals_in outcomes ≡ []
  pub are : ps ≡ pipelines_in outcomes

-- The file is refused for these causes: as a whole for one, or for those of all documents that are refused, in their order.
pub data AreCauses (unbuilt : List Unbuilt) (limits : Limits) (bytes : List ℕ) (causes : List Refusal) : Type 0 where
  as_one : (y : ℕ × At) → IsCallRefusal limits.file_bytes limits.documents bytes y → causes ≡ yaml_refusal y ∷ [] → AreCauses unbuilt limits bytes causes
  by_document : (outcomes : List Outcome) → AreOutcomes unbuilt limits bytes outcomes → causes ≡ refusals_in outcomes → HasElement causes
      → AreCauses unbuilt limits bytes causes
