-- Where regular expressions of a rule file aren't built: those of its documents' values, and those of items of the rules that pipelines make.
use Rattle.std.specs.Prelude.{◌≡◌, ◌≤◌, ℕ, Bool, List, [], ◌++◌, length}
use Rattle.event_schema.specs.Lists.{EachOf}
use Rattle.pipeline_run.specs.Chained.{Makes}
use Rattle.pipeline_files.specs.Paired.{paired}
use Rattle.pipeline_files.specs.Places.{file_texts}
use Rattle.pipeline_model.specs.declared.pipeline.Pipeline.{Pipeline}
use Rattle.rule_regex.specs.Unbuilt.{Unbuilt, none_unbuilt, AreUnbuilt}
use Rattle.rule_run.specs.Runs.{AreDocuments}
use Rattle.sig_base.specs.declared.limits.Limits.{Limits}
use Rattle.yaml_documents.specs.Call.{IsCallRefusal}
use Rattle.yaml_tree.specs.Tree.{At, Answer, tree, refusal}

-- of a document that is a tree, and of the rule that these pipelines make of it; of one that YAML refuses there are none
abbrev pub AreOfDocument : Limits → List Pipeline → Bool → Unbuilt × Answer → Type 0
AreOfDocument limits ps ended (unbuilt, tree t) = AreUnbuilt (Makes limits ps) limits t ended unbuilt
AreOfDocument limits ps ended (unbuilt, refusal p) = unbuilt ≡ none_unbuilt

-- of each document of a file; there are no more, and none where the file is refused as one
pub record AreOfFile (limits : Limits) (ps : List Pipeline) (bytes : List ℕ) (ended : Bool) (unbuilt : List Unbuilt) : Type 0 where
  pub each : (documents : List Answer) → AreDocuments limits bytes documents
      → EachOf (AreOfDocument limits ps ended) (paired none_unbuilt unbuilt documents) × (length unbuilt ≤ length documents)
  pub whole : (p : ℕ × At) → IsCallRefusal limits.file_bytes limits.documents bytes p → unbuilt ≡ []

-- For some such places it's so. The builder had refused the texts `before`, and then has refused the texts `after`: behind the former
-- those of this file, and nothing else.
pub record ForFile (limits : Limits) (ps : List Pipeline) (bytes : List ℕ) (before after : List (List ℕ)) (ended : Bool) (Says : List Unbuilt → Type 0) : Type 0 where
  pub unbuilt : List Unbuilt
  pub follows : after ≡ before ++ file_texts unbuilt
  pub are : AreOfFile limits ps bytes ended unbuilt
  pub says : Says unbuilt
