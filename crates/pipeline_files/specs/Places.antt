-- Where regular expressions of a file of pipelines aren't built: those of the items that the steps of its documents add.
use Rattle.std.specs.Prelude.{◌≡◌, ◌≤◌, ℕ, Bool, true, List, [], ◌++◌, length}
use Rattle.std.specs.List.{flat_map}
use Rattle.event_schema.specs.Lists.{EachOf}
use Rattle.rule_regex.specs.Unbuilt.{Unbuilt, none_unbuilt, of_values, refused_texts, ArePlacesOf, IsOneOf, AreIllRefused}
use Rattle.rule_detections.specs.Expressions.{item_expressions}
use Rattle.rule_detections.specs.declared.expression.Expression.{Expression}
use Rattle.rule_run.specs.Runs.{AreDocuments}
use Rattle.sig_base.specs.declared.limits.Limits.{Limits}
use Rattle.yaml_documents.specs.Call.{IsCallRefusal}
use Rattle.yaml_tree.specs.Tree.{At, Tree, Answer, tree, refusal}
use Rattle.pipeline_model.specs.Checks.{added_in, steps_in}
use Rattle.pipeline_files.specs.Paired.{paired}

-- the regular expressions of a document: those of the items that its steps add, in their order, each at its value's place
abbrev pub pipeline_expressions : Limits → Tree → List Expression
pipeline_expressions limits t = flat_map (item_expressions limits) (flat_map added_in (steps_in t))

-- What these places and texts are of a tree: its regular expressions that the builder refused, and their places. Where the document was
-- answered to its end, the builder refused each that the grammar doesn't read.
pub record AreOfTree (limits : Limits) (ended : Bool) (unbuilt : Unbuilt) (t : Tree) : Type 0 where
  pub only : unbuilt ≡ of_values unbuilt.values unbuilt.refused_values
  pub places : ArePlacesOf (IsOneOf (pipeline_expressions limits t)) unbuilt.refused_values unbuilt.values
  pub ill : ended ≡ true → AreIllRefused (pipeline_expressions limits t) unbuilt.refused_values

-- of a document; of one that YAML refuses there are none
abbrev pub AreOfDocument : Limits → Bool → Unbuilt × Answer → Type 0
AreOfDocument limits ended (unbuilt, tree t) = AreOfTree limits ended unbuilt t
AreOfDocument limits ended (unbuilt, refusal y) = unbuilt ≡ none_unbuilt

-- of each document of a file; there are no more, and none where the file is refused as one
pub record AreOfPipelines (limits : Limits) (bytes : List ℕ) (ended : Bool) (unbuilt : List Unbuilt) : Type 0 where
  pub each : (documents : List Answer) → AreDocuments limits bytes documents
      → EachOf (AreOfDocument limits ended) (paired none_unbuilt unbuilt documents) × (length unbuilt ≤ length documents)
  pub whole : (y : ℕ × At) → IsCallRefusal limits.file_bytes limits.documents bytes y → unbuilt ≡ []

-- the texts that the builder refused of a file's documents, in their order
abbrev pub file_texts : List Unbuilt → List (List ℕ)
file_texts unbuilt = flat_map refused_texts unbuilt

-- For some such places it's so. The builder had refused the texts `before`, and then has refused the texts `after`: behind the former
-- those of this file, and nothing else.
pub record ForPipelines (limits : Limits) (bytes : List ℕ) (before after : List (List ℕ)) (ended : Bool) (Says : List Unbuilt → Type 0) : Type 0 where
  pub unbuilt : List Unbuilt
  pub follows : after ≡ before ++ file_texts unbuilt
  pub are : AreOfPipelines limits bytes ended unbuilt
  pub says : Says unbuilt
