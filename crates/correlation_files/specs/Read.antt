-- What reading documents one after another gives, with the places beside them at which their regular expressions aren't built.
use Rattle.std.specs.Prelude.{◌≡◌, ℕ, Bool, List, ◌++◌, map as list_map}
use Rattle.std.specs.List.{AllZip}
use Rattle.event_schema.specs.Lists.{EachOf}
use Rattle.event_schema.specs.declared.schema.Schema.{Schema}
use Rattle.pipeline_files.specs.Places.{file_texts}
use Rattle.pipeline_model.specs.declared.pipeline.Pipeline.{Pipeline}
use Rattle.rule_regex.specs.Unbuilt.{Unbuilt, refused_texts}
use Rattle.sig_base.specs.declared.limits.Limits.{Limits}
use Rattle.sig_base.specs.declared.refusal.Refusal.{Refusal}
use Rattle.yaml_tree.specs.Tree.{Answer}
use Rattle.correlation_files.specs.Found.{Grows}
use Rattle.correlation_files.specs.Outcomes.{Outcome, IsOutcome, refusals_in}
use Rattle.correlation_files.specs.Places.{AreOfDocument}
use Rattle.correlation_files.specs.declared.found.Found.{Found}

-- For some places of a document it's so. The builder had refused the texts `before`, and then has refused the texts `after`: behind the
-- former those at these places, and nothing else.
pub record ForDocument (limits : Limits) (ps : List Pipeline) (document : Answer) (before after : List (List ℕ)) (ended : Bool) (Says : Unbuilt → Type 0) : Type 0 where
  pub unbuilt : Unbuilt
  pub follows : after ≡ before ++ refused_texts unbuilt
  pub are : AreOfDocument limits ps ended (unbuilt, document)
  pub says : Says unbuilt

-- for some places of each of these documents it's so
pub record ForDocuments (limits : Limits) (ps : List Pipeline) (documents : List Answer) (before after : List (List ℕ)) (ended : Bool) (Says : List (Unbuilt × Answer) → Type 0) : Type 0 where
  pub placed : List (Unbuilt × Answer)
  pub of : list_map (λ d. d.1) placed ≡ documents
  pub follows : after ≡ before ++ file_texts (list_map (λ d. d.0) placed)
  pub are : EachOf (AreOfDocument limits ps ended) placed
  pub says : Says placed

-- documents of a file, with their places beside them, were read: what was found grew by their outcomes, and these are the refusals among
-- them
pub record AreRead (limits : Limits) (ps : List Pipeline) (schema : Schema) (file : List ℕ) (placed : List (Unbuilt × Answer)) (refusals : List Refusal) (old new : Found) : Type 0 where
  pub outcomes : List Outcome
  pub each : AllZip (IsOutcome limits ps schema) placed outcomes
  pub refused : refusals ≡ refusals_in outcomes
  pub grows : Grows schema file outcomes old new
