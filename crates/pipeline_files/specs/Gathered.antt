-- What reading documents one after another gives, with the places at which their regular expressions aren't built.
use Rattle.std.specs.Prelude.{◌≡◌, ⊤, ℕ, Bool, List, [], ◌∷◌, ◌++◌, map as list_map, Result, Ok, Err}
use Rattle.std.specs.List.{AllZip}
use Rattle.event_schema.specs.Lists.{EachOf, HasElement}
use Rattle.rule_regex.specs.Unbuilt.{Unbuilt, refused_texts}
use Rattle.sig_base.specs.declared.limits.Limits.{Limits}
use Rattle.sig_base.specs.declared.refusal.Fault.{Fault}
use Rattle.sig_base.specs.declared.refusal.Fault.TheVariants as faults
use Rattle.sig_base.specs.declared.refusal.Place.{Place}
use Rattle.sig_base.specs.declared.refusal.Refusal.{Refusal}
use Rattle.yaml_tree.specs.Tree.{Answer}
use Rattle.pipeline_model.specs.declared.pipeline.Pipeline.{Pipeline}
use Rattle.pipeline_files.specs.Outcomes.{Outcome, IsOutcome, pipelines_in, refusals_in}
use Rattle.pipeline_files.specs.Places.{AreOfDocument, file_texts}
use Rattle.pipeline_files.specs.Read.{Answers}
use Rattle.pipeline_files.specs.declared.files.FileFault.{FileFault}
use Rattle.pipeline_files.specs.declared.files.FileFault.TheVariants.{Refused}

-- ---- one document

-- its outcome; want of memory is free
abbrev pub Gives : List Place → Limits → Answer → Result Pipeline Fault → Type 0
Gives unbuilt limits d (Ok p) = IsOutcome unbuilt limits d (Ok p)
Gives unbuilt limits d (Err (faults.Refused r)) = IsOutcome unbuilt limits d (Err r)
Gives unbuilt limits d (Err faults.Memory) = ⊤

-- For some places of a document it's so. The builder had refused the texts `before`, and then has refused the texts `after`: behind the
-- former those at these places, and nothing else.
pub record ForDocument (limits : Limits) (document : Answer) (before after : List (List ℕ)) (ended : Bool) (Says : Unbuilt → Type 0) : Type 0 where
  pub unbuilt : Unbuilt
  pub follows : after ≡ before ++ refused_texts unbuilt
  pub are : AreOfDocument limits ended (unbuilt, document)
  pub says : Says unbuilt

-- the pipeline that was read, and the refusal for which none was
abbrev pub read_of : Result Pipeline Fault → List Pipeline
read_of (Ok p) = p ∷ []
read_of (Err e) = []

abbrev pub refused_of : Result Pipeline Fault → List Refusal
refused_of (Ok p) = []
refused_of (Err (faults.Refused r)) = r ∷ []
refused_of (Err faults.Memory) = []

-- ---- several documents, one after another

-- of these documents, with their places beside them, these are the pipelines and the refusals
pub record AreGathered (limits : Limits) (placed : List (Unbuilt × Answer)) (ps : List Pipeline) (refusals : List Refusal) : Type 0 where
  pub outcomes : List Outcome
  pub each : AllZip (λ d outcome. IsOutcome d.0.values limits d.1 outcome) placed outcomes
  pub are_pipelines : ps ≡ pipelines_in outcomes
  pub are_refusals : refusals ≡ refusals_in outcomes

-- for some places of each of them it's so
pub record ForDocuments (limits : Limits) (documents : List Answer) (before after : List (List ℕ)) (ended : Bool) (Says : List (Unbuilt × Answer) → Type 0) : Type 0 where
  pub placed : List (Unbuilt × Answer)
  pub of : list_map (λ d. d.1) placed ≡ documents
  pub follows : after ≡ before ++ file_texts (list_map (λ d. d.0) placed)
  pub are : EachOf (AreOfDocument limits ended) placed
  pub says : Says placed

-- all are pipelines, unless there are refusals
abbrev pub verdict_of : List Pipeline → List Refusal → Result (List Pipeline) FileFault
verdict_of ps [] = Ok ps
verdict_of ps (r ∷ rs) = Err (Refused (r ∷ rs))

-- the documents' pipelines are answered, or their refusals
abbrev pub AreAnswered : Limits → List (Unbuilt × Answer) → Result (List Pipeline) FileFault → Type 0
AreAnswered limits placed result =
    Answers (λ ps. AreGathered limits placed ps []) (λ causes. HasElement causes × (ps : List Pipeline) × AreGathered limits placed ps causes) result

-- a file's one cause; want of memory is free
abbrev pub IsOneCause : Refusal → FileFault → Type 0
IsOneCause r fault = Answers (λ ps. ⊥) (λ causes. causes ≡ r ∷ []) (Err fault)
