-- The answer to a command that a file of pipelines may be named for: it's read behind the schema, and before all else.
use Rattle.std.specs.Prelude.{◌≡◌, ℕ, Bool, List, [], ◌∷◌, ◌++◌, Option, None, Some}
use Rattle.answer_writer.specs.Each.{AllShares}
use Rattle.answer_writer.specs.Input.{World}
use Rattle.answer_writer.specs.Parts.{Share, Part, no_share}
use Rattle.event_schema.specs.declared.schema.Schema.{Schema}
use Rattle.pipeline_run.specs.Priorities.{by_priority}
use Rattle.pipeline_files.specs.Outcomes.{ArePipelines, AreCauses}
use Rattle.pipeline_files.specs.Places.{AreOfPipelines, file_texts}
use Rattle.pipeline_model.specs.declared.pipeline.Pipeline.{Pipeline}
use Rattle.rule_regex.specs.Unbuilt.{Unbuilt}
use Rattle.sig_base.specs.declared.limits.Limits.{Limits}
use Rattle.sig_base.specs.declared.refusal.Refusal.{Refusal}
use Rattle.sigma_serve.specs.Reports.{refusal_share}
use Rattle.sigma_serve.specs.RuleFiles.{contents}
use Rattle.sigma_serve.specs.UnderSchema.{ByBuilder, file_part}

-- one diagnostic about each of these causes, in their order
abbrev pub AreReported : List ℕ → List Refusal → Share → Type 0
AreReported file causes share = AllShares (λ r one. one ≡ refusal_share file r) causes share

-- The answer in a world. No file of pipelines is named: it's the answer where there are none. Or the bytes of the named file are pipelines:
-- nothing is answered of that file, and then it's the answer under these, by their priority. Or they're refused: each cause is answered of
-- that file, and nothing else. Regular expressions of the file aren't built at these places.
pub data UnderPipelines (by : List Pipeline → World → List Part → Type 0) (limits : Limits) (piped : List Unbuilt) (file : Option (List ℕ)) (world : World) (parts : List Part) : Type 0 where
  unpiped : file ≡ None → by [] world parts → UnderPipelines by limits piped file world parts
  piped_by : (name : List ℕ) → file ≡ Some name → (ps : List Pipeline) → ArePipelines piped limits (contents world.files name) ps
      → (others : List Part) → by (by_priority ps) world others → parts ≡ file_part name no_share ∷ others → UnderPipelines by limits piped file world parts
  not_piped : (name : List ℕ) → file ≡ Some name → (causes : List Refusal) → AreCauses piped limits (contents world.files name) causes
      → (share : Share) → AreReported name causes share → parts ≡ file_part name share ∷ [] → UnderPipelines by limits piped file world parts

-- ---- the file

-- these are its pipelines; there are none where no file is named
abbrev pub ArePiped : Limits → List Unbuilt → Option (List ℕ) → World → List Pipeline → Type 0
ArePiped limits piped None world ps = ps ≡ []
ArePiped limits piped (Some name) world ps = ArePipelines piped limits (contents world.files name) ps

-- it's refused
abbrev pub IsUnpiped : Limits → List Unbuilt → Option (List ℕ) → World → Type 0
IsUnpiped limits piped None world = ⊥
IsUnpiped limits piped (Some name) world = (causes : List Refusal) × AreCauses piped limits (contents world.files name) causes

-- what these places of it are
abbrev pub ArePipedPlaces : Limits → Option (List ℕ) → Bool → World → List Unbuilt → Type 0
ArePipedPlaces limits None ended world piped = piped ≡ []
ArePipedPlaces limits (Some name) ended world piped = AreOfPipelines limits (contents world.files name) ended piped

-- ---- answers for some such places, where the builder had refused the texts `before`, and then has refused the texts `after`

-- What is answered by pipelines and by the builder.
abbrev pub ByPipelines : Type 1
ByPipelines = List Pipeline → ByBuilder

-- Behind the former are those of the file of pipelines, and then those of what is answered under them; none where the file is refused.
pub record PipedBuilder (by : ByPipelines) (limits : Limits) (file : Option (List ℕ)) (before after : List (List ℕ)) (ended : Bool) (given : Option Schema) (world : World) (parts : List Part) : Type 0 where
  pub piped : List Unbuilt
  pub middle : List (List ℕ)
  pub follows : middle ≡ before ++ file_texts piped
  pub are : ArePipedPlaces limits file ended world piped
  pub answer : UnderPipelines (λ ps. by ps middle after ended given) limits piped file world parts
  pub still : IsUnpiped limits piped file world → after ≡ middle

-- The same of places: what is so of those behind the file, under its pipelines.
pub record PipedPlaces (Are : List Pipeline → List (List ℕ) → List (List ℕ) → Type 0) (limits : Limits) (file : Option (List ℕ)) (before after : List (List ℕ)) (ended : Bool) (world : World) (piped : List Unbuilt) : Type 0 where
  pub middle : List (List ℕ)
  pub follows : middle ≡ before ++ file_texts piped
  pub are : ArePipedPlaces limits file ended world piped
  pub behind : (ps : List Pipeline) → ArePiped limits piped file world ps → Are (by_priority ps) middle after
  pub still : IsUnpiped limits piped file world → after ≡ middle
