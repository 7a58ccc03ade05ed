-- The answer to `run`: the events that the rule that pipelines make of a file's matches.
use Rattle.std.specs.Prelude.{◌≡◌, ℕ, Bool, List, [], ◌∷◌, ◌++◌, Option}
use Rattle.answer_writer.specs.EventLines.{ByLine, EventLines}
use Rattle.answer_writer.specs.Input.{World}
use Rattle.answer_writer.specs.Parts.{Part, no_share}
use Rattle.event_schema.specs.declared.schema.Schema.{Schema}
use Rattle.pipeline_model.specs.declared.pipeline.Pipeline.{Pipeline}
use Rattle.rule_regex.specs.Unbuilt.{Unbuilt, refused_texts}
use Rattle.rule_model.specs.Matching.{Matches}
use Rattle.rule_model.specs.Plain.{PlainRule}
use Rattle.rule_run.specs.Runs.{IsRun, IsNotRun, AreOfSingle}
use Rattle.rule_schema.specs.Inferred.{schema_for}
use Rattle.answer_writer.specs.Selected.{Selects}
use Rattle.sig_base.specs.declared.limits.Limits.{Limits}
use Rattle.sig_base.specs.declared.refusal.Refusal.{Refusal}
use Rattle.sigma_serve.specs.Reports.{refusal_share}
use Rattle.sigma_serve.specs.RuleFiles.{contents}
use Rattle.sigma_serve.specs.UnderPipelines.{UnderPipelines}
use Rattle.sigma_serve.specs.UnderSchema.{BySchema, UnderSchema, file_part}

-- what a line of events is answered where a rule is run under a schema
abbrev pub RunGives : Schema → PlainRule → ByLine
RunGives schema rule = Selects schema (λ row. Matches schema.fields row rule)

-- The answer in a world, under the given schema, or else the one that is made of the rule. The file is run as the rule that these pipelines,
-- one after another, make of its own: nothing is answered of the file, and then each line of the events is answered. Or it isn't run: the
-- first cause is answered of it, and no event is read. Regular expressions of the rule aren't built at these places.
pub data RanUnder (limits : Limits) (unbuilt : Unbuilt) (file : List ℕ) (ps : List Pipeline) (given : Option Schema) (world : World) (parts : List Part) : Type 0 where
  runs : (made : PlainRule) → IsRun unbuilt limits ps given (contents world.files file) made
      → (lines : List Part) → EventLines (RunGives (schema_for given made) made) limits world lines → parts ≡ file_part file no_share ∷ lines
      → RanUnder limits unbuilt file ps given world parts
  isnt_run : (r : Refusal) → IsNotRun unbuilt limits ps given (contents world.files file) r → parts ≡ file_part file (refusal_share file r) ∷ []
      → RanUnder limits unbuilt file ps given world parts

-- For some such places, where the builder had refused the texts `before`, and then has refused the texts `after`: behind the former those of
-- these places, and nothing else.
pub record RanBySome (limits : Limits) (file : List ℕ) (ps : List Pipeline) (before after : List (List ℕ)) (ended : Bool) (given : Option Schema) (world : World) (parts : List Part) : Type 0 where
  pub unbuilt : Unbuilt
  pub follows : after ≡ before ++ refused_texts unbuilt
  pub are : AreOfSingle limits ps (contents world.files file) ended unbuilt
  pub ran : RanUnder limits unbuilt file ps given world parts

-- under the pipelines of a file, if one is named
abbrev pub PipedRun : Limits → List Unbuilt → Unbuilt → Option (List ℕ) → List ℕ → BySchema
PipedRun limits piped unbuilt pipelines file given = UnderPipelines (λ ps. RanUnder limits unbuilt file ps given) limits piped pipelines

-- the rule of a file is run under the schema that is named, or else under the one that is made of the rule
abbrev pub Ran : Limits → List Unbuilt → Unbuilt → Option (List ℕ) → Option (List ℕ) → List ℕ → World → List Part → Type 0
Ran limits piped unbuilt schema pipelines file = UnderSchema (PipedRun limits piped unbuilt pipelines file) limits schema
