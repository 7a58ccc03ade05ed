-- What each command answers, part by part, and what it reads.
use Rattle.std.specs.Prelude.{◌≡◌, ◌⊎◌, ℕ, Bool, true, false, List, [], ◌∷◌, ◌++◌, ⊤, Option, None, Some, Ok}
use Rattle.answer_writer.specs.Each.{EachPart}
use Rattle.answer_writer.specs.Input.{World, Needs}
use Rattle.answer_writer.specs.Parts.{Part}
use Rattle.event_read.specs.SchemaOf.{schema_of}
use Rattle.event_schema.specs.declared.schema.Schema.{Schema}
use Rattle.event_schema.specs.declared.schema.Time.{Time}
use Rattle.pipeline_files.specs.Paired.{paired}
use Rattle.pipeline_model.specs.declared.pipeline.Pipeline.{Pipeline}
use Rattle.rule_regex.specs.Unbuilt.{Unbuilt, refused_texts}
use Rattle.rule_run.specs.Runs.{AreOfSingle}
use Rattle.sig_base.specs.declared.limits.Limits.{Limits}
use Rattle.sigma_serve.specs.Check.{CheckGives}
use Rattle.sigma_serve.specs.Convert.{ConvertGives}
use Rattle.sigma_serve.specs.Converted.{Converted}
use Rattle.sigma_serve.specs.Correlated.{CorrelatedAt}
use Rattle.sigma_serve.specs.Generate.{Generated}
use Rattle.sigma_serve.specs.Languages.{AskedAt, AreOfQuery}
use Rattle.sigma_serve.specs.Ran.{Ran}
use Rattle.sigma_serve.specs.RuleFiles.{RuleFileAt, AreOfFiles, all_texts, contents}
use Rattle.sigma_serve.specs.UnderPipelines.{PipedPlaces}
use Rattle.sigma_serve.specs.UnderSchema.{UnderSchema, IsUnschemed}
use Rattle.sigma_serve.specs.declared.request.Request.{Request}
use Rattle.sigma_serve.specs.declared.request.Request.TheVariants.{Check, Convert, Run, Query, Correlate, Generate}
use Rattle.query_tokens.specs.Places.{CodeAt}

-- a file, if one is named, and then the other files
abbrev pub names_with : Option (List ℕ) → List (List ℕ) → List (List ℕ)
names_with None others = others
names_with (Some name) others = name ∷ others

-- the files that a command reads, and whether it reads events
abbrev pub needs_of : Request → Needs
needs_of (Check rules) = record { names = rules; events = false }
needs_of (Convert backend schema pipelines rules) = record { names = names_with schema (names_with pipelines rules); events = false }
needs_of (Run schema pipelines rule) = record { names = names_with schema (names_with pipelines (rule ∷ [])); events = true }
needs_of (Query backend schema query) = record { names = schema ∷ query ∷ []; events = true }
needs_of (Correlate schema pipelines rules) = record { names = schema ∷ names_with pipelines rules; events = true }
needs_of (Generate seed events) = record { names = []; events = false }

-- Where regular expressions of the files of a request aren't built: of each document of the file of pipelines, of each document of each file
-- that is checked, converted or correlated, of the rule that is run, or of the query that is asked.
pub record Places : Type 0 where
  pub pipelines : List Unbuilt
  pub documents : List (List Unbuilt)
  pub rule : Unbuilt
  pub query : List CodeAt

-- the answer to a request, part by part, where regular expressions aren't built at these places
abbrev pub AnswersAt : Limits → Places → Request → World → List Part → Type 0
AnswersAt limits places (Check rules) = EachPart (RuleFileAt (CheckGives limits) limits) (paired [] places.documents rules)
AnswersAt limits places (Convert backend schema pipelines rules) = Converted (ConvertGives backend limits) limits places.pipelines places.documents schema pipelines rules
AnswersAt limits places (Run schema pipelines rule) = Ran limits places.pipelines places.rule schema pipelines rule
AnswersAt limits places (Query backend schema query) = UnderSchema (AskedAt backend limits query places.query) limits (Some schema)
AnswersAt limits places (Correlate schema pipelines rules) = UnderSchema (CorrelatedAt limits places.pipelines places.documents schema pipelines rules) limits (Some schema)
AnswersAt limits places (Generate seed events) = λ world parts. Generated seed events parts

-- no schema's file is named, or it isn't refused
abbrev pub IsSchemed : Limits → Option (List ℕ) → World → Type 0
IsSchemed limits None world = ⊤
IsSchemed limits (Some schema) world = (given : Schema) × (schema_of limits (contents world.files schema) ≡ Ok given)

-- the file is a schema with a time
abbrev pub IsTimed : Limits → List ℕ → World → Type 0
IsTimed limits schema world = (given : Schema) × (schema_of limits (contents world.files schema) ≡ Ok given) × (time : Time) × (given.time ≡ Some time)

-- it's refused as a schema, or has no time
abbrev pub IsUntimed : Limits → List ℕ → World → Type 0
IsUntimed limits schema world =
    IsUnschemed limits (Some schema) world ⊎ ((given : Schema) × (schema_of limits (contents world.files schema) ≡ Ok given) × (given.time ≡ None))

-- What the places are of rule files that are checked, converted or correlated, and of the one that is run, under these pipelines, where the builder had
-- refused the texts `before` and then has refused the texts `after`: behind the former those of these places, document by document, and
-- nothing else.
abbrev pub AreChecked : Limits → Bool → List (List ℕ) → World → Places → List Pipeline → List (List ℕ) → List (List ℕ) → Type 0
AreChecked limits ended rules world places ps before after = (after ≡ before ++ all_texts places.documents) × AreOfFiles limits ps ended world places.documents rules

abbrev pub AreRun : Limits → Bool → List ℕ → World → Places → List Pipeline → List (List ℕ) → List (List ℕ) → Type 0
AreRun limits ended rule world places ps before after = (after ≡ before ++ refused_texts places.rule) × AreOfSingle limits ps (contents world.files rule) ended places.rule

-- These are such places where the builder had refused the texts `before` when the run began, and the texts `after` when it ended or was
-- cut off. Where a schema's file is named that is refused, no other file is read, and the builder refused nothing, nor where correlations
-- are under a schema without a time; where a file of pipelines is named that is refused, no rule file is read. For what is generated no
-- regular expression is built.
abbrev pub ArePlaces : Limits → List (List ℕ) → List (List ℕ) → Bool → Request → World → Places → Type 0
ArePlaces limits before after ended (Check rules) world places = AreChecked limits ended rules world places [] before after
ArePlaces limits before after ended (Convert backend schema pipelines rules) world places =
    (IsSchemed limits schema world → PipedPlaces (AreChecked limits ended rules world places) limits pipelines before after ended world places.pipelines)
    × (IsUnschemed limits schema world → after ≡ before)
ArePlaces limits before after ended (Run schema pipelines rule) world places =
    (IsSchemed limits schema world → PipedPlaces (AreRun limits ended rule world places) limits pipelines before after ended world places.pipelines)
    × (IsUnschemed limits schema world → after ≡ before)
ArePlaces limits before after ended (Query backend schema query) world places =
    ((given : Schema) → schema_of limits (contents world.files schema) ≡ Ok given → AreOfQuery backend limits query before after ended given world places.query)
    × (IsUnschemed limits (Some schema) world → after ≡ before)
ArePlaces limits before after ended (Correlate schema pipelines rules) world places =
    (IsTimed limits schema world → PipedPlaces (AreChecked limits ended rules world places) limits pipelines before after ended world places.pipelines)
    × (IsUntimed limits schema world → after ≡ before)
ArePlaces limits before after ended (Generate seed events) world places = after ≡ before

-- the answer for some such places
abbrev pub Answers : Limits → List (List ℕ) → List (List ℕ) → Bool → Request → World → List Part → Type 0
Answers limits before after ended request world parts =
    (places : Places) × ArePlaces limits before after ended request world places × AnswersAt limits places request world parts
