-- Laws of the answers: there is exactly one to each document, file and request, and the query of each rule means the rule.
use Rattle.std.specs.Prelude.{◌≡◌, ◌↔◌, ◌++◌, ℕ, false, List, Option, None, Some, IfSome, Err}
use Rattle.answer_writer.specs.EventLines.{EachLine}
use Rattle.answer_writer.specs.Input.{World}
use Rattle.answer_writer.specs.Parts.{Share, Part, NoneOfEvents}
use Rattle.correlation_files.specs.Found.{Named}
use Rattle.event_read.specs.SchemaOf.{schema_of}
use Rattle.event_schema.specs.Lists.{EachOf}
use Rattle.event_schema.specs.Schemas.{IsSchema}
use Rattle.event_schema.specs.declared.schema.Schema.{Schema}
use Rattle.generate_run.specs.Lines.{IsGenerated}
use Rattle.pipeline_run.specs.Kept.{IsWholePipeline}
use Rattle.pipeline_files.specs.Outcomes.{AreCauses}
use Rattle.pipeline_model.specs.declared.pipeline.Pipeline.{Pipeline}
use Rattle.query_lang.specs.RefusedPlaces.{AreOfPatterns}
use Rattle.rule_regex.specs.Unbuilt.{Unbuilt}
use Rattle.rule_model.specs.Plain.{PlainRule}
use Rattle.rule_model.specs.Rules.{lone_refusal, IsLoneRule}
use Rattle.rule_convert.specs.declared.backend_name.BackendName.{BackendName}
use Rattle.rule_run.specs.Runs.{IsNotRun}
use Rattle.sig_base.specs.declared.limits.Limits.{Limits}
use Rattle.sig_base.specs.declared.refusal.Place.{Place}
use Rattle.sig_base.specs.declared.refusal.Refusal.{Refusal}
use Rattle.sigma_serve.specs.Answers.{Places, AnswersAt, Answers}
use Rattle.sigma_serve.specs.Check.{CheckGives}
use Rattle.sigma_serve.specs.Convert.{ConvertGives, ConvertMeans}
use Rattle.sigma_serve.specs.Converted.{Converted, RulesAt}
use Rattle.sigma_serve.specs.Correlated.{CorrelatedBy}
use Rattle.sigma_serve.specs.Languages.{patterns, AskedBy, AskedAt}
use Rattle.sigma_serve.specs.Ran.{RunGives, RanUnder, PipedRun, Ran}
use Rattle.sigma_serve.specs.RuleFiles.{ByTree, ByUnbuilt, DocumentGives, FileGivesAt, contents}
use Rattle.sigma_serve.specs.UnderSchema.{BySchema}
use Rattle.sigma_serve.specs.declared.request.Request.{Request}
use Rattle.query_tokens.specs.Places.{CodeAt}
use Rattle.yaml_tree.specs.Tree.{Tree, Answer}

-- each tree is answered, in a file of each name
abbrev pub EachTree : ByTree → Type 0
EachTree by = (name : List ℕ) (t : Tree) → (share : Share) × by name t share

abbrev pub EachDocument : ByUnbuilt → Type 0
EachDocument by = (unbuilt : Unbuilt) (name : List ℕ) (document : Answer) → (share : Share) × DocumentGives (by unbuilt) name document share

abbrev pub EachFile : ByUnbuilt → Type 0
EachFile by = (limits : Limits) (unbuilt : List Unbuilt) (name bytes : List ℕ) → (share : Share) × FileGivesAt by limits unbuilt name bytes share

-- each world has an answer, under each schema and where none is given
abbrev pub EachUnder : BySchema → Type 0
EachUnder by = (given : Option Schema) (world : World) → (parts : List Part) × by given world parts

-- said of the rule files that are converted, of the one that is run, and of the lines of events that are answered
abbrev pub EachConverted : Type 0
EachConverted = (backend : BackendName) (limits : Limits) (unbuilt : List (List Unbuilt)) (rules : List (List ℕ)) (ps : List Pipeline) → EachUnder (RulesAt (ConvertGives backend limits) limits unbuilt rules ps)

abbrev pub EachRan : Type 0
EachRan = (limits : Limits) (unbuilt : Unbuilt) (file : List ℕ) (ps : List Pipeline) → EachUnder (RanUnder limits unbuilt file ps)

abbrev pub EachSelected : Type 0
EachSelected = (schema : Schema) (rule : PlainRule) → EachLine (RunGives schema rule)

-- said of the query that is asked, whichever of its regular expressions the builder refused, of an answer that is cut off
abbrev pub EachQueried : Type 0
EachQueried = (backend : BackendName) (limits : Limits) (file : List ℕ) (before after gained : List (List ℕ)) → after ≡ before ++ gained
    → (given : Option Schema) (world : World) → AreOfPatterns (patterns backend (contents world.files file)) gained
    → (parts : List Part) × AskedBy backend limits file before after false given world parts

-- said of what is answered once the files are read whose rules are correlated
abbrev pub EachCorrelated : Type 0
EachCorrelated = (limits : Limits) (schema : Schema) (rules : List PlainRule) (correlations : List Named) (world : World)
    → (parts : List Part) × CorrelatedBy limits schema rules correlations world parts

-- each request has an answer in each world, and one that is cut off before anything is built
abbrev pub EachAnswer : Type 0
EachAnswer = (limits : Limits) (refused : List (List ℕ)) (request : Request) (world : World) → (parts : List Part) × Answers limits refused refused false request world parts

-- each number and number of events has a line, and one line only
abbrev pub EachGenerated : Type 0
EachGenerated = (seed events : ℕ) → (line : List ℕ) × IsGenerated seed events line

abbrev pub OneGenerated : Type 0
OneGenerated = (seed events : ℕ) (line other : List ℕ) → IsGenerated seed events line → IsGenerated seed events other → line ≡ other

-- exactly where a file isn't run, its answer asks for no events
abbrev pub AsksUnlessUnrun : Type 0
AsksUnlessUnrun = (limits : Limits) (unbuilt : Unbuilt) (file : List ℕ) (ps : List Pipeline) (given : Option Schema) (world : World) (parts : List Part) → RanUnder limits unbuilt file ps given world parts
    → (NoneOfEvents parts ↔ ((r : Refusal) × IsNotRun unbuilt limits ps given (contents world.files file) r))

-- and neither does an answer whose schema is refused
abbrev pub AsksNoneUnschemed : Type 0
AsksNoneUnschemed = (limits : Limits) (piped : List Unbuilt) (unbuilt : Unbuilt) (schema file : List ℕ) (pipelines : Option (List ℕ)) (world : World) (parts : List Part) (code : ℕ)
    → schema_of limits (contents world.files schema) ≡ Err code → Ran limits piped unbuilt (Some schema) pipelines file world parts → NoneOfEvents parts

-- and one whose pipelines are refused
abbrev pub AsksNoneUnpiped : Type 0
AsksNoneUnpiped = (limits : Limits) (piped : List Unbuilt) (unbuilt : Unbuilt) (pipelines file : List ℕ) (given : Option Schema) (world : World) (parts : List Part) (causes : List Refusal)
    → AreCauses piped limits (contents world.files pipelines) causes → PipedRun limits piped unbuilt (Some pipelines) file given world parts → NoneOfEvents parts

-- each tree is answered in one way
abbrev pub OneTree : ByTree → Type 0
OneTree by = (name : List ℕ) (t : Tree) (a b : Share) → by name t a → by name t b → a ≡ b

abbrev pub OneDocument : ByUnbuilt → Type 0
OneDocument by = (unbuilt : Unbuilt) (name : List ℕ) (document : Answer) (a b : Share) → DocumentGives (by unbuilt) name document a → DocumentGives (by unbuilt) name document b → a ≡ b

abbrev pub OneFile : ByUnbuilt → Type 0
OneFile by = (limits : Limits) (unbuilt : List Unbuilt) (name bytes : List ℕ) (a b : Share) → FileGivesAt by limits unbuilt name bytes a → FileGivesAt by limits unbuilt name bytes b → a ≡ b

-- each world has one answer, under each schema and where none is given
abbrev pub OneUnder : BySchema → Type 0
OneUnder by = (given : Option Schema) (world : World) (a b : List Part) → by given world a → by given world b → a ≡ b

-- said of the query that is asked, for each list of places that are refused for their regular expressions
abbrev pub OneQueried : Type 0
OneQueried = (backend : BackendName) (limits : Limits) (file : List ℕ) (places : List CodeAt) → OneUnder (AskedAt backend limits file places)

-- each request has one answer in each world, for each such places
abbrev pub OneAnswer : Type 0
OneAnswer = (limits : Limits) (places : Places) (request : Request) (world : World) (a b : List Part) → AnswersAt limits places request world a → AnswersAt limits places request world b → a ≡ b

-- said of both commands that answer trees, of each backend, under all pipelines and under each schema
abbrev pub OfBoth : (ByUnbuilt → Type 0) → Type 0
OfBoth says = (limits : Limits) → says (CheckGives limits) × ((backend : BackendName) (ps : List Pipeline) (given : Option Schema) → says (ConvertGives backend limits ps given))

-- the query of each rule that `convert` answers in a file means the rule that whole pipelines make
abbrev pub QueriesMean : Type 0
QueriesMean = (backend : BackendName) (limits : Limits) (ps : List Pipeline) (given : Option Schema) → EachOf IsWholePipeline ps → IfSome given IsSchema
    → (unbuilt : List Unbuilt) (name bytes : List ℕ) (share : Share)
    → FileGivesAt (ConvertGives backend limits ps given) limits unbuilt name bytes share → FileGivesAt (ConvertMeans backend limits ps given) limits unbuilt name bytes share

-- and so does that of each rule in its whole answer
abbrev pub AnswersMean : Type 0
AnswersMean = (backend : BackendName) (limits : Limits) (piped : List Unbuilt) (unbuilt : List (List Unbuilt)) (schema pipelines : Option (List ℕ)) (rules : List (List ℕ)) (world : World) (parts : List Part)
    → Converted (ConvertGives backend limits) limits piped unbuilt schema pipelines rules world parts → Converted (ConvertMeans backend limits) limits piped unbuilt schema pipelines rules world parts

-- a tree that isn't refused is a rule, no correlation, and one rule only
abbrev pub EachLone : Type 0
EachLone = (unbuilt : List Place) (limits : Limits) (t : Tree) → lone_refusal unbuilt limits t ≡ None → (rule : PlainRule) × IsLoneRule unbuilt limits t rule

abbrev pub OneLone : Type 0
OneLone = (u v : List Place) (limits : Limits) (t : Tree) (a b : PlainRule) → IsLoneRule u limits t a → IsLoneRule v limits t b → a ≡ b
