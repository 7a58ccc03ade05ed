-- What a detection engineer sees from outside: `run` of a rule and `query` of what `convert` wrote for it answer the same.
use Rattle.std.specs.Prelude.{◌≡◌, ◌⊎◌, ℕ, List, [], ◌∷◌, ◌++◌, Option, Some, IfSome, Ok}
use Rattle.answer_writer.specs.Input.{World}
use Rattle.answer_writer.specs.Parts.{Share, Gains}
use Rattle.answer_writer.specs.State.{Inputs, Streams}
use Rattle.event_schema.specs.Lists.{EachOf, SomeOf, HasElement}
use Rattle.query_lang.specs.RefusedPlaces.{IsAmong}
use Rattle.pipeline_run.specs.Chained.{Makes}
use Rattle.pipeline_run.specs.Priorities.{by_priority}
use Rattle.pipeline_files.specs.Places.{pipeline_expressions}
use Rattle.pipeline_model.specs.declared.pipeline.Pipeline.{Pipeline}
use Rattle.rule_regex.specs.Unbuilt.{Unbuilt, IsOneOf, IsOfItem}
use Rattle.rule_detections.specs.declared.expression.Expression.{Expression}
use Rattle.rule_model.specs.Expressions.{document_expressions}
use Rattle.rule_convert.specs.declared.backend_name.BackendName.{BackendName}
use Rattle.rule_convert.specs.declared.backend_name.BackendName.TheVariants as backends
use Rattle.rule_run.specs.Files.{single_tree}
use Rattle.rule_run.specs.Runs.{AreDocuments}
use Rattle.sig_base.specs.Judged.{refusal as refusal_at}
use Rattle.sig_base.specs.declared.limits.Limits.{Limits}
use Rattle.sig_base.specs.declared.refusal.Refusal.{Refusal}
use Rattle.sigma_serve.specs.Languages.{patterns}
use Rattle.sigma_serve.specs.Queried.{IsOfBuilder}
use Rattle.sigma_serve.specs.Reports.{refusal_share}
use Rattle.sigma_serve.specs.RuleFiles.{contents}
use Rattle.sigma_serve.specs.Served.{RefusedTexts, Serves, IsAnswered, Tells}
use Rattle.sigma_serve.specs.UnderPipelines.{AreReported, ArePiped}
use Rattle.sigma_serve.specs.Words.{IsAccepted}
use Rattle.sigma_serve.specs.declared.request.Request.TheVariants.{Convert, Run, Query}
use Rattle.sigma_serve.specs.declared.status.Status.{Status}
use Rattle.sigma_serve.specs.declared.status.Status.TheVariants.{Done, Found}
use Rattle.yaml_tree.specs.Tree.{Tree, Answer, tree, refusal}

-- A call of the program that came to its end, in a world that its inputs told: its words, the texts that its builder refused, how it
-- ended, what its inputs told before it and tell after it, and its streams before it and after it.
pub record Call (limits : Limits) : Type 0 where
  pub words : List (List ℕ)
  pub texts : RefusedTexts
  pub status : Status
  pub before : Inputs
  pub after : Inputs
  pub old : Streams
  pub new : Streams
  pub serves : Serves limits texts words status before after old new
  pub answered : IsAnswered status
  pub world : World
  pub told : Tells words before world

-- The calls `convert --backend B --schema S [--pipeline P] RULE`, `run --schema S [--pipeline P] RULE` and `query --backend B --schema S QUERY`, where the
-- first two name the same file P, or both none, and the file QUERY has what the first of them wrote. Each of them read the same bytes of S, the
-- first two the same bytes of RULE and of P, and the last two the same events. RULE has one document, and `convert` refused nothing: so this is a
-- rule, P is pipelines, and what they make of the rule, by their priority, has a query.
pub record AreOfRule (limits : Limits) (backend : BackendName) (convert run query : Call limits) : Type 0 where
  pub schema : List ℕ
  pub pipelines : Option (List ℕ)
  pub rule : List ℕ
  pub file : List ℕ
  pub converts : IsAccepted convert.words (Convert backend (Some schema) pipelines (rule ∷ []))
  pub runs : IsAccepted run.words (Run (Some schema) pipelines rule)
  pub asks : IsAccepted query.words (Query backend schema file)
  pub run_schema : contents run.world.files schema ≡ contents convert.world.files schema
  pub query_schema : contents query.world.files schema ≡ contents convert.world.files schema
  pub run_pipelines : IfSome pipelines (λ name. contents run.world.files name ≡ contents convert.world.files name)
  pub run_rule : contents run.world.files rule ≡ contents convert.world.files rule
  pub query_events : query.world.events ≡ run.world.events
  pub document : (d : Answer) × AreDocuments limits (contents convert.world.files rule) (d ∷ [])
  pub done : convert.status ≡ Done
  pub start : List ℕ
  pub stood : convert.old.out ≡ Some start
  pub wrote : convert.new.out ≡ Some (start ++ contents query.world.files file)

-- both wrote the same on each stream, and ended alike
pub record AnswersAlike {limits : Limits} (run query : Call limits) : Type 0 where
  pub share : Share
  pub run_wrote : Gains share run.old run.new
  pub query_wrote : Gains share query.old query.new
  pub status : query.status ≡ run.status

-- all that was answered is that the query of this file is refused, with 47 or 48, for a regular expression that the builder refused in this call
pub record RefusesPattern {limits : Limits} (backend : BackendName) (file : List ℕ) (query : Call limits) : Type 0 where
  pub refusal : Refusal
  pub gained : List (List ℕ)
  pub follows : query.texts.after ≡ query.texts.before ++ gained
  pub of : IsOfBuilder (patterns backend (contents query.world.files file)) gained refusal
  pub wrote : Gains (refusal_share file refusal) query.old query.new
  pub status : query.status ≡ Found

-- a regular expression of the one document of a file: of a value of it, or of an item of what these pipelines make of the rule that it is
abbrev pub IsOfSingle : Limits → List Pipeline → List ℕ → Expression → Type 0
IsOfSingle limits ps bytes expression =
    (documents : List Answer) × AreDocuments limits bytes documents × (top : Tree) × (single_tree documents ≡ Ok top)
    × (IsOneOf (document_expressions limits top) expression ⊎ IsOfItem (Makes limits ps) top expression)

-- All that was answered is that the rule of this file isn't run, with 48, at the place of a regular expression that the builder refused in this
-- call: one of the rule, or of what the pipelines of the file that is named, or none, make of it by their priority.
pub record RefusesExpression {limits : Limits} (pipelines : Option (List ℕ)) (rule : List ℕ) (run : Call limits) : Type 0 where
  pub piped : List Unbuilt
  pub ps : List Pipeline
  pub are : ArePiped limits piped pipelines run.world ps
  pub expression : Expression
  pub of : IsOfSingle limits (by_priority ps) (contents run.world.files rule) expression
  pub gained : List (List ℕ)
  pub follows : run.texts.after ≡ run.texts.before ++ gained
  pub among : IsAmong expression.text gained
  pub wrote : Gains (refusal_share rule (refusal_at 48 expression.place)) run.old run.new
  pub status : run.status ≡ Found

-- a regular expression of an item that a step of a document adds
abbrev pub IsOfDocument : Limits → Answer → Expression → Type 0
IsOfDocument limits (tree t) expression = IsOneOf (pipeline_expressions limits t) expression
IsOfDocument limits (refusal p) expression = ⊥

-- of a document of a file of pipelines
abbrev pub IsOfPipelines : Limits → List ℕ → Expression → Type 0
IsOfPipelines limits bytes expression = (documents : List Answer) × AreDocuments limits bytes documents × SomeOf (λ d. IsOfDocument limits d expression) documents

-- 48 at the place of such a regular expression, whose text is among these
abbrev pub IsOfRefused : Limits → List ℕ → List (List ℕ) → Refusal → Type 0
IsOfRefused limits bytes texts r = (expression : Expression) × IsOfPipelines limits bytes expression × (r ≡ refusal_at 48 expression.place) × IsAmong expression.text texts

-- All that was answered is that the file of pipelines is refused: with one diagnostic for each cause, at least one, and each cause is 48 at the
-- place of a regular expression of this file that the builder refused in this call.
pub record RefusesPipelines {limits : Limits} (pipelines : Option (List ℕ)) (run : Call limits) : Type 0 where
  pub file : List ℕ
  pub named : pipelines ≡ Some file
  pub gained : List (List ℕ)
  pub follows : run.texts.after ≡ run.texts.before ++ gained
  pub causes : List Refusal
  pub some : HasElement causes
  pub of : EachOf (IsOfRefused limits (contents run.world.files file) gained) causes
  pub share : Share
  pub reported : AreReported file causes share
  pub wrote : Gains share run.old run.new
  pub status : run.status ≡ Found

-- `run` and `query` answer alike; or `query` refuses a regular expression of the query; or `run` one of the rule or of what the pipelines make of
-- it, or those of the file of pipelines.
abbrev pub SameLines : Type 0
SameLines = (limits : Limits) (backend : BackendName) (convert run query : Call limits) (calls : AreOfRule limits backend convert run query)
    → AnswersAlike run query ⊎ (RefusesPattern backend calls.file query ⊎ (RefusesExpression calls.pipelines calls.rule run ⊎ RefusesPipelines calls.pipelines run))

-- So they answer alike where the builder refuses nothing in these two calls,
abbrev pub SameWithoutRefusals : Type 0
SameWithoutRefusals = (limits : Limits) (backend : BackendName) (convert run query : Call limits) → AreOfRule limits backend convert run query
    → run.texts.after ≡ run.texts.before → query.texts.after ≡ query.texts.before → AnswersAlike run query

-- and by the backend of Lucene, whose queries have no regular expressions, where it refuses nothing in the call of `run`.
abbrev pub SameByLucene : Type 0
SameByLucene = (limits : Limits) (convert run query : Call limits) → AreOfRule limits backends.Lucene convert run query
    → run.texts.after ≡ run.texts.before → AnswersAlike run query
