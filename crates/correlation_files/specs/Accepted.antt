-- What is made of a document that isn't refused, as the code keeps it.
use Rattle.std.specs.Prelude.{◌≡◌, ⊤, ◌≤◌, ℕ, List, [], ◌∷◌, length, Option, Some, None, Result, Ok, Err}
use Rattle.correlation_read.specs.Binding.{names_of_head, names_of_plain}
use Rattle.correlation_read.specs.Correlations.{IsCorrelation, IsSpan, correlation_view, correlation_with}
use Rattle.correlation_read.specs.declared.correlation.Correlation.{Correlation}
use Rattle.detection_eval.specs.Ready as ready
use Rattle.event_schema.specs.declared.schema.Schema.{Schema}
use Rattle.pipeline_run.specs.Chained.{run_pipelines, Makes}
use Rattle.pipeline_model.specs.declared.pipeline.Pipeline.{Pipeline}
use Rattle.rule_regex.specs.Building.{Builds}
use Rattle.rule_head.specs.Heads.{rest_of}
use Rattle.rule_model.specs.Expressions.{rule_expressions}
use Rattle.rule_model.specs.Plain.{PlainRule, rule_view}
use Rattle.rule_schema.specs.Inferred.{unfit_refusal}
use Rattle.sig_base.specs.declared.limits.Limits.{Limits}
use Rattle.sig_base.specs.declared.refusal.Fault.{Fault}
use Rattle.sig_base.specs.declared.refusal.Fault.TheVariants as faults
use Rattle.sig_base.specs.declared.refusal.Refusal.{Refusal}
use Rattle.yaml_tree.specs.Tree.{Tree}
use Rattle.correlation_files.specs.Found.{IsBareOf, IsBareCorrelation, Grows}
use Rattle.correlation_files.specs.Outcomes.{Outcome, Runs, Correlates, Refuses}
use Rattle.correlation_files.specs.declared.accepted.Accepted.{Accepted}
use Rattle.correlation_files.specs.declared.accepted.Accepted.TheVariants as accepted
use Rattle.correlation_files.specs.declared.accepted.ReadyRule.{ReadyRule}
use Rattle.correlation_files.specs.declared.found.Found.{Found}

-- ---- rules

-- this rule is made ready for the schema, and the head beside it has its names
pub record IsReady (schema : Schema) (rule : PlainRule) (r : ReadyRule) : Type 0 where
  pub same : rule_view r.rule ≡ rule
  pub ready : ready.StandsFor schema.fields rule r.ready
  pub names : names_of_head r.head ≡ names_of_plain rule.head

abbrev pub IsReadyRule : Schema → PlainRule → Accepted → Type 0
IsReadyRule schema rule (accepted.Rule r) = IsReady schema rule r
IsReadyRule schema rule (accepted.Correlation x) = ⊥

-- there is this cause to refuse; want of memory is free
abbrev pub IsStopped : Option Refusal → Result Accepted Fault → Type 0
IsStopped cause (Ok a) = ⊥
IsStopped cause (Err (faults.Refused r)) = cause ≡ Some r
IsStopped cause (Err faults.Memory) = ⊤

-- no rule is made, for this refusal or for want of memory
abbrev pub IsUnmade : Result PlainRule Refusal → Result Accepted Fault → Type 0
IsUnmade chained (Ok a) = ⊥
IsUnmade chained (Err (faults.Refused r)) = chained ≡ Err r
IsUnmade chained (Err faults.Memory) = ⊤

-- what making a rule ready answers that has to fit the schema: it doesn't fit, and nothing is built; or it does, and its regular expressions
-- are built
pub data IsFitted (schema : Schema) (rule : PlainRule) (before after : List (List ℕ)) (result : Result Accepted Fault) : Type 0 where
  doesnt_fit : IsStopped (unfit_refusal (Some schema) rule) result → after ≡ before → IsFitted schema rule before after result
  does_fit : unfit_refusal (Some schema) rule ≡ None → Builds (IsReadyRule schema rule) (rule_expressions rule) before after result → IsFitted schema rule before after result

-- what making the rule ready answers that pipelines make of a rule: they make none, and nothing is built; or they make one
pub data IsChained (limits : Limits) (ps : List Pipeline) (schema : Schema) (rule : PlainRule) (before after : List (List ℕ)) (result : Result Accepted Fault) : Type 0 where
  makes_none : IsUnmade (run_pipelines limits ps rule) result → after ≡ before → IsChained limits ps schema rule before after result
  makes_one : (made : PlainRule) → Makes limits ps rule made → IsFitted schema made before after result → IsChained limits ps schema rule before after result

-- ---- correlations

-- the correlation lists at most 64 rules, and its timespan is from 1 to 2^100 nanoseconds
pub record IsSound (x : Correlation) : Type 0 where
  pub few : length x.rules ≤ 64
  pub span : IsSpan x.span

-- it's the correlation that the tree is, without the entries of its head that decide nothing
abbrev pub IsReadCorrelation : Tree → Accepted → Type 0
IsReadCorrelation t (accepted.Rule r) = ⊥
IsReadCorrelation t (accepted.Correlation x) = IsCorrelation t (correlation_with (rest_of t) (correlation_view x)) × IsSound x

-- ---- a document

-- it's kept for this outcome of the document
abbrev pub IsAccepted : Schema → Outcome → Accepted → Type 0
IsAccepted schema (Runs made) (accepted.Rule r) = IsBareOf made r.rule × ready.StandsFor schema.fields made r.ready × (names_of_head r.head ≡ names_of_plain made.head)
IsAccepted schema (Runs made) (accepted.Correlation x) = ⊥
IsAccepted schema (Correlates c) (accepted.Rule r) = ⊥
IsAccepted schema (Correlates c) (accepted.Correlation x) = IsBareCorrelation c x × IsSound x
IsAccepted schema (Refuses r) a = ⊥

-- some outcome is so, for which something is kept, or with which the document is refused; want of memory is free
abbrev pub Gives : (Outcome → Type 0) → Schema → Result Accepted Fault → Type 0
Gives Is schema (Ok a) = (outcome : Outcome) × Is outcome × IsAccepted schema outcome a
Gives Is schema (Err (faults.Refused r)) = Is (Refuses r)
Gives Is schema (Err faults.Memory) = ⊤

-- the refusal of a document
abbrev pub refused_of : Result Accepted Fault → List Refusal
refused_of (Ok a) = []
refused_of (Err (faults.Refused r)) = r ∷ []
refused_of (Err faults.Memory) = []

-- what was found grew by what is kept of a document of a file
abbrev pub Keeps : List ℕ → Result Accepted Fault → Found → Found → Type 0
Keeps file (Ok a) old new = (schema : Schema) (outcome : Outcome) → IsAccepted schema outcome a → Grows schema file (outcome ∷ []) old new
Keeps file (Err e) old new = (schema : Schema) → Grows schema file [] old new
