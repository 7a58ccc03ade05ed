-- What the documents of a rule file are where rules are correlated: each a rule that is run, a correlation, or refused (Sigma
-- correlations specification 2.0).
use Rattle.std.specs.Prelude.{◌≡◌, ℕ, Bool, true, false, List, [], ◌∷◌, codes, None, Some, Err}
use Rattle.std.specs.List.{AllZip}
use Rattle.correlation_read.specs.Checks.{correlation_refusal}
use Rattle.correlation_read.specs.Correlations.{PlainCorrelation, IsCorrelation}
use Rattle.event_schema.specs.declared.schema.Schema.{Schema}
use Rattle.pipeline_run.specs.Chained.{run_pipelines, Makes}
use Rattle.pipeline_files.specs.Paired.{paired}
use Rattle.pipeline_model.specs.declared.pipeline.Pipeline.{Pipeline}
use Rattle.rule_regex.specs.Unbuilt.{Unbuilt, none_unbuilt, unbuilt_refusal}
use Rattle.rule_model.specs.Expressions.{rule_expressions}
use Rattle.rule_model.specs.Plain.{PlainRule}
use Rattle.rule_model.specs.Rules.{lone_refusal, IsLoneRule}
use Rattle.rule_run.specs.Files.{yaml_refusal}
use Rattle.rule_run.specs.Runs.{AreDocuments}
use Rattle.rule_schema.specs.Inferred.{unfit_refusal}
use Rattle.sig_base.specs.declared.limits.Limits.{Limits}
use Rattle.sig_base.specs.declared.refusal.Refusal.{Refusal}
use Rattle.yaml_documents.specs.Call.{IsCallRefusal}
use Rattle.yaml_tree.specs.Nodes.{has_key}
use Rattle.yaml_tree.specs.Tree.{At, Tree, Answer, tree, refusal}

-- what a document is: a rule, which pipelines made of its own, a correlation, or refused
pub data Outcome : Type 0 where
  Runs : (made : PlainRule) → Outcome
  Correlates : (c : PlainCorrelation) → Outcome
  Refuses : (r : Refusal) → Outcome

-- a document with the key `correlation` is a correlation, and no rule
abbrev pub is_correlation : Tree → Bool
is_correlation t = has_key (codes "correlation") t

-- The tree is a rule of which these pipelines, one after another, make this one. No placeholder of it stands open, it fits the schema, and
-- its regular expressions are built once more when it's made ready.
pub record IsRun (limits : Limits) (ps : List Pipeline) (schema : Schema) (unbuilt : Unbuilt) (t : Tree) (made : PlainRule) : Type 0 where
  pub rule : PlainRule
  pub lone : IsLoneRule unbuilt.values limits t rule
  pub makes : Makes limits ps rule made
  pub fits : unfit_refusal (Some schema) made ≡ None
  pub built : unbuilt_refusal unbuilt.items (rule_expressions made) ≡ None

-- The first cause for which it's run as none: it's no rule, or the pipelines refuse it (95 to 99), or a placeholder stands open (98), or an
-- item doesn't fit the schema (81, 82 or 83), or a regular expression isn't built (48, at its item).
pub data IsNotRun (limits : Limits) (ps : List Pipeline) (schema : Schema) (unbuilt : Unbuilt) (t : Tree) (r : Refusal) : Type 0 where
  no_rule : lone_refusal unbuilt.values limits t ≡ Some r → IsNotRun limits ps schema unbuilt t r
  not_made : (rule : PlainRule) → IsLoneRule unbuilt.values limits t rule → run_pipelines limits ps rule ≡ Err r → IsNotRun limits ps schema unbuilt t r
  unfit : (rule made : PlainRule) → IsLoneRule unbuilt.values limits t rule → Makes limits ps rule made → unfit_refusal (Some schema) made ≡ Some r
      → IsNotRun limits ps schema unbuilt t r
  not_built : (rule made : PlainRule) → IsLoneRule unbuilt.values limits t rule → Makes limits ps rule made → unfit_refusal (Some schema) made ≡ None
      → unbuilt_refusal unbuilt.items (rule_expressions made) ≡ Some r → IsNotRun limits ps schema unbuilt t r

-- the tree is this correlation; whether its rules are there isn't looked for
pub record IsTaken (t : Tree) (c : PlainCorrelation) : Type 0 where
  pub taken : correlation_refusal t ≡ None
  pub is : IsCorrelation t c

-- what a tree is, by whether it's a correlation
abbrev pub IsTreeOutcome : Bool → Limits → List Pipeline → Schema → Unbuilt → Tree → Outcome → Type 0
IsTreeOutcome true limits ps schema unbuilt t (Runs made) = ⊥
IsTreeOutcome true limits ps schema unbuilt t (Correlates c) = IsTaken t c
IsTreeOutcome true limits ps schema unbuilt t (Refuses r) = correlation_refusal t ≡ Some r
IsTreeOutcome false limits ps schema unbuilt t (Runs made) = IsRun limits ps schema unbuilt t made
IsTreeOutcome false limits ps schema unbuilt t (Correlates c) = ⊥
IsTreeOutcome false limits ps schema unbuilt t (Refuses r) = IsNotRun limits ps schema unbuilt t r

-- what a document is, where its regular expressions aren't built at these places; or YAML refuses it
abbrev pub IsOutcome : Limits → List Pipeline → Schema → Unbuilt × Answer → Outcome → Type 0
IsOutcome limits ps schema (unbuilt, tree t) outcome = IsTreeOutcome (is_correlation t) limits ps schema unbuilt t outcome
IsOutcome limits ps schema (unbuilt, refusal y) (Runs made) = ⊥
IsOutcome limits ps schema (unbuilt, refusal y) (Correlates c) = ⊥
IsOutcome limits ps schema (unbuilt, refusal y) (Refuses r) = r ≡ yaml_refusal y

-- What the documents of a file are, in their order. Beside each are the places at which its regular expressions aren't built; behind their
-- end there are none. A file that is refused as a whole is as one document that is refused.
pub data AreOutcomes (limits : Limits) (ps : List Pipeline) (schema : Schema) (unbuilt : List Unbuilt) (bytes : List ℕ) (outcomes : List Outcome) : Type 0 where
  as_one : (y : ℕ × At) → IsCallRefusal limits.file_bytes limits.documents bytes y → outcomes ≡ Refuses (yaml_refusal y) ∷ []
      → AreOutcomes limits ps schema unbuilt bytes outcomes
  by_document : (documents : List Answer) → AreDocuments limits bytes documents
      → AllZip (IsOutcome limits ps schema) (paired none_unbuilt unbuilt documents) outcomes → AreOutcomes limits ps schema unbuilt bytes outcomes

-- the rules among them, the correlations, and the causes for which the others are refused
abbrev pub rules_in : List Outcome → List PlainRule
rules_in [] = []
rules_in (Runs made ∷ outcomes) = made ∷ rules_in outcomes
rules_in (Correlates c ∷ outcomes) = rules_in outcomes
rules_in (Refuses r ∷ outcomes) = rules_in outcomes

abbrev pub correlations_in : List Outcome → List PlainCorrelation
correlations_in [] = []
correlations_in (Runs made ∷ outcomes) = correlations_in outcomes
correlations_in (Correlates c ∷ outcomes) = c ∷ correlations_in outcomes
correlations_in (Refuses r ∷ outcomes) = correlations_in outcomes

abbrev pub refusals_in : List Outcome → List Refusal
refusals_in [] = []
refusals_in (Runs made ∷ outcomes) = refusals_in outcomes
refusals_in (Correlates c ∷ outcomes) = refusals_in outcomes
refusals_in (Refuses r ∷ outcomes) = r ∷ refusals_in outcomes
