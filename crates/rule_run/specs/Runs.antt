-- The rule that a file is run as, which pipelines make of the one that it is, where its regular expressions aren't built at some places, or
-- the first cause for which it's run as none.
use Rattle.std.specs.Prelude.{◌≡◌, ℕ, Bool, List, None, Some, Result, Ok, Err}
use Rattle.std.specs.declared.option.Option.{Option}
use Rattle.event_schema.specs.declared.schema.Schema.{Schema}
use Rattle.pipeline_run.specs.Chained.{run_pipelines, Makes}
use Rattle.pipeline_model.specs.declared.pipeline.Pipeline.{Pipeline}
use Rattle.rule_regex.specs.Unbuilt.{Unbuilt, none_unbuilt, AreUnbuilt, unbuilt_refusal}
use Rattle.rule_model.specs.Expressions.{rule_expressions}
use Rattle.rule_model.specs.Plain.{PlainRule}
use Rattle.rule_model.specs.Rules.{lone_refusal, IsLoneRule}
use Rattle.rule_schema.specs.Inferred.{open_refusal, unfit_refusal}
use Rattle.sig_base.specs.declared.limits.Limits.{Limits}
use Rattle.sig_base.specs.declared.refusal.Place.{Place}
use Rattle.sig_base.specs.declared.refusal.Refusal.{Refusal}
use Rattle.yaml_documents.specs.Call.{IsCallRefusal, IsTaken}
use Rattle.yaml_tree.specs.Tree.{At, Tree, Answer}
use Rattle.rule_run.specs.Files.{yaml_refusal, single_tree}

-- the answers to a file's documents
abbrev pub AreDocuments : Limits → List ℕ → List Answer → Type 0
AreDocuments limits bytes documents = IsTaken limits.file_bytes limits.documents limits.yaml_depth bytes documents

-- the one document of these is this rule, and no correlation
pub record IsOnly (unbuilt : List Place) (limits : Limits) (documents : List Answer) (rule : PlainRule) : Type 0 where
  pub top : Tree
  pub single : single_tree documents ≡ Ok top
  pub lone : IsLoneRule unbuilt limits top rule

-- the first cause for which these documents are no single rule: there isn't exactly one, or YAML refuses it, or it's a correlation,
-- or no rule
pub data IsNoneOnly (unbuilt : List Place) (limits : Limits) (documents : List Answer) (r : Refusal) : Type 0 where
  no_tree : single_tree documents ≡ Err r → IsNoneOnly unbuilt limits documents r
  no_rule : (top : Tree) → single_tree documents ≡ Ok top → lone_refusal unbuilt limits top ≡ Some r → IsNoneOnly unbuilt limits documents r

-- the file has one document, which is this rule
pub record IsSingleRule (unbuilt : List Place) (limits : Limits) (bytes : List ℕ) (rule : PlainRule) : Type 0 where
  pub documents : List Answer
  pub taken : AreDocuments limits bytes documents
  pub only : IsOnly unbuilt limits documents rule

-- the first cause for which a file is no single rule: it's refused as a whole, or one of those
pub data IsNoSingleRule (unbuilt : List Place) (limits : Limits) (bytes : List ℕ) (r : Refusal) : Type 0 where
  as_one : (p : ℕ × At) → IsCallRefusal limits.file_bytes limits.documents bytes p → r ≡ yaml_refusal p → IsNoSingleRule unbuilt limits bytes r
  by_document : (documents : List Answer) → AreDocuments limits bytes documents → IsNoneOnly unbuilt limits documents r → IsNoSingleRule unbuilt limits bytes r

-- the file is a rule of which these pipelines, one after another, make this one
pub record IsMadeRule (unbuilt : List Place) (limits : Limits) (ps : List Pipeline) (bytes : List ℕ) (made : PlainRule) : Type 0 where
  pub rule : PlainRule
  pub single : IsSingleRule unbuilt limits bytes rule
  pub makes : Makes limits ps rule made

-- the first cause for which there is none: the file is no single rule, or the pipelines refuse it
pub data IsNoMadeRule (unbuilt : List Place) (limits : Limits) (ps : List Pipeline) (bytes : List ℕ) (r : Refusal) : Type 0 where
  no_single : IsNoSingleRule unbuilt limits bytes r → IsNoMadeRule unbuilt limits ps bytes r
  unmade : (rule : PlainRule) → IsSingleRule unbuilt limits bytes rule → run_pipelines limits ps rule ≡ Err r → IsNoMadeRule unbuilt limits ps bytes r

-- this rule is made, and no placeholder of it stands open
pub record IsFilledRule (unbuilt : List Place) (limits : Limits) (ps : List Pipeline) (bytes : List ℕ) (made : PlainRule) : Type 0 where
  pub rule : IsMadeRule unbuilt limits ps bytes made
  pub filled : open_refusal made ≡ None

-- this rule is made, no placeholder of it stands open, and it fits the given schema, or else the one that is made of it
pub record IsFit (unbuilt : List Place) (limits : Limits) (ps : List Pipeline) (given : Option Schema) (bytes : List ℕ) (made : PlainRule) : Type 0 where
  pub rule : IsMadeRule unbuilt limits ps bytes made
  pub fits : unfit_refusal given made ≡ None

-- the first cause for which there is no such rule: none is made of the file, or a placeholder of it stands open (98), or its names clash
-- (80, where no schema is given), or an item of it doesn't fit the schema (81, 82 or 83)
pub data IsUnfit (unbuilt : List Place) (limits : Limits) (ps : List Pipeline) (given : Option Schema) (bytes : List ℕ) (r : Refusal) : Type 0 where
  no_made : IsNoMadeRule unbuilt limits ps bytes r → IsUnfit unbuilt limits ps given bytes r
  unfit : (made : PlainRule) → IsMadeRule unbuilt limits ps bytes made → unfit_refusal given made ≡ Some r → IsUnfit unbuilt limits ps given bytes r

-- this rule is made and fits, and its regular expressions are built once more when it's made ready
pub record IsRun (unbuilt : Unbuilt) (limits : Limits) (ps : List Pipeline) (given : Option Schema) (bytes : List ℕ) (made : PlainRule) : Type 0 where
  pub fit : IsFit unbuilt.values limits ps given bytes made
  pub built : unbuilt_refusal unbuilt.items (rule_expressions made) ≡ None

-- the first cause for which a file isn't run: there is no rule that fits, or a regular expression of it isn't built (48, at its item)
pub data IsNotRun (unbuilt : Unbuilt) (limits : Limits) (ps : List Pipeline) (given : Option Schema) (bytes : List ℕ) (r : Refusal) : Type 0 where
  no_fit : IsUnfit unbuilt.values limits ps given bytes r → IsNotRun unbuilt limits ps given bytes r
  not_built : (made : PlainRule) → IsFit unbuilt.values limits ps given bytes made → unbuilt_refusal unbuilt.items (rule_expressions made) ≡ Some r
      → IsNotRun unbuilt limits ps given bytes r

-- what these places are, of the one tree that there is; where there isn't exactly one, there are none
abbrev pub AreOfTree : Limits → List Pipeline → Result Tree Refusal → Bool → Unbuilt → Type 0
AreOfTree limits ps (Ok top) ended unbuilt = AreUnbuilt (Makes limits ps) limits top ended unbuilt
AreOfTree limits ps (Err r) ended unbuilt = unbuilt ≡ none_unbuilt

-- What they are, of the one tree of a file; where the file is refused as a whole, there are none.
pub record AreOfSingle (limits : Limits) (ps : List Pipeline) (bytes : List ℕ) (ended : Bool) (unbuilt : Unbuilt) : Type 0 where
  pub tree : (documents : List Answer) → AreDocuments limits bytes documents → AreOfTree limits ps (single_tree documents) ended unbuilt
  pub whole : (p : ℕ × At) → IsCallRefusal limits.file_bytes limits.documents bytes p → unbuilt ≡ none_unbuilt
