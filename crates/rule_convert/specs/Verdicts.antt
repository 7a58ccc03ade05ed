-- What the node of a document is answered, where its regular expressions aren't built at some places: its rule, the query of the rule
-- that pipelines make of it, or the first refusal.
use Rattle.std.specs.Prelude.{◌≡◌, ⊤, ℕ, List, Some, None, Result, Ok, Err}
use Rattle.std.specs.declared.option.Option.{Option}
use Rattle.backend_core.specs.Trees.{Plain}
use Rattle.backend_core.specs.declared.lack.Lack.{Lack}
use Rattle.backend_core.specs.declared.tree.Leaf.{Leaf}
use Rattle.event_schema.specs.declared.schema.Schema.{Schema}
use Rattle.pipeline_run.specs.Chained.{run_pipelines, Makes}
use Rattle.pipeline_model.specs.declared.pipeline.Pipeline.{Pipeline}
use Rattle.rule_regex.specs.Unbuilt.{Unbuilt}
use Rattle.rule_model.specs.Plain.{PlainRule}
use Rattle.rule_model.specs.Rules.{lone_refusal, IsLoneRule}
use Rattle.rule_convert.specs.Queries.{query_of, query_refusal}
use Rattle.sig_base.specs.declared.limits.Limits.{Limits}
use Rattle.sig_base.specs.declared.refusal.Fault.{Fault}
use Rattle.sig_base.specs.declared.refusal.Fault.TheVariants.{Memory, Refused}
use Rattle.sig_base.specs.declared.refusal.Place.{Place}
use Rattle.sig_base.specs.declared.refusal.Refusal.{Refusal}
use Rattle.yaml_tree.specs.Tree.{Tree}

-- ---- queries, of any backend

module _ (missing : Schema → Leaf → Option Lack) (text : Schema → Plain → List ℕ) (too_deep : Limits → Schema → Plain → Place → Option Refusal) where
  -- the node is a rule of which these pipelines, one after another, make this one, which has a query under the given schema, or else
  -- the one that is made of it
  pub record IsConverted (unbuilt : Unbuilt) (limits : Limits) (ps : List Pipeline) (given : Option Schema) (t : Tree) (made : PlainRule) : Type 0 where
    pub rule : PlainRule
    pub lone : IsLoneRule unbuilt.values limits t rule
    pub makes : Makes limits ps rule made
    pub written : query_refusal missing text too_deep unbuilt.items limits given made ≡ None

  -- the first cause for which the node has no query: it is a correlation or no rule, or the pipelines refuse its rule, or the one that they
  -- make of it has no query
  pub data IsRefused (unbuilt : Unbuilt) (limits : Limits) (ps : List Pipeline) (given : Option Schema) (t : Tree) (refusal : Refusal) : Type 0 where
    no_rule : lone_refusal unbuilt.values limits t ≡ Some refusal → IsRefused unbuilt limits ps given t refusal
    not_made : (rule : PlainRule) → IsLoneRule unbuilt.values limits t rule → run_pipelines limits ps rule ≡ Err refusal → IsRefused unbuilt limits ps given t refusal
    no_query : (rule made : PlainRule) → IsLoneRule unbuilt.values limits t rule → Makes limits ps rule made
        → query_refusal missing text too_deep unbuilt.items limits given made ≡ Some refusal → IsRefused unbuilt limits ps given t refusal

  -- what converting a node answers; want of memory says nothing
  abbrev pub ConvertAnswers : Unbuilt → Limits → List Pipeline → Option Schema → Tree → Result (List ℕ) Fault → Type 0
  ConvertAnswers unbuilt limits ps given t (Ok bytes) = (made : PlainRule) × IsConverted unbuilt limits ps given t made × (bytes ≡ query_of text given made)
  ConvertAnswers unbuilt limits ps given t (Err (Refused r)) = IsRefused unbuilt limits ps given t r
  ConvertAnswers unbuilt limits ps given t (Err Memory) = ⊤
