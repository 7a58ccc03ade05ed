-- `convert`: the queries of rules that pipelines make, in the language of the backend that is named.
use Rattle.std.specs.Prelude.{◌≡◌, ℕ, List, Option}
use Rattle.answer_writer.specs.Parts.{Share}
use Rattle.event_schema.specs.declared.schema.Schema.{Schema}
use Rattle.pipeline_model.specs.declared.pipeline.Pipeline.{Pipeline}
use Rattle.rule_regex.specs.Unbuilt.{Unbuilt}
use Rattle.rule_model.specs.Plain.{PlainRule}
use Rattle.rule_convert.specs.NamedQueries.{query_of, Converts, IsConverted, IsRefused}
use Rattle.rule_convert.specs.declared.backend_name.BackendName.{BackendName}
use Rattle.sig_base.specs.declared.limits.Limits.{Limits}
use Rattle.sig_base.specs.declared.refusal.Refusal.{Refusal}
use Rattle.sigma_serve.specs.Reports.{line_share, refusal_share}
use Rattle.yaml_tree.specs.Tree.{Tree}

-- Under the given schema, or else the one that is made of the rule: the tree is a rule of which these pipelines, one after another, make one
-- with this query; or it's refused by the first cause for which there is none, where regular expressions aren't built at these places.
pub data ConvertGives (backend : BackendName) (limits : Limits) (ps : List Pipeline) (given : Option Schema) (unbuilt : Unbuilt) (name : List ℕ) (t : Tree) (share : Share) : Type 0 where
  has_query : (made : PlainRule) → IsConverted backend unbuilt limits ps given t made → share ≡ line_share (query_of backend given made) → ConvertGives backend limits ps given unbuilt name t share
  no_query : (r : Refusal) → IsRefused backend unbuilt limits ps given t r → share ≡ refusal_share name r → ConvertGives backend limits ps given unbuilt name t share

-- The same, with what the query means: it's read as exactly one query within the reader's limits, which selects an event exactly
-- where the rule that the pipelines make matches it.
pub data ConvertMeans (backend : BackendName) (limits : Limits) (ps : List Pipeline) (given : Option Schema) (unbuilt : Unbuilt) (name : List ℕ) (t : Tree) (share : Share) : Type 0 where
  means_rule : (made : PlainRule) → IsConverted backend unbuilt limits ps given t made → Converts backend limits given made (query_of backend given made)
      → share ≡ line_share (query_of backend given made) → ConvertMeans backend limits ps given unbuilt name t share
  means_none : (r : Refusal) → IsRefused backend unbuilt limits ps given t r → share ≡ refusal_share name r → ConvertMeans backend limits ps given unbuilt name t share
