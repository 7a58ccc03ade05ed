-- What is answered by a backend's name is what is answered by the backend.
use Rattle.std.proofs.Common.{ℕ, ◌≡◌, List, Option, subst}
use Rattle.std.specs.Prelude.{Result}
use Rattle.event_schema.specs.declared.schema.Schema.{Schema}
use Rattle.pipeline_run.specs.Chained.{Makes}
use Rattle.pipeline_model.specs.declared.pipeline.Pipeline.{Pipeline}
use Rattle.rule_regex.specs.ForUnbuilt.{ForUnbuilt, is_answered}
use Rattle.rule_convert.specs.NamedQueries.{ConvertAnswers}
use Rattle.rule_convert.specs.declared.backend_name.BackendName.{BackendName}
use Rattle.sig_base.specs.declared.limits.Limits.{Limits}
use Rattle.sig_base.specs.declared.refusal.Fault.{Fault}
use Rattle.yaml_tree.specs.Tree.{Tree}

pub by_name : (limits : Limits) (ps : List Pipeline) (given : Option Schema) (t : Tree) (before after : List (List ℕ)) (r : Result (List ℕ) Fault) (a b : BackendName) → a ≡ b
    → ForUnbuilt (Makes limits ps) limits t before after (is_answered r) (λ unbuilt. ConvertAnswers a unbuilt limits ps given t r)
    → ForUnbuilt (Makes limits ps) limits t before after (is_answered r) (λ unbuilt. ConvertAnswers b unbuilt limits ps given t r)
by_name limits ps given t before after r a b same h =
    subst (λ (backend : BackendName). ForUnbuilt (Makes limits ps) limits t before after (is_answered r) (λ unbuilt. ConvertAnswers backend unbuilt limits ps given t r)) same h
