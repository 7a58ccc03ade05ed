-- What is said of a rule whose regular expressions are built once more.
use Rattle.std.specs.Prelude.{◌≡◌, ⊤, ℕ, List, ◌++◌, Option, Result, Ok, Err}
use Rattle.backend_core.specs.Trees.{Plain}
use Rattle.backend_core.specs.declared.lack.Lack.{Lack}
use Rattle.backend_core.specs.declared.tree.Leaf.{Leaf}
use Rattle.event_schema.specs.declared.schema.Schema.{Schema}
use Rattle.pipeline_run.specs.Chained.{run_pipelines, Makes}
use Rattle.pipeline_model.specs.declared.pipeline.Pipeline.{Pipeline}
use Rattle.rule_regex.specs.Unbuilt.{ArePlacesOf, IsOneOf}
use Rattle.rule_detections.specs.declared.expression.Expression.{Expression}
use Rattle.rule_model.specs.Expressions.{rule_expressions}
use Rattle.rule_model.specs.Plain.{PlainRule}
use Rattle.rule_convert.specs.Queries.{query_of, query_refusal}
use Rattle.sig_base.specs.Judged.{Judged}
use Rattle.sig_base.specs.declared.limits.Limits.{Limits}
use Rattle.sig_base.specs.declared.refusal.Fault.{Fault}
use Rattle.sig_base.specs.declared.refusal.Fault.TheVariants.{Memory, Refused}
use Rattle.sig_base.specs.declared.refusal.Place.{Place}
use Rattle.sig_base.specs.declared.refusal.Refusal.{Refusal}

-- For some places at which these regular expressions aren't built it's so. The builder had refused the texts `before`, and then has
-- refused the texts `after`: behind the former those at these places, and nothing else.
pub record Rebuilt (expressions : List Expression) (before after : List (List ℕ)) (Says : List Place → Type 0) : Type 0 where
  pub unbuilt : List Place
  pub refused : List (List ℕ)
  pub follows : after ≡ before ++ refused
  pub places : ArePlacesOf (IsOneOf expressions) refused unbuilt
  pub says : Says unbuilt

-- no rule is made, for this refusal or for want of memory
abbrev pub IsUnmade : Result PlainRule Refusal → Result (List ℕ) Fault → Type 0
IsUnmade chained (Ok bytes) = ⊥
IsUnmade chained (Err (Refused r)) = chained ≡ Err r
IsUnmade chained (Err Memory) = ⊤

module _ (missing : Schema → Leaf → Option Lack) (text : Schema → Plain → List ℕ) (too_deep : Limits → Schema → Plain → Place → Option Refusal) where
  -- What converting the rule that pipelines make of a rule answers: they make none, and nothing is built; or they make one, whose regular
  -- expressions are built once more.
  pub data ForChained (limits : Limits) (ps : List Pipeline) (given : Option Schema) (rule : PlainRule) (before after : List (List ℕ)) (result : Result (List ℕ) Fault) : Type 0 where
    makes_none : IsUnmade (run_pipelines limits ps rule) result → after ≡ before → ForChained limits ps given rule before after result
    makes_one : (made : PlainRule) → Makes limits ps rule made
        → Rebuilt (rule_expressions made) before after (λ items. Judged (λ bytes. bytes ≡ query_of text given made) (query_refusal missing text too_deep items limits given made) result)
        → ForChained limits ps given rule before after result
