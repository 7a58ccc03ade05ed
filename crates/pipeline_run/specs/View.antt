-- What pipelines of steps on names make a rule mean.
use Rattle.std.specs.Prelude.{ℕ, Bool, true, false, List}
use Rattle.std.specs.List.{flat_map, list_all}
use Rattle.rule_head.specs.declared.source.LogSource.{LogSource}
use Rattle.pipeline_model.specs.declared.pipeline.Pipeline.{Pipeline}
use Rattle.pipeline_model.specs.declared.step.Action.{Action}
use Rattle.pipeline_model.specs.declared.step.Action.TheVariants.{MapNames, Prefix, Suffix, MapPrefixes, Drop, Add, Source, MapTexts, FillHoles, WildHoles, FailRule, FailItem}
use Rattle.pipeline_model.specs.declared.step.Step.{Step}
use Rattle.pipeline_run.specs.ReadAs.{steps_view, itself}

-- a step on names
abbrev pub is_on_names : Action → Bool
is_on_names (MapNames pairs) = true
is_on_names (Prefix front) = true
is_on_names (Suffix back) = true
is_on_names (MapPrefixes pairs) = true
is_on_names Drop = false
is_on_names (Add items negated) = false
is_on_names (Source source) = false
is_on_names (MapTexts pairs) = false
is_on_names (FillHoles choice) = false
is_on_names (WildHoles choice) = false
is_on_names (FailRule message) = false
is_on_names (FailItem message) = false

-- all steps, one pipeline's behind another's
abbrev pub steps_of : List Pipeline → List Step
steps_of ps = flat_map (λ p. p.steps) ps

abbrev pub are_on_names : List Pipeline → Bool
are_on_names ps = list_all (λ step. is_on_names step.action) (steps_of ps)

-- the names that a name becomes in rules of this log source
abbrev pub view : List Pipeline → LogSource → List ℕ → List (List ℕ)
view ps source = steps_view source (steps_of ps) itself
