-- What pipelines have to be so that a whole rule stays whole.
use Rattle.event_schema.specs.Lists.{EachOf}
use Rattle.pipeline_model.specs.declared.pipeline.Pipeline.{Pipeline}
use Rattle.pipeline_model.specs.declared.pipeline.Var.{Var}
use Rattle.pipeline_model.specs.declared.step.Action.{Action}
use Rattle.pipeline_rename.specs.Kept.{MakesNames}
use Rattle.pipeline_edit.specs.Kept.{AddsWhole}
use Rattle.pipeline_fill.specs.Kept.{MakesTests}
use Rattle.std.specs.Prelude.{List}

-- what it makes of names, what it adds, and what it makes of tests
pub record MakesWhole (vars : List Var) (action : Action) : Type 0 where
  pub names : MakesNames action
  pub adds : AddsWhole action
  pub tests : MakesTests vars action

abbrev pub IsWholePipeline : Pipeline → Type 0
IsWholePipeline p = EachOf (λ step. MakesWhole p.vars step.action) p.steps
