-- Laws of what files are run as.
use Rattle.std.specs.Prelude.{◌≡◌, ◌⊎◌, ℕ, List}
use Rattle.std.specs.declared.option.Option.{Option}
use Rattle.event_schema.specs.declared.schema.Schema.{Schema}
use Rattle.pipeline_model.specs.declared.pipeline.Pipeline.{Pipeline}
use Rattle.rule_regex.specs.Unbuilt.{Unbuilt}
use Rattle.rule_model.specs.Plain.{PlainRule}
use Rattle.sig_base.specs.declared.limits.Limits.{Limits}
use Rattle.sig_base.specs.declared.refusal.Refusal.{Refusal}
use Rattle.rule_run.specs.Runs.{IsRun, IsNotRun}

-- each file is run as a rule, or it isn't run for some cause
abbrev pub EachRun : Type 0
EachRun = (unbuilt : Unbuilt) (limits : Limits) (ps : List Pipeline) (given : Option Schema) (bytes : List ℕ) → ((rule : PlainRule) × IsRun unbuilt limits ps given bytes rule) ⊎ ((r : Refusal) × IsNotRun unbuilt limits ps given bytes r)

-- and never both
abbrev pub NeverBoth : Type 0
NeverBoth = (unbuilt : Unbuilt) (limits : Limits) (ps : List Pipeline) (given : Option Schema) (bytes : List ℕ) (rule : PlainRule) (r : Refusal) → IsRun unbuilt limits ps given bytes rule → IsNotRun unbuilt limits ps given bytes r → ⊥

-- as one rule, wherever its regular expressions aren't built
abbrev pub OneRun : Type 0
OneRun = (u v : Unbuilt) (limits : Limits) (ps : List Pipeline) (given : Option Schema) (bytes : List ℕ) (a b : PlainRule) → IsRun u limits ps given bytes a → IsRun v limits ps given bytes b → a ≡ b

-- for one cause
abbrev pub OneCause : Type 0
OneCause = (unbuilt : Unbuilt) (limits : Limits) (ps : List Pipeline) (given : Option Schema) (bytes : List ℕ) (a b : Refusal) → IsNotRun unbuilt limits ps given bytes a → IsNotRun unbuilt limits ps given bytes b → a ≡ b
