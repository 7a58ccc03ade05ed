-- Laws of what files of pipelines are.
use Rattle.std.specs.Prelude.{◌≡◌, ◌⊎◌, ℕ, List}
use Rattle.event_schema.specs.Lists.{EachOf}
use Rattle.rule_regex.specs.Unbuilt.{Unbuilt}
use Rattle.sig_base.specs.declared.limits.Limits.{Limits}
use Rattle.sig_base.specs.declared.refusal.Refusal.{Refusal}
use Rattle.pipeline_run.specs.Kept.{IsWholePipeline}
use Rattle.pipeline_model.specs.declared.pipeline.Pipeline.{Pipeline}
use Rattle.pipeline_files.specs.Outcomes.{ArePipelines, AreCauses}

-- each file is pipelines, or it's refused for some causes
abbrev pub EachFile : Type 0
EachFile = (unbuilt : List Unbuilt) (limits : Limits) (bytes : List ℕ)
    → ((ps : List Pipeline) × ArePipelines unbuilt limits bytes ps) ⊎ ((causes : List Refusal) × AreCauses unbuilt limits bytes causes)

-- and never both
abbrev pub NeverBoth : Type 0
NeverBoth = (unbuilt : List Unbuilt) (limits : Limits) (bytes : List ℕ) (ps : List Pipeline) (causes : List Refusal)
    → ArePipelines unbuilt limits bytes ps → AreCauses unbuilt limits bytes causes → ⊥

-- these pipelines and no others, wherever regular expressions aren't built
abbrev pub OnePipelines : Type 0
OnePipelines = (u v : List Unbuilt) (limits : Limits) (bytes : List ℕ) (ps qs : List Pipeline) → ArePipelines u limits bytes ps → ArePipelines v limits bytes qs → ps ≡ qs

-- for these causes and no others
abbrev pub OneCauses : Type 0
OneCauses = (unbuilt : List Unbuilt) (limits : Limits) (bytes : List ℕ) (a b : List Refusal) → AreCauses unbuilt limits bytes a → AreCauses unbuilt limits bytes b → a ≡ b

-- each makes whole rules of whole rules
abbrev pub AreWhole : Type 0
AreWhole = (unbuilt : List Unbuilt) (limits : Limits) (bytes : List ℕ) (ps : List Pipeline) → ArePipelines unbuilt limits bytes ps → EachOf IsWholePipeline ps
