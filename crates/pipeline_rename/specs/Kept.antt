-- What steps on names have to be so that a whole rule stays whole.
use Rattle.std.specs.Prelude.{ℕ, ◌≡◌, true, List, ⊤}
use Rattle.std.specs.Str.{all_scalars}
use Rattle.event_schema.specs.Lists.{EachOf, HasElement}
use Rattle.pipeline_model.specs.declared.step.Action.{Action}
use Rattle.pipeline_model.specs.declared.step.Action.TheVariants.{MapNames, Prefix, Suffix, MapPrefixes, Drop, Add, Source, MapTexts, FillHoles, WildHoles, FailRule, FailItem}
use Rattle.pipeline_model.specs.declared.step.Pair.{Pair}

abbrev pub IsScalarText : List ℕ → Type 0
IsScalarText text = all_scalars text ≡ true

-- an entry has a target, and its targets are of Unicode scalar values
pub record HasTargets (pair : Pair) : Type 0 where
  pub some : HasElement pair.to
  pub scalars : EachOf IsScalarText pair.to

-- what a step on names has
abbrev pub MakesNames : Action → Type 0
MakesNames (MapNames pairs) = EachOf HasTargets pairs
MakesNames (Prefix front) = IsScalarText front
MakesNames (Suffix back) = IsScalarText back
MakesNames (MapPrefixes pairs) = EachOf HasTargets pairs
MakesNames Drop = ⊤
MakesNames (Add items negated) = ⊤
MakesNames (Source source) = ⊤
MakesNames (MapTexts pairs) = ⊤
MakesNames (FillHoles choice) = ⊤
MakesNames (WildHoles choice) = ⊤
MakesNames (FailRule message) = ⊤
MakesNames (FailItem message) = ⊤
