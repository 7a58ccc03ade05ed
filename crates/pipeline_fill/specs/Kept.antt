-- What a step on values and the variables of its pipeline have to be so that a whole rule stays whole.
use Rattle.std.specs.Prelude.{ℕ, List, ⊤}
use Rattle.event_schema.specs.Events.{IsPlainText}
use Rattle.event_schema.specs.Lists.{EachOf, HasElement}
use Rattle.pipeline_model.specs.declared.pipeline.Var.{Var}
use Rattle.pipeline_model.specs.declared.step.Action.{Action}
use Rattle.pipeline_model.specs.declared.step.Action.TheVariants.{MapNames, Prefix, Suffix, MapPrefixes, Drop, Add, Source, MapTexts, FillHoles, WildHoles, FailRule, FailItem}
use Rattle.pipeline_model.specs.declared.step.Pair.{Pair}

-- some texts, which are of Unicode scalar values other than U+0000
pub record AreValues (texts : List (List ℕ)) : Type 0 where
  pub some : HasElement texts
  pub plain : EachOf IsPlainText texts

abbrev pub HasValues : Var → Type 0
HasValues var = AreValues var.values

abbrev pub HasTargets : Pair → Type 0
HasTargets pair = AreValues pair.to

-- what a step on values has
abbrev pub MakesTests : List Var → Action → Type 0
MakesTests vars (MapNames pairs) = ⊤
MakesTests vars (Prefix front) = ⊤
MakesTests vars (Suffix back) = ⊤
MakesTests vars (MapPrefixes pairs) = ⊤
MakesTests vars Drop = ⊤
MakesTests vars (Add items negated) = ⊤
MakesTests vars (Source source) = ⊤
MakesTests vars (MapTexts pairs) = EachOf HasTargets pairs
MakesTests vars (FillHoles choice) = EachOf HasValues vars
MakesTests vars (WildHoles choice) = ⊤
MakesTests vars (FailRule message) = ⊤
MakesTests vars (FailItem message) = ⊤
