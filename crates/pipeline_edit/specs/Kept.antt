-- What these steps have to be so that a whole rule stays whole.
use Rattle.std.specs.Prelude.{⊤}
use Rattle.rule_detections.specs.Whole.{IsWholeAlternative}
use Rattle.pipeline_model.specs.declared.step.Action.{Action}
use Rattle.pipeline_model.specs.declared.step.Action.TheVariants.{MapNames, Prefix, Suffix, MapPrefixes, Drop, Add, Source, MapTexts, FillHoles, WildHoles, FailRule, FailItem}

-- items that it adds are whole, and there are some
abbrev pub AddsWhole : Action → Type 0
AddsWhole Drop = ⊤
AddsWhole (Add items negated) = IsWholeAlternative items
AddsWhole (Source source) = ⊤
AddsWhole (FailRule message) = ⊤
AddsWhole (FailItem message) = ⊤
AddsWhole (MapNames pairs) = ⊤
AddsWhole (Prefix front) = ⊤
AddsWhole (Suffix back) = ⊤
AddsWhole (MapPrefixes pairs) = ⊤
AddsWhole (MapTexts pairs) = ⊤
AddsWhole (FillHoles choice) = ⊤
AddsWhole (WildHoles choice) = ⊤
