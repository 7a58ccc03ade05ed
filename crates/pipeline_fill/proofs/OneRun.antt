-- Placeholders that become any run make one pattern.
use Rattle.std.proofs.Common.{◌≡◌, Bool, true, false, List, [], ◌∷◌, map, refl, ap, ◌∙◌}
use Rattle.std.specs.Prelude.{if◌then◌else◌}
use Rattle.sig_strings.specs.declared.part.Part.{Part}
use Rattle.sig_strings.specs.declared.part.Part.TheVariants.{Char, One, Run, Dash, Hole}
use Rattle.pipeline_model.specs.declared.pipeline.Var.{Var}
use Rattle.pipeline_model.specs.declared.step.Action.TheVariants.{WildHoles}
use Rattle.pipeline_model.specs.declared.step.Choice.{Choice}
use Rattle.pipeline_fill.specs.Filled.{chooses, choices, crossed, filled, opened}

one_choice : (vars : List Var) (choice : Choice) (part : Part) → choices vars (WildHoles choice) part ≡ (opened (WildHoles choice) part ∷ []) ∷ []
one_choice vars choice (Char c) = refl
one_choice vars choice One = refl
one_choice vars choice Run = refl
one_choice vars choice Dash = refl
one_choice vars choice (Hole name) = by (chooses choice name)
  where
    by : (b : Bool) → (if b then (Run ∷ []) ∷ [] else (Hole name ∷ []) ∷ []) ≡ ((if b then Run else Hole name) ∷ []) ∷ []
    by true = refl
    by false = refl

pub one_opened : (vars : List Var) (choice : Choice) (parts : List Part) → filled vars (WildHoles choice) parts ≡ map (opened (WildHoles choice)) parts ∷ []
one_opened vars choice [] = refl
one_opened vars choice (part ∷ parts) =
    ap (λ (cs : List (List Part)). crossed cs (filled vars (WildHoles choice) parts)) (one_choice vars choice part)
    ∙ ap (λ (more : List (List Part)). crossed ((opened (WildHoles choice) part ∷ []) ∷ []) more) (one_opened vars choice parts)
