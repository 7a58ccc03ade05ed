-- Placeholders that are filled (pySigma, value placeholders and wildcard placeholders).
use Rattle.std.specs.Prelude.{ℕ, Bool, true, false, not, ◌&&◌, List, [], ◌∷◌, ◌++◌, map, if◌then◌else◌, Option, Some, None}
use Rattle.std.specs.List.{flat_map}
use Rattle.sig_strings.specs.declared.part.Part.{Part}
use Rattle.sig_strings.specs.declared.part.Part.TheVariants.{Char, One, Run, Dash, Hole}
use Rattle.pipeline_model.specs.Concerned.{is_among}
use Rattle.pipeline_model.specs.declared.pipeline.Var.{Var}
use Rattle.pipeline_model.specs.declared.step.Action.{Action}
use Rattle.pipeline_model.specs.declared.step.Action.TheVariants.{MapNames, Prefix, Suffix, MapPrefixes, Drop, Add, Source, MapTexts, FillHoles, WildHoles, FailRule, FailItem}
use Rattle.pipeline_model.specs.declared.step.Choice.{Choice}
use Rattle.pipeline_model.specs.declared.step.Choice.TheVariants.{Every, Include, Exclude}
use Rattle.pipeline_fill.specs.Entries.{texts_for, as_pairs, patterns_of}

-- placeholders of this name are chosen
abbrev pub chooses : Choice → List ℕ → Bool
chooses Every name = true
chooses (Include names) name = is_among names name
chooses (Exclude names) name = not (is_among names name)

abbrev pub chosen_by : Action → List ℕ → Bool
chosen_by (MapNames pairs) name = false
chosen_by (Prefix front) name = false
chosen_by (Suffix back) name = false
chosen_by (MapPrefixes pairs) name = false
chosen_by Drop name = false
chosen_by (Add items negated) name = false
chosen_by (Source source) name = false
chosen_by (MapTexts pairs) name = false
chosen_by (FillHoles choice) name = chooses choice name
chosen_by (WildHoles choice) name = chooses choice name
chosen_by (FailRule message) name = false
chosen_by (FailItem message) name = false

-- a placeholder that the action fills
abbrev pub is_chosen : Action → Part → Bool
is_chosen action (Char c) = false
is_chosen action One = false
is_chosen action Run = false
is_chosen action Dash = false
is_chosen action (Hole name) = chosen_by action name

-- the patterns of the texts that were found, or None where there is no entry
abbrev pub patterns_found : Option (List (List ℕ)) → Option (List (List Part))
patterns_found None = None
patterns_found (Some texts) = Some (patterns_of texts)

-- what takes the place of a chosen placeholder: the values of its variable, or any run; None where it has no variable
abbrev pub put_for : List Var → Action → List ℕ → Option (List (List Part))
put_for vars (MapNames pairs) name = None
put_for vars (Prefix front) name = None
put_for vars (Suffix back) name = None
put_for vars (MapPrefixes pairs) name = None
put_for vars Drop name = None
put_for vars (Add items negated) name = None
put_for vars (Source source) name = None
put_for vars (MapTexts pairs) name = None
put_for vars (FillHoles choice) name = patterns_found (texts_for (as_pairs vars) name)
put_for vars (WildHoles choice) name = Some ((Run ∷ []) ∷ [])
put_for vars (FailRule message) name = None
put_for vars (FailItem message) name = None

abbrev pub none_or : Option (List (List Part)) → List (List Part)
none_or None = []
none_or (Some patterns) = patterns

-- what may stand in a part's place
abbrev pub choices : List Var → Action → Part → List (List Part)
choices vars action (Char c) = (Char c ∷ []) ∷ []
choices vars action One = (One ∷ []) ∷ []
choices vars action Run = (Run ∷ []) ∷ []
choices vars action Dash = (Dash ∷ []) ∷ []
choices vars action (Hole name) = if chosen_by action name then none_or (put_for vars action name) else (Hole name ∷ []) ∷ []

-- each of the first with each of the second behind it
abbrev pub crossed : List (List Part) → List (List Part) → List (List Part)
crossed fronts more = flat_map (λ front. map (λ rest. front ++ rest) more) fronts

-- each chosen placeholder becomes each of its choices; the first varies slowest
abbrev pub filled : List Var → Action → List Part → List (List Part)
filled vars action [] = [] ∷ []
filled vars action (part ∷ parts) = crossed (choices vars action part) (filled vars action parts)

-- a part, or any run in the place of a chosen placeholder
abbrev pub opened : Action → Part → Part
opened action (Char c) = Char c
opened action One = One
opened action Run = Run
opened action Dash = Dash
opened action (Hole name) = if chosen_by action name then Run else Hole name

-- nothing was found
abbrev pub is_missing : Option (List (List Part)) → Bool
is_missing None = true
is_missing (Some patterns) = false

-- a chosen placeholder that has no variable
abbrev pub lacks_values : List Var → Action → Part → Bool
lacks_values vars action (Char c) = false
lacks_values vars action One = false
lacks_values vars action Run = false
lacks_values vars action Dash = false
lacks_values vars action (Hole name) = chosen_by action name && is_missing (put_for vars action name)
