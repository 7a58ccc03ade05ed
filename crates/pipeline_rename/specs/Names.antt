-- What the steps on names make of a name (pySigma, field name mapping, prefix, suffix and prefix mapping).
use Rattle.std.specs.Prelude.{ℕ, Bool, true, false, ◌==◌, ◌&&◌, if◌then◌else◌, List, [], ◌∷◌, ◌++◌, map, length, drop}
use Rattle.std.specs.Str.{bytes_eq}
use Rattle.pipeline_model.specs.Concerned.{is_among, concerns}
use Rattle.pipeline_model.specs.declared.step.Action.{Action}
use Rattle.pipeline_model.specs.declared.step.Action.TheVariants.{MapNames, Prefix, Suffix, MapPrefixes, Drop, Add, Source, MapTexts, FillHoles, WildHoles, FailRule, FailItem}
use Rattle.pipeline_model.specs.declared.step.Pair.{Pair}
use Rattle.pipeline_model.specs.declared.step.Step.{Step}

-- the first text begins the second
abbrev pub begins : List ℕ → List ℕ → Bool
begins [] text = true
begins (c ∷ cs) [] = false
begins (c ∷ cs) (d ∷ ds) = (c == d) && begins cs ds

-- these texts, each with this one behind it
abbrev pub each_before : List (List ℕ) → List ℕ → List (List ℕ)
each_before prefixes back = map (λ front. front ++ back) prefixes

-- a name with an entry becomes the targets of the first one
abbrev pub mapped : List Pair → List ℕ → List (List ℕ)
mapped [] name = name ∷ []
mapped (pair ∷ pairs) name = if bytes_eq pair.from name then pair.to else mapped pairs name

-- the first entry that begins a name has its prefix replaced by each target
abbrev pub prefixed : List Pair → List ℕ → List (List ℕ)
prefixed [] name = name ∷ []
prefixed (pair ∷ pairs) name = if begins pair.from name then each_before pair.to (drop (length pair.from) name) else prefixed pairs name

-- what an action makes of a name that it acts on
abbrev pub targets : Action → List ℕ → List (List ℕ)
targets (MapNames pairs) name = mapped pairs name
targets (Prefix front) name = (front ++ name) ∷ []
targets (Suffix back) name = (name ++ back) ∷ []
targets (MapPrefixes pairs) name = prefixed pairs name
targets Drop name = name ∷ []
targets (Add items negated) name = name ∷ []
targets (Source source) name = name ∷ []
targets (MapTexts pairs) name = name ∷ []
targets (FillHoles choice) name = name ∷ []
targets (WildHoles choice) name = name ∷ []
targets (FailRule message) name = name ∷ []
targets (FailItem message) name = name ∷ []

-- what a step makes of a name
abbrev pub names_for : Step → List ℕ → List (List ℕ)
names_for step name = if concerns step name then targets step.action name else name ∷ []

-- a name behind others, unless it is one of them
abbrev pub with_name : List (List ℕ) → List ℕ → List (List ℕ)
with_name names name = if is_among names name then names else names ++ name ∷ []

-- names behind others, one after another
abbrev pub with_names : List (List ℕ) → List (List ℕ) → List (List ℕ)
with_names names [] = names
with_names names (more ∷ rest) = with_names (with_name names more) rest
