-- A pattern with dash places as the patterns of each choice of dashes (Sigma specification 2.0, modifier `windash`).
use Rattle.std.specs.Prelude.{ℕ, Bool, true, false, List, [], ◌∷◌, map, count_by}
use Rattle.std.specs.List.{flat_map}
use Rattle.sig_strings.specs.declared.part.Part.{Part}
use Rattle.sig_strings.specs.declared.part.Part.TheVariants.{Char, One, Run, Dash, Hole}

-- the five dashes in the order of the choices: `-`, `/`, U+2013, U+2014, U+2015
abbrev pub dash_signs : List ℕ
dash_signs = 45 ∷ (47 ∷ (0x2013 ∷ (0x2014 ∷ (0x2015 ∷ []))))

-- a place where any of the five may stand
abbrev pub is_dash_place : Part → Bool
is_dash_place (Char c) = false
is_dash_place One = false
is_dash_place Run = false
is_dash_place Dash = true
is_dash_place (Hole name) = false

-- how many places for a dash the pattern has
abbrev pub dash_count : List Part → ℕ
dash_count parts = count_by is_dash_place parts

-- this part before each of the patterns
abbrev pub before_each : Part → List (List Part) → List (List Part)
before_each part patterns = map (λ parts. part ∷ parts) patterns

-- the pattern with each of the five dashes at each of its dash places; the dash of the first place varies slowest
abbrev pub choices : List Part → List (List Part)
choices [] = [] ∷ []
choices (Char c ∷ parts) = before_each (Char c) (choices parts)
choices (One ∷ parts) = before_each One (choices parts)
choices (Run ∷ parts) = before_each Run (choices parts)
choices (Dash ∷ parts) = flat_map (λ sign. before_each (Char sign) (choices parts)) dash_signs
choices (Hole name ∷ parts) = before_each (Hole name) (choices parts)
