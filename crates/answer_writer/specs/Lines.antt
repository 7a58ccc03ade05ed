-- Lines, and the text of diagnostics on the error output.
use Rattle.std.specs.Prelude.{ℕ, List, [], ◌∷◌, ◌++◌}
use Rattle.std.specs.List.{flat_map}

-- a line with its line feed
abbrev pub ended : List ℕ → List ℕ
ended line = line ++ 10 ∷ []

-- the diagnostics, one behind the other
abbrev pub diagnostics_text : List (List ℕ) → List ℕ
diagnostics_text diagnostics = flat_map ended diagnostics
