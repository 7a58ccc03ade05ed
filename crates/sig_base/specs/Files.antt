-- The files of a shelf: names, as characters, with bytes; and the first place of each.
use Rattle.std.specs.Prelude.{◌≡◌, ℕ, ◌≤◌, if◌then◌else◌, List, [], ◌∷◌, length, take, Option, Some, None, MatchOption}
use Rattle.std.specs.Str.{bytes_eq}
use Rattle.sig_base.specs.declared.refusal.Place.{Place}

-- a file's first place
abbrev pub file_start : Place
file_start = record { line = 1; column = 1 }

-- the first file of this name
abbrev pub file_at : List (List ℕ × List ℕ) → List ℕ → Option (List ℕ)
file_at [] name = None
file_at (file ∷ files) name = if bytes_eq file.0 name then Some file.1 else file_at files name

-- what a read answers: where the shelf tells its files, the front of the named one
abbrev pub IsFront : Option (List (List ℕ × List ℕ)) → List ℕ → ℕ → List ℕ → Type 0
IsFront None name at_most bytes = length bytes ≤ at_most
IsFront (Some files) name at_most bytes = MatchOption (file_at files name) ⊥ (λ all. bytes ≡ take at_most all)
