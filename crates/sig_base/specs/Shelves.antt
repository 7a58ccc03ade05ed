-- The names whose reading failed.
use Rattle.std.specs.Prelude.{◌≡◌, ℕ, List, [], ◌∷◌, ◌++◌, Result, Ok, Err}
use Rattle.sig_base.specs.declared.faults.ShelfFault.{ShelfFault}
use Rattle.sig_base.specs.declared.faults.ShelfFault.TheVariants.{Failed, Memory}

-- the list gains the name where the read failed, nothing where it answered, and some names where memory was missing
abbrev pub NamesFollow : {T : Type 0} → List (List ℕ) → List (List ℕ) → List ℕ → Result T ShelfFault → Type 0
NamesFollow old new name (Ok x) = new ≡ old
NamesFollow old new name (Err Failed) = new ≡ old ++ name ∷ []
NamesFollow old new name (Err Memory) = (names : List (List ℕ)) × (new ≡ old ++ names)
