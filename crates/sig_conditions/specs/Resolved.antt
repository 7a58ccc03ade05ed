-- What a resolver of the code answers beside the formula and the faults of a condition.
use Rattle.std.specs.Prelude.{ℕ, ◌≡◌, List, [], ◌∷◌, Some, Ok, Err}
use Rattle.std.specs.declared.option.Option.{Option}
use Rattle.std.specs.declared.result.Result.{Result}
use Rattle.sig_conditions.specs.declared.unresolved.Unresolved.{Unresolved}
use Rattle.sig_conditions.specs.declared.unresolved.Unresolved.TheVariants.{Memory, Unknown, Nothing}
use Rattle.sig_conditions.specs.Formulas.{Why, unknown, nothing}

-- the first of the faults
pub record FirstIs (why : Why) (whys : List Why) : Type 0 where
  pub later : List Why
  pub shape : whys ≡ why ∷ later

abbrev pub Fails : Unresolved → List Why → Type 0
Fails Memory whys = Unit {0}
Fails (Unknown name) whys = FirstIs (unknown name) whys
Fails Nothing whys = FirstIs nothing whys

-- the formula where there is no fault, or the first fault, unless memory ran out
abbrev pub Resolves : {X A : Type 0} → (X → A) → Result X Unresolved → Option A → List Why → Type 0
Resolves view (Ok x) formula whys = (formula ≡ Some (view x)) × (whys ≡ [])
Resolves view (Err e) formula whys = Fails e whys

-- the name that no detection has
abbrev pub IsUnknown : List ℕ → Unresolved → Type 0
IsUnknown name Memory = Unit {0}
IsUnknown name (Unknown n) = n ≡ name
IsUnknown name Nothing = ⊥
