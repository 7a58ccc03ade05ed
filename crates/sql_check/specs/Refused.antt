-- The refusals that faults are.
use Rattle.std.specs.Prelude.{List, [], ◌∷◌, Option, Some, None}
use Rattle.sig_base.specs.declared.refusal.Refusal.{Refusal}
use Rattle.sig_base.specs.Judged.{refusal}
use Rattle.query_tokens.specs.Places.{CodeAt}

-- a refusal has no detail
abbrev pub refusal_of : CodeAt → Refusal
refusal_of f = refusal f.code (record { line = f.place.line; column = f.place.column })

abbrev pub refusal_if : Option CodeAt → Option Refusal
refusal_if None = None
refusal_if (Some f) = Some (refusal_of f)

-- the first fault, if there is one
abbrev pub first_fault : List CodeAt → Option CodeAt
first_fault [] = None
first_fault (f ∷ fs) = Some f
