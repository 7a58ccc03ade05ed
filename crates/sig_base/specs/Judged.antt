-- What a reader answers: what it reads, or the first cause for which it reads nothing.
use Rattle.std.specs.Prelude.{ℕ, ◌≡◌, Bool, List, [], ◌∷◌, if◌then◌else◌, Option, Some, None, Result, Ok, Err}
use Rattle.sig_base.specs.declared.refusal.Place.{Place}
use Rattle.sig_base.specs.declared.refusal.Refusal.{Refusal}
use Rattle.sig_base.specs.declared.refusal.Detail.TheVariants as details
use Rattle.sig_base.specs.declared.refusal.Fault.{Fault}
use Rattle.sig_base.specs.declared.refusal.Fault.TheVariants.{Memory, Refused}

-- the refusal of this code at this place
abbrev pub refusal : ℕ → Place → Refusal
refusal code place = record { code = code; place = place; detail = details.None }

-- the refusal, unless the condition holds
abbrev pub must : ℕ → Place → Bool → Option Refusal
must code place holds = if holds then None else Some (refusal code place)

-- the first refusal of a table
abbrev pub first : List (Option Refusal) → Option Refusal
first [] = None
first (None ∷ checks) = first checks
first (Some r ∷ checks) = Some r

-- what is read is so where there is no cause to refuse, else the refusal is answered; want of memory is free
abbrev pub Judged : {X : Type 0} → (X → Type 0) → Option Refusal → Result X Fault → Type 0
Judged IsRead cause (Ok x) = (cause ≡ None) × IsRead x
Judged IsRead cause (Err Memory) = Unit {0}
Judged IsRead cause (Err (Refused r)) = cause ≡ Some r
