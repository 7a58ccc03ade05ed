-- The first of several refusals by place, and of those at one place the one of the smallest code.
use Rattle.std.specs.Prelude.{ℕ, Bool, ◌==◌, nat_lt, if◌then◌else◌, List, [], ◌∷◌, Option, Some, None}
use Rattle.sig_base.specs.declared.refusal.Place.{Place}
use Rattle.sig_base.specs.declared.refusal.Refusal.{Refusal}
use Rattle.sig_base.specs.declared.refusal.Detail.TheVariants as details

-- the first comes before the second: by line, on one line by column, at one place by code
abbrev pub is_before : Refusal → Refusal → Bool
is_before a b =
    if a.place.line == b.place.line then
    (if a.place.column == b.place.column then nat_lt a.code b.code else nat_lt a.place.column b.place.column)
    else nat_lt a.place.line b.place.line

-- the one that comes first; of two that are alike in place and code the first
abbrev pub sooner : Option Refusal → Option Refusal → Option Refusal
sooner None other = other
sooner (Some a) None = Some a
sooner (Some a) (Some b) = if is_before b a then Some b else Some a

-- the one of a table that comes first, where this one stands before the table
abbrev pub sooner_of : Option Refusal → List (Option Refusal) → Option Refusal
sooner_of found [] = found
sooner_of found (check ∷ checks) = sooner_of (sooner found check) checks

-- the one of a table that comes first
abbrev pub least : List (Option Refusal) → Option Refusal
least checks = sooner_of None checks

-- the refusal of this code at this place, which tells the word
abbrev pub worded : ℕ → Place → List ℕ → Refusal
worded code place word = record { code = code; place = place; detail = details.Text word }
