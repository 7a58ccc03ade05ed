-- The last part of a list of parts.
use Rattle.std.proofs.Common.{ℕ, suc, zero, ◌≡◌, ◌-◌, ◌<◌, List, [], ◌∷◌, ◌++◌, length, refl, sym, arith, Some}
use Rattle.std.specs.List.{slice_get}
use Rattle.std.proofs.lemmas.Option.{slice_get_within}
use Rattle.sig_strings.specs.Edits.{ends_with_run, is_run}
use Rattle.sig_strings.specs.declared.part.Part.{Part}

pub ends_with_run-append : (front : List Part) (part : Part) → ends_with_run (front ++ part ∷ []) ≡ is_run part
ends_with_run-append [] part = refl
ends_with_run-append (first ∷ []) part = refl
ends_with_run-append (first ∷ (next ∷ front)) part = ends_with_run-append (next ∷ front) part

last_at : (parts : List Part) (part : Part) (n : ℕ) → length parts ≡ suc n → Some part ≡ slice_get parts n → is_run part ≡ ends_with_run parts
last_at [] part n long found = absurd (omega (arith, long))
last_at (first ∷ []) part zero long found = cc
last_at (first ∷ []) part (suc n) long found = cc
last_at (first ∷ (next ∷ parts)) part zero long found = absurd (omega (arith, long))
last_at (first ∷ (next ∷ parts)) part (suc n) long found = last_at (next ∷ parts) part n (omega (arith, long)) found

-- the last part tells
pub ends_with_run-last : (parts : List Part) (part : Part) → Some part ≡ slice_get parts (length parts - 1) → is_run part ≡ ends_with_run parts
ends_with_run-last parts part found =
    let within : length parts - 1 < length parts = slice_get_within parts (length parts - 1) part (sym found) in
    last_at parts part (length parts - 1) (omega arith) found
