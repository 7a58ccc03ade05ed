-- How many of the newest matches of a window meet the listed rules.
use Rattle.std.specs.Prelude.{◌≡◌, ℕ, zero, suc, ◌+◌, ◌-◌, ◌^◌, ◌<◌, ◌≤◌, ◌==◌, nat_le, Bool, true, false, min, List, length, map, take, reverse, get_or, slice_set}
use Rattle.std.specs.List.{list_any, range_with_len}
use Rattle.correlation_windows.specs.Windows.{has_subsequence}
use Rattle.correlation_windows.specs.declared.matches.Match.{Match}

-- so many of the newest matches, the newest first
abbrev pub newest : ℕ → List Match → List Match
newest n w = take n (reverse w)

-- whether some of these matches, the newest first, meet the listed rules up to this place in their order, or the rule at this place alone
abbrev pub is_reached : Bool → ℕ → List Match → Bool
is_reached false place ms = list_any (λ m. m.place == place) ms
is_reached true place ms = has_subsequence (reverse (range_with_len 0 (place + 1))) ms

-- the number at each place is how many of the newest matches it takes; it's greater than a window's length where the window isn't enough
abbrev pub AreReaches : Bool → List ℕ → List Match → Type 0
AreReaches ordered reaches w = (place n : ℕ) → place < length reaches → n ≤ length w → is_reached ordered place (newest n w) ≡ nat_le (get_or reaches place 0) n

-- how many matches before one with this place it takes together with that one
abbrev pub before : Bool → ℕ → List ℕ → ℕ
before false place reaches = 0
before true zero reaches = 0
before true (suc place) reaches = min (get_or reaches place 0) (get_or reaches (suc place) 0)

-- one match more
abbrev pub aged : List ℕ → List ℕ
aged reaches = map (λ n. min (n + 1) (2 ^ 64 - 1)) reaches

-- the numbers once a match with this place has come
abbrev pub entered : Bool → ℕ → List ℕ → List ℕ
entered ordered place reaches = aged (slice_set reaches place (before ordered place reaches))
