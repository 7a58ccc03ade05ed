-- Long lists in halves: at most 64 in a row, and of more the first half, the larger by one where their number is odd, and
-- the second half, each written so again.
use Rattle.std.specs.Prelude.{ℕ, zero, suc, nat_le, if◌then◌else◌, List, length, take, drop}
use Rattle.sql_layout.specs.Halves.{middle}

-- how many are in the first half
abbrev pub half : ℕ → ℕ
half count = suc (middle count)

-- what a row is, and what two halves are together
module _ {A B : Type 0} (row : List A → B) (two : B → B → B) where
  -- halved so many times at most
  unfoldable pub in_halves : ℕ → List A → B
  in_halves zero xs = row xs
  in_halves (suc n) xs =
      if nat_le (length xs) 64 then row xs else two (in_halves n (take (half (length xs)) xs)) (in_halves n (drop (half (length xs)) xs))

  -- a list has no more halves than elements
  abbrev pub halved : List A → B
  halved xs = in_halves (length xs) xs
