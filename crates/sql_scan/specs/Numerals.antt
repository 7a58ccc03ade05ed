-- What is read of a numeral.
use Rattle.std.specs.Prelude.{ℕ, ℤ, pos, neg_ℤ, ◌≡◌, ◌<◌, ◌^◌, Bool, true, false, ◌==◌, nat_lt, if◌then◌else◌, List, [], ◌∷◌, Option, Some, None}
use Rattle.sql_lang.specs.Tokens.{is_number, number_of}

-- a number below 2^63, or none
abbrev pub IsSmall : ℕ → Option ℕ → Type 0
IsSmall n None = nat_lt n (2 ^ 63) ≡ false
IsSmall n (Some v) = (nat_lt n (2 ^ 63) ≡ true) × (v ≡ n) × (v < 2 ^ 63)

abbrev pub IsNumber : List ℕ → Option ℤ → Type 0
IsNumber word None = is_number word ≡ false
IsNumber word (Some v) = (is_number word ≡ true) × (v ≡ number_of word)

abbrev pub begins_minus : List ℕ → Bool
begins_minus [] = false
begins_minus (c ∷ cs) = c == 45

abbrev pub signed : Bool → ℕ → ℤ
signed true n = neg_ℤ (pos n)
signed false n = pos n
