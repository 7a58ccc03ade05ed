-- Texts that are IPv4 addresses, and texts that don't look like the front of one.
use Rattle.std.specs.Prelude.{◌≡◌, ℕ, ◌<◌, ◌≤◌, true, ◌⊎◌, List, ◌∷◌, ◌++◌, length}
use Rattle.std.specs.Fmt.{decimal}
use Rattle.std.specs.List.{list_all}
use Rattle.sig_base.specs.Digits.{is_digit}

-- four decimals from 0 to 255, without needless zeros, joined by dots
pub record IsQuad (text : List ℕ) : Type 0 where
  pub first : ℕ
  pub second : ℕ
  pub third : ℕ
  pub fourth : ℕ
  pub bytes : (first < 256) × (second < 256) × (third < 256) × (fourth < 256)
  pub spelled : text ≡ decimal first ++ (46 ∷ (decimal second ++ (46 ∷ (decimal third ++ (46 ∷ decimal fourth)))))

-- one to three digits and a dot stand at the front
pub record BeginsAsQuad (text : List ℕ) : Type 0 where
  pub digits : List ℕ
  pub rest : List ℕ
  pub parts : text ≡ digits ++ 46 ∷ rest
  pub are_digits : list_all is_digit digits ≡ true
  pub few : (1 ≤ length digits) × (length digits ≤ 3)

-- what a field of addresses takes
abbrev pub IsAddress : List ℕ → Type 0
IsAddress text = IsQuad text ⊎ (BeginsAsQuad text → ⊥)
