-- Tokens of any sort with their places.
use Rattle.std.specs.Prelude.{ℕ, zero, suc, List, [], ◌∷◌}
use Rattle.query_tokens.specs.Places.{At, origin, place_after}

-- the place is that of its first character
pub record Token (Sort : Type 0) : Type 0 where
  pub sort : Sort
  pub place : At

abbrev pub sorts : {Sort : Type 0} → List (Token Sort) → List Sort
sorts [] = []
sorts (t ∷ ts) = t.sort ∷ sorts ts

abbrev pub places : {Sort : Type 0} → List (Token Sort) → List At
places [] = []
places (t ∷ ts) = t.place ∷ places ts

-- the place of the first token behind so many, or of the end of these characters
abbrev pub token_place : {Sort : Type 0} → List ℕ → List (Token Sort) → ℕ → At
token_place cs [] k = place_after origin cs
token_place cs (t ∷ ts) zero = t.place
token_place cs (t ∷ ts) (suc k) = token_place cs ts k
