-- Places in a text, and refusals at places.
use Rattle.std.specs.Prelude.{ℕ, zero, suc, ◌≡◌, Bool, true, false, ◌==◌, if◌then◌else◌, List, [], ◌∷◌, take, encode_utf8_all}
use Rattle.std.specs.Str.{chars, all_scalars, IsValidUpTo}

-- lines and columns count from 1, columns in characters
pub record At : Type 0 where
  pub line : ℕ
  pub column : ℕ

abbrev pub origin : At
origin = record { line = 1; column = 1 }

-- the place after a character; lines end with line feeds
abbrev pub after : At → ℕ → At
after p c = if c == 10 then record { line = suc p.line; column = 1 } else record { line = p.line; column = suc p.column }

abbrev pub place_after : At → List ℕ → At
place_after p [] = p
place_after p (c ∷ cs) = place_after (after p c) cs

-- the place of token k of these, counted from 0
abbrev pub nth : List At → ℕ → At
nth [] k = origin
nth (p ∷ ps) zero = p
nth (p ∷ ps) (suc k) = nth ps k

-- a refusal: its number and its place
pub record CodeAt : Type 0 where
  pub code : ℕ
  pub place : At

abbrev pub code_at : ℕ → At → CodeAt
code_at c p = record { code = c; place = p }

-- this refusal, if so
abbrev pub code_at_if : Bool → ℕ → At → List CodeAt
code_at_if true c p = code_at c p ∷ []
code_at_if false c p = []

-- ---- bytes

-- the bytes are these characters in UTF-8
pub record IsText (bytes cs : List ℕ) : Type 0 where
  pub scalars : all_scalars cs ≡ true
  pub encoded : bytes ≡ encode_utf8_all cs

-- the bytes are no text: the first bad byte stands there, behind the longest text at their front
pub record IsBadAt (bytes : List ℕ) (place : At) : Type 0 where
  pub count : ℕ
  pub longest : IsValidUpTo bytes count
  pub behind : place ≡ place_after origin (chars (take count bytes))
