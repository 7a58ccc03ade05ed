-- How parts are written as the pattern of a LIKE whose escape character is the backslash, and of a GLOB.
use Rattle.std.specs.Prelude.{ℕ, Bool, List, [], ◌∷◌, ◌||◌, ◌==◌, if◌then◌else◌}
use Rattle.std.specs.List.{flat_map}
use Rattle.sql_lang.specs.Meaning.{Part, AnyRun, AnyOne, Exactly}

-- %, _ and the backslash
abbrev pub is_like_sign : ℕ → Bool
is_like_sign c = c == 37 || c == 95 || c == 92

-- a character that is a sign gets a backslash
abbrev pub like_piece : Part → List ℕ
like_piece AnyRun = 37 ∷ []
like_piece AnyOne = 95 ∷ []
like_piece (Exactly c) = if is_like_sign c then 92 ∷ c ∷ [] else c ∷ []

abbrev pub like_text : List Part → List ℕ
like_text ps = flat_map like_piece ps

-- *, ? and [
abbrev pub is_glob_sign : ℕ → Bool
is_glob_sign c = c == 42 || c == 63 || c == 91

-- a character that is a sign stands in brackets
abbrev pub glob_piece : Part → List ℕ
glob_piece AnyRun = 42 ∷ []
glob_piece AnyOne = 63 ∷ []
glob_piece (Exactly c) = if is_glob_sign c then 91 ∷ c ∷ 93 ∷ [] else c ∷ []

abbrev pub glob_text : List Part → List ℕ
glob_text ps = flat_map glob_piece ps

-- the characters that a pattern names
abbrev pub characters : List Part → List ℕ
characters [] = []
characters (AnyRun ∷ ps) = characters ps
characters (AnyOne ∷ ps) = characters ps
characters (Exactly c ∷ ps) = c ∷ characters ps
