-- The eight texts, which stand for themselves in rules and are values in events.
use Rattle.std.specs.Prelude.{ℕ, zero, suc, List, [], ◌∷◌, codes}

abbrev pub words : List (List ℕ)
words =
    codes "cmd.exe"
    ∷ codes "CMD.EXE"
    ∷ codes "power shell"
    ∷ codes "a*b"
    ∷ codes "100%"
    ∷ []
    ∷ codes "AND"
    ∷ codes "x_y"
    ∷ []

-- the text of a number in a list, counted from 0; behind the last one it's the empty text
abbrev pub text_at : List (List ℕ) → ℕ → List ℕ
text_at [] k = []
text_at (text ∷ texts) zero = text
text_at (text ∷ texts) (suc k) = text_at texts k

abbrev pub word : ℕ → List ℕ
word k = text_at words k
