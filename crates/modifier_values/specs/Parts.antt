-- The pattern that a text spells, as a function.
use Rattle.std.specs.Prelude.{ℕ, zero, suc, Bool, true, false, ◌&&◌, List, [], ◌∷◌, ◌==◌, length, if◌then◌else◌, Option, Some, None}
use Rattle.std.specs.List.{list_any}
use Rattle.sig_strings.specs.Spells.{is_special, is_word_char}
use Rattle.sig_strings.specs.declared.part.Part.{Part}
use Rattle.sig_strings.specs.declared.part.Part.TheVariants.{Char, One, Run, Hole}

abbrev pub with_first : ℕ → Option (List ℕ) → Option (List ℕ)
with_first c None = None
with_first c (Some cs) = Some (c ∷ cs)

-- what stands before the next percent sign, where that is letters, digits and underscores alone
abbrev pub word_to_percent : List ℕ → Option (List ℕ)
word_to_percent [] = None
word_to_percent (c ∷ cs) = if c == 37 then Some [] else (if is_word_char c then with_first c (word_to_percent cs) else None)

-- what a percent sign before such a word is, and how many characters it takes behind the sign: a placeholder's begin, or itself
abbrev pub percent_front : Option (List ℕ) → Part × ℕ
percent_front None = (Char 37, 0)
percent_front (Some []) = (Char 37, 0)
percent_front (Some (c ∷ cs)) = (Hole (c ∷ cs), suc (length (c ∷ cs)))

-- what a backslash before this text is, and how many characters it takes behind the backslash
abbrev pub backslash_front : List ℕ → Part × ℕ
backslash_front [] = (Char 92, 0)
backslash_front (c ∷ cs) = if is_special c then (Char c, 1) else (Char 92, 0)

-- the part that a character before this text is, and how many characters it takes behind the first
abbrev pub front_of : Bool → ℕ → List ℕ → Part × ℕ
front_of expand c cs =
    if c == 42 then (Run, 0)
    else (if c == 63 then (One, 0)
    else (if c == 92 then backslash_front cs
    else (if expand && c == 37 then percent_front (word_to_percent cs) else (Char c, 0))))

-- the parts behind as many characters, which the part before them takes
abbrev pub parts_behind : Bool → ℕ → List ℕ → List Part
parts_behind expand n [] = []
parts_behind expand (suc n) (c ∷ cs) = parts_behind expand n cs
parts_behind expand zero (c ∷ cs) = (front_of expand c cs).0 ∷ parts_behind expand (front_of expand c cs).1 cs

-- the pattern that a text spells, with placeholders or without
abbrev pub parts_of : Bool → List ℕ → List Part
parts_of expand text = parts_behind expand 0 text

-- some character is U+0000
abbrev pub has_nul : List ℕ → Bool
has_nul t = list_any (λ c. c == 0) t
