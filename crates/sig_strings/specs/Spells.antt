-- Which pattern a text of a rule spells (Sigma specification 2.0, wildcards, escaping and the modifier `expand`).
use Rattle.std.specs.Prelude.{ℕ, ◌≡◌, Bool, true, false, List, [], ◌∷◌, ◌++◌, ◌==◌, ◌||◌, ◌&&◌, nat_le}
use Rattle.std.specs.List.{list_all}
use Rattle.sig_strings.specs.declared.part.Part.{Part}
use Rattle.sig_strings.specs.declared.part.Part.TheVariants.{Char, One, Run, Hole}

-- `*`, `?` or the backslash
abbrev pub is_special : ℕ → Bool
is_special c = c == 42 || c == 63 || c == 92

abbrev pub begins_special : List ℕ → Bool
begins_special [] = false
begins_special (c ∷ cs) = is_special c

-- a character of [A-Za-z0-9_]
abbrev pub is_word_char : ℕ → Bool
is_word_char c = (nat_le 65 c && nat_le c 90) || (nat_le 97 c && nat_le c 122) || (nat_le 48 c && nat_le c 57) || c == 95

-- one or more of them
abbrev pub is_name : List ℕ → Bool
is_name [] = false
is_name (c ∷ cs) = list_all is_word_char (c ∷ cs)

-- the text begins with `%`, this name and `%`, and this is the rest
pub record HasHole (text name rest : List ℕ) : Type 0 where
  pub named : is_name name ≡ true
  pub shape : text ≡ 37 ∷ (name ++ 37 ∷ rest)

-- the front of the text spells this part, and this is the rest
pub data SpellsFront (expand : Bool) (text : List ℕ) (part : Part) (rest : List ℕ) : Type 0 where
  -- `*` is any run
  star : text ≡ 42 ∷ rest → part ≡ Run → SpellsFront expand text part rest
  -- `?` is any one character
  question : text ≡ 63 ∷ rest → part ≡ One → SpellsFront expand text part rest
  -- a backslash before `*`, `?` or a backslash makes that character plain
  escaped : (c : ℕ) → text ≡ 92 ∷ (c ∷ rest) → is_special c ≡ true → part ≡ Char c → SpellsFront expand text part rest
  -- a backslash before anything else, or at the end, is itself
  backslash : text ≡ 92 ∷ rest → begins_special rest ≡ false → part ≡ Char 92 → SpellsFront expand text part rest
  -- with `expand`, a name between percent signs is a placeholder
  hole : (name : List ℕ) → expand ≡ true → HasHole text name rest → part ≡ Hole name → SpellsFront expand text part rest
  -- any other character is itself, a percent sign where no placeholder begins among them
  other : (c : ℕ) → text ≡ c ∷ rest → is_special c ≡ false
      → (expand ≡ true → (name after : List ℕ) → HasHole text name after → ⊥) → part ≡ Char c → SpellsFront expand text part rest

-- the text spells these parts
abbrev pub Spells : Bool → List ℕ → List Part → Type 0
Spells expand text [] = text ≡ []
Spells expand text (part ∷ parts) = (rest : List ℕ) × SpellsFront expand text part rest × Spells expand rest parts
