-- What holds of a suffix of a text, and of what stands behind its first character.
use Rattle.std.specs.Prelude.{ℕ, ◌≡◌, Bool, true, List, ◌∷◌, ◌++◌}

-- the text is any characters and then a suffix of which this holds
pub record SuffixHolds (holds : List ℕ → Type 0) (text : List ℕ) : Type 0 where
  pub before : List ℕ
  pub suffix : List ℕ
  pub shape : text ≡ before ++ suffix
  pub holds_there : holds suffix

-- the text begins with a character that passes, and this holds of the rest
pub record CharThen (passes : ℕ → Bool) (holds : List ℕ → Type 0) (text : List ℕ) : Type 0 where
  pub first : ℕ
  pub rest : List ℕ
  pub shape : text ≡ first ∷ rest
  pub passed : passes first ≡ true
  pub holds_then : holds rest
