-- What holds of pieces of a text.
use Rattle.std.specs.Prelude.{ℕ, ◌≡◌, List, ◌++◌}

-- the text is a piece of which the first holds, and then one of which the second holds
pub record Divided (first second : List ℕ → Type 0) (text : List ℕ) : Type 0 where
  pub front : List ℕ
  pub back : List ℕ
  pub shape : text ≡ front ++ back
  pub holds_before : first front
  pub holds_behind : second back

-- the text is a prefix of which this holds, and then any characters
pub record PrefixHolds (holds : List ℕ → Type 0) (text : List ℕ) : Type 0 where
  pub prefix : List ℕ
  pub after : List ℕ
  pub shape : text ≡ prefix ++ after
  pub holds_there : holds prefix

-- the text is any characters, then a piece of which this holds, and then any characters
pub record InfixHolds (holds : List ℕ → Type 0) (text : List ℕ) : Type 0 where
  pub before : List ℕ
  pub piece : List ℕ
  pub after : List ℕ
  pub shape : text ≡ before ++ (piece ++ after)
  pub holds_there : holds piece
