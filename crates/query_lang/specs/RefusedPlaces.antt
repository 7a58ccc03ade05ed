-- Which places of a text may be refused for their regular expressions, and which have to be.
use Rattle.std.specs.Prelude.{ℕ, ◌≡◌, Bool, false, ◌==◌, ◌||◌, List}
use Rattle.event_schema.specs.Lists.{EachOf, SomeOf}
use Rattle.query_lang.specs.Patterns.{is_pattern}
use Rattle.query_tokens.specs.Places.{At, CodeAt}

-- a regular expression in a text: the place of its token, and the expression
pub record PatternAt : Type 0 where
  pub place : At
  pub pattern : List ℕ

abbrev pub is_of_pattern : ℕ → Bool
is_of_pattern code = code == 47 || code == 48

abbrev pub IsAmong : List ℕ → List (List ℕ) → Type 0
IsAmong pattern refused = SomeOf (λ text. text ≡ pattern) refused

-- each of these texts is a regular expression that stands there
abbrev pub AreOfPatterns : List PatternAt → List (List ℕ) → Type 0
AreOfPatterns patterns texts = EachOf (λ text. SomeOf (λ p. p.pattern ≡ text) patterns) texts

-- 47 is of a text that is no pattern, 48 of one that the builder refused
pub data IsCause (refused : List (List ℕ)) (pattern : List ℕ) (code : ℕ) : Type 0 where
  no_pattern : code ≡ 47 → is_pattern pattern ≡ false → IsCause refused pattern code
  not_built : code ≡ 48 → IsAmong pattern refused → IsCause refused pattern code

-- This list has places of regular expressions alone, each with its cause, and the place of each text that is no pattern.
pub record AreRefused (patterns : List PatternAt) (refused : List (List ℕ)) (places : List CodeAt) : Type 0 where
  pub caused : EachOf (λ r. SomeOf (λ p. (p.place ≡ r.place) × IsCause refused p.pattern r.code) patterns) places
  pub all : EachOf (λ p. is_pattern p.pattern ≡ false → SomeOf (λ r. r.place ≡ p.place) places) patterns
