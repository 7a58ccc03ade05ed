-- Which texts a pattern fits: there is a division of the text among the parts, in their order (Sigma specification 2.0,
-- wildcards and the modifiers `cased` and `windash`).
use Rattle.std.specs.Prelude.{ℕ, ◌≡◌, Bool, true, List, [], ◌∷◌, if◌then◌else◌, ◌==◌, ◌⊎◌}
use Rattle.matching.specs.Suffixes.{SuffixHolds, CharThen}
use Rattle.matching.specs.Steps.{is_dash, folds_to}
use Rattle.sig_strings.specs.declared.part.Part.{Part}
use Rattle.sig_strings.specs.declared.part.Part.TheVariants.{Char, One, Run, Dash, Hole}

-- the same character, or without regard to case the same after folding
abbrev pub same_char : Bool → ℕ → ℕ → Bool
same_char cased c d = if cased then c == d else folds_to c d

-- the parts fit this text, whole
abbrev pub Fits : List Part → List ℕ → Bool → Type 0
Fits [] text cased = text ≡ []
Fits (Char c ∷ parts) text cased = CharThen (same_char cased c) (λ rest. Fits parts rest cased) text
Fits (One ∷ parts) text cased = CharThen (λ d. true) (λ rest. Fits parts rest cased) text
Fits (Run ∷ parts) text cased = SuffixHolds (λ rest. Fits parts rest cased) text
Fits (Dash ∷ parts) text cased = CharThen is_dash (λ rest. Fits parts rest cased) text
Fits (Hole name ∷ parts) text cased = ⊥

-- one of the patterns fits the text
abbrev pub SomeFits : List (List Part) → List ℕ → Bool → Type 0
SomeFits [] text cased = ⊥
SomeFits (parts ∷ others) text cased = Fits parts text cased ⊎ SomeFits others text cased
