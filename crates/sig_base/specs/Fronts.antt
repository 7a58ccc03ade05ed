-- What a text begins with.
use Rattle.std.specs.Prelude.{ℕ, ◌≡◌, ◌<◌, List, [], ◌∷◌, length, Some, None}
use Rattle.std.specs.declared.option.Option.{Option}
use Rattle.std.specs.Str.{chars}
use Rattle.std.specs.Borrow.{Bor}

-- the first character and what stands behind it, or nothing where the text is empty
abbrev pub FrontIs : List ℕ → Option (ℕ × Bor (List ℕ)) → Type 0
FrontIs text None = text ≡ []
FrontIs text (Some front) = (chars text ≡ front.0 ∷ chars front.1.now) × (length front.1.now < length text)
