-- Lines that are numbered one by one.
use Rattle.std.specs.Prelude.{◌≡◌, ℕ, suc, true, List, [], ◌∷◌}
use Rattle.yaml_inline.specs.File.{Line}
use Rattle.yaml_blocks.specs.Documents.{has_content}

abbrev pub AreNumbered : ℕ → List Line → Type 0
AreNumbered n [] = Unit {0}
AreNumbered n (l ∷ ls) = (l.number ≡ n) × AreNumbered (suc n) ls

-- each line has the number behind that of the line before it
abbrev pub AreInARow : List Line → Type 0
AreInARow [] = Unit {0}
AreInARow (l ∷ ls) = AreNumbered (suc l.number) ls

-- the documents have content, and are numbered each in a row
abbrev pub AreDocuments : List (List Line) → Type 0
AreDocuments [] = Unit {0}
AreDocuments (d ∷ ds) = (has_content d ≡ true) × AreInARow d × AreDocuments ds
