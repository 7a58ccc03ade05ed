-- What stands at the end of a line that a line feed ends.
use Rattle.std.specs.Prelude.{ℕ, ◌&&◌, ◌==◌, if◌then◌else◌, List, [], ◌∷◌}
use Rattle.yaml_inline.specs.File.{is_empty}

-- without a carriage return at the end
abbrev pub without_return : List ℕ → List ℕ
without_return [] = []
without_return (c ∷ cs) = if c == 13 && is_empty cs then [] else c ∷ without_return cs
