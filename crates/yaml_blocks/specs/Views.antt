-- Lines and what readers of them give, as plain data.
use Rattle.std.specs.Prelude.{ℕ, List, [], ◌∷◌, map as list_map, Option, Some, None}
use Rattle.std.specs.Borrow.{Bor}
use Rattle.yaml_inline.specs.declared.line.Line as code
use Rattle.yaml_inline.specs.File.{Line}
use Rattle.yaml_inline.specs.View.{line_view}

abbrev pub lines_view : List code.Line → List Line
lines_view ls = list_map line_view ls

-- what follows three signs, or a text that nothing follows
abbrev pub three_view : Option (Bor (List ℕ)) → List ℕ
three_view None = 0 ∷ []
three_view (Some r) = r.now

abbrev pub done : Unit {0} → Unit {0}
done u = tt
