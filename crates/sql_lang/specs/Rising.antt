-- Places in a row: each stands before all that follow.
use Rattle.std.specs.Prelude.{◌≡◌, ◌<◌, ◌⊎◌, ⊤, List, [], ◌∷◌}
use Rattle.event_schema.specs.Lists.{EachOf}
use Rattle.query_tokens.specs.Places.{At}

-- on a line before, or further left on the same one
abbrev pub IsBefore : At → At → Type 0
IsBefore p q = (p.line < q.line) ⊎ ((p.line ≡ q.line) × (p.column < q.column))

abbrev pub AreRising : List At → Type 0
AreRising [] = ⊤
AreRising (p ∷ ps) = EachOf (IsBefore p) ps × AreRising ps
