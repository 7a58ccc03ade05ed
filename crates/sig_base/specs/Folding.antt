-- Folding: the letters A to Z become a to z, and every other character stays.
use Rattle.std.specs.Prelude.{ℕ, ◌+◌, nat_le, ◌&&◌, if◌then◌else◌, List, map}

abbrev pub fold : ℕ → ℕ
fold c = if nat_le 65 c && nat_le c 90 then c + 32 else c

abbrev pub folded : List ℕ → List ℕ
folded text = map fold text
