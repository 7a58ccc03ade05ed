-- How often texts stand in a list.
use Rattle.std.specs.Prelude.{◌≡◌, ℕ, zero, suc, ◌+◌, if◌then◌else◌, List, [], ◌∷◌, Option, Some, None, length}
use Rattle.std.specs.Map.{lookup}
use Rattle.std.specs.Str.{bytes_eq}
use Rattle.correlation_windows.specs.Windows.{distinct}

-- how often a text stands among these
abbrev pub times : List ℕ → List (List ℕ) → ℕ
times text [] = 0
times text (t ∷ ts) = (if bytes_eq text t then 1 else 0) + times text ts

-- a number that isn't 0
abbrev pub some_times : ℕ → Option ℕ
some_times zero = None
some_times (suc n) = Some (suc n)

abbrev pub or_none : Option ℕ → ℕ
or_none None = 0
or_none (Some n) = n

-- each of these texts has how often it stands there, and no other text stands in the map
pub record AreTimes (entries : List (List ℕ × ℕ)) (texts : List (List ℕ)) : Type 0 where
  pub each : (text : List ℕ) → lookup (bytes_eq text) entries ≡ some_times (times text texts)
  pub count : length entries ≡ distinct texts
