-- What a queue notes of its matches, so that no window is gone through.
use Rattle.std.specs.Prelude.{◌≡◌, ℕ, true, false, min, List, length, ⊤}
use Rattle.std.specs.List.{filter_map}
use Rattle.correlation_windows.specs.Tallies.{AreTimes}
use Rattle.correlation_windows.specs.Reaches.{AreReaches}
use Rattle.correlation_windows.specs.declared.matches.Match.{Match}
use Rattle.correlation_windows.specs.declared.bound.CorrelationKind.{CorrelationKind}
use Rattle.correlation_windows.specs.declared.bound.CorrelationKind.TheVariants as kinds

-- the texts that are counted of these matches
abbrev pub texts_of : List Match → List (List ℕ)
texts_of w = filter_map (λ m. m.counted) w

-- what is noted of these matches for a correlation of so many listed rules
abbrev pub IsNoted : CorrelationKind → ℕ → List (List ℕ × ℕ) → List ℕ → List Match → Type 0
IsNoted kinds.EventCount rules times reaches w = ⊤
IsNoted kinds.ValueCount rules times reaches w = AreTimes times (texts_of w)
IsNoted kinds.Temporal rules times reaches w = (length reaches ≡ rules) × AreReaches false reaches w
IsNoted kinds.TemporalOrdered rules times reaches w = (length reaches ≡ rules) × AreReaches true reaches w

-- how many more matches fit without memory, where so many fit into the queue and so many texts into the map
abbrev pub room_of : CorrelationKind → ℕ → ℕ → ℕ
room_of kinds.EventCount places texts = places
room_of kinds.ValueCount places texts = min places texts
room_of kinds.Temporal places texts = places
room_of kinds.TemporalOrdered places texts = places

-- a queue: its matches, for which correlations it notes what has to be known of them, and how many more fit without memory
pub record Queued : Type 0 where
  pub items : List Match
  pub kind : CorrelationKind
  pub rules : ℕ
  pub room : ℕ
