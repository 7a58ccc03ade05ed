-- That what is kept suffices.
use Rattle.std.specs.Prelude.{◌≡◌, ℕ, ℤ, ◌-ℤ◌, ◌≤ℤ◌, int_lt, List, [], ◌∷◌, ◌++◌, Option, Some, None, ⊤}
use Rattle.std.specs.List.{filter}
use Rattle.correlation_windows.specs.History.{Taken, event_matches, matches_of, last_moment}
use Rattle.correlation_windows.specs.Windows.{of_group}
use Rattle.correlation_windows.specs.Reports.{reports_after}
use Rattle.correlation_windows.specs.Kept.{kept, Holds}
use Rattle.correlation_windows.specs.Over.{reports_over}
use Rattle.correlation_windows.specs.declared.matches.Match.{Match}
use Rattle.correlation_windows.specs.declared.bound.Bound.{Bound}

-- there is no last moment, or it isn't later than this one
abbrev pub IsBehind : Option ℤ → ℤ → Type 0
IsBehind None moment = ⊤
IsBehind (Some last) moment = last ≤ℤ moment

-- the matches later than a moment
abbrev pub recent : ℤ → List Match → List Match
recent after ms = filter (λ m. int_lt after m.moment) ms

-- the reports of an event from the queues of what is kept are those from the whole history
abbrev pub Suffices : Type 0
Suffices = (number : ℕ) (b : Bound) (history : List Taken) (next : Taken) (queue : List (List ℕ) → List Match) → IsBehind (last_moment history) next.moment → Holds queue (kept b history)
    → reports_over number b queue [] (event_matches b next) ≡ reports_after number b (matches_of b history) (event_matches b next)

-- queues that gain the matches of an event, and lose those that its timespan doesn't reach, are what is kept of the history with this event
abbrev pub Goes : Type 0
Goes = (b : Bound) (history : List Taken) (next : Taken) (old new : List (List ℕ) → List Match) → IsBehind (last_moment history) next.moment → Holds old (kept b history)
    → ((group : List (List ℕ)) → new group ≡ recent (next.moment -ℤ b.span) (old group ++ of_group group (event_matches b next)))
    → Holds new (kept b (history ++ next ∷ []))
