-- What has to be kept of a history, and which histories queues of matches stand for.
use Rattle.std.specs.Prelude.{◌≡◌, ℕ, ℤ, ◌-ℤ◌, int_lt, if◌then◌else◌, List, [], ◌∷◌, Option, Some, None, ⊤}
use Rattle.std.specs.List.{filter}
use Rattle.correlation_windows.specs.Groups.{same_group}
use Rattle.correlation_windows.specs.History.{Taken, Grouped, matches_of, last_moment}
use Rattle.correlation_windows.specs.Windows.{of_group}
use Rattle.correlation_windows.specs.declared.matches.Match.{Match}
use Rattle.correlation_windows.specs.declared.bound.Bound.{Bound}

-- the matches later than `span` before the last moment
abbrev pub kept_at : ℤ → Option ℤ → List Grouped → List Grouped
kept_at span None ms = []
kept_at span (Some last) ms = filter (λ m. int_lt (last -ℤ span) m.1.moment) ms

abbrev pub kept : Bound → List Taken → List Grouped
kept b history = kept_at b.span (last_moment history) (matches_of b history)

-- the queue of each group has exactly the group's matches among these, in their order
abbrev pub Holds : (List (List ℕ) → List Match) → List Grouped → Type 0
Holds queue ms = (group : List (List ℕ)) → queue group ≡ of_group group ms

-- the queue of a group in a list of queues, which is empty where there is none
abbrev pub queue_of : List (List (List ℕ) × List Match) → List (List ℕ) → List Match
queue_of [] group = []
queue_of (e ∷ es) group = if same_group group e.0 then e.1 else queue_of es group

abbrev pub HoldsEach : List (List (List (List ℕ) × List Match)) → List Bound → List Taken → Type 0
HoldsEach [] [] history = ⊤
HoldsEach [] (b ∷ bs) history = ⊥
HoldsEach (queues ∷ rest) [] history = ⊥
HoldsEach (queues ∷ rest) (b ∷ bs) history = Holds (queue_of queues) (kept b history) × HoldsEach rest bs history

-- what an engine knows of the events that it has taken: the last moment, and queues for each of its correlations
pub record State : Type 0 where
  pub bounds : List Bound
  pub last : Option ℤ
  pub queues : List (List (List (List ℕ) × List Match))

-- the last moment is the history's, and the queues of each correlation hold what has to be kept of it
abbrev pub StandsFor : State → List Taken → Type 0
StandsFor s history = (s.last ≡ last_moment history) × HoldsEach s.queues s.bounds history
