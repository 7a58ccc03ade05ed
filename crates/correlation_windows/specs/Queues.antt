-- Maps from groups to queues, as the code holds them.
use Rattle.std.specs.Prelude.{◌≡◌, ℕ, ◌+◌, ◌≤◌, List, [], ◌∷◌, Option, Some, None, length, map, ⊤}
use Rattle.std.specs.Map.{lookup}
use Rattle.std.specs.List.{AllByRecursion}
use Rattle.correlation_windows.specs.Groups.{same_group}
use Rattle.correlation_windows.specs.Noted.{Queued}
use Rattle.correlation_windows.specs.declared.matches.Match.{Match}
use Rattle.correlation_windows.specs.declared.bound.CorrelationKind.{CorrelationKind}

abbrev pub Entries : Type 0
Entries = List (List (List ℕ) × Queued)

abbrev pub items_of : Option (Queued) → List Match
items_of None = []
items_of (Some q) = q.items

-- the matches that a map holds of a group
abbrev pub held : Entries → List (List ℕ) → List Match
held entries group = items_of (lookup (same_group group) entries)

-- a queue takes so many more without memory
abbrev pub HasPlaces : ℕ → Option (Queued) → Type 0
HasPlaces n None = ⊤
HasPlaces n (Some q) = n ≤ q.room

-- a queue notes what a correlation of this type and so many listed rules has to know
pub record IsFor (k : CorrelationKind) (n : ℕ) (q : Queued) : Type 0 where
  pub kind : q.kind ≡ k
  pub rules : q.rules ≡ n

abbrev pub AllFor : CorrelationKind → ℕ → Entries → Type 0
AllFor kind rules es = AllByRecursion (λ e. IsFor kind rules e.1) es

-- queues with their groups, for which correlation they are, and how many more groups the map takes without memory
pub record Stored : Type 0 where
  pub entries : Entries
  pub kind : CorrelationKind
  pub rules : ℕ
  pub spare : ℕ

-- how many matches each queue has
abbrev pub lengths : Entries → List ℕ
lengths es = map (λ e. length e.1.items) es

abbrev pub total : List ℕ → ℕ
total [] = 0
total (n ∷ ns) = n + total ns

-- how many matches all queues have
abbrev pub count_held : Entries → ℕ
count_held es = total (lengths es)
