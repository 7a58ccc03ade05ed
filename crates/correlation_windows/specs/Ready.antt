-- Matches that can go into their queues without memory.
use Rattle.std.specs.Prelude.{◌≡◌, ℕ, ◌≤◌, ℤ, ◌≤ℤ◌, List, [], Option, Some, None, length, map}
use Rattle.std.specs.List.{AllByRecursion}
use Rattle.std.specs.Map.{lookup}
use Rattle.correlation_windows.specs.Groups.{same_group}
use Rattle.correlation_windows.specs.Heaps.{IsUntil, IsInTime, AllUntil}
use Rattle.correlation_windows.specs.History.{Grouped}
use Rattle.correlation_windows.specs.Laws.{recent}
use Rattle.correlation_windows.specs.Noted.{Queued}
use Rattle.correlation_windows.specs.Queues.{Entries, Stored, HasPlaces, IsFor, held}
use Rattle.correlation_windows.specs.declared.bound.CorrelationKind.{CorrelationKind}
use Rattle.correlation_windows.specs.declared.found.Found.{Found}
use Rattle.correlation_windows.specs.declared.found.Fresh.{Fresh}

abbrev pub grouped : List Found → List Grouped
grouped founds = map (λ f. (f.group, f.found)) founds

-- an empty queue of a correlation with room for n matches, and the group's texts once more
pub record IsFresh (n : ℕ) (kind : CorrelationKind) (rules : ℕ) (group : List (List ℕ)) (fresh : Fresh) : Type 0 where
  pub empty : fresh.queue.items ≡ []
  pub fit : IsFor kind rules fresh.queue
  pub room : n ≤ fresh.queue.room
  pub texts : fresh.texts ≡ group

abbrev pub HasFresh : ℕ → CorrelationKind → ℕ → List (List ℕ) → Option Fresh → Type 0
HasFresh n kind rules group None = ⊥
HasFresh n kind rules group (Some fresh) = IsFresh n kind rules group fresh

-- a match with a copy of its counted text, and with such a queue if its group has no match later than this moment
pub record IsProvided (after : ℤ) (n : ℕ) (stored : Stored) (f : Found) : Type 0 where
  pub text : f.text ≡ f.found.counted
  pub fresh : recent after (held stored.entries f.group) ≡ [] → HasFresh n stored.kind stored.rules f.group f.fresh

abbrev pub AllProvided : ℤ → ℕ → Stored → List Found → Type 0
AllProvided after n stored founds = AllByRecursion (IsProvided after n stored) founds

-- the queue of its group takes n more
abbrev pub AllPlaced : ℕ → Entries → List Found → Type 0
AllPlaced n entries founds = AllByRecursion (λ f. HasPlaces n (lookup (same_group f.group) entries)) founds

-- once all matches have gone that aren't later than this moment, these can go into the queues, and their groups into the map
pub record HasRoom (after : ℤ) (stored : Stored) (founds : List Found) : Type 0 where
  pub room : length founds ≤ stored.spare
  pub placed : AllPlaced (length founds) stored.entries founds
  pub provided : AllProvided after (length founds) stored founds

-- a group's queue takes n more, or there's one for it that does
abbrev pub IsPlaced : ℕ → CorrelationKind → ℕ → List (List ℕ) → Option Fresh → Option Queued → Type 0
IsPlaced n kind rules group fresh None = HasFresh n kind rules group fresh
IsPlaced n kind rules group fresh (Some q) = n ≤ q.room

-- a match can go into its queue, and n in all
pub record IsReady (n : ℕ) (kind : CorrelationKind) (rules : ℕ) (entries : Entries) (f : Found) : Type 0 where
  pub text : f.text ≡ f.found.counted
  pub place : IsPlaced n kind rules f.group f.fresh (lookup (same_group f.group) entries)

abbrev pub AllReady : ℕ → CorrelationKind → ℕ → Entries → List Found → Type 0
AllReady n kind rules entries founds = AllByRecursion (IsReady n kind rules entries) founds

-- each is at least as late as those before it
abbrev pub AreInTime : List Found → Type 0
AreInTime founds = IsInTime (map (λ f. f.found) founds)

-- each is at least as late as all matches in the queues
abbrev pub AllNext : Entries → List Found → Type 0
AllNext entries founds = AllByRecursion (λ f. AllUntil f.found.moment entries) founds

-- no match of any group is later than this moment
abbrev pub UntilEach : ℤ → Entries → Type 0
UntilEach t entries = (g : List (List ℕ)) → IsUntil t (held entries g)

abbrev pub ComeNext : Entries → List Found → Type 0
ComeNext entries founds = AllByRecursion (λ f. UntilEach f.found.moment entries) founds × AreInTime founds

-- all are of this moment, as the matches of one event are
abbrev pub AllAt : ℤ → List Found → Type 0
AllAt t founds = AllByRecursion (λ f. f.found.moment ≡ t) founds

-- the matches of an event that isn't earlier than those in the queues can go in
abbrev pub Follows : Type 0
Follows = (entries : Entries) (founds : List Found) (last t : ℤ) → AllAt t founds → UntilEach last entries → last ≤ℤ t → ComeNext entries founds
