-- What an engine holds.
use Rattle.std.specs.Prelude.{◌≡◌, ℕ, ◌+◌, ◌<◌, ◌^◌, ℤ, ◌<ℤ◌, List, [], ◌∷◌, map, length, Option, Some}
use Rattle.std.specs.List.{AllByRecursion}
use Rattle.correlation_windows.specs.Heaps.{IsInTime}
use Rattle.correlation_windows.specs.History.{Taken}
use Rattle.correlation_windows.specs.Kept.{kept}
use Rattle.correlation_windows.specs.Laws.{IsBehind}
use Rattle.correlation_windows.specs.Queues.{Entries, held}
use Rattle.correlation_windows.specs.Ready.{UntilEach}
use Rattle.correlation_windows.specs.declared.bound.Bound.{Bound}
use Rattle.correlation_windows.specs.declared.matches.Match.{Match}
use Rattle.correlation_engine.specs.Limits.{IsWithinLimits}
use Rattle.correlation_engine.specs.Steps.{IsFitting}
use Rattle.correlation_engine.specs.declared.fault.TakeFault.{TakeFault}
use Rattle.correlation_engine.specs.declared.fault.TakeFault.TheVariants.{Memory, OutOfOrder}
use Rattle.correlation_engine.specs.declared.watch.Watch.{Watch}

-- the groups with their matches
abbrev pub plain : Entries → List (List (List ℕ) × List Match)
plain es = map (λ e. (e.0, e.1.items)) es

abbrev pub bounds_of : List Watch → List Bound
bounds_of ws = map (λ w. w.bound) ws

abbrev pub queues_of : List Watch → List (List (List (List ℕ) × List Match))
queues_of ws = map (λ w. plain w.queues.entries) ws

-- a correlation for which no match is held
pub record IsNew (w : Watch) : Type 0 where
  pub limits : IsWithinLimits w.bound
  pub fit : IsFitting w
  pub empty : (g : List (List ℕ)) → held w.queues.entries g ≡ []

-- the matches of each group are in the order of time, and none is later than a moment that isn't before the last one
pub record IsWatch (last : Option ℤ) (w : Watch) : Type 0 where
  pub limits : IsWithinLimits w.bound
  pub fit : IsFitting w
  pub in_time : (g : List (List ℕ)) → IsInTime (held w.queues.entries g)
  pub until : (t : ℤ) → IsBehind last t → UntilEach t w.queues.entries

pub record IsEngine (last : Option ℤ) (ws : List Watch) : Type 0 where
  pub watches : AllByRecursion (IsWatch last) ws
  pub few : length ws < 2 ^ 32

-- an event is out of order exactly where its moment is less than the last one
abbrev pub IsFaultOf : Option ℤ → ℤ → TakeFault → Type 0
IsFaultOf last moment Memory = IsBehind last moment
IsFaultOf last moment (OutOfOrder at before) = (at ≡ moment) × (last ≡ Some before) × (moment <ℤ before)

-- how many matches have to be kept of a history, for all correlations together
abbrev pub total_kept : List Bound → List Taken → ℕ
total_kept [] history = 0
total_kept (b ∷ bs) history = length (kept b history) + total_kept bs history
