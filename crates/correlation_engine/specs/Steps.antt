-- What an event does to the queues of correlations.
use Rattle.std.specs.Prelude.{◌≡◌, ℕ, ◌+◌, ℤ, ◌-ℤ◌, ◌≤ℤ◌, List, [], ◌∷◌, ◌++◌, length, ⊤}
use Rattle.std.specs.declared.alloc.Global.{Global}
use Rattle.std.specs.declared.vec.Vec.{Vec}
use Rattle.correlation_windows.specs.Heaps.{IsInTime}
use Rattle.correlation_windows.specs.History.{Taken, event_matches, last_moment}
use Rattle.correlation_windows.specs.Kept.{Holds, kept}
use Rattle.correlation_windows.specs.Laws.{IsBehind}
use Rattle.correlation_windows.specs.Over.{reports_over}
use Rattle.correlation_windows.specs.Queues.{held}
use Rattle.correlation_windows.specs.Ready.{HasRoom, UntilEach, grouped}
use Rattle.correlation_windows.specs.declared.found.Found.{Found}
use Rattle.correlation_windows.specs.declared.report.Report.{Report}
use Rattle.correlation_engine.specs.Limits.{IsWithinLimits}
use Rattle.correlation_engine.specs.declared.watch.Watch.{Watch}

-- two lists are as long, and this holds of each element of the one and of the other
abbrev pub Each : {A B : Type 0} → (A → B → Type 0) → List A → List B → Type 0
Each R [] [] = ⊤
Each R [] (y ∷ ys) = ⊥
Each R (x ∷ xs) [] = ⊥
Each R (x ∷ xs) (y ∷ ys) = R x y × Each R xs ys

-- the queues note what the correlation has to know
pub record IsFitting (w : Watch) : Type 0 where
  pub kind : w.queues.kind ≡ w.bound.kind
  pub rules : w.queues.rules ≡ length w.bound.rules

-- a correlation that can take an event of this moment: the matches of each group are in the order of time, and none is later
pub record IsTimely (moment : ℤ) (w : Watch) : Type 0 where
  pub limits : IsWithinLimits w.bound
  pub fit : IsFitting w
  pub in_time : (g : List (List ℕ)) → IsInTime (held w.queues.entries g)
  pub until : UntilEach moment w.queues.entries

-- the same correlation with the same matches of each group
pub record IsGrown (old new : Watch) : Type 0 where
  pub bound : new.bound ≡ old.bound
  pub kind : new.queues.kind ≡ old.queues.kind
  pub rules : new.queues.rules ≡ old.queues.rules
  pub same : (g : List (List ℕ)) → held new.queues.entries g ≡ held old.queues.entries g

-- these are the correlation's matches of an event, and there's room for them
pub record IsPrepared (e : Taken) (w : Watch) (founds : List Found) : Type 0 where
  pub matches : grouped founds ≡ event_matches w.bound e
  pub room : HasRoom (e.moment -ℤ w.bound.span) w.queues founds

-- the same of the first correlations
abbrev pub ArePrepared : Taken → List Watch → List (Vec Found Global) → Type 0
ArePrepared e ws [] = ⊤
ArePrepared e [] (f ∷ fs) = ⊥
ArePrepared e (w ∷ ws) (f ∷ fs) = IsPrepared e w f.items × ArePrepared e ws fs

-- how many matches there are for all correlations
abbrev pub total_founds : List (Vec Found Global) → ℕ
total_founds [] = 0
total_founds (f ∷ fs) = length f.items + total_founds fs

-- queues that held what is kept of a history hold what is kept of it with this event, and no later match
pub record IsAdvanced (e : Taken) (old new : Watch) : Type 0 where
  pub bound : new.bound ≡ old.bound
  pub fit : IsFitting new
  pub holds : (history : List Taken) → IsBehind (last_moment history) e.moment → Holds (held old.queues.entries) (kept old.bound history) → Holds (held new.queues.entries) (kept old.bound (history ++ e ∷ []))
  pub in_time : (g : List (List ℕ)) → IsInTime (held new.queues.entries g)
  pub until : (t : ℤ) → e.moment ≤ℤ t → UntilEach t new.queues.entries

-- the reports of an event from the queues of correlations, which are numbered from here
abbrev pub reports_each : Taken → ℕ → List Watch → List Report
reports_each e number [] = []
reports_each e number (w ∷ ws) = reports_over number w.bound (held w.queues.entries) [] (event_matches w.bound e) ++ reports_each e (number + 1) ws
