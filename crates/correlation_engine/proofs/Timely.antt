-- Queues in the order of time, from event to event.
use Rattle.std.proofs.Common.{◌≡◌, ℕ, Bool, true, false, List, [], ◌∷◌, ◌++◌, ap, sym, subst, ◌∙◌, arith, length}
use Rattle.std.proofs.lemmas.Int.{ints}
use Rattle.std.specs.Prelude.{ℤ, ◌≤ℤ◌, int_lt, if◌then◌else◌}
use Rattle.std.specs.List.{AllByRecursion}
use Rattle.correlation_windows.specs.Groups.{same_group}
use Rattle.correlation_windows.specs.Heaps.{IsInTime, IsUntil}
use Rattle.correlation_windows.specs.Laws.{recent}
use Rattle.correlation_windows.specs.Queues.{Entries, held}
use Rattle.correlation_windows.specs.Ready.{AllAt, UntilEach, grouped}
use Rattle.correlation_windows.specs.Windows.{of_group}
use Rattle.correlation_windows.specs.declared.bound.Bound.{Bound}
use Rattle.correlation_windows.specs.declared.found.Found.{Found}
use Rattle.correlation_windows.specs.declared.matches.Match.{Match}
use Rattle.correlation_engine.specs.Limits.{IsWithinLimits}
use Rattle.correlation_engine.specs.Steps.{IsTimely, IsGrown, IsFitting}
use Rattle.correlation_engine.specs.declared.watch.Watch.{Watch}

-- all are of this moment
abbrev Same : ℤ → List Match → Type 0
Same t ms = AllByRecursion (λ m. m.moment ≡ t) ms

at_most : (s a t : ℤ) → s ≤ℤ t → a ≡ t → s ≤ℤ a
at_most s a t le e = subst (λ (x : ℤ). s ≤ℤ x) (sym e) le

refl_at : (a b t : ℤ) → a ≡ t → b ≡ t → a ≤ℤ b
refl_at a b t p q = omega (arith, ints, p, q)

same_later : (a t : ℤ) → a ≡ t → (ms : List Match) → Same t ms → AllByRecursion (λ x. a ≤ℤ x.moment) ms
same_later a t e [] all = tt
same_later a t e (m ∷ ms) all = (refl_at a m.moment t e all.0, same_later a t e ms all.1)

same_in_time : (t : ℤ) (ms : List Match) → Same t ms → IsInTime ms
same_in_time t [] all = tt
same_in_time t (m ∷ ms) all = (same_later m.moment t all.0 ms all.1, same_in_time t ms all.1)

later_append : (a t : ℤ) → a ≤ℤ t → (xs ys : List Match) → AllByRecursion (λ x. a ≤ℤ x.moment) xs → Same t ys → AllByRecursion (λ x. a ≤ℤ x.moment) (xs ++ ys)
later_append a t le [] [] all same = tt
later_append a t le [] (y ∷ ys) all same = (at_most a y.moment t le same.0, later_append a t le [] ys tt same.1)
later_append a t le (x ∷ xs) ys all same = (all.0, later_append a t le xs ys all.1 same)

in_time_append : (t : ℤ) (xs ys : List Match) → IsInTime xs → IsUntil t xs → Same t ys → IsInTime (xs ++ ys)
in_time_append t [] ys in_time until same = same_in_time t ys same
in_time_append t (x ∷ xs) ys in_time until same = (later_append x.moment t until.0 xs ys in_time.0 same, in_time_append t xs ys in_time.1 until.1 same)

later_recent : (a after : ℤ) (ms : List Match) → AllByRecursion (λ x. a ≤ℤ x.moment) ms → AllByRecursion (λ x. a ≤ℤ x.moment) (recent after ms)
later_recent a after [] all = tt
later_recent a after (m ∷ ms) all = by (int_lt after m.moment) (later_recent a after ms all.1)
  where
    by : (b : Bool) → AllByRecursion (λ x. a ≤ℤ x.moment) (recent after ms) → AllByRecursion (λ x. a ≤ℤ x.moment) (if b then m ∷ recent after ms else recent after ms)
    by true rest = (all.0, rest)
    by false rest = rest

in_time_recent : (after : ℤ) (ms : List Match) → IsInTime ms → IsInTime (recent after ms)
in_time_recent after [] all = tt
in_time_recent after (m ∷ ms) all = by (int_lt after m.moment) (in_time_recent after ms all.1)
  where
    by : (b : Bool) → IsInTime (recent after ms) → IsInTime (if b then m ∷ recent after ms else recent after ms)
    by true rest = (later_recent m.moment after ms all.0, rest)
    by false rest = rest

same_group_of : (t : ℤ) (founds : List Found) (g : List (List ℕ)) → AllAt t founds → Same t (of_group g (grouped founds))
same_group_of t [] g all = tt
same_group_of t (f ∷ fs) g all = by (same_group g f.group) (same_group_of t fs g all.1)
  where
    by : (b : Bool) → Same t (of_group g (grouped fs)) → Same t (if b then f.found ∷ of_group g (grouped fs) else of_group g (grouped fs))
    by true rest = (all.0, rest)
    by false rest = rest

-- the queues after an event of this moment
pub in_time_advanced : (t after : ℤ) (old new : Entries) (founds : List Found) → ((g : List (List ℕ)) → held new g ≡ recent after (held old g ++ of_group g (grouped founds))) → AllAt t founds → UntilEach t old
    → ((g : List (List ℕ)) → IsInTime (held old g)) → (g : List (List ℕ)) → IsInTime (held new g)
in_time_advanced t after old new founds is all until in_time g =
    subst IsInTime (sym (is g)) (in_time_recent after (held old g ++ of_group g (grouped founds)) (in_time_append t (held old g) (of_group g (grouped founds)) (in_time g) (until g) (same_group_of t founds g all)))

pub fit_grown : (x y : Watch) → IsGrown x y → IsFitting x → IsFitting y
fit_grown x y grown so = record { kind = grown.kind ∙ (so.kind ∙ ap (λ (b : Bound). b.kind) (sym grown.bound)); rules = grown.rules ∙ (so.rules ∙ ap (λ (b : Bound). length b.rules) (sym grown.bound)) }

-- growth changes nothing of it
pub timely_grown : (t : ℤ) (x y : Watch) → IsGrown x y → IsTimely t x → IsTimely t y
timely_grown t x y grown so = record {
  limits = subst IsWithinLimits (sym grown.bound) so.limits;
  fit = fit_grown x y grown so.fit;
  in_time = λ g. subst IsInTime (sym (grown.same g)) (so.in_time g);
  until = λ g. subst (IsUntil t) (sym (grown.same g)) (so.until g);
}
