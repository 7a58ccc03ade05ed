-- Matches of one event, and the latest moment of what queues hold.
use Rattle.std.proofs.Common.{◌≡◌, ℕ, Bool, true, false, List, [], ◌∷◌, ◌++◌, sym, subst, ◌∙◌, arith}
use Rattle.std.specs.Prelude.{ℤ, ◌≤ℤ◌, int_lt, if◌then◌else◌, map}
use Rattle.std.specs.List.{AllByRecursion}
use Rattle.std.proofs.lemmas.Int.{ints}
use Rattle.correlation_windows.specs.Groups.{same_group}
use Rattle.correlation_windows.specs.Heaps.{IsUntil}
use Rattle.correlation_windows.specs.Laws.{recent}
use Rattle.correlation_windows.specs.Queues.{Entries, held}
use Rattle.correlation_windows.specs.Ready.{AllAt, AreInTime, Follows, UntilEach, grouped}
use Rattle.correlation_windows.specs.Windows.{of_group}
use Rattle.correlation_windows.specs.declared.found.Found.{Found}
use Rattle.correlation_windows.specs.declared.matches.Match.{Match}
use Rattle.correlation_windows.proofs.Sifting.{le_trans}

until_later : (last t : ℤ) → last ≤ℤ t → (ms : List Match) → IsUntil last ms → IsUntil t ms
until_later last t le [] all = tt
until_later last t le (m ∷ ms) all = (le_trans m.moment last t all.0 le, until_later last t le ms all.1)

until_append : (t : ℤ) (xs ys : List Match) → IsUntil t xs → IsUntil t ys → IsUntil t (xs ++ ys)
until_append t [] ys p q = q
until_append t (x ∷ xs) ys p q = (p.0, until_append t xs ys p.1 q)

pub until_recent : (t after : ℤ) (ms : List Match) → IsUntil t ms → IsUntil t (recent after ms)
until_recent t after [] all = tt
until_recent t after (m ∷ ms) all = by (int_lt after m.moment) (until_recent t after ms all.1)
  where
    by : (b : Bool) → IsUntil t (recent after ms) → IsUntil t (if b then m ∷ recent after ms else recent after ms)
    by true rest = (all.0, rest)
    by false rest = rest

equal_is_at_most : (a t : ℤ) → a ≡ t → a ≤ℤ t
equal_is_at_most a t e = omega (arith, ints, e)

until_group : (t : ℤ) (founds : List Found) (g : List (List ℕ)) → AllAt t founds → IsUntil t (of_group g (grouped founds))
until_group t [] g all = tt
until_group t (f ∷ fs) g all = by (same_group g f.group) (until_group t fs g all.1)
  where
    by : (b : Bool) → IsUntil t (of_group g (grouped fs)) → IsUntil t (if b then f.found ∷ of_group g (grouped fs) else of_group g (grouped fs))
    by true rest = (equal_is_at_most f.found.moment t all.0, rest)
    by false rest = rest

-- the queues after an event of this moment
pub until_advanced : (t last after : ℤ) (old new : Entries) (founds : List Found) → ((g : List (List ℕ)) → held new g ≡ recent after (held old g ++ of_group g (grouped founds)))
    → AllAt t founds → UntilEach last old → last ≤ℤ t → UntilEach t new
until_advanced t last after old new founds is at until le g =
    subst (IsUntil t) (sym (is g)) (until_recent t after (held old g ++ of_group g (grouped founds)) (until_append t (held old g) (of_group g (grouped founds)) (until_later last t le (held old g) (until g)) (until_group t founds g at)))

each_next : (entries : Entries) (founds : List Found) (t : ℤ) → AllAt t founds → UntilEach t entries → AllByRecursion (λ f. UntilEach f.found.moment entries) founds
each_next entries [] t at until = tt
each_next entries (f ∷ fs) t at until = (subst (λ (a : ℤ). UntilEach a entries) (sym at.0) until, each_next entries fs t at.1 until)

all_later : (t : ℤ) (a : ℤ) → a ≡ t → (founds : List Found) → AllAt t founds → AllByRecursion (λ x. a ≤ℤ x.moment) (map (λ f. f.found) founds)
all_later t a e [] at = tt
all_later t a e (f ∷ fs) at = (equal_is_at_most a f.found.moment (e ∙ sym at.0), all_later t a e fs at.1)

in_time_at : (t : ℤ) (founds : List Found) → AllAt t founds → AreInTime founds
in_time_at t [] at = tt
in_time_at t (f ∷ fs) at = (all_later t f.found.moment at.0 fs at.1, in_time_at t fs at.1)

pub follows : Follows
follows entries founds last t at until le = (each_next entries founds t at (λ g. until_later last t le (held entries g) (until g)), in_time_at t founds at)

pub until_none : (t : ℤ) (entries : Entries) → ((g : List (List ℕ)) → held entries g ≡ []) → UntilEach t entries
until_none t entries none g = subst (IsUntil t) (sym (none g)) tt
