-- The loop that makes room in the queues of matches.
use Rattle.std.proofs.Common.{◌≡◌, ℕ, zero, suc, ◌+◌, ◌<◌, ◌≤◌, List, [], ◌∷◌, subst, arith}
use Rattle.std.specs.Prelude.{length, take, slice_index_or}
use Rattle.std.specs.Map.{lookup}
use Rattle.correlation_windows.specs.Groups.{same_group}
use Rattle.correlation_windows.specs.Queues.{Entries, HasPlaces}
use Rattle.correlation_windows.specs.Ready.{AllPlaced}
use Rattle.correlation_windows.specs.declared.found.Found.{Found}

placed_still : (n : ℕ) (old new : Entries) → ((m : ℕ) (g : List (List ℕ)) → HasPlaces m (lookup (same_group g) old) → HasPlaces m (lookup (same_group g) new)) → (fs : List Found) → AllPlaced n old fs → AllPlaced n new fs
placed_still n old new others [] all = tt
placed_still n old new others (f ∷ fs) all = (others n f.group all.0, placed_still n old new others fs all.1)

-- one match more
more : (n : ℕ) (old new : Entries) → ((m : ℕ) (g : List (List ℕ)) → HasPlaces m (lookup (same_group g) old) → HasPlaces m (lookup (same_group g) new))
    → (fs : List Found) (i : ℕ) (f : Found) → i < length fs → f ≡ slice_index_or fs i f → HasPlaces n (lookup (same_group f.group) new) → AllPlaced n old (take i fs) → AllPlaced n new (take (suc i) fs)
more n old new others [] i f lt is has all = absurd (omega (arith, lt))
more n old new others (x ∷ xs) zero f lt is has all = (subst (λ (y : Found). HasPlaces n (lookup (same_group y.group) new)) is has, tt)
more n old new others (x ∷ xs) (suc i) f lt is has all = (others n x.group all.0, more n old new others xs i f (omega (arith, lt)) is has all.1)

pub placed_more : (n : ℕ) (old new : Entries) → ((m : ℕ) (g : List (List ℕ)) → HasPlaces m (lookup (same_group g) old) → HasPlaces m (lookup (same_group g) new))
    → (fs : List Found) (i : ℕ) (f : Found) → i < length fs → f ≡ slice_index_or fs i f → HasPlaces n (lookup (same_group f.group) new) → AllPlaced n old (take i fs) → AllPlaced n new (take (i + 1) fs)
placed_more n old new others fs i f lt is has all =
    let e : suc i ≡ i + 1 = omega arith in
    subst (λ (j : ℕ). AllPlaced n new (take j fs)) e (more n old new others fs i f lt is has all)

pub placed_all : (n : ℕ) (now : Entries) (fs : List Found) (i : ℕ) → length fs ≤ i → AllPlaced n now (take i fs) → AllPlaced n now fs
placed_all n now [] i le all = tt
placed_all n now (f ∷ fs) zero le all = absurd (omega (arith, le))
placed_all n now (f ∷ fs) (suc i) le all = (all.0, placed_all n now fs i (omega (arith, le)) all.1)
