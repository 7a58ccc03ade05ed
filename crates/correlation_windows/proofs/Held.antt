-- How many matches queues hold, where they hold exactly these.
use Rattle.std.proofs.Common.{◌≡◌, ℕ, ◌+◌, Bool, true, false, cond, List, [], ◌∷◌, refl, ap, sym, subst, ◌∙◌, arith, true≢false}
use Rattle.std.specs.Prelude.{length, if◌then◌else◌, Some}
use Rattle.std.specs.List.{IsDistinct}
use Rattle.std.specs.Map.{lookup, keys_of}
use Rattle.correlation_windows.specs.Groups.{same_group}
use Rattle.correlation_windows.specs.History.{Grouped}
use Rattle.correlation_windows.specs.Kept.{Holds}
use Rattle.correlation_windows.specs.Queues.{Entries, held, items_of, count_held}
use Rattle.correlation_windows.specs.Windows.{of_group}
use Rattle.correlation_windows.specs.declared.matches.Match.{Match}
use Rattle.correlation_windows.proofs.Ordering.{absent}
use Rattle.correlation_windows.proofs.Pushing.{group_is, group_refl}

-- the matches of other groups
without : List (List ℕ) → List Grouped → List Grouped
without k [] = []
without k (m ∷ ms) = if same_group k m.0 then without k ms else m ∷ without k ms

parts : (k : List (List ℕ)) (ms : List Grouped) → length ms ≡ length (of_group k ms) + length (without k ms)
unfolding without
parts k [] = refl
parts k (m ∷ ms) = by (same_group k m.0) (parts k ms)
  where
    by : (b : Bool) → length ms ≡ length (of_group k ms) + length (without k ms)
        → length (m ∷ ms) ≡ length (if b then m.1 ∷ of_group k ms else of_group k ms) + length (if b then without k ms else m ∷ without k ms)
    by true e = omega (arith, e)
    by false e = omega (arith, e)

none_of_it : (k : List (List ℕ)) (ms : List Grouped) → of_group k (without k ms) ≡ []
unfolding without
none_of_it k [] = refl
none_of_it k (m ∷ ms) = by (same_group k m.0) refl (none_of_it k ms)
  where
    by : (b : Bool) → same_group k m.0 ≡ b → of_group k (without k ms) ≡ [] → of_group k (if b then without k ms else m ∷ without k ms) ≡ []
    by true p e = e
    by false p e = rw p e

all_of_others : (g k : List (List ℕ)) → same_group g k ≡ false → (ms : List Grouped) → of_group g (without k ms) ≡ of_group g ms
unfolding without
all_of_others g k apart [] = refl
all_of_others g k apart (m ∷ ms) = by (same_group k m.0) refl (same_group g m.0) refl (all_of_others g k apart ms)
  where
    by : (b : Bool) → same_group k m.0 ≡ b → (d : Bool) → same_group g m.0 ≡ d → of_group g (without k ms) ≡ of_group g ms
        → of_group g (if b then without k ms else m ∷ without k ms) ≡ (if d then m.1 ∷ of_group g ms else of_group g ms)
    by true p true q e = absurd (true≢false (sym q ∙ (ap (same_group g) (sym (group_is k m.0 p)) ∙ apart)))
    by true p false q e = e
    by false p true q e = rw q (ap (λ r. m.1 ∷ r) e)
    by false p false q e = rw q e

no_match : (ms : List Grouped) → ((g : List (List ℕ)) → [] ≡ of_group g ms) → length ms ≡ 0
no_match [] none = refl
no_match (m ∷ ms) none = absurd (apart (of_group m.0 ms) (subst (λ (b : Bool). [] ≡ (if b then m.1 ∷ of_group m.0 ms else of_group m.0 ms)) (group_refl m.0) (none m.0)))
  where
    is_empty : List Match → Bool
    is_empty [] = true
    is_empty (x ∷ xs) = false

    apart : (r : List Match) → [] ≡ m.1 ∷ r → ⊥
    apart r e = true≢false (ap is_empty e)

pub count_is : (es : Entries) → IsDistinct same_group (keys_of es) → (ms : List Grouped) → Holds (held es) ms → count_held es ≡ length ms
unfolding IsDistinct
count_is [] unique ms holds = sym (no_match ms holds)
count_is (e ∷ es) unique ms holds =
    let here : e.1.items ≡ of_group e.0 ms = subst (λ (b : Bool). items_of (cond b (Some e.1) (lookup (same_group e.0) es)) ≡ of_group e.0 ms) (group_refl e.0) (holds e.0) in
    omega (arith, ap length here, count_is es unique.1 (without e.0 ms) (λ g. by g (same_group g e.0) refl (holds g)), parts e.0 ms)
  where
    by : (g : List (List ℕ)) (b : Bool) → same_group g e.0 ≡ b → items_of (cond b (Some e.1) (lookup (same_group g) es)) ≡ of_group g ms → held es g ≡ of_group g (without e.0 ms)
    by g true p h = subst (λ (k : List (List ℕ)). held es k ≡ of_group k (without e.0 ms)) (sym (group_is g e.0 p)) (ap items_of (absent e.0 es unique.0) ∙ sym (none_of_it e.0 ms))
    by g false p h = h ∙ sym (all_of_others g e.0 p ms)
