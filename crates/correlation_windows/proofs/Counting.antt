-- Sums of what is left of a list.
use Rattle.std.proofs.Common.{◌≡◌, ℕ, zero, suc, ◌+◌, ◌<◌, ◌≤◌, List, [], ◌∷◌, refl, subst, arith}
use Rattle.std.specs.Prelude.{length, drop, get_or}
use Rattle.std.proofs.lemmas.List.{length-map}
use Rattle.correlation_windows.specs.Queues.{Entries, lengths, total}

step : (ns : List ℕ) (i : ℕ) → i < length ns → total (drop i ns) ≡ get_or ns i 0 + total (drop (suc i) ns)
step [] i lt = absurd (omega (arith, lt))
step (n ∷ ns) zero lt = refl
step (n ∷ ns) (suc i) lt = step ns i (omega (arith, lt))

pub count_step : (es : Entries) (i : ℕ) → i < length es → total (drop i (lengths es)) ≡ get_or (lengths es) i 0 + total (drop (i + 1) (lengths es))
count_step es i lt =
    let e : suc i ≡ i + 1 = omega arith in
    subst (λ (j : ℕ). total (drop i (lengths es)) ≡ get_or (lengths es) i 0 + total (drop j (lengths es))) e (step (lengths es) i (omega (arith, lt, length-map es (λ x. length x.1.items))))

none_left : (ns : List ℕ) (i : ℕ) → length ns ≤ i → total (drop i ns) ≡ 0
none_left [] zero le = refl
none_left [] (suc i) le = refl
none_left (n ∷ ns) zero le = absurd (omega (arith, le))
none_left (n ∷ ns) (suc i) le = none_left ns i (omega (arith, le))

pub count_end : (es : Entries) (i : ℕ) → length es ≤ i → total (drop i (lengths es)) ≡ 0
count_end es i le = none_left (lengths es) i (omega (arith, le, length-map es (λ x. length x.1.items)))
