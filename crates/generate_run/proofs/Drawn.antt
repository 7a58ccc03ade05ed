-- One event more is drawn, and no event more.
use Rattle.std.proofs.Common.{arith, ◌≡◌, ◌∙◌, ◌+◌, ◌-◌, ◌<◌, ◌≤◌, ℕ, zero, suc, List, [], ◌∷◌, ◌++◌, ap, sym, refl, subst}
use Rattle.std.proofs.lemmas.List.{append_assoc, append-nil}
use Rattle.event_schema.specs.Occurrence.{Occurrence}
use Rattle.generate_run.specs.Draws.{after_three, after_events}
use Rattle.generate_run.specs.Events.{event_from, events_from}

step : (x left : ℕ) → 0 < left → events_from x left ≡ event_from x ∷ events_from (after_three x) (left - 1)
step x zero below = elim below [ ]
step x (suc left) _ =
    let less : left ≡ suc left - 1 = omega arith in
    ap (λ (n : ℕ). event_from x ∷ events_from (after_three x) n) less

pub one_more : (x i count : ℕ) (done all : List Occurrence) → i < count → done ++ events_from x (count - i) ≡ all
    → (done ++ event_from x ∷ []) ++ events_from (after_three x) (count - (i + 1)) ≡ all
one_more x i count done all below same =
    let some : 0 < count - i = omega (arith, below) in
    let fewer : count - i - 1 ≡ count - (i + 1) = omega (arith, below) in
    append_assoc done (event_from x ∷ []) _
    ∙ (ap (λ (n : ℕ). done ++ event_from x ∷ events_from (after_three x) n) (sym fewer)
    ∙ (ap (λ (es : List Occurrence). done ++ es) (sym (step x (count - i) some)) ∙ same))

pub no_more : (x i count : ℕ) (done all : List Occurrence) → count ≤ i → done ++ events_from x (count - i) ≡ all → done ≡ all
no_more x i count done all above same =
    let none : count - i ≡ 0 = omega (arith, above) in
    sym (append-nil done) ∙ (ap (λ (n : ℕ). done ++ events_from x n) (sym none) ∙ same)

-- ---- the state alone

after_step : (x left : ℕ) → 0 < left → after_events x left ≡ after_events (after_three x) (left - 1)
after_step x zero below = elim below [ ]
after_step x (suc left) _ =
    let less : left ≡ suc left - 1 = omega arith in
    ap (λ (n : ℕ). after_events (after_three x) n) less

pub one_after : (x i count all : ℕ) → i < count → after_events x (count - i) ≡ all → after_events (after_three x) (count - (i + 1)) ≡ all
one_after x i count all below same =
    let some : 0 < count - i = omega (arith, below) in
    let fewer : count - i - 1 ≡ count - (i + 1) = omega (arith, below) in
    ap (λ (n : ℕ). after_events (after_three x) n) (sym fewer) ∙ (sym (after_step x (count - i) some) ∙ same)

pub none_after : (x i count all : ℕ) → count ≤ i → after_events x (count - i) ≡ all → x ≡ all
none_after x i count all above same =
    let none : count - i ≡ 0 = omega (arith, above) in
    ap (λ (n : ℕ). after_events x n) (sym none) ∙ same

-- ---- some and then more

pub events_on : (x count more : ℕ) → events_from x (count + more) ≡ events_from x count ++ events_from (after_events x count) more
events_on x zero more = let e : zero + more ≡ more = omega arith in ap (events_from x) e
events_on x (suc count) more =
    let e : suc count + more ≡ suc (count + more) = omega arith in
    ap (events_from x) e ∙ ap (λ (es : List Occurrence). event_from x ∷ es) (events_on (after_three x) count more)

pub state_on : (x count more : ℕ) → after_events x (count + more) ≡ after_events (after_events x count) more
state_on x zero more = let e : zero + more ≡ more = omega arith in ap (after_events x) e
state_on x (suc count) more =
    let e : suc count + more ≡ suc (count + more) = omega arith in
    ap (after_events x) e ∙ state_on (after_three x) count more
