-- Two places are one where their lines and columns are.
use Rattle.std.proofs.Common.{ℕ, ◌≡◌, ◌∙◌, Bool, true, false, ◌||◌, ◌==◌, List, [], ◌∷◌, ◌⊎◌, inl, inr, refl, ap, sym}
use Rattle.std.specs.List.{list_any}
use Rattle.std.proofs.lemmas.Bool.{and_parts, eqb-true}
use Rattle.event_schema.specs.Lists.{SomeOf}
use Rattle.sig_base.specs.declared.refusal.Place.{Place}
use Rattle.modifier_values.specs.Expressions.{is_same_place}

pub same_place : (p q : Place) → is_same_place p q ≡ true → q ≡ p
same_place p q same =
    let both = and_parts (p.line == q.line) (p.column == q.column) same in
    let put : ℕ → ℕ → Place = λ line column. record { line = line; column = column } in
    sym (ap (λ line. put line p.column) (eqb-true p.line q.line both.0) ∙ ap (put q.line) (eqb-true p.column q.column both.1))

-- a place that is among these by the test is one of them
pub among : (places : List Place) (place : Place) → list_any (is_same_place place) places ≡ true → SomeOf (λ p. p ≡ place) places
among [] place there = absurd cc
among (p ∷ ps) place there = by (is_same_place place p) refl (among ps place) there
  where
    by : (b : Bool) → is_same_place place p ≡ b → (list_any (is_same_place place) ps ≡ true → SomeOf (λ q. q ≡ place) ps)
        → (b || list_any (is_same_place place) ps) ≡ true → SomeOf (λ q. q ≡ place) (p ∷ ps)
    by true same more there = inl (same_place place p same)
    by false same more there = inr (more there)
