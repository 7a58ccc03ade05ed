-- Sizes of rules, and of rules with one more detection.
use Rattle.std.proofs.Common.{ℕ, ◌+◌, ◌-◌, ◌^◌, ◌≤◌, ◌≡◌, Bool, true, false, min, inl, inr, List, [], ◌∷◌, ◌++◌, map, refl, sym, ap, ◌∙◌}
use native.Mathlib.Omega.{arith}
use Rattle.std.specs.Prelude.{nat_le, ◌&&◌, Result}
use Rattle.std.specs.List.{list_all}
use Rattle.std.proofs.lemmas.Bool.{le-leb, lt-leb, cases_lt}
use Rattle.sig_base.specs.declared.limits.Limits.{Limits}
use Rattle.sig_base.specs.Judged.{Judged, must}
use Rattle.sig_base.specs.declared.refusal.Fault.{Fault}
use Rattle.sig_base.specs.declared.refusal.Place.{Place}
use Rattle.sig_base.proofs.Checks.{judged_last}
use Rattle.rule_detections.specs.declared.detection.Detection.{Detection}
use Rattle.rule_detections.specs.declared.item.Item.{Item}
use Rattle.pipeline_limits.specs.Sizes.{total, of_items, name_count, test_count, in_every, every_item, has_legal_names, has_short_patterns, has_room, grown_refusal}
use Rattle.pipeline_edit.specs.Added.{placed, added_detection}
use Rattle.pipeline_edit.specs.Counted.{has_room_for}

-- a count that stops at a greatest number, which is past the limit
pub capped : (n count grown : ℕ) → count ≡ min n (2 ^ 64 - 1) → grown ≤ 16384 → nat_le count grown ≡ nat_le n grown
capped n count grown is small = elim (cases_lt grown n) [
  | inl h ↦ lt-leb count grown (omega (arith, is, small, h)) ∙ sym (lt-leb n grown h)
  | inr h ↦ le-leb count grown (omega (arith, is, h)) ∙ sym (le-leb n grown h)
]

pub capped_sum : (n m first second count grown : ℕ) → first ≡ min n (2 ^ 64 - 1) → second ≡ min m (2 ^ 64 - 1) → count ≡ min (first + second) (2 ^ 64 - 1) → grown ≤ 16384
    → nat_le count grown ≡ nat_le (n + m) grown
capped_sum n m first second count grown a b is small = capped (n + m) count grown (omega (arith, a, b, is)) small

module _ (size : Item → ℕ) (same : (place : Place) (i : Item) → size (placed place i) ≡ size i) where
  total_placed : (place : Place) (items : List Item) → total size (map (placed place) items) ≡ total size items
  total_placed place [] = refl
  total_placed place (i ∷ is) = omega (arith, same place i, total_placed place is)

  total_with : (place : Place) (ds : List Detection) (items : List Item) → of_items size (ds ++ added_detection place items ∷ []) ≡ of_items size ds + total size items
  total_with place [] items = omega (arith, total_placed place items)
  total_with place (d ∷ ds) items = omega (arith, total_with place ds items)

and_true : (b : Bool) → (b && true) ≡ b
and_true true = refl
and_true false = refl

and_flat : (a b c : Bool) → (a && (b && c)) ≡ ((a && b) && c)
and_flat true b c = refl
and_flat false b c = refl

-- what is so of all items, those of one more detection among them
module _ (p : Item → Bool) (same : (place : Place) (i : Item) → p (placed place i) ≡ p i) where
  all_placed : (place : Place) (items : List Item) → list_all p (map (placed place) items) ≡ list_all p items
  all_placed place [] = refl
  all_placed place (i ∷ is) = ap (λ (b : Bool). b && list_all p (map (placed place) is)) (same place i) ∙ ap (λ (b : Bool). p i && b) (all_placed place is)

  every_with : (place : Place) (ds : List Detection) (items : List Item) → every_item p (ds ++ added_detection place items ∷ []) ≡ (every_item p ds && list_all p items)
  every_with place [] items = and_true _ ∙ (and_true _ ∙ all_placed place items)
  every_with place (d ∷ ds) items = ap (λ (b : Bool). in_every p d && b) (every_with place ds items) ∙ and_flat (in_every p d) (every_item p ds) (list_all p items)

-- the room of one more detection, by the detections and its items
room_with : (limits : Limits) (place : Place) (ds : List Detection) (items : List Item) → has_room limits (ds ++ added_detection place items ∷ []) ≡ has_room_for limits ds items
room_with limits place ds items =
    let all : List Detection = ds ++ added_detection place items ∷ [] in
    let names : ℕ = of_items name_count ds + total name_count items in
    let tests : ℕ = of_items test_count ds + total test_count items in
    ap (λ (n : ℕ). nat_le n limits.grown && nat_le (of_items test_count all) limits.grown && every_item has_legal_names all && every_item (has_short_patterns limits) all)
    (total_with name_count (λ p i. refl) place ds items)
    ∙ (ap (λ (n : ℕ). nat_le names limits.grown && nat_le n limits.grown && every_item has_legal_names all && every_item (has_short_patterns limits) all)
    (total_with test_count (λ p i. refl) place ds items)
    ∙ (ap (λ (b : Bool). nat_le names limits.grown && nat_le tests limits.grown && b && every_item (has_short_patterns limits) all) (every_with has_legal_names (λ p i. refl) place ds items)
    ∙ ap (λ (b : Bool). nat_le names limits.grown && nat_le tests limits.grown && (every_item has_legal_names ds && list_all has_legal_names items) && b)
    (every_with (has_short_patterns limits) (λ p i. refl) place ds items)))

pub room_judged : (limits : Limits) (place : Place) (ds : List Detection) (items : List Item) (room : Bool) (result : Result (Unit {0}) Fault)
    → room ≡ has_room_for limits ds items → Judged {X = Unit {0}} (λ done. Unit {0}) (must 99 place room) result
    → Judged {X = Unit {0}} (λ done. Unit {0}) (grown_refusal limits place (ds ++ added_detection place items ∷ [])) result
room_judged limits place ds items room result is judged =
    judged_last {X = Unit {0}} (λ done. Unit {0}) (grown_refusal limits place (ds ++ added_detection place items ∷ [])) (must 99 place room) result
    (ap (must 99 place) (room_with limits place ds items ∙ sym is)) judged
