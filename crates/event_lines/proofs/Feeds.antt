-- Bytes are divided at their first line feed.
use Rattle.std.proofs.Common.{◌≡◌, ℕ, zero, suc, ◌+◌, ◌-◌, ◌<◌, ◌≤◌, Bool, true, false, not, cond, ◌&&◌, ◌||◌, ◌==◌, List, [], ◌∷◌, ◌++◌, length, get_or, take, drop, refl, sym, ap, ◌∙◌, arith, min, append_assoc, subst, nat_lt, Some, None}
use Rattle.std.specs.List.{list_any, position_or_len, position}
use Rattle.std.proofs.lemmas.Bool.{eqb-true, or_from, ltb-true, ltb-false}
use Rattle.std.proofs.lemmas.List.{take_all, take-append-le, length-take, length-drop, take-append-drop, take-take}
use Rattle.std.proofs.lemmas.List.Folds.{list_any-append}
use Rattle.event_lines.specs.Reading.{has_feed}

abbrev pub feed_place : List ℕ → ℕ
feed_place xs = position_or_len (λ b. b == 10) xs

one_more : (n : ℕ) → 1 + n ≡ suc n
one_more n = omega arith

pub front_plain : (xs : List ℕ) → has_feed (take (feed_place xs) xs) ≡ false
front_plain [] = refl
front_plain (x ∷ xs) = by (x == 10) refl (front_plain xs) where
  by : (b : Bool) → (x == 10) ≡ b → has_feed (take (feed_place xs) xs) ≡ false → has_feed (take (cond (not b) (1 + feed_place xs) 0) (x ∷ xs)) ≡ false
  by true is e = refl
  by false is e = ap (λ (k : ℕ). has_feed (take k (x ∷ xs))) (one_more (feed_place xs)) ∙ or_from (x == 10) (has_feed (take (feed_place xs) xs)) is e

pub feed_stands : (xs : List ℕ) → feed_place xs < length xs → xs ≡ take (feed_place xs) xs ++ 10 ∷ drop (feed_place xs + 1) xs
feed_stands [] h = absurd (omega (arith, h))
feed_stands (x ∷ xs) h = by (x == 10) refl h (feed_stands xs) where
  by : (b : Bool) → (x == 10) ≡ b → cond (not b) (1 + feed_place xs) 0 < suc (length xs) → (feed_place xs < length xs → xs ≡ take (feed_place xs) xs ++ 10 ∷ drop (feed_place xs + 1) xs)
      → x ∷ xs ≡ take (cond (not b) (1 + feed_place xs) 0) (x ∷ xs) ++ 10 ∷ drop (cond (not b) (1 + feed_place xs) 0 + 1) (x ∷ xs)
  by true is h rec = ap (λ (y : ℕ). y ∷ xs) (eqb-true x 10 is)
  by false is h rec =
      let more : suc (feed_place xs + 1) ≡ 1 + feed_place xs + 1 = omega arith in
      ap (λ (l : List ℕ). x ∷ l) (rec (omega (arith, h)))
      ∙ (ap (λ (k : ℕ). take k (x ∷ xs) ++ 10 ∷ drop (suc (feed_place xs + 1)) (x ∷ xs)) (sym (one_more (feed_place xs)))
      ∙ ap (λ (k : ℕ). take (1 + feed_place xs) (x ∷ xs) ++ 10 ∷ drop k (x ∷ xs)) more)

-- where no line feed stands, all of the bytes have none
pub all_plain : (xs : List ℕ) → length xs ≤ feed_place xs → has_feed xs ≡ false
all_plain xs h = ap has_feed (sym (take_all (feed_place xs) xs h)) ∙ front_plain xs

-- ---- what the search answers

pub search_some : (xs : List ℕ) (k : ℕ) → Some k ≡ position (λ b. b == 10) xs → (k ≡ feed_place xs) × (feed_place xs < length xs)
search_some xs k e = by (nat_lt (feed_place xs) (length xs)) refl e where
  by : (b : Bool) → nat_lt (feed_place xs) (length xs) ≡ b → Some k ≡ cond b (Some (feed_place xs)) None → (k ≡ feed_place xs) × (feed_place xs < length xs)
  by true is e = (cc, ltb-true (feed_place xs) (length xs) is)
  by false is e = absurd cc

pub search_none : (xs : List ℕ) → None ≡ position (λ b. b == 10) xs → length xs ≤ feed_place xs
search_none xs e = by (nat_lt (feed_place xs) (length xs)) refl e where
  by : (b : Bool) → nat_lt (feed_place xs) (length xs) ≡ b → None ≡ cond b (Some (feed_place xs)) None → length xs ≤ feed_place xs
  by true is e = absurd cc
  by false is e = ltb-false (feed_place xs) (length xs) is
