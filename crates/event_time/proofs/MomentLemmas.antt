-- The parts of a moment.
use Rattle.std.proofs.Common.{◌≡◌, ℕ, ◌+◌, ◌*◌, ◌<◌, ◌≤◌, Bool, true, ◌&&◌, if◌then◌else◌, List, [], ◌∷◌, length, get_or, take, drop, ap, ◌∙◌, arith, eq-eqb, Option, Some, None, ℤ}
use Rattle.event_time.specs.Moments.{two_digits, is_two, day_nanos, day_of, clock_of, zoned, text_moment}

abbrev at : List ℕ → ℕ → ℕ
at bs k = get_or bs k 0

all_true : (e h p q s t : Bool) (x r : Option ℤ) → e ≡ true → h ≡ true → p ≡ true → q ≡ true → s ≡ true → t ≡ true → r ≡ x → r ≡ (if e && h && p && q && s && t then x else None)
all_true e h p q s t x r a b c d f g is = rw a (rw b (rw c (rw d (rw f (rw g is)))))

-- ten bytes that are read as a day
pub day_is : (bs : List ℕ) (r : Option ℤ) → 10 ≤ length bs → length bs < 11 → at bs 4 ≡ 45 → at bs 7 ≡ 45 → is_two 99 (at bs 0) (at bs 1) ≡ true → is_two 99 (at bs 2) (at bs 3) ≡ true
    → is_two 12 (at bs 5) (at bs 6) ≡ true → is_two 31 (at bs 8) (at bs 9) ≡ true
    → r ≡ day_nanos (100 * two_digits (at bs 0) (at bs 1) + two_digits (at bs 2) (at bs 3)) (two_digits (at bs 5) (at bs 6)) (two_digits (at bs 8) (at bs 9))
    → r ≡ day_of bs
day_is (a ∷ b ∷ c ∷ d ∷ e ∷ f ∷ g ∷ h ∷ i ∷ j ∷ []) r least most first second p q s t is =
    all_true _ _ _ _ _ _ _ r (eq-eqb e 45 first) (eq-eqb h 45 second) p q s t is
day_is bs r least most first second p q s t is = absurd (omega arith)

-- a text with a day and a clock
pub text_is : (text front behind clock_text rest : List ℕ) (day : ℤ) (clock : ℕ) → Some day ≡ day_of front → front ≡ take 10 text → Some clock ≡ clock_of clock_text → clock_text ≡ take 9 behind
    → behind ≡ drop 10 text → rest ≡ drop 19 text → zoned (Some day) (Some clock) rest ≡ text_moment text
text_is text front behind clock_text rest day clock d f k g b r =
    ap (λ (x : Option ℤ). zoned x (Some clock) rest) (d ∙ ap day_of f)
    ∙ (ap (λ (x : Option ℕ). zoned (day_of (take 10 text)) x rest) (k ∙ ap clock_of (g ∙ ap (λ (bs : List ℕ). take 9 bs) b))
    ∙ ap (λ (bs : List ℕ). zoned (day_of (take 10 text)) (clock_of (take 9 (drop 10 text))) bs) r)
