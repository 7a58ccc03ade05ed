-- The parts of a moment are added as they are.
use Rattle.std.proofs.Common.{◌≡◌, ℕ, ◌+◌, ◌*◌, ◌<◌, ◌≤◌, ◌^◌, List, length, refl, ap, ◌∙◌, arith, ℤ, pos, ◌+ℤ◌, ◌-ℤ◌, ◌*ℤ◌, FitsSigned, to_z, of_z, to_z-of_z, w64}
use Rattle.std.specs.Int.{w128}
use Rattle.std.specs.List.{prefix_len}
use Rattle.std.proofs.Math.Facts.{to_z_pos}
use Rattle.std.proofs.lemmas.List.Sums.{prefix_len-le-length}
use Rattle.jiff.proofs.SpanFacts.{signed_arith}
use Rattle.sig_base.specs.Digits.{is_digit}
use Rattle.event_time.specs.Moments.{moment_at}
use Rattle.event_time.specs.Nearness.{IsNear}

-- as it is kept in 128 bits
abbrev back : ℤ → ℤ
back z = to_z w128 (of_z w128 z)

returned : (x y : ℤ) → x ≡ y → FitsSigned w128 y → back x ≡ y
returned x y e fits = ap back e ∙ to_z-of_z fits

times_pos : (k u : ℕ) → pos k *ℤ pos u ≡ pos (k * u)
times_pos k u = refl

plus_pos : (a b : ℕ) → pos a +ℤ pos b ≡ pos (a + b)
plus_pos a b = refl

time_is : (k f : ℕ) → k < 2 ^ 32 → f < 2 ^ 64 → back (back (to_z w128 k *ℤ pos 1000000000) +ℤ to_z w128 f) ≡ pos (k * 1000000000 + f)
time_is k f small few =
    let seconds : back (to_z w128 k *ℤ pos 1000000000) ≡ pos (k * 1000000000) =
    returned _ (pos (k * 1000000000)) (ap (λ (z : ℤ). z *ℤ pos 1000000000) (to_z_pos w128 (omega (arith, small))) ∙ times_pos k 1000000000) (omega (arith, signed_arith, small)) in
    returned _ (pos (k * 1000000000 + f))
    (ap (λ (z : ℤ). z +ℤ to_z w128 f) seconds ∙ (ap (λ (z : ℤ). pos (k * 1000000000) +ℤ z) (to_z_pos w128 (omega (arith, few))) ∙ plus_pos (k * 1000000000) f))
    (omega (arith, signed_arith, small, few))

offset_is : (o : ℤ) → FitsSigned w64 o → back (back (to_z w64 (of_z w64 o)) *ℤ pos 1000000000) ≡ o *ℤ pos 1000000000
offset_is o fits =
    returned _ (o *ℤ pos 1000000000) (ap (λ (z : ℤ). z *ℤ pos 1000000000) (returned _ o (to_z-of_z fits) (omega (arith, signed_arith, fits)))) (omega (arith, signed_arith, fits))

pub moment_is : (d o : ℤ) (k f : ℕ) → FitsSigned w128 d → IsNear d → FitsSigned w64 o → k < 2 ^ 32 → f < 2 ^ 64
    → back (back (back d +ℤ back (back (to_z w128 k *ℤ pos 1000000000) +ℤ to_z w128 f)) -ℤ back (back (to_z w64 (of_z w64 o)) *ℤ pos 1000000000)) ≡ moment_at d k f o
moment_is d o k f day near fits small few =
    let time = time_is k f small few in
    let sum : back (back d +ℤ back (back (to_z w128 k *ℤ pos 1000000000) +ℤ to_z w128 f)) ≡ d +ℤ pos (k * 1000000000 + f) =
    returned _ (d +ℤ pos (k * 1000000000 + f))
    (ap (λ (z : ℤ). z +ℤ back (back (to_z w128 k *ℤ pos 1000000000) +ℤ to_z w128 f)) (to_z-of_z day) ∙ ap (λ (z : ℤ). d +ℤ z) time)
    (omega (arith, signed_arith, near.0, near.1, small, few)) in
    returned _ (moment_at d k f o)
    (ap (λ (z : ℤ). z -ℤ back (back (to_z w64 (of_z w64 o)) *ℤ pos 1000000000)) sum ∙ ap (λ (z : ℤ). (d +ℤ pos (k * 1000000000 + f)) -ℤ z) (offset_is o fits))
    (omega (arith, signed_arith, near.0, near.1, fits, small, few))

pub digits_within : (bytes : List ℕ) → prefix_len is_digit bytes ≤ length bytes
digits_within bytes = prefix_len-le-length is_digit bytes
