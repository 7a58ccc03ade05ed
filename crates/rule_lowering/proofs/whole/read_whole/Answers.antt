use Rattle.std.proofs.Common.{◌≡◌, ℤ, true, false, ℕ, sym, ap, ◌∙◌, subst, FitsSigned, w64, to_z, of_z, to_z-of_z}
use Rattle.std.specs.Fmt.{signed_decimal}
use Rattle.std.specs.Str.{chars}
use Rattle.rule_lowering.specs.WholeNumbers.{if_whole}
use Rattle.rule_lowering.proofs.Written.{nothing_read, other_read, own_read}
use Rattle.rule_lowering.proofs.whole.read_whole.Goals as goal

-- what is read fits 64 bits
same : (n v : ℤ) → FitsSigned w64 v → n ≡ v → to_z w64 (of_z w64 n) ≡ n
same n v fits is = to_z-of_z (subst (FitsSigned w64) (sym is) fits)

pub returns-in_default : goal.returns-in_default
returns-in_default c = nothing_read _ c.args.text.now c.in_default.field-0 c.utf8.text c.in_default.ensures.value.0

pub returns-then-is_decimal : goal.returns-then-is_decimal
returns-then-is_decimal c =
    let n = c.in-Ok.number in
    let back : to_z w64 (of_z w64 n) ≡ n = same n _ c.in-Ok.ensures.value.0.0.1 c.in-Ok.ensures.value.0.1 in
    c.whole_number.ensures
    ∙ (ap if_whole back ∙ own_read (chars c.args.text.now) n (c.is_decimal.ensures.0 c.if-is_decimal.true ∙ ap signed_decimal back))

pub returns : goal.returns
returns c =
    let n = c.in-Ok.number in
    let back : to_z w64 (of_z w64 n) ≡ n = same n _ c.in-Ok.ensures.value.0.0.1 c.in-Ok.ensures.value.0.1 in
    other_read ℕ c.args.text.now n c.utf8.text c.in-Ok.ensures.value.0
    (λ is. let yes = c.is_decimal.ensures.1 (is ∙ ap signed_decimal (sym back)) in
    let unsaid : true ≡ false = sym yes ∙ c.if-is_decimal.false in absurd (cc))
