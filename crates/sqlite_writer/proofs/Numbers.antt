-- Whole numbers are compared as their decimals are, folded or not, and stand to each other as they are ordered.
use Rattle.std.proofs.Common.{ℕ, suc, ◌+◌, ◌%◌, ◌^◌, ◌<◌, ◌≤◌, ◌≡◌, refl, sym, ◌∙◌, ap, subst, Bool, true, false, List, [], ◌∷◌, ◌++◌, arith}
use Rattle.std.specs.Prelude.{ℤ, pos, negsuc, nat_le, ◌↔◌, ◌≤ℤ◌, ◌<ℤ◌, int_le, int_lt}
use Rattle.std.proofs.Math.Dec.{T}
use Rattle.std.specs.Int.Signed.{le_z_yes, lt_z_yes}
use Rattle.std.specs.Fmt.{decimal, signed_decimal}
use Rattle.std.proofs.lemmas.Bool.Decides.{nat_tests}
use Rattle.std.proofs.lemmas.Fmt.{signed_decimal_injective, decimal_by_steps}
use Rattle.std.proofs.lemmas.List.{map-append}
use Rattle.sig_base.specs.Folding.{fold, folded}
use Rattle.backend_core.specs.Holds.{Stands}
use Rattle.backend_core.specs.declared.tree.Op.{Op}
use Rattle.backend_core.specs.declared.tree.Op.TheVariants as ops
use Rattle.sqlite_writer.specs.Guarded.{sign_of}
use Rattle.std.proofs.lemmas.Int.{ints}
use Rattle.event_schema.specs.Events.{IsWholeNumber}
use Rattle.sql_lang.specs.Meaning.{int_eq, wholes_are}

equal_numbers : (a b : ℤ) → int_eq a b ≡ true → a ≡ b
equal_numbers a b h = grind (arith, ints)

equal_itself : (a : ℤ) → int_eq a a ≡ true
equal_itself a = grind (arith, ints)

same_decimals : (a b : ℤ) → IsWholeNumber a → IsWholeNumber b → signed_decimal a ≡ signed_decimal b → a ≡ b
same_decimals (pos m) (pos n) fits also e = signed_decimal_injective (pos m) (pos n) (omega (arith, ints)) (omega (arith, ints)) e
same_decimals (pos m) (negsuc n) fits also e = signed_decimal_injective (pos m) (negsuc n) (omega (arith, ints)) (omega (arith, ints)) e
same_decimals (negsuc m) (pos n) fits also e = signed_decimal_injective (negsuc m) (pos n) (omega (arith, ints)) (omega (arith, ints)) e
same_decimals (negsuc m) (negsuc n) fits also e = signed_decimal_injective (negsuc m) (negsuc n) (omega (arith, ints)) (omega (arith, ints)) e

pub same_number : (a b : ℤ) → IsWholeNumber a → IsWholeNumber b → (int_eq a b ≡ true) ↔ (signed_decimal a ≡ signed_decimal b)
same_number a b fits also =
    ((λ h. ap signed_decimal (equal_numbers a b h)), (λ e. subst (λ (z : ℤ). int_eq a z ≡ true) (same_decimals a b fits also e) (equal_itself a)))

-- ---- the letters of a decimal have no case

digit_stays : (k : ℕ) → k < 10 → fold (48 + k) ≡ 48 + k
digit_stays k small = let low : nat_le 65 (48 + k) ≡ false = grind (arith, nat_tests) in rw low refl

one_stays : (n : ℕ) → n < 10 → folded ((48 + n) ∷ []) ≡ (48 + n) ∷ []
one_stays n small = ap (λ (c : ℕ). c ∷ []) (digit_stays n small)

more_stay : (n : ℕ) (ds : List ℕ) → 10 ≤ n → folded ds ≡ ds → folded (ds ++ ((48 + n % 10) ∷ [])) ≡ ds ++ ((48 + n % 10) ∷ [])
more_stay n ds big before =
    map-append fold ds ((48 + n % 10) ∷ [])
    ∙ (ap (λ (es : List ℕ). es ++ folded ((48 + n % 10) ∷ [])) before ∙ ap (λ (es : List ℕ). ds ++ es) (one_stays (n % 10) (omega arith)))

decimal_stays : (n : ℕ) → n < 2 ^ 64 → folded (decimal n) ≡ decimal n
decimal_stays n small = decimal_by_steps (λ m ds. folded ds ≡ ds) one_stays more_stay n small

number_stays : (z : ℤ) → IsWholeNumber z → folded (signed_decimal z) ≡ signed_decimal z
number_stays (pos n) whole = decimal_stays n (omega (arith, ints, whole.1))
number_stays (negsuc n) whole = ap (λ (ds : List ℕ). 45 ∷ ds) (decimal_stays (suc n) (omega (arith, ints, whole.0)))

pub same_folded : (a b : ℤ) → IsWholeNumber a → IsWholeNumber b → (int_eq a b ≡ true) ↔ (folded (signed_decimal a) ≡ folded (signed_decimal b))
same_folded a b fits also =
    let same = same_number a b fits also in
    let one = number_stays a fits in
    let other = number_stays b also in
    ((λ h. one ∙ (same.0 h ∙ sym other)), (λ e. same.1 (sym one ∙ (e ∙ other))))

-- ---- the order of numbers

is_true : (b : Bool) → T b → b ≡ true
is_true true h = refl
is_true false h = absurd h

at_most : (a b : ℤ) → (int_le a b ≡ true) ↔ (a ≤ℤ b)
at_most a b = ((λ e. le_z_yes (subst T (sym e) tt)), (λ h. is_true (int_le a b) h.le))

below : (a b : ℤ) → (int_lt a b ≡ true) ↔ (a <ℤ b)
below a b = ((λ e. lt_z_yes (subst T (sym e) tt)), (λ h. is_true (int_lt a b) h.lt))

pub stands : (op : Op) (m n : ℤ) → (wholes_are (sign_of op) m n ≡ true) ↔ Stands op m n
stands ops.Lt m n = below m n
stands ops.Lte m n = at_most m n
stands ops.Gt m n = below n m
stands ops.Gte m n = at_most n m
