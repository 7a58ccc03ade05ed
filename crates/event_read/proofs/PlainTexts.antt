-- What is taken as a text is a text without U+0000.
use Rattle.std.proofs.Common.{◌≡◌, ℕ, suc, ◌-◌, ◌^◌, ℤ, pos, negsuc, Bool, true, false, List, [], ◌∷◌, refl, sym, subst, arith, nat_lt, if◌then◌else◌, Option, Some, Result, Ok, Err, IfOk, IfSome}
use Rattle.std.specs.Fmt.{decimal, signed_decimal}
use Rattle.std.specs.List.{list_all}
use Rattle.std.specs.Str.Parse.{AllDigits}
use Rattle.std.proofs.lemmas.Bool.{and_from, lt-ltb, ltb-true}
use Rattle.std.proofs.lemmas.Fmt.{decimal_is_IsNumeral}
use Rattle.std.proofs.lemmas.Str.Parse.{digit_from_value}
use Rattle.std.proofs.Math.Utf8.{low_scalar}
use Rattle.sig_base.specs.declared.refusal.Fault.{Fault}
use Rattle.sig_base.specs.declared.refusal.Place.{Place}
use Rattle.event_read.specs.Answers.{Answers}
use Rattle.event_read.specs.Takes.{is_whole, as_text}
use Rattle.event_schema.specs.Addresses.{IsAddress}
use Rattle.event_schema.specs.Events.{IsPlainText, IsOfKind}
use Rattle.event_schema.specs.declared.schema.FieldKind.TheVariants as kinds
use Rattle.event_schema.specs.declared.value.Value.{Value}
use Rattle.event_schema.specs.declared.value.Value.TheVariants as values

digits_plain : (ds : List ℕ) → AllDigits 10 ds → IsPlainText ds
digits_plain [] all = (refl, refl)
digits_plain (d ∷ ds) all =
    let range = digit_from_value d all.0 in
    let rest = digits_plain ds all.1 in
    (and_from _ _ (low_scalar d (omega (arith, range.1))) rest.0, and_from _ _ (lt-ltb 0 d (omega (arith, range.0))) rest.1)

-- a decimal of a whole number
pub decimal_plain : (z : ℤ) → is_whole z ≡ true → IsPlainText (signed_decimal z)
decimal_plain (pos n) e = digits_plain (decimal n) (decimal_is_IsNumeral n (omega (arith, ltb-true n (2 ^ 63) e))).0.1
decimal_plain (negsuc n) e =
    let rest = digits_plain (decimal (suc n)) (decimal_is_IsNumeral (suc n) (omega (arith, ltb-true n (2 ^ 63 - 1) e))).0.1 in
    (and_from _ _ (low_scalar 45 (omega arith)) rest.0, rest.1)

-- a text that is an address besides
pub address_kind : (place : Place) (text : List ℕ) (r : Result (Option Value) Fault) → Answers place (as_text text) r → IfOk r (λ v. IfSome v (IsOfKind kinds.Text)) → IsAddress text
    → IfOk r (λ v. IfSome v (IsOfKind kinds.Address))
address_kind place text r answers plain is = by (list_all (λ c. nat_lt 0 c) text) r answers plain where
  by : (b : Bool) (r : Result (Option Value) Fault) → Answers place (if b then Ok (Some (values.Text text)) else Err 28) r → IfOk r (λ v. IfSome v (IsOfKind kinds.Text))
      → IfOk r (λ v. IfSome v (IsOfKind kinds.Address))
  by true (Ok v) same plain =
      subst (λ (w : Option Value). IfSome w (IsOfKind kinds.Address)) (sym same) (subst (λ (w : Option Value). IfSome w (IsOfKind kinds.Text)) same plain, is)
  by true (Err e) answers plain = tt
  by false (Ok v) answers plain = absurd answers
  by false (Err e) answers plain = tt
