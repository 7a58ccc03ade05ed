-- A number is one that fields have exactly where it's tested so.
use Rattle.std.proofs.Common.{◌≡◌, ◌-◌, ◌^◌, ℤ, pos, negsuc, true, arith}
use Rattle.std.proofs.lemmas.Bool.{lt-ltb, ltb-true}
use Rattle.std.proofs.lemmas.Int.{ints}
use Rattle.event_schema.specs.Events.{IsWholeNumber}
use Rattle.modifier_values.specs.Numbers.{is_whole}

pub whole_holds : (n : ℤ) → is_whole n ≡ true → IsWholeNumber n
whole_holds (pos n) h = let small = ltb-true n (2 ^ 63) h in (omega (arith, ints), omega (arith, ints))
whole_holds (negsuc n) h = let small = ltb-true n (2 ^ 63 - 1) h in (omega (arith, ints), omega (arith, ints))

pub whole_tests : (n : ℤ) → IsWholeNumber n → is_whole n ≡ true
whole_tests (pos n) h = lt-ltb n (2 ^ 63) (omega (arith, ints))
whole_tests (negsuc n) h = lt-ltb n (2 ^ 63 - 1) (omega (arith, ints))
