-- Networks have numbers of 32 bits, and patterns of digits, dots and runs.
use Rattle.std.proofs.Common.{ℕ, zero, suc, ◌≡◌, ◌↔◌, ◌+◌, ◌-◌, ◌*◌, ◌/◌, ◌%◌, ◌^◌, ◌<◌, ◌≤◌, arith, Bool, true, false, ◌&&◌, nat_lt, if◌then◌else◌, List, [], ◌∷◌, ◌++◌, length, map, refl, sym, ap, subst, ◌∙◌}
use Rattle.std.proofs.Math.Pow.{pow_mono}
use Rattle.std.proofs.Math.Utf8.{scalar}
use Rattle.std.specs.Fmt.{decimal}
use Rattle.std.specs.List.{list_all}
use Rattle.std.proofs.lemmas.Bool.{and_from}
use Rattle.std.proofs.lemmas.Bool.Decides.{nat_tests}
use Rattle.std.proofs.lemmas.List.{length-map}
use Rattle.std.proofs.lemmas.List.Folds.{list_all-append}
use Rattle.std.proofs.lemmas.Nat.{pow-add, shr_below, mul-le}
use Rattle.event_schema.specs.Addresses.{IsAddress}
use Rattle.event_schema.specs.Lists.{EachOf}
use Rattle.sig_encode.specs.Networks.{Net, IsNetwork, InNetwork, told_octets, front_text, front_pattern, counted, patterns_of}
use Rattle.sig_encode.proofs.Fronts.{AreDigits, decimal_digits}
use Rattle.sig_encode.proofs.NetworkLemmas.{patterns_sound, patterns_complete}
use Rattle.sig_strings.specs.Fits.{SomeFits}
use Rattle.sig_strings.specs.Edits.{is_written}
use Rattle.sig_strings.specs.declared.part.Part.{Part}
use Rattle.sig_strings.specs.declared.part.Part.TheVariants.{Char, Run}
use Rattle.modifier_values.specs.PlainPatterns.{is_plain, IsPlainPattern}
use Rattle.modifier_values.proofs.Keeping.{AllParts, passing}
use Rattle.modifier_values.proofs.Plain.{above_nul, each_plain, all_plain}

pub network_bits : (text : List ℕ) (n : Net) → IsNetwork text n → n.bits < 2 ^ 32
network_bits text n is =
    let q = is.quad in
    let small : n.bits < 4294967296 = omega (arith, is.number, q.bytes.0, q.bytes.1, q.bytes.2, q.bytes.3) in
    small

pub network_fits : (text : List ℕ) (n : Net) (address : List ℕ) (cased : Bool) → IsNetwork text n → IsAddress address
    → SomeFits (patterns_of n) address cased ↔ InNetwork n address
network_fits text n address cased is are =
    (patterns_sound n (network_bits text n is) is.few address cased are, patterns_complete n (network_bits text n is) is.few address cased)

-- ---- how many patterns there are

length_counted : (start count : ℕ) → length (counted start count) ≡ count
length_counted start zero = refl
length_counted start (suc k) = ap suc (length_counted (start + 1) k)

pub patterns_count : (n : Net) → length (patterns_of n) ≡ 2 ^ (8 * told_octets n.prefix - n.prefix)
patterns_count n =
    let octets = told_octets n.prefix in
    let count = 2 ^ (8 * octets - n.prefix) in
    length-map (counted (n.bits / 2 ^ (32 - n.prefix) * count) count) (front_pattern octets) ∙ length_counted (n.bits / 2 ^ (32 - n.prefix) * count) count

-- ---- a test of parts that digits, dots and runs pass
module _ (q : Part → Bool) (digits : (c : ℕ) → 48 ≤ c → c < 58 → q (Char c) ≡ true) (dot : q (Char 46) ≡ true) (run : q Run ≡ true) where
  digits_pass : (cs : List ℕ) → AreDigits cs → AllParts q (map Char cs)
  digits_pass [] h = refl
  digits_pass (c ∷ cs) h = and_from (q (Char c)) (list_all q (map Char cs)) (digits c h.0.0 h.0.1) (digits_pass cs h.1)

  joined : (xs ys : List ℕ) → AllParts q (map Char xs) → AllParts q (map Char ys) → AllParts q (map Char (xs ++ ys))
  joined [] ys h k = k
  joined (x ∷ xs) ys h k = joined_first (q (Char x)) (list_all q (map Char xs)) h (joined xs ys) k
    where
      joined_first : (a b : Bool) → (a && b) ≡ true → (b ≡ true → AllParts q (map Char ys) → AllParts q (map Char (xs ++ ys)))
          → AllParts q (map Char ys) → (a && list_all q (map Char (xs ++ ys))) ≡ true
      joined_first true b both more rest = more both rest
      joined_first false b both more rest = absurd cc

  front_pass : (k m : ℕ) → m < 2 ^ 64 → AllParts q (map Char (front_text k m))
  front_pass zero m small = refl
  front_pass (suc zero) m small = digits_pass (decimal m) (decimal_digits m small)
  front_pass (suc (suc k)) m small =
      joined (front_text (suc k) (m / 256)) (46 ∷ decimal (m % 256)) (front_pass (suc k) (m / 256) (omega arith))
      (and_from (q (Char 46)) (list_all q (map Char (decimal (m % 256)))) dot (digits_pass (decimal (m % 256)) (decimal_digits (m % 256) (omega arith))))

  end_pass : (b : Bool) → AllParts q (if b then Char 46 ∷ (Run ∷ []) else [])
  end_pass true = and_from (q (Char 46)) (q Run && true) dot (and_from (q Run) true run refl)
  end_pass false = refl

  pattern_pass : (octets m : ℕ) → m < 2 ^ 64 → AllParts q (front_pattern octets m)
  pattern_pass octets m small =
      let front : List Part = map Char (front_text octets m) in
      let rest : List Part = if nat_lt octets 4 then Char 46 ∷ (Run ∷ []) else [] in
      list_all-append q front rest ∙ and_from (list_all q front) (list_all q rest) (front_pass octets m small) (end_pass (nat_lt octets 4))

  counted_pass : (octets start count : ℕ) → start + count < 2 ^ 64 → EachOf (AllParts q) (map (front_pattern octets) (counted start count))
  counted_pass octets start zero small = tt
  counted_pass octets start (suc k) small = (pattern_pass octets start (omega arith), counted_pass octets (start + 1) k (omega arith))

  network_pass : (n : Net) → n.bits < 2 ^ 32 → n.prefix ≤ 32 → EachOf (AllParts q) (patterns_of n)
  network_pass n small few =
      let octets : ℕ = told_octets n.prefix in
      let count : ℕ = 2 ^ (8 * octets - n.prefix) in
      let first : ℕ = n.bits / 2 ^ (32 - n.prefix) in
      counted_pass octets (first * count) count (bounded n small few)
    where
      bounded : (n : Net) → n.bits < 2 ^ 32 → n.prefix ≤ 32
          → n.bits / 2 ^ (32 - n.prefix) * 2 ^ (8 * told_octets n.prefix - n.prefix) + 2 ^ (8 * told_octets n.prefix - n.prefix) < 2 ^ 64
      bounded n small few =
          let octets : ℕ = told_octets n.prefix in
          let count : ℕ = 2 ^ (8 * octets - n.prefix) in
          let first : ℕ = n.bits / 2 ^ (32 - n.prefix) in
          let (low, high, covers) : (1 ≤ octets) × (octets ≤ 4) × (n.prefix ≤ 8 * octets) = (omega arith, omega arith, omega arith) in
          let e : n.prefix + (32 - n.prefix) ≡ 32 = omega arith in
          let wide : n.bits < 2 ^ (n.prefix + (32 - n.prefix)) = subst (λ (k : ℕ). n.bits < 2 ^ k) (sym e) small in
          let below : first < 2 ^ n.prefix = shr_below n.bits n.prefix (32 - n.prefix) wide in
          let product : suc first * count ≤ 2 ^ n.prefix * count = mul-le (suc first) count (2 ^ n.prefix) count below (omega arith) in
          let power : 2 ^ n.prefix * count ≡ 2 ^ (8 * octets) =
          sym (pow-add 2 n.prefix (8 * octets - n.prefix)) ∙ ap (λ (k : ℕ). 2 ^ k) (omega arith) in
          let step : suc first * count ≡ first * count + count = grind arith in
          let most : 2 ^ (8 * octets) ≤ 2 ^ 32 = pow_mono {i = 8 * octets} {j = 32} (omega arith) in
          omega arith

digit_above : (c : ℕ) → 48 ≤ c → c < 58 → (above_nul c && true) ≡ true
digit_above c low high = and_from (nat_lt 0 c) true (positive c low) refl
  where
    positive : (c : ℕ) → 48 ≤ c → nat_lt 0 c ≡ true
    positive c low = grind (arith, nat_tests)

digit_scalar : (c : ℕ) → 48 ≤ c → c < 58 → (scalar c && true) ≡ true
digit_scalar c low high = and_from (scalar c) true (grind (arith, nat_tests)) refl

network_written : (n : Net) → n.bits < 2 ^ 32 → n.prefix ≤ 32 → EachOf (AllParts is_written) (patterns_of n)
network_written n small few = network_pass is_written (λ c low high. refl) refl refl n small few

network_above : (n : Net) → n.bits < 2 ^ 32 → n.prefix ≤ 32 → EachOf (AllParts (passing above_nul)) (patterns_of n)
network_above n small few = network_pass (passing above_nul) digit_above refl refl n small few

pub network_all_plain : (n : Net) → n.bits < 2 ^ 32 → n.prefix ≤ 32 → list_all is_plain (patterns_of n) ≡ true
network_all_plain n small few = all_plain (patterns_of n) (network_written n small few) (network_above n small few)

pub network_plain : (n : Net) → n.bits < 2 ^ 32 → n.prefix ≤ 32 → EachOf IsPlainPattern (patterns_of n)
network_plain n small few =
    each_plain (patterns_of n) (network_written n small few) (network_pass (passing scalar) digit_scalar refl refl n small few) (network_above n small few)
