-- The term of a pattern holds of the texts that the pattern fits, and that of a number's decimal of this decimal.
use Rattle.std.proofs.Common.{ℕ, suc, ◌≡◌, ◌+◌, ◌%◌, ◌^◌, ◌<◌, ◌≤◌, refl, sym, ◌∙◌, ap, Bool, true, false, List, [], ◌∷◌, ◌++◌, arith}
use Rattle.std.specs.Prelude.{◌==◌, ◌||◌, ◌&&◌, ◌↔◌, map, ℤ, pos, negsuc, nat_le, if◌then◌else◌}
use Rattle.std.specs.Fmt.{decimal, signed_decimal}
use Rattle.std.specs.List.{list_all}
use Rattle.std.specs.Str.{all_scalars}
use Rattle.std.proofs.Math.Utf8.{scalar}
use Rattle.std.proofs.lemmas.Bool.Decides.{nat_tests}
use Rattle.std.proofs.lemmas.Fmt.{decimal_by_steps}
use Rattle.std.proofs.lemmas.Int.{ints}
use Rattle.std.proofs.lemmas.List.Folds.{list_all-append}
use Rattle.std.proofs.lemmas.Bool.{and_parts}
use Rattle.event_schema.specs.Events.{IsWholeNumber}
use Rattle.matching.proofs.SuffixLemmas.{SuffixHolds-tests, CharThen-tests}
use Rattle.matching.specs.Suffixes.{SuffixHolds, CharThen}
use Rattle.sig_base.specs.Folding.{fold}
use Rattle.sig_strings.specs.Edits.{all_written}
use Rattle.sig_strings.specs.Fits.{Fits, same_char}
use Rattle.sig_strings.specs.declared.part.Part.{Part}
use Rattle.sig_strings.specs.declared.part.Part.TheVariants as parts
use Rattle.lucene_lang.specs.Meaning.{kept_char, kept, kept_glyphs, term_fits, some_end, behind_one, is_nothing}
use Rattle.lucene_layout.specs.Escaped.{as_char}
use Rattle.lucene_writer.specs.Glyphs.{glyphs_of}

module _ (m : ℕ → ℕ) (fits : List ℕ → Bool) (holds : List ℕ → Type 0) (agrees : (rest : List ℕ) → (fits (map m rest) ≡ true) ↔ holds rest) where
  run_agrees : (text : List ℕ) → (some_end fits (map m text) ≡ true) ↔ SuffixHolds holds text
  run_agrees text = SuffixHolds-tests (λ t. fits (map m t)) holds agrees (λ t. some_end fits (map m t)) refl (λ c cs. refl) text

  one_agrees : (is_so : ℕ → Bool) (text : List ℕ) → (behind_one is_so fits (map m text) ≡ true) ↔ CharThen (λ d. is_so (m d)) holds text
  one_agrees is_so text = CharThen-tests (λ t. fits (map m t)) holds agrees (λ d. is_so (m d)) (λ t. behind_one is_so fits (map m t)) refl (λ c cs. refl) text

nothing_is : (m : ℕ → ℕ) (text : List ℕ) → (is_nothing (map m text) ≡ true) ↔ (text ≡ [])
nothing_is m [] = (λ h. refl, λ h. refl)
nothing_is m (c ∷ cs) = (λ h. absurd cc, λ h. absurd cc)

-- ---- patterns

same_kept : (cased : Bool) (c d : ℕ) → (kept_char cased c == kept_char cased d) ≡ same_char cased c d
same_kept true c d = refl
same_kept false c d = refl

module _ (cased : Bool) (ps : List Part) (agrees : (rest : List ℕ) → (term_fits (kept_glyphs cased (glyphs_of ps)) (kept cased rest) ≡ true) ↔ Fits ps rest cased) where
  one_more : (is_so : ℕ → Bool) (text : List ℕ)
      → (behind_one is_so (term_fits (kept_glyphs cased (glyphs_of ps))) (kept cased text) ≡ true) ↔ CharThen (λ d. is_so (kept_char cased d)) (λ rest. Fits ps rest cased) text
  one_more is_so text = one_agrees (kept_char cased) (term_fits (kept_glyphs cased (glyphs_of ps))) (λ rest. Fits ps rest cased) agrees is_so text

  run_more : (text : List ℕ) → (some_end (term_fits (kept_glyphs cased (glyphs_of ps))) (kept cased text) ≡ true) ↔ SuffixHolds (λ rest. Fits ps rest cased) text
  run_more text = run_agrees (kept_char cased) (term_fits (kept_glyphs cased (glyphs_of ps))) (λ rest. Fits ps rest cased) agrees text

char_same : (cased : Bool) (c : ℕ) (ps : List Part) (text : List ℕ)
    → CharThen (λ d. kept_char cased c == kept_char cased d) (λ rest. Fits ps rest cased) text ↔ CharThen (same_char cased c) (λ rest. Fits ps rest cased) text
char_same true c ps text = (λ h. h, λ h. h)
char_same false c ps text = (λ h. h, λ h. h)

pub means : (cased : Bool) (ps : List Part) (text : List ℕ) → all_written ps ≡ true
    → (term_fits (kept_glyphs cased (glyphs_of ps)) (kept cased text) ≡ true) ↔ Fits ps text cased
unfolding term_fits
means cased [] text h = nothing_is (kept_char cased) text
means cased (parts.Char c ∷ ps) text h =
    let a = one_more cased ps (λ rest. means cased ps rest h) (λ d. kept_char cased c == d) text in
    let b = char_same cased c ps text in
    (λ x. b.0 (a.0 x), λ x. a.1 (b.1 x))
means cased (parts.One ∷ ps) text h = one_more cased ps (λ rest. means cased ps rest h) (λ d. true) text
means cased (parts.Run ∷ ps) text h = run_more cased ps (λ rest. means cased ps rest h) text
means cased (parts.Dash ∷ ps) text h = absurd cc
means cased (parts.Hole name ∷ ps) text h = absurd cc

-- ---- decimals: signs whose letters have no case

abbrev is_sign : ℕ → Bool
is_sign c = c == 45 || (nat_le 48 c && nat_le c 57)

sign_stays : (c : ℕ) → is_sign c ≡ true → fold c ≡ c
sign_stays c h = let low : nat_le 65 c ≡ false = grind (arith, nat_tests) in rw low refl

equal_is : (c d : ℕ) → (c == d) ≡ true → c ≡ d
equal_is c d h = grind (arith, nat_tests)

equal_so : (c : ℕ) → (c == c) ≡ true
equal_so c = grind (arith, nat_tests)

far_off : (c d : ℕ) → is_sign c ≡ true → (nat_le 65 d && nat_le d 90) ≡ true → (c == d + 32) ≡ false
far_off c d h l = grind (arith, nat_tests)

-- no other character folds to a sign
sign_of : (c d : ℕ) → is_sign c ≡ true → (fold c == fold d) ≡ true → d ≡ c
sign_of c d h e = by (nat_le 65 d && nat_le d 90) refl (ap (λ (x : ℕ). x == fold d) (sym (sign_stays c h)) ∙ e) where
  by : (b : Bool) → (nat_le 65 d && nat_le d 90) ≡ b → (c == (if b then d + 32 else d)) ≡ true → d ≡ c
  by true is g = let bad : false ≡ true = sym (far_off c d h is) ∙ g in absurd cc
  by false is g = sym (equal_is c d g)

same_text : (cs text : List ℕ) → list_all is_sign cs ≡ true
    → (term_fits (kept_glyphs false (map as_char cs)) (kept false text) ≡ true) ↔ (text ≡ cs)
unfolding term_fits
same_text [] [] h = (λ x. refl, λ x. refl)
same_text [] (d ∷ ds) h = (λ x. absurd cc, λ x. absurd cc)
same_text (c ∷ cs) [] h = (λ x. absurd cc, λ x. absurd cc)
same_text (c ∷ cs) (d ∷ ds) h =
    let each = and_parts (is_sign c) (list_all is_sign cs) h in
    let more = same_text cs ds each.1 in (
      λ x. (let both = and_parts (fold c == fold d) (term_fits (kept_glyphs false (map as_char cs)) (kept false ds)) x in
          let first = sign_of c d each.0 both.0 in
          let rest = more.0 both.1 in
          rw (first, rest) refl),
      λ e. (let first : d ≡ c = cc in
          let rest : ds ≡ cs = cc in
          let here : (fold c == fold d) ≡ true = ap (λ (x : ℕ). fold c == fold x) first ∙ equal_so (fold c) in
          let there = more.1 rest in
          rw (here, there) refl),
    )

-- digits, of which there is one at least
record AreDigits (ds : List ℕ) : Type 0 where
  signs : list_all is_sign ds ≡ true
  first : ℕ
  rest : List ℕ
  some : ds ≡ first ∷ rest

digit_sign : (k : ℕ) → k < 10 → is_sign (48 + k) ≡ true
digit_sign k small = grind (arith, nat_tests)

one_digit : (n : ℕ) → n < 10 → AreDigits ((48 + n) ∷ [])
one_digit n small = record { signs = (let h = digit_sign n small in rw h refl); first = 48 + n; rest = []; some = refl }

more_digits : (n : ℕ) (ds : List ℕ) → 10 ≤ n → AreDigits ds → AreDigits (ds ++ ((48 + n % 10) ∷ []))
more_digits n ds big w =
    let last = digit_sign (n % 10) (omega arith) in
    let one : list_all is_sign ((48 + n % 10) ∷ []) ≡ true = rw last refl in
    let signs = w.signs in
    record {
      signs = list_all-append is_sign ds ((48 + n % 10) ∷ []) ∙ rw (signs, one) refl;
      first = w.first;
      rest = w.rest ++ ((48 + n % 10) ∷ []);
      some = ap (λ (es : List ℕ). es ++ ((48 + n % 10) ∷ [])) w.some;
    }

digits_of : (n : ℕ) → n < 2 ^ 64 → AreDigits (decimal n)
digits_of n small = decimal_by_steps (λ m ds. AreDigits ds) one_digit more_digits n small

signed_digits : (z : ℤ) → IsWholeNumber z → AreDigits (signed_decimal z)
signed_digits (pos n) whole = digits_of n (omega (arith, ints, whole.1))
signed_digits (negsuc n) whole =
    let w = digits_of (suc n) (omega (arith, ints, whole.0)) in
    let signs = w.signs in
    record { signs = rw signs refl; first = 45; rest = decimal (suc n); some = refl }

pub number_means : (z : ℤ) (text : List ℕ) → IsWholeNumber z
    → (term_fits (kept_glyphs false (map as_char (signed_decimal z))) (kept false text) ≡ true) ↔ (text ≡ signed_decimal z)
number_means z text whole = same_text (signed_decimal z) text (signed_digits z whole).signs

sign_scalar : (c : ℕ) → is_sign c ≡ true → scalar c ≡ true
sign_scalar c h = grind (arith, nat_tests)

signs_scalars : (cs : List ℕ) → list_all is_sign cs ≡ true → all_scalars cs ≡ true
signs_scalars [] h = refl
signs_scalars (c ∷ cs) h =
    let each = and_parts (is_sign c) (list_all is_sign cs) h in
    let here = sign_scalar c each.0 in
    rw here (signs_scalars cs each.1)

-- a number's decimal is of characters, of which there is one at least
pub number_scalars : (z : ℤ) → IsWholeNumber z → (c : ℕ) × (cs : List ℕ) × (signed_decimal z ≡ c ∷ cs) × (all_scalars (c ∷ cs) ≡ true)
number_scalars z whole =
    let d = signed_digits z whole in
    (d.first, d.rest, d.some, ap all_scalars (sym d.some) ∙ signs_scalars (signed_decimal z) d.signs)
