-- Where no letter stands, a pattern fits by case as it does in any case.
use Rattle.std.proofs.Common.{ℕ, suc, ◌+◌, ◌%◌, ◌^◌, ◌<◌, ◌≤◌, ◌≡◌, refl, subst, Bool, true, false, List, [], ◌∷◌, ◌++◌, arith}
use Rattle.std.specs.Prelude.{ℤ, pos, negsuc, ◌==◌, ◌↔◌}
use Rattle.std.specs.Fmt.{decimal, signed_decimal}
use Rattle.std.proofs.lemmas.Bool.Decides.{nat_tests}
use Rattle.std.proofs.lemmas.Fmt.{decimal_by_steps}
use Rattle.std.proofs.lemmas.Int.{ints}
use Rattle.event_schema.specs.Events.{IsWholeNumber}
use Rattle.event_schema.specs.Lists.{EachOf}
use Rattle.event_schema.specs.declared.schema.FieldKind.{FieldKind}
use Rattle.event_schema.specs.declared.schema.FieldKind.TheVariants as kinds
use Rattle.matching.specs.Steps.{is_dash, folds_to}
use Rattle.matching.specs.Suffixes.{SuffixHolds, CharThen}
use Rattle.sig_strings.specs.Fits.{same_char, Fits}
use Rattle.sig_strings.specs.declared.part.Part.{Part}
use Rattle.sig_strings.specs.declared.part.Part.TheVariants.{Char, One, Run, Dash, Hole}
use Rattle.sqlite_writer.specs.Guarded.{counts_case}

pub caseless_is_whole : (kind : FieldKind) → counts_case kind true ≡ false → kind ≡ kinds.Whole
caseless_is_whole kinds.Text h = absurd cc
caseless_is_whole kinds.Whole h = refl
caseless_is_whole kinds.Address h = absurd cc

pub no_case_unasked : (kind : FieldKind) → counts_case kind false ≡ true → ⊥
no_case_unasked kinds.Text h = cc
no_case_unasked kinds.Whole h = cc
no_case_unasked kinds.Address h = cc

-- ---- texts of characters that stand before the letters

abbrev IsLow : ℕ → Type 0
IsLow c = c < 65

abbrev pub AreLow : List ℕ → Type 0
AreLow text = EachOf IsLow text

low_behind : (a b : List ℕ) → AreLow (a ++ b) → AreLow b
low_behind [] b h = h
low_behind (c ∷ a) b h = low_behind a b h.1

low_both : (a b : List ℕ) → AreLow a → AreLow b → AreLow (a ++ b)
low_both [] b first second = second
low_both (c ∷ a) b first second = (first.0, low_both a b first.1 second)

one_low : (n : ℕ) → n < 10 → AreLow ((48 + n) ∷ [])
one_low n small = (omega (arith, small), tt)

more_low : (n : ℕ) (ds : List ℕ) → 10 ≤ n → AreLow ds → AreLow (ds ++ ((48 + n % 10) ∷ []))
more_low n ds big before = low_both ds ((48 + n % 10) ∷ []) before (one_low (n % 10) (omega arith))

decimal_is_low : (n : ℕ) → n < 2 ^ 64 → AreLow (decimal n)
decimal_is_low n small = decimal_by_steps (λ m ds. AreLow ds) one_low more_low n small

pub number_is_low : (z : ℤ) → IsWholeNumber z → AreLow (signed_decimal z)
number_is_low (pos n) whole = decimal_is_low n (omega (arith, ints, whole.1))
number_is_low (negsuc n) whole = (omega arith, decimal_is_low (suc n) (omega (arith, ints, whole.0)))

-- ---- one character

same_low : (c d : ℕ) → d < 65 → folds_to c d ≡ true → (c == d) ≡ true
same_low c d low h = grind (arith, nat_tests)

same_anyhow : (c d : ℕ) → (c == d) ≡ true → folds_to c d ≡ true
same_anyhow c d h = grind (arith, nat_tests)

-- ---- patterns

then_same : (passes also : ℕ → Bool) (P Q : List ℕ → Type 0) (text : List ℕ) → AreLow text
    → ((d : ℕ) → d < 65 → passes d ≡ true → also d ≡ true) → ((rest : List ℕ) → AreLow rest → P rest → Q rest)
    → CharThen passes P text → CharThen also Q text
then_same passes also P Q text low one more h =
    let there : AreLow (h.first ∷ h.rest) = subst AreLow h.shape low in
    record { first = h.first; rest = h.rest; shape = h.shape; passed = one h.first there.0 h.passed; holds_then = more h.rest there.1 h.holds_then }

suffix_same : (P Q : List ℕ → Type 0) (text : List ℕ) → AreLow text → ((rest : List ℕ) → AreLow rest → P rest → Q rest)
    → SuffixHolds P text → SuffixHolds Q text
suffix_same P Q text low more h =
    let there : AreLow h.suffix = low_behind h.before h.suffix (subst AreLow h.shape low) in
    record { before = h.before; suffix = h.suffix; shape = h.shape; holds_there = more h.suffix there h.holds_there }

abbrev In : List Part → Bool → List ℕ → Type 0
In parts cased text = Fits parts text cased

pub case_of_none : (parts : List Part) (text : List ℕ) → AreLow text → Fits parts text false ↔ Fits parts text true
case_of_none [] text low = ((λ h. h), (λ h. h))
case_of_none (Char c ∷ parts) text low = (
  then_same (same_char false c) (same_char true c) (In parts false) (In parts true) text low (same_low c) (λ rest below. (case_of_none parts rest below).0),
  then_same (same_char true c) (same_char false c) (In parts true) (In parts false) text low (λ d below. same_anyhow c d) (λ rest below. (case_of_none parts rest below).1),
)
case_of_none (One ∷ parts) text low = (
  then_same (λ d. true) (λ d. true) (In parts false) (In parts true) text low (λ d below h. h) (λ rest below. (case_of_none parts rest below).0),
  then_same (λ d. true) (λ d. true) (In parts true) (In parts false) text low (λ d below h. h) (λ rest below. (case_of_none parts rest below).1),
)
case_of_none (Run ∷ parts) text low = (
  suffix_same (In parts false) (In parts true) text low (λ rest below. (case_of_none parts rest below).0),
  suffix_same (In parts true) (In parts false) text low (λ rest below. (case_of_none parts rest below).1),
)
case_of_none (Dash ∷ parts) text low = (
  then_same is_dash is_dash (In parts false) (In parts true) text low (λ d below h. h) (λ rest below. (case_of_none parts rest below).0),
  then_same is_dash is_dash (In parts true) (In parts false) text low (λ d below h. h) (λ rest below. (case_of_none parts rest below).1),
)
case_of_none (Hole name ∷ parts) text low = ((λ h. h), (λ h. h))
