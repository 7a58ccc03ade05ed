-- A word with stars at its front: what it fits, and what the rest of it fits.
use Rattle.std.proofs.Common.{ℕ, ◌≡◌, ◌<◌, Bool, true, List, [], ◌∷◌, length, refl, ap, sym, ◌∙◌, arith}
use Rattle.std.specs.Prelude.{◌↔◌}
use Rattle.std.specs.Str.{chars}
use Rattle.std.proofs.lemmas.Str.{chars-nil}
use Rattle.matching.proofs.SuffixLemmas.{SuffixHolds-tests}
use Rattle.matching.specs.Suffixes.{SuffixHolds}
use Rattle.sig_conditions.specs.Taken.{some_suffix, fits}
use Rattle.sig_conditions.specs.Words.{is_empty}

only_empty : (text : List ℕ) → is_empty text ≡ true → text ≡ []
only_empty [] h = refl
only_empty (c ∷ cs) h = absurd cc

-- an empty word fits the empty text alone
pub fits-nil : (word text : List ℕ) → word ≡ [] → (fits word text ≡ true → text ≡ []) × (text ≡ [] → fits word text ≡ true)
fits-nil word text e =
    ((λ h. only_empty text (sym (ap (λ (w : List ℕ). fits w text) e) ∙ h)), (λ h. ap (λ (w : List ℕ). fits w text) e ∙ ap is_empty h))

pub chars-none : (bytes : List ℕ) → bytes ≡ [] → chars bytes ≡ []
chars-none bytes e = ap chars e ∙ chars-nil

suffix_fits : (test : List ℕ → Bool) (text : List ℕ) → (some_suffix test text ≡ true) ↔ SuffixHolds (λ name. test name ≡ true) text
suffix_fits test text = SuffixHolds-tests test (λ name. test name ≡ true) (λ name. (λ h. h, λ h. h)) (some_suffix test) refl (λ c cs. refl) text

starred : (word rest : List ℕ) (c : ℕ) (text : List ℕ) → word ≡ c ∷ rest → c ≡ 42 → fits word text ≡ some_suffix (fits rest) text
starred word rest c text e f = ap (λ (w : List ℕ). fits w text) (e ∙ ap (λ (d : ℕ). d ∷ rest) f)

-- a star, and then the rest of the word
pub fits-star : (word rest : List ℕ) (c : ℕ) → word ≡ c ∷ rest → c ≡ 42
    → (length rest < length word)
    × ((text : List ℕ) → (fits word text ≡ true → SuffixHolds (λ name. fits rest name ≡ true) text) × (SuffixHolds (λ name. fits rest name ≡ true) text → fits word text ≡ true))
fits-star word rest c e f = (
  omega (arith, ap length e),
  (λ text. (
    (λ h. (suffix_fits (fits rest) text).0 (sym (starred word rest c text e f) ∙ h)),
    (λ s. starred word rest c text e f ∙ (suffix_fits (fits rest) text).1 s),
  )),
)
