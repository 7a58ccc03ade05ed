-- Terms and phrases by their front.
use Rattle.std.proofs.Common.{ℕ, ◌≡◌, refl, sym, Bool, true, false, List, [], ◌∷◌, subst, ◌<◌, length, arith}
use Rattle.std.specs.Prelude.{◌==◌, ◌↔◌, map, IsTrue}
use Rattle.std.specs.Str.{bytes_eq}
use Rattle.std.proofs.lemmas.Bool.{and_parts}
use Rattle.matching.proofs.SuffixLemmas.{SuffixHolds-tests, CharThen-tests}
use Rattle.matching.specs.Suffixes.{SuffixHolds, CharThen}
use Rattle.matching.specs.Steps.{folds_to}
use Rattle.lucene_lang.specs.declared.query.Glyph.{Glyph}
use Rattle.lucene_lang.specs.declared.query.Glyph.TheVariants.{Char, One, Run}
use Rattle.lucene_lang.specs.Meaning.{kept_char, kept, kept_glyphs, term_fits, some_end, behind_one, is_nothing}

module _ (m : ℕ → ℕ) (fits : List ℕ → Bool) (holds : List ℕ → Type 0) (agrees : (rest : List ℕ) → (fits (map m rest) ≡ true) ↔ holds rest) where
  run_agrees : (text : List ℕ) → (some_end fits (map m text) ≡ true) ↔ SuffixHolds holds text
  run_agrees text = SuffixHolds-tests (λ t. fits (map m t)) holds agrees (λ t. some_end fits (map m t)) refl (λ c cs. refl) text

  one_agrees : (is_so : ℕ → Bool) (text : List ℕ) → (behind_one is_so fits (map m text) ≡ true) ↔ CharThen (λ d. is_so (m d)) holds text
  one_agrees is_so text = CharThen-tests (λ t. fits (map m t)) holds agrees (λ d. is_so (m d)) (λ t. behind_one is_so fits (map m t)) refl (λ c cs. refl) text

nothing_is : (m : ℕ → ℕ) (text : List ℕ) → (is_nothing (map m text) ≡ true) ↔ (text ≡ [])
nothing_is m [] = (λ h. refl, λ h. refl)
nothing_is m (c ∷ cs) = (λ h. absurd cc, λ h. absurd cc)

-- ---- what a term says at its front

module _ (cased : Bool) (gs : List Glyph) where
  abbrev Holds : List Glyph → List ℕ → Type 0
  Holds hs text = term_fits (kept_glyphs cased hs) (kept cased text) ≡ true

  pub ends : (hs : List Glyph) → hs ≡ [] → (text : List ℕ) → Holds hs text ↔ (text ≡ [])
  unfolding term_fits
  ends hs is text = rw is (nothing_is (kept_char cased) text)

  pub char : (c : ℕ) (text : List ℕ) → Holds (Char c ∷ gs) text ↔ CharThen (λ d. kept_char cased c == kept_char cased d) (Holds gs) text
  unfolding term_fits
  char c text = one_agrees (kept_char cased) (term_fits (kept_glyphs cased gs)) (Holds gs) (λ rest. (λ h. h, λ h. h)) (λ d. kept_char cased c == d) text

  pub one : (text : List ℕ) → Holds (One ∷ gs) text ↔ CharThen (λ d. true) (Holds gs) text
  unfolding term_fits
  one text = one_agrees (kept_char cased) (term_fits (kept_glyphs cased gs)) (Holds gs) (λ rest. (λ h. h, λ h. h)) (λ d. true) text

  pub run : (text : List ℕ) → Holds (Run ∷ gs) text ↔ SuffixHolds (Holds gs) text
  unfolding term_fits
  run text = run_agrees (kept_char cased) (term_fits (kept_glyphs cased gs)) (Holds gs) (λ rest. (λ h. h, λ h. h)) text

-- ---- phrases

abbrev Same : Bool → List ℕ → List ℕ → Type 0
Same cased cs text = bytes_eq (kept cased cs) (kept cased text) ≡ true

pub phrase_ends : (cased : Bool) (cs : List ℕ) → cs ≡ [] → (text : List ℕ) → Same cased cs text ↔ (text ≡ [])
phrase_ends cased cs is [] = rw is (λ h. refl, λ h. refl)
phrase_ends cased cs is (d ∷ ds) = rw is (λ h. absurd cc, λ h. absurd cc)

pub phrase_char : (cased : Bool) (c : ℕ) (rest cs : List ℕ) → cs ≡ c ∷ rest → (text : List ℕ)
    → Same cased cs text ↔ CharThen (λ d. kept_char cased c == kept_char cased d) (Same cased rest) text
phrase_char cased c rest cs is [] = rw is (λ h. absurd cc, λ s. absurd (no_first s)) where
  no_first : CharThen (λ d. kept_char cased c == kept_char cased d) (Same cased rest) [] → ⊥
  no_first s = let e = s.shape in absurd cc
phrase_char cased c rest cs is (d ∷ ds) = rw is (
  λ h. (let each = and_parts (kept_char cased c == kept_char cased d) (bytes_eq (kept cased rest) (kept cased ds)) h in
      record { first = d; rest = ds; shape = refl; passed = each.0; holds_then = each.1 }),
  λ s. back s.first s.rest s.shape s.passed s.holds_then,
) where
  back : (e : ℕ) (es : List ℕ) → d ∷ ds ≡ e ∷ es → (kept_char cased c == kept_char cased e) ≡ true → Same cased rest es → Same cased (c ∷ rest) (d ∷ ds)
  back e es shape passed behind = subst (λ (t : List ℕ). Same cased (c ∷ rest) t) (sym shape) (rw (passed, behind) refl)

-- a test that is true exactly where another is, is this other
pub same_test : (r b : Bool) → IsTrue r ↔ (b ≡ true) → r ≡ b
same_test true true h = refl
same_test true false h = sym (h.0 refl)
same_test false true h = h.1 refl
same_test false false h = refl

-- ---- steps

abbrev Term : Bool → List Glyph → List ℕ → Type 0
Term cased hs text = term_fits (kept_glyphs cased hs) (kept cased text) ≡ true

shorter : (hs gs : List Glyph) (g : Glyph) → hs ≡ g ∷ gs → length gs < length hs
shorter hs gs g same = rw same (omega arith)

nothing_left : {X : Type 0} (xs : List X) → length xs ≡ 0 → xs ≡ []
nothing_left [] h = refl
nothing_left (x ∷ xs) h = absurd (omega (arith, h))

pub step_ends : (cased : Bool) (hs : List Glyph) → length hs ≡ 0 → (text : List ℕ) → Term cased hs text ↔ (text ≡ [])
step_ends cased hs h text = ends cased hs hs (nothing_left hs h) text

pub step_exact : (cased : Bool) (hs gs : List Glyph) (g : Glyph) (c : ℕ) → hs ≡ g ∷ gs → g ≡ Char c → cased ≡ true
    → (length gs < length hs) × ((text : List ℕ) → Term cased hs text ↔ CharThen (λ d. c == d) (Term cased gs) text)
step_exact cased hs gs g c same is kept' = (
  shorter hs gs g same,
  λ text. rw (same, is) (subst (λ (b : Bool). Term b (Char c ∷ gs) text ↔ CharThen (λ d. c == d) (Term b gs) text) (sym kept') (char true gs c text)),
)

pub step_folded : (cased : Bool) (hs gs : List Glyph) (g : Glyph) (c : ℕ) → hs ≡ g ∷ gs → g ≡ Char c → cased ≡ false
    → (length gs < length hs) × ((text : List ℕ) → Term cased hs text ↔ CharThen (λ d. folds_to c d) (Term cased gs) text)
step_folded cased hs gs g c same is kept' = (
  shorter hs gs g same,
  λ text. rw (same, is) (subst (λ (b : Bool). Term b (Char c ∷ gs) text ↔ CharThen (λ d. folds_to c d) (Term b gs) text) (sym kept') (char false gs c text)),
)

pub step_one : (cased : Bool) (hs gs : List Glyph) (g : Glyph) → hs ≡ g ∷ gs → g ≡ One
    → (length gs < length hs) × ((text : List ℕ) → Term cased hs text ↔ CharThen (λ d. true) (Term cased gs) text)
step_one cased hs gs g same is = (shorter hs gs g same, λ text. rw (same, is) (one cased gs text))

pub step_run : (cased : Bool) (hs gs : List Glyph) (g : Glyph) → hs ≡ g ∷ gs → g ≡ Run
    → (length gs < length hs) × ((text : List ℕ) → Term cased hs text ↔ SuffixHolds (Term cased gs) text)
step_run cased hs gs g same is = (shorter hs gs g same, λ text. rw (same, is) (run cased gs text))

pub phrase_exact : (cased : Bool) (c : ℕ) (rest cs : List ℕ) → cs ≡ c ∷ rest → cased ≡ true → (text : List ℕ)
    → Same cased cs text ↔ CharThen (λ d. c == d) (Same cased rest) text
phrase_exact cased c rest cs is kept' text = subst (λ (b : Bool). Same b cs text ↔ CharThen (λ d. c == d) (Same b rest) text) (sym kept') (phrase_char true c rest cs is text)

pub phrase_folded : (cased : Bool) (c : ℕ) (rest cs : List ℕ) → cs ≡ c ∷ rest → cased ≡ false → (text : List ℕ)
    → Same cased cs text ↔ CharThen (λ d. folds_to c d) (Same cased rest) text
phrase_folded cased c rest cs is kept' text = subst (λ (b : Bool). Same b cs text ↔ CharThen (λ d. folds_to c d) (Same b rest) text) (sym kept') (phrase_char false c rest cs is text)
