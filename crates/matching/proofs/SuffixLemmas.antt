-- What follows from something holding of a suffix of a text.
use Rattle.std.proofs.Common.{ℕ, ◌≡◌, ◌↔◌, Bool, true, false, ◌||◌, ◌&&◌, List, [], ◌∷◌, ◌++◌, ◌⊎◌, inl, inr, refl, append_assoc, ap, sym, ◌∙◌, subst}
use Rattle.std.proofs.lemmas.Bool.{and_parts, and_from, or_cases, or_left, or_right}
use Rattle.matching.specs.Suffixes.{SuffixHolds, CharThen}

-- what follows from what holds of a suffix holds of one too
pub SuffixHolds-weaker : (P Q : List ℕ → Type 0) (text : List ℕ) → ((t : List ℕ) → P t → Q t) → SuffixHolds P text → SuffixHolds Q text
SuffixHolds-weaker P Q text weaker h =
    record { before = h.before; suffix = h.suffix; shape = h.shape; holds_there = weaker h.suffix h.holds_there }

-- a text is a suffix of itself
pub SuffixHolds-here : (P : List ℕ → Type 0) (text : List ℕ) → P text → SuffixHolds P text
SuffixHolds-here P text h = record { before = []; suffix = text; shape = refl; holds_there = h }

-- a suffix of what stands behind a character is one of the whole
pub SuffixHolds-more : (P : List ℕ → Type 0) (c : ℕ) (text : List ℕ) → SuffixHolds P text → SuffixHolds P (c ∷ text)
SuffixHolds-more P c text h =
    record { before = c ∷ h.before; suffix = h.suffix; shape = ap (λ (t : List ℕ). c ∷ t) h.shape; holds_there = h.holds_there }

-- a suffix of a suffix is a suffix: two runs are one
pub SuffixHolds-twice : (P : List ℕ → Type 0) (text : List ℕ) → SuffixHolds (SuffixHolds P) text → SuffixHolds P text
SuffixHolds-twice P text h = record {
  before = h.before ++ h.holds_there.before;
  suffix = h.holds_there.suffix;
  shape = h.shape ∙ (ap (λ (t : List ℕ). h.before ++ t) h.holds_there.shape ∙ sym (append_assoc h.before h.holds_there.before h.holds_there.suffix));
  holds_there = h.holds_there.holds_there;
}

split_at_first : (P : List ℕ → Type 0) (c : ℕ) (text before suffix : List ℕ) → c ∷ text ≡ before ++ suffix → P suffix → P (c ∷ text) ⊎ SuffixHolds P text
split_at_first P c text [] suffix shape h = inl (subst (λ (t : List ℕ). P t) (sym shape) h)
split_at_first P c text (d ∷ before) suffix shape h =
    let e : text ≡ before ++ suffix = cc in
    inr (record { before = before; suffix = suffix; shape = e; holds_there = h })

-- the suffix is the whole, or it stands behind the first character
pub SuffixHolds-split : (P : List ℕ → Type 0) (c : ℕ) (text : List ℕ) → SuffixHolds P (c ∷ text) → P (c ∷ text) ⊎ SuffixHolds P text
SuffixHolds-split P c text h = split_at_first P c text h.before h.suffix h.shape h.holds_there

empty_suffix : (P : List ℕ → Type 0) (before suffix : List ℕ) → [] ≡ before ++ suffix → P suffix → P []
empty_suffix P [] suffix shape h = subst (λ (t : List ℕ). P t) (sym shape) h
empty_suffix P (d ∷ before) suffix shape h = absurd (let e : [] ≡ d ∷ (before ++ suffix) = shape in cc)

-- the empty text is its only suffix
pub SuffixHolds-nil : (P : List ℕ → Type 0) → SuffixHolds P [] → P []
SuffixHolds-nil P h = empty_suffix P h.before h.suffix h.shape h.holds_there

after_first : (passes : ℕ → Bool) (P : List ℕ → Type 0) (c : ℕ) (text before suffix : List ℕ)
    → c ∷ text ≡ before ++ suffix → CharThen passes P suffix → SuffixHolds P text
after_first passes P c text [] suffix shape h =
    let e : text ≡ h.rest = (let f : c ∷ text ≡ h.first ∷ h.rest = shape ∙ h.shape in cc) in
    record { before = []; suffix = h.rest; shape = e; holds_there = h.holds_then }
after_first passes P c text (d ∷ before) suffix shape h =
    let e : text ≡ before ++ suffix = cc in
    record {
      before = before ++ h.first ∷ [];
      suffix = h.rest;
      shape = e ∙ (ap (λ (t : List ℕ). before ++ t) h.shape ∙ sym (append_assoc before (h.first ∷ []) h.rest));
      holds_there = h.holds_then;
    }

-- if somewhere in the text a character is taken and then this holds, it holds of a suffix of what stands behind the
-- text's first character: the run before was empty, or it took that character
pub SuffixHolds-after : (passes : ℕ → Bool) (P : List ℕ → Type 0) (c : ℕ) (text : List ℕ)
    → SuffixHolds (CharThen passes P) (c ∷ text) → SuffixHolds P text
SuffixHolds-after passes P c text h = after_first passes P c text h.before h.suffix h.shape h.holds_there

-- the first character and the rest of a text that begins with one
pub CharThen-cons : (passes : ℕ → Bool) (P : List ℕ → Type 0) (c : ℕ) (text : List ℕ) → CharThen passes P (c ∷ text) → (passes c ≡ true) × P text
CharThen-cons passes P c text h =
    let first_is : h.first ≡ c = (let e : c ∷ text ≡ h.first ∷ h.rest = h.shape in cc) in
    let rest_is : h.rest ≡ text = (let e : c ∷ text ≡ h.first ∷ h.rest = h.shape in cc) in
    (subst (λ (d : ℕ). passes d ≡ true) first_is h.passed, subst (λ (t : List ℕ). P t) rest_is h.holds_then)

pub CharThen-from : (passes : ℕ → Bool) (P : List ℕ → Type 0) (c : ℕ) (text : List ℕ) → passes c ≡ true → P text → CharThen passes P (c ∷ text)
CharThen-from passes P c text passed h = record { first = c; rest = text; shape = refl; passed = passed; holds_then = h }

pub CharThen-nil : (passes : ℕ → Bool) (P : List ℕ → Type 0) → CharThen passes P [] → ⊥
CharThen-nil passes P h = let e : [] ≡ h.first ∷ h.rest = h.shape in cc

-- For definitions that are tests, where a test agrees with what holds: a test of the text or of what is left of it behind some characters ..
module _ (f : List ℕ → Bool) (holds : List ℕ → Type 0) (agrees : (text : List ℕ) → (f text ≡ true) ↔ holds text) where
  pub SuffixHolds-tests : (g : List ℕ → Bool) → g [] ≡ f [] → ((c : ℕ) (cs : List ℕ) → g (c ∷ cs) ≡ (f (c ∷ cs) || g cs))
      → (text : List ℕ) → (g text ≡ true) ↔ SuffixHolds holds text
  SuffixHolds-tests g at_end step [] = (
    (λ h. SuffixHolds-here holds [] ((agrees []).0 (sym at_end ∙ h))),
    (λ h. at_end ∙ (agrees []).1 (SuffixHolds-nil holds h)),
  )
  SuffixHolds-tests g at_end step (c ∷ cs) =
      let behind : (g cs ≡ true) ↔ SuffixHolds holds cs = SuffixHolds-tests g at_end step cs in (
        (λ h. elim (or_cases (f (c ∷ cs)) (g cs) (sym (step c cs) ∙ h)) [
          | inl here ↦ SuffixHolds-here holds (c ∷ cs) ((agrees (c ∷ cs)).0 here)
          | inr later ↦ SuffixHolds-more holds c cs (behind.0 later)
        ]),
        (λ h. step c cs ∙ elim (SuffixHolds-split holds c cs h) [
          | inl here ↦ or_left (f (c ∷ cs)) (g cs) ((agrees (c ∷ cs)).1 here)
          | inr later ↦ or_right (f (c ∷ cs)) (g cs) (behind.1 later)
        ]),
      )

  -- .. and a test of the first character and of the rest
  pub CharThen-tests : (passes : ℕ → Bool) (g : List ℕ → Bool) → g [] ≡ false → ((c : ℕ) (cs : List ℕ) → g (c ∷ cs) ≡ (passes c && f cs))
      → (text : List ℕ) → (g text ≡ true) ↔ CharThen passes holds text
  CharThen-tests passes g at_end step [] = (
    (λ h. absurd (cc)),
    (λ h. absurd (CharThen-nil passes holds h)),
  )
  CharThen-tests passes g at_end step (c ∷ cs) = (
    (λ h.
        let both : _ = and_parts (passes c) (f cs) (sym (step c cs) ∙ h) in
        CharThen-from passes holds c cs both.0 ((agrees cs).0 both.1)),
    (λ h.
        let both : _ = CharThen-cons passes holds c cs h in
        step c cs ∙ and_from (passes c) (f cs) both.0 ((agrees cs).1 both.1)),
  )
