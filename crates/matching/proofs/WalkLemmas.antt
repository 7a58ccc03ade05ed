-- The steps of a walk along a pattern, and of the search behind a run.
use Rattle.std.proofs.Common.{ℕ, ◌≡◌, ◌<◌, ◌≤◌, ◌↔◌, Bool, T, true, false, List, [], ◌∷◌, length, refl, sym, ◌∙◌, ap, subst, arith, nat_eq, eqb→eq, inl, inr}
use Rattle.std.specs.Str.{chars, IsUtf8}
use Rattle.std.specs.Prelude.{encode_utf8_all}
use Rattle.std.proofs.lemmas.Str.{chars-nil, encodes-chars}
use Rattle.matching.specs.Suffixes.{SuffixHolds, CharThen}
use Rattle.matching.specs.Steps.{StepTells, is_taken}
use Rattle.matching.specs.Walks.{ReachesRun}
use Rattle.matching.specs.declared.step.Step.TheVariants.{End, Run, Takes}
use Rattle.matching.specs.declared.step.Taker.{Taker}
use Rattle.matching.proofs.SuffixLemmas.{SuffixHolds-weaker, SuffixHolds-here, SuffixHolds-more, SuffixHolds-twice, SuffixHolds-split, SuffixHolds-nil, SuffixHolds-after, CharThen-cons, CharThen-from, CharThen-nil}

-- What is known on the way: the pattern that is left matches the text that is left exactly where the whole pattern
-- matches the whole text, and if the pattern matches some suffix of the text, what is left of it matches some suffix of
-- what is left of the text.
pub record Walking {C : Type 0} (holds : C → List ℕ → Type 0) (left : C → ℕ) (start now : C) (text rest : List ℕ) : Type 0 where
  pub shorter : left now ≤ left start
  pub no_longer : length rest ≤ length text
  pub enough : holds now (chars rest) → holds start (chars text)
  pub needed : holds start (chars text) → holds now (chars rest)
  pub beyond : SuffixHolds (holds start) (chars text) → SuffixHolds (holds now) (chars rest)

no_bytes : (rest : List ℕ) → nat_eq (length rest) 0 ≡ true → rest ≡ []
no_bytes [] empty = refl
no_bytes (b ∷ bs) empty = let e : length (b ∷ bs) ≡ 0 = eqb→eq (length (b ∷ bs)) 0 (subst (λ (v : Bool). T v) (sym empty) tt) in absurd (omega (arith, e))

some_bytes : (rest : List ℕ) → rest ≡ [] → nat_eq (length rest) 0 ≡ false → ⊥
some_bytes rest none filled = let e : nat_eq (length rest) 0 ≡ true = ap (λ (t : List ℕ). nat_eq (length t) 0) none in cc

module _ {C : Type 0} (holds : C → List ℕ → Type 0) (left : C → ℕ) where
  pub Walking-start : (start : C) (text : List ℕ) → Walking holds left start start text text
  Walking-start start text = record {
    shorter = omega arith;
    no_longer = omega arith;
    enough = λ h. h;
    needed = λ h. h;
    beyond = λ h. h;
  }

  -- a character is taken
  pub Walking-next : (start now next : C) (text rest after : List ℕ) (c : ℕ) (taker : Taker)
      → Walking holds left start now text rest → StepTells holds left now (Takes taker next)
      → chars rest ≡ c ∷ chars after → length after < length rest → is_taken taker c ≡ true
      → Walking holds left start next text after
  Walking-next start now next text rest after c taker walking tells front shorter taken = record {
    shorter = (let a : left now ≤ left start = walking.shorter in let b : left next < left now = tells.0 in omega arith);
    no_longer = (let a : length rest ≤ length text = walking.no_longer in omega arith);
    enough = λ h. walking.enough
        ((tells.1 (chars rest)).1 (subst (λ (t : List ℕ). CharThen (is_taken taker) (holds next) t) (sym front)
        (CharThen-from (is_taken taker) (holds next) c (chars after) taken h)));
    needed = λ h. (CharThen-cons (is_taken taker) (holds next) c (chars after)
        (subst (λ (t : List ℕ). CharThen (is_taken taker) (holds next) t) front ((tells.1 (chars rest)).0 (walking.needed h)))).1;
    beyond = λ h. SuffixHolds-after (is_taken taker) (holds next) c (chars after)
        (subst (λ (t : List ℕ). SuffixHolds (CharThen (is_taken taker) (holds next)) t) front
        (SuffixHolds-weaker (holds now) (CharThen (is_taken taker) (holds next)) (chars rest) (λ t. (tells.1 t).0) (walking.beyond h)));
  }

  -- the next run is reached: the runs before it don't matter any more
  pub Walking-run : (start now next : C) (text rest : List ℕ)
      → Walking holds left start now text rest → StepTells holds left now (Run next)
      → ReachesRun holds left start next text rest
  Walking-run start now next text rest walking tells = record {
    shorter = (let a : left now ≤ left start = walking.shorter in let b : left next < left now = tells.0 in omega arith);
    no_longer = walking.no_longer;
    enough = λ h. walking.enough ((tells.1 (chars rest)).1 h);
    needed = λ h. SuffixHolds-twice (holds next) (chars rest)
        (SuffixHolds-weaker (holds now) (SuffixHolds (holds next)) (chars rest) (λ t. (tells.1 t).0) (walking.beyond h));
  }

  -- the text ends where a character is wanted
  pub Walking-no_more : (start now next : C) (text rest : List ℕ) (taker : Taker)
      → Walking holds left start now text rest → StepTells holds left now (Takes taker next)
      → chars rest ≡ [] → holds start (chars text) → ⊥
  Walking-no_more start now next text rest taker walking tells empty h =
      CharThen-nil (is_taken taker) (holds next)
      (subst (λ (t : List ℕ). CharThen (is_taken taker) (holds next) t) empty ((tells.1 (chars rest)).0 (walking.needed h)))

  -- another character stands there
  pub Walking-other : (start now next : C) (text rest after : List ℕ) (c : ℕ) (taker : Taker)
      → Walking holds left start now text rest → StepTells holds left now (Takes taker next)
      → chars rest ≡ c ∷ chars after → is_taken taker c ≡ false → holds start (chars text) → ⊥
  Walking-other start now next text rest after c taker walking tells front refused h =
      let taken : is_taken taker c ≡ true =
      (CharThen-cons (is_taken taker) (holds next) c (chars after)
      (subst (λ (t : List ℕ). CharThen (is_taken taker) (holds next) t) front ((tells.1 (chars rest)).0 (walking.needed h)))).0 in
      cc

  -- the pattern and the text end together
  pub Walking-end : (start now : C) (text rest : List ℕ)
      → Walking holds left start now text rest → StepTells holds left now End
      → nat_eq (length rest) 0 ≡ true → holds start (chars text)
  Walking-end start now text rest walking tells empty =
      walking.enough ((tells (chars rest)).1 (ap chars (no_bytes rest empty) ∙ chars-nil))

  -- the pattern has ended, and characters are left
  pub Walking-left_over : (start now : C) (text rest : List ℕ)
      → Walking holds left start now text rest → StepTells holds left now End
      → IsUtf8 rest → nat_eq (length rest) 0 ≡ false → holds start (chars text) → ⊥
  Walking-left_over start now text rest walking tells utf8 filled h =
      some_bytes rest (sym (encodes-chars rest utf8) ∙ ap encode_utf8_all ((tells (chars rest)).0 (walking.needed h))) filled

  -- what is sought isn't here: it's sought one character later
  pub Seeking-miss : (start later : C) (text rest after : List ℕ) (c : ℕ)
      → SuffixHolds (holds start) text ↔ SuffixHolds (holds later) (chars rest)
      → (holds later (chars rest) → ⊥) → chars rest ≡ c ∷ chars after
      → SuffixHolds (holds start) text ↔ SuffixHolds (holds later) (chars after)
  Seeking-miss start later text rest after c same missed front = (
    (λ h. elim (SuffixHolds-split (holds later) c (chars after) (subst (λ (t : List ℕ). SuffixHolds (holds later) t) front (same.0 h))) [
      | inl here ↦ absurd (missed (subst (λ (t : List ℕ). holds later t) (sym front) here))
      | inr behind ↦ behind
    ]),
    (λ h. same.1 (subst (λ (t : List ℕ). SuffixHolds (holds later) t) (sym front) (SuffixHolds-more (holds later) c (chars after) h))),
  )

  -- nothing is left to seek in
  pub Seeking-end : (start later : C) (text rest : List ℕ)
      → SuffixHolds (holds start) text ↔ SuffixHolds (holds later) (chars rest)
      → (holds later (chars rest) → ⊥) → rest ≡ [] → SuffixHolds (holds start) text → ⊥
  Seeking-end start later text rest same missed empty h =
      let nothing : chars rest ≡ [] = ap chars empty ∙ chars-nil in
      missed (subst (λ (t : List ℕ). holds later t) (sym nothing)
      (SuffixHolds-nil (holds later) (subst (λ (t : List ℕ). SuffixHolds (holds later) t) nothing (same.0 h))))

  -- a run is reached: what stands behind it is sought from there on
  pub Seeking-run : (start later next : C) (text rest after : List ℕ)
      → SuffixHolds (holds start) text ↔ SuffixHolds (holds later) (chars rest)
      → ReachesRun holds left later next rest after
      → SuffixHolds (holds start) text ↔ SuffixHolds (holds next) (chars after)
  Seeking-run start later next text rest after same reached = (
    (λ h. reached.needed (same.0 h)),
    (λ h. same.1 (SuffixHolds-here (holds later) (chars rest) (reached.enough h))),
  )
