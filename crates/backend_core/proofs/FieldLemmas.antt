-- What is said of a field by its number, and what of the field itself.
use Rattle.std.proofs.Common.{ℕ, zero, suc, ◌≡◌, ◌<◌, ◌≤◌, sym, ◌∙◌, ap, List, [], ◌∷◌, length, get_or, arith}
use Rattle.event_schema.specs.declared.schema.Field.{Field}

module _ {A : Type 0} (of : Field → A) (none : A) (at : List Field → ℕ → A) (first : (f : Field) (fields : List Field) → at (f ∷ fields) zero ≡ of f)
    (later : (f : Field) (fields : List Field) (k : ℕ) → at (f ∷ fields) (suc k) ≡ at fields k) (past : (k : ℕ) → at [] k ≡ none) where
  pub told_within : (fields : List Field) (k : ℕ) (field : Field) → k < length fields → field ≡ get_or fields k field → of field ≡ at fields k
  told_within [] k field within is = absurd (omega (arith, within))
  told_within (f ∷ fields) zero field within is = ap of is ∙ sym (first f fields)
  told_within (f ∷ fields) (suc k) field within is = told_within fields k field (omega (arith, within)) is ∙ sym (later f fields k)

  pub told_past : (fields : List Field) (k : ℕ) → length fields ≤ k → none ≡ at fields k
  told_past [] k h = sym (past k)
  told_past (f ∷ fields) zero h = absurd (omega (arith, h))
  told_past (f ∷ fields) (suc k) h = told_past fields k (omega (arith, h)) ∙ sym (later f fields k)
