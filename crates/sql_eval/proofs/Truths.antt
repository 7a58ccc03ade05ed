-- OR of three values, and whether one is Yes.
use Rattle.std.proofs.Common.{◌≡◌, ◌⊎◌, inl, inr, refl}
use Rattle.sql_lang.specs.Meaning.{Truth, Yes, No, Unknown, either}

pub either_joins : (a b c : Truth) → either (either a b) c ≡ either a (either b c)
either_joins Yes b c = refl
either_joins No b c = refl
either_joins Unknown Yes c = refl
either_joins Unknown No c = refl
either_joins Unknown Unknown Yes = refl
either_joins Unknown Unknown No = refl
either_joins Unknown Unknown Unknown = refl

-- a yes decides an OR
pub either_yes : (a c : Truth) → either a (either Yes c) ≡ Yes
either_yes Yes c = refl
either_yes No c = refl
either_yes Unknown c = refl

pub yes_or_not : (t : Truth) → (t ≡ Yes) ⊎ (t ≡ Yes → ⊥)
yes_or_not Yes = inl refl
yes_or_not No = inr no_yes
  where
    no_yes : No ≡ Yes → ⊥
    no_yes h = cc
yes_or_not Unknown = inr no_yes
  where
    no_yes : Unknown ≡ Yes → ⊥
    no_yes h = cc
