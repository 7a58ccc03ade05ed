-- Decimals by their first characters.
use Rattle.std.proofs.Common.{ℕ, ◌≡◌, sym, ◌∙◌, ap, Bool, true, false, List, [], ◌∷◌}
use Rattle.std.specs.Prelude.{◌&&◌, ◌==◌, nat_le, if◌then◌else◌}
use Rattle.std.specs.List.{list_all}
use Rattle.std.specs.Str.{chars}
use Rattle.std.proofs.lemmas.Str.{chars-nil}
use Rattle.sig_base.specs.Digits.{is_digit, is_positive, unsigned}
use Rattle.lucene_lang.specs.Faults.{begins_minus}

pub positive_none : (t : List ℕ) → t ≡ [] → false ≡ is_positive (chars t)
positive_none t is = sym (ap is_positive (ap chars is ∙ chars-nil))

pub positive_more : (t rest : List ℕ) (c : ℕ) (b : Bool) → chars t ≡ c ∷ chars rest
    → b ≡ ((nat_le 49 c && nat_le c 57) && list_all is_digit (chars rest)) → b ≡ is_positive (chars t)
positive_more t rest c b same is = is ∙ sym (ap is_positive same)

pub unsigned_none : (t : List ℕ) → t ≡ [] → chars t ≡ unsigned (chars t)
unsigned_none t is = ap chars is ∙ (chars-nil ∙ sym (ap unsigned (ap chars is ∙ chars-nil)))

pub unsigned_more : (t rest : List ℕ) (c : ℕ) → chars t ≡ c ∷ chars rest → (c == 45) ≡ true → chars rest ≡ unsigned (chars t)
unsigned_more t rest c same is = sym (ap unsigned same ∙ ap (λ (b : Bool). if b then chars rest else c ∷ chars rest) is)

pub unsigned_same : (t rest : List ℕ) (c : ℕ) → chars t ≡ c ∷ chars rest → (c == 45) ≡ false → chars t ≡ unsigned (chars t)
unsigned_same t rest c same is = same ∙ sym (ap unsigned same ∙ ap (λ (b : Bool). if b then chars rest else c ∷ chars rest) is)

pub decimal_is : (cs ds : List ℕ) (b : Bool) → ds ≡ unsigned cs → b ≡ is_positive ds → b ≡ is_positive (unsigned cs)
decimal_is cs ds b same is = is ∙ ap is_positive same

pub minus_none : (t : List ℕ) → t ≡ [] → false ≡ begins_minus (chars t)
minus_none t is = sym (ap begins_minus (ap chars is ∙ chars-nil))

pub minus_more : (t rest : List ℕ) (c : ℕ) → chars t ≡ c ∷ chars rest → (c == 45) ≡ begins_minus (chars t)
minus_more t rest c same = sym (ap begins_minus same)
