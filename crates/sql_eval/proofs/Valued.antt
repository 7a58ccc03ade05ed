-- Values of parts, and the regular expressions that they pass.
use Rattle.std.proofs.Common.{ℕ, suc, ◌+◌, ◌<◌, ◌≡◌, true, false, List, [], ◌∷◌, ◌++◌, drop, get_or, length, refl, ap, sym, ◌∙◌, append_assoc, add-one, drop-cons}
use Rattle.sql_lang.specs.Meaning.{Truth}
use Rattle.sql_eval.specs.Searches.{Values}

pub without_searches : (meant is : Truth) (before : List (List ℕ)) → is ≡ meant → Values [] meant before before is
without_searches meant is before same = λ rest e. (same, e)

no_front : (own rest : List (List ℕ)) → [] ≡ own ++ rest → rest ≡ []
no_front [] rest e = sym e
no_front (o ∷ own) rest e = absurd cc

-- where nothing is left, nothing is left behind
pub none_left : (own rest left : List (List ℕ)) → left ≡ own ++ rest → left ≡ [] → left ≡ rest
none_left own rest left e none = none ∙ sym (no_front own rest (sym none ∙ e))

pub never : false ≡ true → ⊥
never e = cc

pub first_none : (own more : List (List ℕ)) → own ++ more ≡ [] → own ≡ []
first_none [] more e = refl
first_none (o ∷ own) more e = absurd cc

pub rest_none : (own more : List (List ℕ)) → own ++ more ≡ [] → more ≡ []
rest_none [] more e = e
rest_none (o ∷ own) more e = absurd cc

-- a list from a place on is the element there and the list behind it
pub from_here : {A : Type 0} (xs : List A) (i : ℕ) (x : A) → i < length xs → x ≡ get_or xs i x → drop i xs ≡ x ∷ drop (i + 1) xs
from_here {A = A} xs i x within is = rw add-one (drop-cons xs i x within ∙ ap (λ (y : A). y ∷ drop (suc i) xs) (sym is))

-- what is gathered of a part, and of those behind it
pub gathered_more : (old new own more whole : List (List ℕ)) → new ≡ old ++ own → old ++ (own ++ more) ≡ whole → new ++ more ≡ whole
gathered_more old new own more whole is all = ap (λ (ts : List (List ℕ)). ts ++ more) is ∙ append_assoc old own more ∙ all
