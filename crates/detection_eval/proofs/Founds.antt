-- What is found of the regular expression of a number.
use Rattle.std.proofs.Common.{ℕ, zero, suc, ◌≡◌, ◌↔◌, IsTrue, ◌<◌, ◌≤◌, Bool, true, false, List, [], ◌∷◌, length, map, get_or, inl, inr, refl, sym, ap, ◌∙◌, subst, arith}
use Rattle.std.proofs.lemmas.Bool.{false≢true}
use Rattle.std.specs.Prelude.{Option, Some, None, is_some, slice_get}
use Rattle.event_schema.specs.Lists.{SomeOf}
use Rattle.event_schema.specs.Rows.{value_text}
use Rattle.event_schema.specs.declared.value.Value.{Value}
use Rattle.query_lang.specs.Patterns.{finds}
use Rattle.detection_eval.specs.Ready.{is_found, SomeFound}

pub none_is : {A : Type 0} (o : Option A) → is_some o ≡ false → o ≡ None
none_is None e = refl
none_is (Some x) e = absurd (let t : true ≡ false = e in cc)

nothing_there : (texts : List (List ℕ)) (n : ℕ) → length texts ≤ n → slice_get texts n ≡ None
nothing_there [] n past = refl
nothing_there (t ∷ texts) zero past = absurd (omega arith)
nothing_there (t ∷ texts) (suc n) past = nothing_there texts n (omega arith)

never : (values : List Value) → SomeOf (λ value. false ≡ true) values → ⊥
never [] some = some
never (v ∷ values) (inl e) = false≢true e
never (v ∷ values) (inr later) = never values later

-- behind the last regular expression there is none
pub none_found : (texts : List (List ℕ)) (n : ℕ) (values : List Value) → length texts ≤ n → IsTrue false ↔ SomeFound texts n values
none_found texts n values past =
    subst (λ (o : Option (List ℕ)). IsTrue false ↔ SomeOf (λ value. is_found o (value_text value) ≡ true) values) (sym (nothing_there texts n past))
    ((λ no. absurd (false≢true no)), (λ some. absurd (never values some)))

there : {A : Type 0} (text_at : A → List ℕ) (xs : List A) (n : ℕ) (x : A) → n < length xs → x ≡ get_or xs n x → slice_get (map text_at xs) n ≡ Some (text_at x)
there text_at [] n x within is = absurd (omega arith)
there text_at (y ∷ xs) zero x within is = ap (λ (z : _). Some (text_at z)) (sym is)
there text_at (y ∷ xs) (suc n) x within is = there text_at xs n x (omega arith) is

-- what is found of one of them is found by its number
pub one_found : {A : Type 0} (text_at : A → List ℕ) (xs : List A) (texts : List (List ℕ)) → map text_at xs ≡ texts
    → (n : ℕ) (x : A) → n < length xs → x ≡ get_or xs n x → (values : List Value) (b : Bool)
    → (IsTrue b ↔ SomeOf (λ value. finds (text_at x) (value_text value) ≡ true) values) → IsTrue b ↔ SomeFound texts n values
one_found text_at xs texts all n x within is values b found =
    subst (λ (o : Option (List ℕ)). IsTrue b ↔ SomeOf (λ value. is_found o (value_text value) ≡ true) values)
    (sym (ap (λ (ts : List (List ℕ)). slice_get ts n) (sym all) ∙ there text_at xs n x within is)) found
