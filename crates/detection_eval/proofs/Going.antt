-- Loops over lists of which some element has to be so, or each: the first one that decides ends them.
use Rattle.std.proofs.Common.{◌≡◌, ◌↔◌, IsTrue, ℕ, zero, suc, ◌+◌, ◌<◌, ◌≤◌, Bool, true, false, List, [], ◌∷◌, length, get_or, drop, inr, refl, sym, ap, ◌∙◌, subst, arith}
use Rattle.std.proofs.Math.ListN.{drop_of_length-le}
use Rattle.std.proofs.lemmas.Bool.{false≢true}
use Rattle.std.proofs.lemmas.List.{drop_more}
use Rattle.event_schema.proofs.ListLemmas.{some_here, some_later, none_left}
use Rattle.event_schema.specs.Lists.{EachOf, SomeOf}

-- what stands at an index is read with any default
read_same : {A : Type 0} (xs : List A) (i : ℕ) (d e : A) → i < length xs → get_or xs i d ≡ get_or xs i e
read_same [] i d e within = absurd (omega arith)
read_same (x ∷ xs) zero d e within = refl
read_same (x ∷ xs) (suc i) d e within = read_same xs i d e (omega arith)

pub read_is : {A : Type 0} (xs : List A) (i : ℕ) (d : A) → i < length xs → get_or xs i d ≡ get_or xs i (get_or xs i d)
read_is xs i d within = read_same xs i d (get_or xs i d) within

module _ {A : Type 0} (P : A → Type 0) (xs : List A) (i : ℕ) where
  module _ (x : A) (within : i < length xs) (is : x ≡ get_or xs i x) where
    left_is : drop i xs ≡ x ∷ drop (i + 1) xs
    left_is = drop_more xs i x within ∙ ap (λ (y : A). y ∷ drop (i + 1) xs) (sym is)

    -- an element that is so decides, and one that isn't leaves it to the others
    pub some_stops : {b : Bool} → b ≡ true → (IsTrue b ↔ P x) → IsTrue true ↔ SomeOf P xs
    some_stops e test = ((λ yes. some_here P xs i x within is (test.0 e)), (λ some. refl))

    pub some_goes : {b : Bool} → b ≡ false → (IsTrue b ↔ P x) → SomeOf P (drop i xs) ↔ SomeOf P xs → SomeOf P (drop (i + 1) xs) ↔ SomeOf P xs
    some_goes e test all = (
      (λ later. all.0 (subst (SomeOf P) (sym left_is) (inr later))),
      (λ some. some_later P xs i x within is (λ p. false≢true (sym e ∙ test.1 p)) (all.1 some)),
    )

  -- behind the last element nothing is left to decide
  pub some_ends : length xs ≤ i → SomeOf P (drop i xs) ↔ SomeOf P xs → IsTrue false ↔ SomeOf P xs
  some_ends end all = ((λ never. absurd (false≢true never)), (λ some. absurd (none_left P xs i end (all.1 some))))

  pub each_ends : length xs ≤ i → EachOf P (drop i xs) ↔ EachOf P xs → IsTrue true ↔ EachOf P xs
  each_ends end all = ((λ yes. all.0 (subst (EachOf P) (sym (drop_of_length-le xs end)) tt)), (λ each. refl))
