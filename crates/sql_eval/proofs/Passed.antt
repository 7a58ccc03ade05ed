-- Regular expressions in their order, of which some are passed.
use Rattle.std.proofs.Common.{ℕ, zero, suc, ◌+◌, ◌≡◌, List, [], ◌∷◌, ◌++◌, map, drop, get_or, refl, add-one}

pub next_is : {A : Type 0} (f : A → List ℕ) (xs : List A) (n : ℕ) (d : A) (text : List ℕ) (rest : List (List ℕ)) → drop n (map f xs) ≡ text ∷ rest
    → f (get_or xs n d) ≡ text
next_is f [] zero d text rest e = absurd cc
next_is f [] (suc n) d text rest e = absurd cc
next_is f (x ∷ xs) zero d text rest e = cc
next_is f (x ∷ xs) (suc n) d text rest e = next_is f xs n d text rest e

after_next : {A : Type 0} (xs : List A) (n : ℕ) (x : A) (rest : List A) → drop n xs ≡ x ∷ rest → drop (suc n) xs ≡ rest
after_next [] zero x rest e = absurd cc
after_next [] (suc n) x rest e = absurd cc
after_next (y ∷ xs) zero x rest e = cc
after_next (y ∷ xs) (suc n) x rest e = after_next xs n x rest e

pub rest_is : {A : Type 0} (xs : List A) (n : ℕ) (x : A) (rest : List A) → drop n xs ≡ x ∷ rest → drop (n + 1) xs ≡ rest
rest_is xs n x rest e = rw add-one (after_next xs n x rest e)
