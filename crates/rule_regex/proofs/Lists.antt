-- What holds of each element, of some element, and of the elements at each place, of lists that follow one another.
use Rattle.std.proofs.Common.{ℕ, ◌≡◌, ◌<◌, ◌+◌, ◌∙◌, List, [], ◌∷◌, ◌++◌, length, get_or, take, drop, inl, inr, refl, sym, ap, subst}
use Rattle.std.proofs.lemmas.List.{take_more, take-append-drop}
use Rattle.std.specs.List.{AllZip}
use Rattle.event_schema.specs.Lists.{EachOf, SomeOf}

pub each_map : {A : Type 0} (P Q : A → Type 0) (xs : List A) → ((x : A) → P x → Q x) → EachOf P xs → EachOf Q xs
each_map P Q [] f each = tt
each_map P Q (x ∷ xs) f each = (f x each.0, each_map P Q xs f each.1)

pub each_joined : {A : Type 0} (P : A → Type 0) (xs ys : List A) → EachOf P xs → EachOf P ys → EachOf P (xs ++ ys)
each_joined P [] ys each more = more
each_joined P (x ∷ xs) ys each more = (each.0, each_joined P xs ys each.1 more)

pub some_map : {A : Type 0} (P Q : A → Type 0) (xs : List A) → ((x : A) → P x → Q x) → SomeOf P xs → SomeOf Q xs
some_map P Q [] f some = absurd some
some_map P Q (x ∷ xs) f (inl here) = inl (f x here)
some_map P Q (x ∷ xs) f (inr later) = inr (some_map P Q xs f later)

pub some_left : {A : Type 0} (P : A → Type 0) (xs ys : List A) → SomeOf P xs → SomeOf P (xs ++ ys)
some_left P [] ys some = absurd some
some_left P (x ∷ xs) ys (inl here) = inl here
some_left P (x ∷ xs) ys (inr later) = inr (some_left P xs ys later)

pub some_right : {A : Type 0} (P : A → Type 0) (xs ys : List A) → SomeOf P ys → SomeOf P (xs ++ ys)
some_right P [] ys some = some
some_right P (x ∷ xs) ys some = inr (some_right P xs ys some)

-- the one of which it holds
pub some_one : {A : Type 0} (P : A → Type 0) (xs : List A) → SomeOf P xs → (x : A) × SomeOf (λ y. y ≡ x) xs × P x
some_one P [] some = absurd some
some_one P (x ∷ xs) (inl here) = (x, inl refl, here)
some_one P (x ∷ xs) (inr later) = let one = some_one P xs later in (one.0, inr one.1, one.2)

-- of a list of one
pub of_one : {A : Type 0} (P : A → Type 0) (x : A) → SomeOf P (x ∷ []) → P x
of_one P x (inl here) = here
of_one P x (inr none) = absurd none

-- the first so many and one more
pub taken : {A : Type 0} (xs : List A) (i : ℕ) (x : A) → i < length xs → x ≡ get_or xs i x → take (i + 1) xs ≡ take i xs ++ x ∷ []
taken {A} xs i x below is = take_more xs i x below ∙ ap (λ (y : A). take i xs ++ y ∷ []) (sym is)

-- with those behind
pub around : {A : Type 0} (xs : List A) (i : ℕ) (x : A) → i < length xs → x ≡ get_or xs i x → (take i xs ++ x ∷ []) ++ drop (i + 1) xs ≡ xs
around {A} xs i x below is = ap (λ (l : List A). l ++ drop (i + 1) xs) (sym (taken xs i x below is)) ∙ take-append-drop (i + 1) xs

-- it holds of the element at this place
pub some_at : {A : Type 0} (P : A → Type 0) (xs : List A) (i : ℕ) (x : A) → i < length xs → x ≡ get_or xs i x → P x → SomeOf P xs
some_at P xs i x below is holds =
    subst (SomeOf P) (around xs i x below is) (some_left P (take i xs ++ x ∷ []) (drop (i + 1) xs) (some_right P (take i xs) (x ∷ []) (inl holds)))

module _ {A B : Type 0} where
  pub zip_map : (R S : A → B → Type 0) → ((x : A) (y : B) → R x y → S x y) → (xs : List A) (ys : List B) → AllZip R xs ys → AllZip S xs ys
  zip_map R S f [] [] all = tt
  zip_map R S f [] (y ∷ ys) all = absurd all
  zip_map R S f (x ∷ xs) [] all = absurd all
  zip_map R S f (x ∷ xs) (y ∷ ys) all = (f x y all.0, zip_map R S f xs ys all.1)

  pub zip_joined : (R : A → B → Type 0) (xs us : List A) (ys vs : List B) → AllZip R xs ys → AllZip R us vs → AllZip R (xs ++ us) (ys ++ vs)
  zip_joined R [] us [] vs all more = more
  zip_joined R [] us (y ∷ ys) vs all more = absurd all
  zip_joined R (x ∷ xs) us [] vs all more = absurd all
  zip_joined R (x ∷ xs) us (y ∷ ys) vs all more = (all.0, zip_joined R xs us ys vs all.1 more)

  -- some element of the second list has one of the first beside it
  pub zip_some : (R : A → B → Type 0) (xs : List A) (ys : List B) (P : B → Type 0) → AllZip R xs ys → SomeOf P ys → (x : A) × (y : B) × SomeOf (λ a. a ≡ x) xs × R x y × P y
  zip_some R [] [] P all some = absurd some
  zip_some R [] (y ∷ ys) P all some = absurd all
  zip_some R (x ∷ xs) [] P all some = absurd some
  zip_some R (x ∷ xs) (y ∷ ys) P all (inl here) = (x, y, inl refl, all.0, here)
  zip_some R (x ∷ xs) (y ∷ ys) P all (inr later) = let one = zip_some R xs ys P all.1 later in (one.0, one.1, inr one.2, one.3, one.4)
