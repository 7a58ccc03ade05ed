-- The first place in a list that passes a test, and what stands there.
use Rattle.std.proofs.Common.{ℕ, ◌≡◌, ◌<◌, ◌≤◌, ◌+◌, Bool, true, false, not, ◌&&◌, ◌||◌, cond, nat_lt, List, [], ◌∷◌, ◌++◌, length, map, get_or, take, drop, refl, sym, ap, ◌∙◌, subst, arith, append_assoc}
use Rattle.std.specs.Prelude.{Option, Some, None, is_some, option_map, find, position, suc}
use Rattle.std.specs.List.{AllZip, list_any, list_all, position_or_len}
use Rattle.std.proofs.lemmas.Bool.{and_parts, false≢true, lt-ltb, le-ltb, ltb-true, ltb-false}
use Rattle.std.proofs.lemmas.List.{drop_more, take_more}
use Rattle.sig_base.proofs.Firsts.{zip_push, taken_at}
use Rattle.event_schema.specs.Lists.{EachOf}

pub some_same : {A : Type 0} (a b : A) → Some a ≡ Some b → a ≡ b
some_same {A = A} a b e = ap (λ (o : Option A). value o) e where
  value : Option A → A
  value None = a
  value (Some x) = x

pub some_in : {A : Type 0} (o : Option A) → is_some o ≡ true → (x : A) × (o ≡ Some x)
some_in None h = absurd (false≢true h)
some_in (Some x) h = (x, refl)

not_less : (n m : ℕ) → nat_lt n m ≡ false → m ≤ n
not_less n m h = ltb-false n m h

pub here : {A : Type 0} (p : A → Bool) (x : A) (xs : List A) → p x ≡ true → position p (x ∷ xs) ≡ Some 0
here p x xs h =
    ap (λ (b : Bool). cond (nat_lt (cond (not b) (1 + position_or_len p xs) 0) (length (x ∷ xs))) (Some (cond (not b) (1 + position_or_len p xs) 0)) None) h
    ∙ ap (λ (b : Bool). cond b (Some 0) None) (lt-ltb 0 (length (x ∷ xs)) (omega arith))

pub later : {A : Type 0} (p : A → Bool) (x : A) (xs : List A) → p x ≡ false → position p (x ∷ xs) ≡ option_map (λ k. suc k) (position p xs)
later p x xs h =
    ap (λ (b : Bool). cond (nat_lt (cond (not b) (1 + position_or_len p xs) 0) (length (x ∷ xs))) (Some (cond (not b) (1 + position_or_len p xs) 0)) None) h
    ∙ by (position_or_len p xs) (length xs) (length (x ∷ xs)) (omega arith) (nat_lt (position_or_len p xs) (length xs)) refl
  where
    by : (n m l : ℕ) → l ≡ m + 1 → (b : Bool) → nat_lt n m ≡ b → cond (nat_lt (1 + n) l) (Some (1 + n)) None ≡ option_map (λ k. suc k) (cond (nat_lt n m) (Some n) None)
    by n m l long true t =
        let less : n < m = ltb-true n m t in
        ap (λ (b : Bool). cond b (Some (1 + n)) None) (lt-ltb (1 + n) l (omega (arith, less, long)))
        ∙ (ap Some (omega arith) ∙ sym (ap (λ (b : Bool). option_map (λ k. suc k) (cond b (Some n) None)) t))
    by n m l long false t =
        let more : m ≤ n = not_less n m t in
        ap (λ (b : Bool). cond b (Some (1 + n)) None) (le-ltb (1 + n) l (omega (arith, more, long)))
        ∙ sym (ap (λ (b : Bool). option_map (λ k. suc k) (cond b (Some n) None)) t)

pub below : {A : Type 0} (p : A → Bool) (xs : List A) (n : ℕ) → position p xs ≡ Some n → n < length xs
below p xs n is = by (nat_lt (position_or_len p xs) (length xs)) refl is where
  by : (b : Bool) → nat_lt (position_or_len p xs) (length xs) ≡ b → cond b (Some (position_or_len p xs)) None ≡ Some n → n < length xs
  by true t e =
      let less : position_or_len p xs < length xs = ltb-true _ _ t in
      let same : position_or_len p xs ≡ n = some_same _ n e in
      omega (arith, less, same)
  by false t e = absurd cc

-- the first place of a list's images is that of the list by the images
pub position_mapped : {A B : Type 0} (f : A → B) (p : B → Bool) (xs : List A) → position p (map f xs) ≡ position (λ x. p (f x)) xs
position_mapped f p [] = refl
position_mapped f p (x ∷ xs) = by (position_mapped f p xs) (p (f x)) refl where
  by : position p (map f xs) ≡ position (λ x. p (f x)) xs → (b : Bool) → p (f x) ≡ b → position p (f x ∷ map f xs) ≡ position (λ x. p (f x)) (x ∷ xs)
  by rest true h = here p (f x) (map f xs) h ∙ sym (here (λ x. p (f x)) x xs h)
  by rest false h = later p (f x) (map f xs) h ∙ (ap (option_map (λ k. suc k)) rest ∙ sym (later (λ x. p (f x)) x xs h))

some_mapped : {A B : Type 0} (f : A → B) (o : Option A) → is_some (option_map f o) ≡ is_some o
some_mapped f None = refl
some_mapped f (Some x) = refl

-- there is a place exactly where some element passes
pub any_place : {A : Type 0} (p : A → Bool) (xs : List A) → is_some (position p xs) ≡ list_any p xs
any_place p [] = refl
any_place p (x ∷ xs) = by (any_place p xs) (p x) refl where
  by : is_some (position p xs) ≡ list_any p xs → (b : Bool) → p x ≡ b → is_some (position p (x ∷ xs)) ≡ (p x || list_any p xs)
  by rest true h = ap is_some (here p x xs h) ∙ sym (ap (λ (b : Bool). b || list_any p xs) h)
  by rest false h = ap is_some (later p x xs h) ∙ (some_mapped (λ k. suc k) (position p xs) ∙ (rest ∙ sym (ap (λ (b : Bool). b || list_any p xs) h)))

-- ---- what is found

pub found_none : {A : Type 0} (p : A → Bool) (xs : List A) → find p xs ≡ None → list_any p xs ≡ false
found_none p [] e = refl
found_none p (x ∷ xs) e = by (found_none p xs) (p x) refl e where
  by : (find p xs ≡ None → list_any p xs ≡ false) → (b : Bool) → p x ≡ b → cond b (Some x) (find p xs) ≡ None → (p x || list_any p xs) ≡ false
  by rest true h e = absurd cc
  by rest false h e = ap (λ (b : Bool). b || list_any p xs) h ∙ rest e

pub found_passes : {A : Type 0} (p : A → Bool) (xs : List A) (y : A) → find p xs ≡ Some y → p y ≡ true
found_passes p [] y e = absurd cc
found_passes p (x ∷ xs) y e = by (found_passes p xs y) (p x) refl e where
  by : (find p xs ≡ Some y → p y ≡ true) → (b : Bool) → p x ≡ b → cond b (Some x) (find p xs) ≡ Some y → p y ≡ true
  by rest true h e = ap p (sym (some_same x y e)) ∙ h
  by rest false h e = rest e

pub found_all : {A : Type 0} (p q : A → Bool) (xs : List A) (y : A) → find p xs ≡ Some y → list_all q xs ≡ true → q y ≡ true
found_all p q [] y e all = absurd cc
found_all p q (x ∷ xs) y e all = by (found_all p q xs y) (p x) refl e where
  by : (find p xs ≡ Some y → list_all q xs ≡ true → q y ≡ true) → (b : Bool) → p x ≡ b → cond b (Some x) (find p xs) ≡ Some y → q y ≡ true
  by rest true h e = ap q (sym (some_same x y e)) ∙ (and_parts (q x) (list_all q xs) all).0
  by rest false h e = rest e (and_parts (q x) (list_all q xs) all).1

pub any_found : {A : Type 0} (p : A → Bool) (xs : List A) → list_any p xs ≡ true → (y : A) × (find p xs ≡ Some y)
any_found {A = A} p xs h = by (find p xs) refl where
  by : (o : Option A) → find p xs ≡ o → (y : A) × (find p xs ≡ Some y)
  by None e = absurd (false≢true (sym (found_none p xs e) ∙ h))
  by (Some y) e = (y, e)

any_behind : {A : Type 0} (p : A → Bool) (before : List A) (x : A) (xs : List A) → p x ≡ true → list_any p (before ++ x ∷ xs) ≡ true
any_behind p [] x xs h = rw h refl
any_behind p (y ∷ before) x xs h =
    let rest = any_behind p before x xs h in
    elim (p y) as (λ b. (b || list_any p (before ++ x ∷ xs)) ≡ true) [ true ↦ refl | false ↦ rest ]

-- each element of a list is found in it by a test that it passes
pub each_behind : {A : Type 0} (p : A → A → Bool) → ((x : A) → p x x ≡ true) → (whole before xs : List A) → whole ≡ before ++ xs → EachOf (λ x. list_any (p x) whole ≡ true) xs
each_behind p own whole before [] e = tt
each_behind p own whole before (x ∷ xs) e =
    (ap (list_any (p x)) e ∙ any_behind (p x) before x xs (own x), each_behind p own whole (before ++ x ∷ []) xs (e ∙ sym (append_assoc before (x ∷ []) xs)))

-- ---- what is found of what is left of a list

pub find_here : {A : Type 0} (p : A → Bool) (i : ℕ) (xs : List A) (x : A) → i < length xs → x ≡ get_or xs i x → p x ≡ true → find p (drop i xs) ≡ Some x
find_here p i xs x h is passes =
    ap (find p) (drop_more xs i x h ∙ ap (λ y. y ∷ drop (i + 1) xs) (sym is)) ∙ ap (λ (b : Bool). cond b (Some x) (find p (drop (i + 1) xs))) passes

pub find_on : {A : Type 0} (p : A → Bool) (i : ℕ) (xs : List A) (x : A) → i < length xs → x ≡ get_or xs i x → p x ≡ false → find p (drop i xs) ≡ find p (drop (i + 1) xs)
find_on p i xs x h is fails =
    ap (find p) (drop_more xs i x h ∙ ap (λ y. y ∷ drop (i + 1) xs) (sym is)) ∙ ap (λ (b : Bool). cond b (Some x) (find p (drop (i + 1) xs))) fails

pub all_more : {A : Type 0} (p : A → Bool) (i : ℕ) (xs : List A) (x : A) → i < length xs → x ≡ get_or xs i x → p x ≡ true
    → list_all p (drop i xs) ≡ list_all p xs → list_all p (drop (i + 1) xs) ≡ list_all p xs
all_more p i xs x h is passes so_far =
    sym (ap (list_all p) (drop_more xs i x h ∙ ap (λ y. y ∷ drop (i + 1) xs) (sym is)) ∙ ap (λ (b : Bool). b && list_all p (drop (i + 1) xs)) passes) ∙ so_far

pub zip_more : {A B : Type 0} (R : A → B → Type 0) (i : ℕ) (xs : List A) (x : A) (done : List B) (y : B) → i < length xs → x ≡ get_or xs i x
    → AllZip R (take i xs) done → R x y → AllZip R (take (i + 1) xs) (done ++ y ∷ [])
zip_more R i xs x done y h is all one =
    subst (λ zs. AllZip R zs (done ++ y ∷ [])) (sym (take_more xs i x h ∙ ap (λ z. take i xs ++ z ∷ []) (sym is))) (zip_push R (take i xs) done x y all one)

-- what was made of the elements before one, and of this one
pub mapped_more : {A B : Type 0} (f : A → B) (i : ℕ) (xs : List A) (x : A) (done new : List B) (y : B) → i < length xs → x ≡ get_or xs i x
    → done ≡ map f (take i xs) → y ≡ f x → new ≡ done ++ y ∷ [] → new ≡ map f (take (i + 1) xs)
mapped_more f i xs x done new y h is so_far one pushed =
    pushed ∙ (ap (λ ds. ds ++ y ∷ []) so_far ∙ (ap (λ z. map f (take i xs) ++ z ∷ []) one ∙ sym (taken_at f i xs x h is)))
