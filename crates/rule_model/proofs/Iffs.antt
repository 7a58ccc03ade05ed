-- What holds of parts that say the same, and of all or some of the elements of lists.
use Rattle.std.proofs.Common.{◌≡◌, ◌↔◌, ◌⊎◌, Bool, true, false, List, [], ◌∷◌, ◌++◌, map, filter, inl, inr, refl}
use Rattle.std.specs.List.{flat_map}
use Rattle.event_schema.specs.Lists.{EachOf, SomeOf}
use Rattle.modifier_words.specs.declared.modifier.Joined.{Joined}
use Rattle.modifier_words.specs.declared.modifier.Joined.TheVariants.{All, Any}

pub iff_same : {A : Type 0} → A ↔ A
iff_same = ((λ h. h), (λ h. h))

pub iff_then : {A B C : Type 0} → A ↔ B → B ↔ C → A ↔ C
iff_then p q = ((λ h. q.0 (p.0 h)), (λ h. p.1 (q.1 h)))

pub iff_back : {A B : Type 0} → A ↔ B → B ↔ A
iff_back p = (p.1, p.0)

pub iff_not : {A B : Type 0} → A ↔ B → (A → ⊥) ↔ (B → ⊥)
iff_not p = ((λ h b. h (p.1 b)), (λ h a. h (p.0 a)))

pub iff_both : {A B C D : Type 0} → A ↔ C → B ↔ D → (A × B) ↔ (C × D)
iff_both p q = ((λ h. (p.0 h.0, q.0 h.1)), (λ h. (p.1 h.0, q.1 h.1)))

pub iff_either : {A B C D : Type 0} → A ↔ C → B ↔ D → (A ⊎ B) ↔ (C ⊎ D)
iff_either p q = (
  (λ h. elim h [ inl a ↦ inl (p.0 a) | inr b ↦ inr (q.0 b) ]),
  (λ h. elim h [ inl c ↦ inl (p.1 c) | inr d ↦ inr (q.1 d) ]),
)

-- ---- lists

-- what holds of each, or of one
abbrev pub Over : {A : Type 0} → Joined → (A → Type 0) → List A → Type 0
Over All P xs = EachOf P xs
Over Any P xs = SomeOf P xs

abbrev pub Both : Joined → Type 0 → Type 0 → Type 0
Both All A B = A × B
Both Any A B = A ⊎ B

pub iff_pair : (j : Joined) {A B C D : Type 0} → A ↔ C → B ↔ D → Both j A B ↔ Both j C D
iff_pair All p q = iff_both p q
iff_pair Any p q = iff_either p q

pub over_cons : {A : Type 0} (j : Joined) (P : A → Type 0) (x : A) (xs : List A) → Over j P (x ∷ xs) ↔ Both j (P x) (Over j P xs)
over_cons All P x xs = iff_same
over_cons Any P x xs = iff_same

pub over_empty : {A B : Type 0} (j : Joined) (P : A → Type 0) (Q : B → Type 0) → Over j P [] ↔ Over j Q []
over_empty All P Q = iff_same
over_empty Any P Q = iff_same

pub each_append : {A : Type 0} (P : A → Type 0) (xs ys : List A) → EachOf P (xs ++ ys) ↔ (EachOf P xs × EachOf P ys)
each_append P [] ys = ((λ h. (tt, h)), (λ h. h.1))
each_append P (x ∷ xs) ys =
    let rest = each_append P xs ys in
    ((λ h. ((h.0, (rest.0 h.1).0), (rest.0 h.1).1)), (λ h. (h.0.0, rest.1 (h.0.1, h.1))))

some_append : {A : Type 0} (P : A → Type 0) (xs ys : List A) → SomeOf P (xs ++ ys) ↔ (SomeOf P xs ⊎ SomeOf P ys)
some_append P [] ys = ((λ h. inr h), (λ h. elim h [ inl e ↦ absurd e | inr e ↦ e ]))
some_append P (x ∷ xs) ys =
    let rest = some_append P xs ys in (
      (λ h. elim h [ inl e ↦ inl (inl e) | inr e ↦ elim (rest.0 e) [ inl f ↦ inl (inr f) | inr f ↦ inr f ] ]),
      (λ h. elim h [ inl e ↦ elim e [ inl f ↦ inl f | inr f ↦ inr (rest.1 (inl f)) ] | inr e ↦ inr (rest.1 (inr e)) ]),
    )

over_append : {A : Type 0} (j : Joined) (P : A → Type 0) (xs ys : List A) → Over j P (xs ++ ys) ↔ Both j (Over j P xs) (Over j P ys)
over_append All P xs ys = each_append P xs ys
over_append Any P xs ys = some_append P xs ys

pub over_map : {A B : Type 0} (j : Joined) (f : A → B) (P : B → Type 0) (Q : A → Type 0) → ((x : A) → P (f x) ↔ Q x)
    → (xs : List A) → Over j P (map f xs) ↔ Over j Q xs
over_map j f P Q same [] = over_empty j P Q
over_map j f P Q same (x ∷ xs) =
    iff_then (over_cons j P (f x) (map f xs)) (iff_then (iff_pair j (same x) (over_map j f P Q same xs)) (iff_back (over_cons j Q x xs)))

pub over_flat : {A B : Type 0} (j : Joined) (f : A → List B) (P : B → Type 0) (Q : A → Type 0) → ((x : A) → Over j P (f x) ↔ Q x)
    → (xs : List A) → Over j P (flat_map f xs) ↔ Over j Q xs
over_flat j f P Q same [] = over_empty j P Q
over_flat j f P Q same (x ∷ xs) =
    iff_then (over_append j P (f x) (flat_map f xs)) (iff_then (iff_pair j (same x) (over_flat j f P Q same xs)) (iff_back (over_cons j Q x xs)))

-- some of those that pass
some_step : {A B : Type 0} (p : A → Bool) (g : A → B) (P : B → Type 0) (Q : A → Type 0) (x : A) (xs : List A) → P (g x) ↔ Q x
    → (SomeOf P (map g (filter p xs)) ↔ SomeOf (λ y. (p y ≡ true) × Q y) xs) → (b : Bool) → p x ≡ b
    → SomeOf P (map g (filter p (x ∷ xs))) ↔ (((p x ≡ true) × Q x) ⊎ SomeOf (λ y. (p y ≡ true) × Q y) xs)
some_step p g P Q x xs same rest true is = rw is (iff_either ((λ h. (refl, same.0 h)), (λ h. same.1 h.1)) rest)
some_step p g P Q x xs same rest false is = rw is ((λ h. inr (rest.0 h)), (λ h. elim h [ inl e ↦ absurd (let f : false ≡ true = e.0 in cc) | inr e ↦ rest.1 e ]))

-- what each element's two words say of it, they say of some element
pub some_same : {A : Type 0} (P Q : A → Type 0) → ((x : A) → P x ↔ Q x) → (xs : List A) → SomeOf P xs ↔ SomeOf Q xs
some_same P Q same [] = iff_same
some_same P Q same (x ∷ xs) = iff_either (same x) (some_same P Q same xs)

pub some_filtered : {A B : Type 0} (p : A → Bool) (g : A → B) (P : B → Type 0) (Q : A → Type 0) → ((x : A) → P (g x) ↔ Q x)
    → (xs : List A) → SomeOf P (map g (filter p xs)) ↔ SomeOf (λ y. (p y ≡ true) × Q y) xs
some_filtered p g P Q same [] = iff_same
some_filtered p g P Q same (x ∷ xs) = some_step p g P Q x xs (same x) (some_filtered p g P Q same xs) (p x) refl

-- the same, where only of these elements both words are known to say the same
pub some_filtered_of : {A B : Type 0} (p : A → Bool) (g : A → B) (P : B → Type 0) (Q : A → Type 0) (xs : List A) → EachOf (λ x. P (g x) ↔ Q x) xs
    → SomeOf P (map g (filter p xs)) ↔ SomeOf (λ y. (p y ≡ true) × Q y) xs
some_filtered_of p g P Q [] same = iff_same
some_filtered_of p g P Q (x ∷ xs) same = some_step p g P Q x xs same.0 (some_filtered_of p g P Q xs same.1) (p x) refl

-- what follows of each element follows of all
pub each_then : {A : Type 0} {P Q : A → Type 0} → ((x : A) → P x → Q x) → (xs : List A) → EachOf P xs → EachOf Q xs
each_then follows [] h = tt
each_then follows (x ∷ xs) h = (follows x h.0, each_then follows xs h.1)

pub each_same : {A : Type 0} (P Q : A → Type 0) → ((x : A) → P x ↔ Q x) → (xs : List A) → EachOf P xs ↔ EachOf Q xs
each_same P Q same [] = iff_same
each_same P Q same (x ∷ xs) = iff_both (same x) (each_same P Q same xs)
