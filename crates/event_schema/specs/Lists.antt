-- What holds of each element of a list, and of some element.
use Rattle.std.specs.Prelude.{List, [], ◌∷◌, ◌⊎◌, ⊤}

abbrev pub EachOf : {A : Type 0} → (A → Type 0) → List A → Type 0
EachOf P [] = ⊤
EachOf P (x ∷ xs) = P x × EachOf P xs

abbrev pub SomeOf : {A : Type 0} → (A → Type 0) → List A → Type 0
SomeOf P [] = ⊥
SomeOf P (x ∷ xs) = P x ⊎ SomeOf P xs

-- there is an element, and there is none
abbrev pub HasElement : {A : Type 0} → List A → Type 0
HasElement [] = ⊥
HasElement (x ∷ xs) = ⊤

abbrev pub HasNoElement : {A : Type 0} → List A → Type 0
HasNoElement [] = ⊤
HasNoElement (x ∷ xs) = ⊥
