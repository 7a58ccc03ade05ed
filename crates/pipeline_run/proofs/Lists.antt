-- What holds of each element of a list, and of a list beside it.
use Rattle.std.proofs.Common.{◌≡◌, List, [], ◌∷◌, false, map, refl, ap, ◌∙◌}
use Rattle.std.specs.List.{AllZip}
use Rattle.event_schema.specs.Lists.{EachOf, HasElement}
use Rattle.yaml_tree.specs.Nodes.{is_empty}

-- where an element is read as one thing, a list is read as one list
pub zip_one : {A B : Type 0} (R : A → B → Type 0) → ((x : A) (y z : B) → R x y → R x z → y ≡ z) → (xs : List A) (ys zs : List B)
    → AllZip R xs ys → AllZip R xs zs → ys ≡ zs
zip_one R f [] [] [] p q = refl
zip_one R f [] [] (z ∷ zs) p q = absurd q
zip_one R f [] (y ∷ ys) zs p q = absurd p
zip_one R f (x ∷ xs) [] zs p q = absurd p
zip_one R f (x ∷ xs) (y ∷ ys) [] p q = absurd q
zip_one {B = B} R f (x ∷ xs) (y ∷ ys) (z ∷ zs) p q =
    ap (λ (v : B). v ∷ ys) (f x y z p.0 q.0) ∙ ap (λ (vs : List B). z ∷ vs) (zip_one R f xs ys zs p.1 q.1)

-- where each element is read as something, the list is
pub zip_made : {A B : Type 0} (P : A → Type 0) (R : A → B → Type 0) → ((x : A) → P x → (y : B) × R x y)
    → (xs : List A) → EachOf P xs → (ys : List B) × AllZip R xs ys
zip_made P R f [] each = ([], tt)
zip_made P R f (x ∷ xs) each =
    let one = f x each.0 in
    let more = zip_made P R f xs each.1 in
    (one.0 ∷ more.0, (one.1, more.1))

-- what holds of each element holds of what it is read as
pub zip_each : {A B : Type 0} (P : A → Type 0) (R : A → B → Type 0) (Q : B → Type 0) → ((x : A) (y : B) → P x → R x y → Q y)
    → (xs : List A) (ys : List B) → EachOf P xs → AllZip R xs ys → EachOf Q ys
zip_each P R Q f [] [] each all = tt
zip_each P R Q f [] (y ∷ ys) each all = absurd all
zip_each P R Q f (x ∷ xs) [] each all = absurd all
zip_each P R Q f (x ∷ xs) (y ∷ ys) each all = (f x y each.0 all.0, zip_each P R Q f xs ys each.1 all.1)

pub each_both : {A : Type 0} (P Q R : A → Type 0) → ((x : A) → P x → Q x → R x) → (xs : List A) → EachOf P xs → EachOf Q xs → EachOf R xs
each_both P Q R f [] ps qs = tt
each_both P Q R f (x ∷ xs) ps qs = (f x ps.0 qs.0, each_both P Q R f xs ps.1 qs.1)

pub each_map : {A B : Type 0} (P : A → Type 0) (Q : B → Type 0) (f : A → B) → ((x : A) → P x → Q (f x)) → (xs : List A) → EachOf P xs → EachOf Q (map f xs)
each_map P Q f g [] each = tt
each_map P Q f g (x ∷ xs) each = (g x each.0, each_map P Q f g xs each.1)

pub each_back : {A B : Type 0} (Q : B → Type 0) (f : A → B) (xs : List A) → EachOf Q (map f xs) → EachOf (λ x. Q (f x)) xs
each_back Q f [] each = tt
each_back Q f (x ∷ xs) each = (each.0, each_back Q f xs each.1)

pub some_map : {A B : Type 0} (f : A → B) (xs : List A) → is_empty xs ≡ false → HasElement (map f xs)
some_map f [] some = absurd cc
some_map f (x ∷ xs) some = tt
