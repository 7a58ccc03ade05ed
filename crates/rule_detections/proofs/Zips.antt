-- What holds of each element that is read.
use Rattle.std.proofs.Common.{ℕ, ◌≡◌, ◌<◌, ◌+◌, Bool, true, false, ◌||◌, List, [], ◌∷◌, ◌++◌, length, get_or, drop, take, map, refl, sym, ap, ◌∙◌, subst, append-nil, if◌then◌else◌}
use Rattle.std.specs.Prelude.{Option, Some, None, filter}
use Rattle.std.specs.List.{AllZip, list_any}
use Rattle.std.proofs.lemmas.List.Elements.{filter-append}
use Rattle.sig_base.specs.declared.refusal.Refusal.{Refusal}
use Rattle.sig_base.specs.Judged.{first}
use Rattle.yaml_tree.specs.Nodes.{is_empty}
use Rattle.event_schema.specs.Lists.{EachOf, HasElement}
use Rattle.sig_base.proofs.Firsts.{list_at, taken_at, zip_push}

pub each_more : {A : Type 0} (P : A → Type 0) (done : List A) (y : A) → EachOf P done → P y → EachOf P (done ++ y ∷ [])
each_more P [] y all one = (one, tt)
each_more P (x ∷ done) y all one = (all.0, each_more P done y all.1 one)

-- where there is something to read, something is read
pub zip_some : {A B : Type 0} (R : A → B → Type 0) (xs : List A) (ys : List B) → AllZip R xs ys → is_empty xs ≡ false → HasElement ys
zip_some R [] ys all some = absurd cc
zip_some R (x ∷ xs) [] all some = all
zip_some R (x ∷ xs) (y ∷ ys) all some = tt

-- what each element is read as has the one property, and so the other
pub zip_each : {A B : Type 0} (R : A → B → Type 0) (P Q : B → Type 0) → ((x : A) (y : B) → R x y → P y → Q y)
    → (xs : List A) (ys : List B) → AllZip R xs ys → EachOf P ys → EachOf Q ys
zip_each R P Q f [] [] all each = tt
zip_each R P Q f [] (y ∷ ys) all each = absurd all
zip_each R P Q f (x ∷ xs) [] all each = absurd all
zip_each R P Q f (x ∷ xs) (y ∷ ys) all each = (f x y all.0 each.0, zip_each R P Q f xs ys all.1 each.1)

pub any_viewed : {X A : Type 0} (view : X → A) (p : A → Bool) (xs : List X) → list_any p (map view xs) ≡ list_any (λ x. p (view x)) xs
any_viewed view p [] = refl
any_viewed view p (x ∷ xs) = ap (λ b. p (view x) || b) (any_viewed view p xs)

-- ---- of a list's elements those alone that pass a test

kept_cons : {A : Type 0} (p : A → Bool) (x : A) (xs : List A) → p x ≡ true → filter p (x ∷ xs) ≡ x ∷ filter p xs
kept_cons p x xs passes = ap (λ b. if b then x ∷ filter p xs else filter p xs) passes

left_cons : {A : Type 0} (p : A → Bool) (x : A) (xs : List A) → p x ≡ false → filter p (x ∷ xs) ≡ filter p xs
left_cons p x xs fails = ap (λ b. if b then x ∷ filter p xs else filter p xs) fails

-- an element that doesn't pass leaves what is left to judge as it is ..
pub left_first : {X A : Type 0} (view : X → A) (p : A → Bool) (refusal : A → Option Refusal) (i : ℕ) (xs : List X) (x : X) → i < length xs → x ≡ get_or xs i x
    → p (view x) ≡ false → first (map refusal (filter p (map view (drop i xs)))) ≡ first (map refusal (filter p (map view (drop (i + 1) xs))))
left_first view p refusal i xs x h is fails =
    ap (λ ys. first (map refusal (filter p ys))) (list_at view i xs x h is)
    ∙ ap (λ ys. first (map refusal ys)) (left_cons p (view x) (map view (drop (i + 1) xs)) fails)

-- .. and so does one that passes and isn't refused
pub kept_first : {X A : Type 0} (view : X → A) (p : A → Bool) (refusal : A → Option Refusal) (i : ℕ) (xs : List X) (x : X) → i < length xs → x ≡ get_or xs i x
    → p (view x) ≡ true → refusal (view x) ≡ None → first (map refusal (filter p (map view (drop i xs)))) ≡ first (map refusal (filter p (map view (drop (i + 1) xs))))
kept_first view p refusal i xs x h is passes none =
    ap (λ ys. first (map refusal (filter p ys))) (list_at view i xs x h is)
    ∙ (ap (λ ys. first (map refusal ys)) (kept_cons p (view x) (map view (drop (i + 1) xs)) passes)
    ∙ ap (λ o. first (o ∷ map refusal (filter p (map view (drop (i + 1) xs))))) none)

-- one that passes and is refused decides
pub kept_part : {X A : Type 0} (view : X → A) (p : A → Bool) (refusal : A → Option Refusal) (i : ℕ) (xs : List X) (x : X) (r : Refusal) → i < length xs → x ≡ get_or xs i x
    → p (view x) ≡ true → refusal (view x) ≡ Some r → first (map refusal (filter p (map view (drop i xs)))) ≡ Some r
kept_part view p refusal i xs x r h is passes some =
    ap (λ ys. first (map refusal (filter p ys))) (list_at view i xs x h is)
    ∙ (ap (λ ys. first (map refusal ys)) (kept_cons p (view x) (map view (drop (i + 1) xs)) passes)
    ∙ ap (λ o. first (o ∷ map refusal (filter p (map view (drop (i + 1) xs))))) some)

pub kept_more : {X A B : Type 0} (view : X → A) (p : A → Bool) (R : A → B → Type 0) (i : ℕ) (xs : List X) (x : X) (done : List B) (y : B) → i < length xs → x ≡ get_or xs i x
    → p (view x) ≡ true → AllZip R (filter p (map view (take i xs))) done → R (view x) y → AllZip R (filter p (map view (take (i + 1) xs))) (done ++ y ∷ [])
kept_more view p R i xs x done y h is passes all one =
    subst (λ zs. AllZip R zs (done ++ y ∷ []))
    (sym (ap (filter p) (taken_at view i xs x h is) ∙ (filter-append p (map view (take i xs)) (view x ∷ []) ∙ ap (λ zs. filter p (map view (take i xs)) ++ zs) (kept_cons p (view x) [] passes))))
    (zip_push R (filter p (map view (take i xs))) done (view x) y all one)

pub left_more : {X A B : Type 0} (view : X → A) (p : A → Bool) (R : A → B → Type 0) (i : ℕ) (xs : List X) (x : X) (done : List B) → i < length xs → x ≡ get_or xs i x
    → p (view x) ≡ false → AllZip R (filter p (map view (take i xs))) done → AllZip R (filter p (map view (take (i + 1) xs))) done
left_more view p R i xs x done h is fails all =
    subst (λ zs. AllZip R zs done)
    (sym (ap (filter p) (taken_at view i xs x h is) ∙ (filter-append p (map view (take i xs)) (view x ∷ []) ∙ (ap (λ zs. filter p (map view (take i xs)) ++ zs) (left_cons p (view x) [] fails) ∙ append-nil (filter p (map view (take i xs)))))))
    all
