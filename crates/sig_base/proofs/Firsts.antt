-- The first refusal of a table, and of a list's parts one after another.
use Rattle.std.proofs.Common.{ℕ, ◌≡◌, ◌<◌, ◌+◌, List, [], ◌∷◌, ◌++◌, length, get_or, drop, take, map, refl, sym, ap, ◌∙◌, subst}
use Rattle.std.specs.Prelude.{Option, Some, None, Result, Ok, Err}
use Rattle.std.specs.List.{AllZip}
use Rattle.std.specs.Result.{IsErrAnd}
use Rattle.std.proofs.lemmas.List.{drop_more, take_more, map-append}
use Rattle.sig_base.specs.declared.refusal.Refusal.{Refusal}
use Rattle.sig_base.specs.declared.refusal.Fault.{Fault}
use Rattle.sig_base.specs.declared.refusal.Fault.TheVariants.{Memory, Refused}
use Rattle.sig_base.specs.Judged.{first, Judged}
use Rattle.sig_base.proofs.Checks.{first_one}

pub first_none : (a b : List (Option Refusal)) → first a ≡ None → first (a ++ b) ≡ first b
first_none [] b h = refl
first_none (None ∷ checks) b h = first_none checks b h
first_none (Some r ∷ checks) b h = absurd cc

pub first_some : (a b : List (Option Refusal)) (r : Refusal) → first a ≡ Some r → first (a ++ b) ≡ Some r
first_some [] b r h = absurd cc
first_some (None ∷ checks) b r h = first_some checks b r h
first_some (Some s ∷ checks) b r h = h

-- the second line decides where the first one passes
pub behind : (a b : Option Refusal) → a ≡ None → first (a ∷ b ∷ []) ≡ b
behind a b h = rw h (first_one b)

-- what is read for one cause is read for an equal one
pub judged_as : {X : Type 0} (P Q : X → Type 0) (a b : Option Refusal) (r : Result X Fault) → b ≡ a → ((x : X) → P x → Q x) → Judged P a r → Judged Q b r
judged_as P Q a b (Ok x) same f j = (same ∙ j.0, f x j.1)
judged_as P Q a b (Err Memory) same f j = tt
judged_as P Q a b (Err (Refused r)) same f j = same ∙ j

-- what is left of a list from an element on
pub list_at : {X A : Type 0} (view : X → A) (i : ℕ) (xs : List X) (x : X) → i < length xs → x ≡ get_or xs i x
    → map view (drop i xs) ≡ view x ∷ map view (drop (i + 1) xs)
list_at {A = A} view i xs x h is =
    ap (map view) (drop_more xs i x h) ∙ ap (λ y. view y ∷ map view (drop (i + 1) xs)) (sym is)

-- where an element isn't refused, what is left behind it decides
pub rest_first : {X A : Type 0} (view : X → A) (refusal : A → Option Refusal) (i : ℕ) (xs : List X) (x : X) → i < length xs → x ≡ get_or xs i x
    → refusal (view x) ≡ None → first (map refusal (map view (drop i xs))) ≡ first (map refusal (map view (drop (i + 1) xs)))
rest_first view refusal i xs x h is none =
    ap (λ ys. first (map refusal ys)) (list_at view i xs x h is)
    ∙ ap (λ o. first (o ∷ map refusal (map view (drop (i + 1) xs)))) none

-- where it is, it decides
pub part_first : {X A : Type 0} (view : X → A) (refusal : A → Option Refusal) (i : ℕ) (xs : List X) (x : X) (r : Refusal) → i < length xs → x ≡ get_or xs i x
    → refusal (view x) ≡ Some r → first (map refusal (map view (drop i xs))) ≡ Some r
part_first view refusal i xs x r h is some =
    ap (λ ys. first (map refusal ys)) (list_at view i xs x h is)
    ∙ ap (λ o. first (o ∷ map refusal (map view (drop (i + 1) xs)))) some

-- where a `?` hands an error on, what is said of this error holds
pub from_error : {X F : Type 0} (P : Result X F → Type 0) (result : Result X F) (e : F) (Q : F → Type 0)
    → IsErrAnd result Q → ((y : F) → Q y → y ≡ e) → P (Err e) → P result
from_error P (Ok x) e Q h q p = absurd h
from_error {F = F} P (Err y) e Q h q p = subst (λ (z : F). P (Err z)) (sym (q y h)) p

-- a fault of a part is the whole's
pub hands_on : {X Y : Type 0} (IsRead : X → Type 0) (IsPart : Y → Type 0) (result : Result X Fault) (e : Fault) (Q : Fault → Type 0) (whole part : Option Refusal)
    → IsErrAnd result Q → ((y : Fault) → Q y → y ≡ e) → Judged IsPart part (Err e) → ((r : Refusal) → part ≡ Some r → whole ≡ Some r) → Judged IsRead whole result
hands_on IsRead IsPart result Memory Q whole part h q j f = from_error (Judged IsRead whole) result Memory Q h q tt
hands_on IsRead IsPart result (Refused r) Q whole part h q j f = from_error (Judged IsRead whole) result (Refused r) Q h q (f r j)

-- what is read of the elements before one, and of this one, place by place
pub zip_push : {A B : Type 0} (R : A → B → Type 0) (xs : List A) (ys : List B) (x : A) (y : B) → AllZip R xs ys → R x y → AllZip R (xs ++ x ∷ []) (ys ++ y ∷ [])
zip_push R [] [] x y all one = (one, tt)
zip_push R [] (z ∷ ys) x y all one = absurd all
zip_push R (w ∷ xs) [] x y all one = absurd all
zip_push R (w ∷ xs) (z ∷ ys) x y all one = (all.0, zip_push R xs ys x y all.1 one)

pub taken_at : {X A : Type 0} (view : X → A) (i : ℕ) (xs : List X) (x : X) → i < length xs → x ≡ get_or xs i x
    → map view (take (i + 1) xs) ≡ map view (take i xs) ++ view x ∷ []
taken_at view i xs x h is =
    ap (map view) (take_more xs i x h)
    ∙ (map-append view (take i xs) (get_or xs i x ∷ []) ∙ ap (λ y. map view (take i xs) ++ view y ∷ []) (sym is))

pub one_more : {X A B : Type 0} (view : X → A) (R : A → B → Type 0) (i : ℕ) (xs : List X) (x : X) (done : List B) (y : B) → i < length xs → x ≡ get_or xs i x
    → AllZip R (map view (take i xs)) done → R (view x) y → AllZip R (map view (take (i + 1) xs)) (done ++ y ∷ [])
one_more view R i xs x done y h is all one =
    subst (λ zs. AllZip R zs (done ++ y ∷ [])) (sym (taken_at view i xs x h is)) (zip_push R (map view (take i xs)) done (view x) y all one)
