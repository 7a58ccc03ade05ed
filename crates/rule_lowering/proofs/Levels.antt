-- Loops over the parts of a joined tree.
use Rattle.std.proofs.Common.{ℕ, zero, suc, ◌≡◌, ◌+◌, ◌<◌, ◌≤◌, Bool, true, false, refl, sym, ap, ◌∙◌, List, [], ◌∷◌, ◌++◌, length, get_or, drop, map, filter, append_assoc, append-nil, arith}
use Rattle.std.specs.List.{flat_map}
use Rattle.std.proofs.lemmas.List.{drop_all, drop_more}
use Rattle.backend_core.specs.Trees.{Plain, any, no_parts}
use Rattle.event_schema.specs.declared.schema.Field.{Field}
use Rattle.rule_detections.specs.declared.detection.Detection.{Detection}
use Rattle.modifier_words.specs.declared.modifier.Joined.{Joined}
use Rattle.rule_lowering.specs.Joining.{parts_of, closed, join}
use Rattle.rule_lowering.specs.TreeOf.{detection_tree, numbered_tree}

-- what stands at an index, and behind it
pub from_here : {A B : Type 0} (F : List A → B) (i : ℕ) (xs : List A) (x : A) → i < length xs → x ≡ get_or xs i x → F (drop i xs) ≡ F (x ∷ drop (i + 1) xs)
from_here F i xs x l e = ap F (drop_more xs i x l) ∙ ap (λ y. F (y ∷ drop (i + 1) xs)) (sym e)

-- one more part
pub level_goes : {A : Type 0} (j : Joined) (f : A → Plain) (i : ℕ) (xs : List A) (x : A) (done new : List Plain) (t : Plain) (whole : List Plain)
    → i < length xs → x ≡ get_or xs i x → done ++ flat_map (parts_of j) (map f (drop i xs)) ≡ whole → t ≡ f x → new ≡ done ++ parts_of j t
    → new ++ flat_map (parts_of j) (map f (drop (i + 1) xs)) ≡ whole
level_goes j f i xs x done new t whole l e h is n =
    let rest = flat_map (parts_of j) (map f (drop (i + 1) xs)) in
    ap (λ (us : List Plain). us ++ rest) (n ∙ ap (λ (u : Plain). done ++ parts_of j u) is)
    ∙ (append_assoc done (parts_of j (f x)) rest
    ∙ (sym (from_here (λ ys. done ++ flat_map (parts_of j) (map f ys)) i xs x l e) ∙ h))

-- all parts are there
pub level_ends : {A : Type 0} (j : Joined) (f : A → Plain) (i : ℕ) (xs : List A) (done : List Plain) (t : Plain) → length xs ≤ i
    → done ++ flat_map (parts_of j) (map f (drop i xs)) ≡ flat_map (parts_of j) (map f xs) → t ≡ closed j done → t ≡ join j (map f xs)
unfolding join
level_ends j f i xs done t past h is =
    let none : drop i xs ≡ [] = drop_all i xs past in
    let all : done ≡ flat_map (parts_of j) (map f xs) =
    sym (append-nil done) ∙ (sym (ap (λ ys. done ++ flat_map (parts_of j) (map f ys)) none) ∙ h) in
    is ∙ ap (closed j) all

-- one more of those that pass, and one that doesn't
kept_step : {A : Type 0} (p : A → Bool) (g : A → ℕ) (x : A) (xs : List A) (done : List ℕ) → (b : Bool) → p x ≡ b → (if_kept : List ℕ)
    → (b ≡ true → if_kept ≡ done ++ g x ∷ []) → (b ≡ false → if_kept ≡ done)
    → if_kept ++ map g (filter p xs) ≡ done ++ map g (filter p (x ∷ xs))
kept_step p g x xs done true e new kept left =
    rw e (ap (λ (ns : List ℕ). ns ++ map g (filter p xs)) (kept refl) ∙ append_assoc done (g x ∷ []) (map g (filter p xs)))
kept_step p g x xs done false e new kept left = rw e (ap (λ (ns : List ℕ). ns ++ map g (filter p xs)) (left refl))

pub kept_goes : {A : Type 0} (p : A → Bool) (g : A → ℕ) (i : ℕ) (xs : List A) (x : A) (done new whole : List ℕ) → i < length xs → x ≡ get_or xs i x
    → done ++ map g (filter p (drop i xs)) ≡ whole → (p x ≡ true → new ≡ done ++ g x ∷ []) → (p x ≡ false → new ≡ done)
    → new ++ map g (filter p (drop (i + 1) xs)) ≡ whole
kept_goes p g i xs x done new whole l e h kept left =
    kept_step p g x (drop (i + 1) xs) done (p x) refl new kept left
    ∙ (sym (from_here (λ ys. done ++ map g (filter p ys)) i xs x l e) ∙ h)

pub kept_ends : {A : Type 0} (p : A → Bool) (g : A → ℕ) (i : ℕ) (xs : List A) (done whole : List ℕ) → length xs ≤ i
    → done ++ map g (filter p (drop i xs)) ≡ whole → done ≡ whole
kept_ends p g i xs done whole past h =
    let none : drop i xs ≡ [] = drop_all i xs past in
    sym (append-nil done) ∙ (sym (ap (λ ys. done ++ map g (filter p ys)) none) ∙ h)

-- ---- the detection of a number

pub numbered_at : (fields : List Field) (ds : List Detection) (n : ℕ) (d : Detection) → n < length ds → d ≡ get_or ds n d
    → numbered_tree fields ds n ≡ detection_tree fields d
numbered_at fields [] n d l e = absurd (omega arith)
numbered_at fields (x ∷ ds) zero d l e = ap (detection_tree fields) (sym e)
numbered_at fields (x ∷ ds) (suc n) d l e = numbered_at fields ds n d (omega arith) e

pub numbered_past : (fields : List Field) (ds : List Detection) (n : ℕ) → length ds ≤ n → numbered_tree fields ds n ≡ any no_parts
numbered_past fields [] n h = refl
numbered_past fields (x ∷ ds) zero h = absurd (omega arith)
numbered_past fields (x ∷ ds) (suc n) h = numbered_past fields ds n (omega arith)
