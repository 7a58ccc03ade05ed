-- Groups and matches, element by element.
use Rattle.std.proofs.Common.{◌≡◌, ℕ, zero, suc, ◌+◌, ◌<◌, ◌≤◌, List, [], ◌∷◌, ◌++◌, refl, ap, sym, ◌∙◌, append-nil, arith}
use Rattle.std.proofs.lemmas.List.{append_assoc, drop_more}
use Rattle.std.specs.Prelude.{Option, Some, None, length, drop, get_or}
use Rattle.std.specs.Option.{option_map}
use Rattle.std.specs.List.{zip}
use Rattle.event_schema.specs.declared.value.Value.{Value}
use Rattle.correlation_windows.specs.History.{Taken, Grouped, text_at, group_by, match_with, matches_from}

-- these texts and behind them the others, if there are others
abbrev pub behind : List (List ℕ) → Option (List (List ℕ)) → Option (List (List ℕ))
behind texts rest = option_map (λ more. texts ++ more) rest

pub behind_nothing : (o : Option (List (List ℕ))) → o ≡ behind [] o
behind_nothing None = refl
behind_nothing (Some r) = refl

one_more : (texts : List (List ℕ)) (text : List ℕ) (o : Option (List (List ℕ))) → behind texts (option_map (λ more. text ∷ more) o) ≡ behind (texts ++ text ∷ []) o
one_more texts text None = refl
one_more texts text (Some r) = ap Some (sym (append_assoc texts (text ∷ []) r))

there : (v : List (List Value)) (f : ℕ) (fs : List ℕ) (text : List ℕ) → text_at v f ≡ Some text → group_by v (f ∷ fs) ≡ option_map (λ more. text ∷ more) (group_by v fs)
there v f fs text e = rw e refl

missing : (v : List (List Value)) (f : ℕ) (fs : List ℕ) → text_at v f ≡ None → group_by v (f ∷ fs) ≡ None
missing v f fs e = rw e refl

pub behind_more : (v : List (List Value)) (fs : List ℕ) (i f : ℕ) (texts : List (List ℕ)) (text : List ℕ) → i < length fs → f ≡ get_or fs i f → text_at v f ≡ Some text
    → behind texts (group_by v (drop i fs)) ≡ behind (texts ++ text ∷ []) (group_by v (drop (i + 1) fs))
behind_more v fs i f texts text lt is e =
    ap (λ gs. behind texts (group_by v gs)) (drop_more fs i f lt ∙ ap (λ g. g ∷ drop (i + 1) fs) (sym is))
    ∙ (ap (behind texts) (there v f (drop (i + 1) fs) text e) ∙ one_more texts text (group_by v (drop (i + 1) fs)))

pub behind_missing : (v : List (List Value)) (fs : List ℕ) (i f : ℕ) (texts : List (List ℕ)) → i < length fs → f ≡ get_or fs i f → text_at v f ≡ None → behind texts (group_by v (drop i fs)) ≡ None
behind_missing v fs i f texts lt is e =
    ap (λ gs. behind texts (group_by v gs)) (drop_more fs i f lt ∙ ap (λ g. g ∷ drop (i + 1) fs) (sym is)) ∙ ap (behind texts) (missing v f (drop (i + 1) fs) e)

pub behind_all : (texts : List (List ℕ)) → behind texts (Some []) ≡ Some texts
behind_all texts = ap Some (append-nil texts)

-- two lists side by side, one step on and at their ends
zip_at : {A B : Type 0} (xs : List A) (ys : List B) (i : ℕ) (x : A) (y : B) → i < length xs → i < length ys → get_or (zip xs ys) i (x, y) ≡ (get_or xs i x, get_or ys i y)
zip_at [] ys i x y lx ly = absurd (omega (arith, lx))
zip_at (a ∷ xs) [] i x y lx ly = absurd (omega (arith, ly))
zip_at (a ∷ xs) (b ∷ ys) zero x y lx ly = refl
zip_at (a ∷ xs) (b ∷ ys) (suc i) x y lx ly = zip_at xs ys i x y (omega (arith, lx)) (omega (arith, ly))

zip_reaches : {A B : Type 0} (xs : List A) (ys : List B) (i : ℕ) → i < length xs → i < length ys → i < length (zip xs ys)
zip_reaches [] ys i lx ly = absurd (omega (arith, lx))
zip_reaches (a ∷ xs) [] i lx ly = absurd (omega (arith, ly))
zip_reaches (a ∷ xs) (b ∷ ys) zero lx ly = omega arith
zip_reaches (a ∷ xs) (b ∷ ys) (suc i) lx ly = let rest : i < length (zip xs ys) = zip_reaches xs ys i (omega (arith, lx)) (omega (arith, ly)) in omega (arith, rest)

pub zip_more : {A B : Type 0} (xs : List A) (ys : List B) (i : ℕ) (x : A) (y : B) → i < length xs → i < length ys → drop i (zip xs ys) ≡ (get_or xs i x, get_or ys i y) ∷ drop (i + 1) (zip xs ys)
zip_more xs ys i x y lx ly = drop_more (zip xs ys) i (x, y) (zip_reaches xs ys i lx ly) ∙ ap (λ z. z ∷ drop (i + 1) (zip xs ys)) (zip_at xs ys i x y lx ly)

nothing_left : {A : Type 0} (xs : List A) (i : ℕ) → xs ≡ [] → drop i xs ≡ []
nothing_left [] zero e = refl
nothing_left [] (suc i) e = refl
nothing_left (x ∷ xs) i e = absurd (cons_is_not x xs e)
  where
    cons_is_not : {A : Type 0} (x : A) (xs : List A) → x ∷ xs ≡ [] → ⊥
    cons_is_not x xs e = let len : length (x ∷ xs) ≡ 0 = ap length e in omega (arith, len)

pub zip_end_first : {A B : Type 0} (xs : List A) (ys : List B) (i : ℕ) → length xs ≤ i → drop i (zip xs ys) ≡ []
zip_end_first [] ys i le = nothing_left [] i refl
zip_end_first (a ∷ xs) [] i le = nothing_left [] i refl
zip_end_first (a ∷ xs) (b ∷ ys) zero le = absurd (omega (arith, le))
zip_end_first (a ∷ xs) (b ∷ ys) (suc i) le = zip_end_first xs ys i (omega (arith, le))

pub zip_end_second : {A B : Type 0} (xs : List A) (ys : List B) (i : ℕ) → length ys ≤ i → drop i (zip xs ys) ≡ []
zip_end_second [] ys i le = nothing_left [] i refl
zip_end_second (a ∷ xs) [] i le = nothing_left [] i refl
zip_end_second (a ∷ xs) (b ∷ ys) zero le = absurd (omega (arith, le))
zip_end_second (a ∷ xs) (b ∷ ys) (suc i) le = zip_end_second xs ys i (omega (arith, le))

module _ (counted : Option ℕ) (e : Taken) (rs : List ℕ) (gs : List (List ℕ)) (i : ℕ) where
  pub matches_more : (old new : List Grouped) (p r : ℕ) (f : List ℕ) → new ≡ old ++ match_with counted e p (r, f) → i < length rs → i < length gs → p ≡ i → r ≡ get_or rs i 0 → f ≡ get_or gs i f
      → new ++ matches_from counted e (i + 1) (drop (i + 1) (zip rs gs)) ≡ old ++ matches_from counted e i (drop i (zip rs gs))
  matches_more old new p r f is lr lg ip ir if_ =
      ap (λ ms. ms ++ matches_from counted e (i + 1) (drop (i + 1) (zip rs gs))) (is ∙ (ap (λ (x : ℕ). old ++ match_with counted e p (x, f)) ir ∙ (ap (λ (g : List ℕ). old ++ match_with counted e p (get_or rs i 0, g)) if_ ∙ ap (λ (q : ℕ). old ++ match_with counted e q (get_or rs i 0, get_or gs i f)) ip)))
      ∙ (append_assoc old (match_with counted e i (get_or rs i 0, get_or gs i f)) (matches_from counted e (i + 1) (drop (i + 1) (zip rs gs)))
      ∙ ap (λ zs. old ++ matches_from counted e i zs) (sym (zip_more rs gs i 0 f lr lg)))

  pub matches_end : (old : List Grouped) → drop i (zip rs gs) ≡ [] → old ++ matches_from counted e i (drop i (zip rs gs)) ≡ old
  matches_end old none = ap (λ zs. old ++ matches_from counted e i zs) none ∙ append-nil old
