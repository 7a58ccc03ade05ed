-- Sums over lists, and room that is spent on them.
use Rattle.std.proofs.Common.{ℕ, ◌+◌, ◌<◌, length, drop, get_or, map, ◌++◌, ◌≡◌, Bool, true, false, inl, inr, List, ◌∷◌, refl, sym, subst, ap, ◌∙◌, length-append}
use native.Mathlib.Omega.{arith}
use Rattle.std.specs.Prelude.{Some, Result, Err, nat_le, ◌&&◌}
use Rattle.std.specs.List.{flat_map, list_all}
use Rattle.std.proofs.lemmas.Bool.{le-leb, lt-leb}
use Rattle.std.proofs.lemmas.List.{drop_more}
use Rattle.std.proofs.lemmas.List.Folds.{list_all-append}
use Rattle.sig_base.specs.declared.limits.Limits.{Limits}
use Rattle.sig_base.specs.declared.refusal.Place.{Place}
use Rattle.sig_base.specs.declared.refusal.Refusal.{Refusal}
use Rattle.sig_base.specs.declared.refusal.Fault.{Fault}
use Rattle.sig_base.specs.declared.refusal.Fault.TheVariants.{Memory, Refused}
use Rattle.sig_base.specs.Judged.{Judged, must}
use Rattle.rule_detections.specs.declared.detection.Detection.{Detection}
use Rattle.pipeline_rename.specs.Made.{IsFull, IsOneUnfit, IsUnfit}
use Rattle.pipeline_limits.specs.Sizes.{total, of_items, name_count, test_count, every_item, has_legal_names, has_short_patterns, grown_refusal}
use Rattle.pipeline_rename.proofs.NameLists.{no_second}

-- ---- a list's elements one by one, which stay as they are

module _ {A : Type 0} (size : A → ℕ) where
  size_at : (xs : List A) (i : ℕ) (x : A) → i < length xs → x ≡ get_or xs i x → total size (drop i xs) ≡ size x + total size (drop (i + 1) xs)
  size_at xs i x inside is = ap (total size) (drop_more xs i x inside ∙ ap (λ (y : A). y ∷ drop (i + 1) xs) (sym is))

  pub paid_turn : (new left start : ℕ) (xs : List A) (i : ℕ) (x : A) → left + total size xs ≡ start + total size (drop i xs)
      → i < length xs → x ≡ get_or xs i x → new + size x ≡ left → new + total size xs ≡ start + total size (drop (i + 1) xs)
  paid_turn new left start xs i x e inside is paid = omega (arith, e, paid, size_at xs i x inside is)

  pub full_turn : (place : Place) (left start : ℕ) (xs : List A) (i : ℕ) (x : A) (e : Fault) → left + total size xs ≡ start + total size (drop i xs)
      → i < length xs → x ≡ get_or xs i x → IsFull place left (size x) e → IsFull place start (total size xs) e
  full_turn place left start xs i x Memory e inside is full = tt
  full_turn place left start xs i x (Refused r) e inside is full = (full.0, omega (arith, e, size_at xs i x inside is, full.1))

-- ---- what isn't so of a part isn't so of the whole

module _ {B : Type 0} (p : B → Bool) where
  fails_among : (done made part rest : List B) → done ++ (part ++ rest) ≡ made → list_all p part ≡ false → list_all p made ≡ false
  fails_among done made part rest is h =
      ap (list_all p) (sym is)
      ∙ (list_all-append p done (part ++ rest)
      ∙ (ap (λ (b : Bool). list_all p done && b) (list_all-append p part rest ∙ ap (λ (b : Bool). b && list_all p rest) h) ∙ no_second (list_all p done)))

  fails_behind : (done made all : List B) (x : B) (rest : List B) → all ≡ x ∷ rest → done ++ all ≡ made → p x ≡ false → list_all p made ≡ false
  fails_behind done made all x rest is whole h =
      ap (list_all p) (sym whole)
      ∙ (list_all-append p done all
      ∙ (ap (λ (b : Bool). list_all p done && b) (ap (list_all p) is ∙ ap (λ (b : Bool). b && list_all p rest) h) ∙ no_second (list_all p done)))

-- ---- a list's elements by value, each of which becomes one of a size

module _ {A B : Type 0} (f : A → B) (size : B → ℕ) where
  pub paid_more : (new left start all : ℕ) (xs ys : List A) (x : A) → xs ≡ x ∷ ys → left + all ≡ start + total size (map f xs) → new + size (f x) ≡ left
      → new + all ≡ start + total size (map f ys)
  paid_more new left start all xs ys x is e paid = omega (arith, ap (λ (zs : List A). total size (map f zs)) is, e, paid)

  pub unfit_more : (p : B → Bool) (place : Place) (left start : ℕ) (done made : List B) (xs ys : List A) (x : A) (e : Fault) → xs ≡ x ∷ ys → done ++ map f xs ≡ made
      → left + total size made ≡ start + total size (map f xs) → IsUnfit place left (size (f x)) (p (f x)) e → IsUnfit place start (total size made) (list_all p made) e
  unfit_more p place left start done made xs ys x Memory is all same unfit = tt
  unfit_more p place left start done made xs ys x (Refused r) is all same unfit = (
    unfit.0,
    elim unfit.1 [
      | inl h ↦ inl (omega (arith, ap (λ (zs : List A). total size (map f zs)) is, same, h))
      | inr h ↦ inr (fails_behind p done made (map f xs) (f x) (map f ys) (ap (map f) is) all h)
    ],
  )

-- of names and tests
module _ {A B : Type 0} (f : A → B) (names tests : B → ℕ) (p : B → Bool) where
  pub one_unfit_more : (place : Place) (left_names left_tests start_names start_tests : ℕ) (done made : List B) (xs ys : List A) (x : A) (e : Fault) → xs ≡ x ∷ ys
      → done ++ map f xs ≡ made → left_names + total names made ≡ start_names + total names (map f xs) → left_tests + total tests made ≡ start_tests + total tests (map f xs)
      → IsOneUnfit place left_names (names (f x)) left_tests (tests (f x)) (p (f x)) e
      → IsOneUnfit place start_names (total names made) start_tests (total tests made) (list_all p made) e
  one_unfit_more place left_names left_tests start_names start_tests done made xs ys x Memory is all first second unfit = tt
  one_unfit_more place left_names left_tests start_names start_tests done made xs ys x (Refused r) is all first second unfit = (
    unfit.0,
    elim unfit.1 [
      | inl h ↦ inl (omega (arith, ap (λ (zs : List A). total names (map f zs)) is, first, h))
      | inr h ↦
          inr (elim h [
            | inl k ↦ inl (omega (arith, ap (λ (zs : List A). total tests (map f zs)) is, second, k))
            | inr k ↦ inr (fails_behind p done made (map f xs) (f x) (map f ys) (ap (map f) is) all k)
          ])
    ],
  )

-- ---- the same where each becomes several

module _ {A B : Type 0} (f : A → List B) where
  flat_at : (xs ys : List A) (x : A) → xs ≡ x ∷ ys → length (flat_map f xs) ≡ length (f x) + length (flat_map f ys)
  flat_at xs ys x is = ap (λ (zs : List A). length (flat_map f zs)) is ∙ length-append (f x) (flat_map f ys)

  pub flat_paid : (new left start all : ℕ) (xs ys : List A) (x : A) → xs ≡ x ∷ ys → left + all ≡ start + length (flat_map f xs) → new + length (f x) ≡ left
      → new + all ≡ start + length (flat_map f ys)
  flat_paid new left start all xs ys x is e paid = omega (arith, flat_at xs ys x is, e, paid)

  pub flat_unfit : (p : B → Bool) (place : Place) (left start : ℕ) (done made : List B) (xs ys : List A) (x : A) (e : Fault) → xs ≡ x ∷ ys → done ++ flat_map f xs ≡ made
      → left + length made ≡ start + length (flat_map f xs) → IsUnfit place left (length (f x)) (list_all p (f x)) e → IsUnfit place start (length made) (list_all p made) e
  flat_unfit p place left start done made xs ys x Memory is all same unfit = tt
  flat_unfit p place left start done made xs ys x (Refused r) is all same unfit = (
    unfit.0,
    elim unfit.1 [
      | inl h ↦ inl (omega (arith, flat_at xs ys x is, same, h))
      | inr h ↦ inr (fails_among p done made (f x) (flat_map f ys) (ap (λ (zs : List B). done ++ zs) (sym (ap (flat_map f) is)) ∙ all) h)
    ],
  )

-- ---- the refusal

-- what is judged of the items one by one
abbrev are_fit : Limits → List Detection → Bool
are_fit limits ds = every_item has_legal_names ds && every_item (has_short_patterns limits) ds

and_first : (b c d e : Bool) → (b && c && d && e) ≡ (b && (c && (d && e)))
and_first true true d e = refl
and_first true false d e = refl
and_first false c d e = refl

room_for : (b c : Bool) (limits : Limits) (place : Place) (ds : List Detection) → nat_le (of_items name_count ds) limits.grown ≡ b
    → nat_le (of_items test_count ds) limits.grown ≡ c → grown_refusal limits place ds ≡ must 99 place (b && (c && are_fit limits ds))
room_for b c limits place ds names tests =
    ap (must 99 place) (and_first (nat_le (of_items name_count ds) limits.grown) (nat_le (of_items test_count ds) limits.grown) (every_item has_legal_names ds)
    (every_item (has_short_patterns limits) ds))
    ∙ (ap (λ (x : Bool). must 99 place (x && (nat_le (of_items test_count ds) limits.grown && are_fit limits ds))) names
    ∙ ap (λ (x : Bool). must 99 place (b && (x && are_fit limits ds))) tests)

-- where there is more than there is room for, or a name isn't legal, code 99
unfit_refuses : (limits : Limits) (place : Place) (ds : List Detection) (r : Refusal)
    → IsOneUnfit place limits.grown (of_items name_count ds) limits.grown (of_items test_count ds) (every_item has_legal_names ds) (Refused r) → grown_refusal limits place ds ≡ Some r
unfit_refuses limits place ds r unfit =
    let names = nat_le (of_items name_count ds) limits.grown in
    let tests = nat_le (of_items test_count ds) limits.grown in
    elim unfit.1 [
      | inl h ↦ room_for false tests limits place ds (lt-leb _ _ h) refl ∙ ap Some (sym unfit.0)
      | inr h ↦ elim h [
        | inl k ↦ room_for names false limits place ds refl (lt-leb _ _ k) ∙ (ap (must 99 place) (no_second names) ∙ ap Some (sym unfit.0))
        | inr k ↦
            room_for names tests limits place ds refl refl
            ∙ (ap (λ (b : Bool). must 99 place (names && (tests && (b && every_item (has_short_patterns limits) ds)))) k
            ∙ (ap (λ (b : Bool). must 99 place (names && b)) (no_second tests) ∙ (ap (must 99 place) (no_second names) ∙ ap Some (sym unfit.0))))
      ]
    ]

-- where all are paid for, the items decide
paid_fits : (limits : Limits) (place : Place) (ds : List Detection) (names tests : ℕ) → names + of_items name_count ds ≡ limits.grown → tests + of_items test_count ds ≡ limits.grown
    → grown_refusal limits place ds ≡ must 99 place (are_fit limits ds)
paid_fits limits place ds names tests first second =
    room_for true true limits place ds (le-leb _ _ (omega (arith, first))) (le-leb _ _ (omega (arith, second)))

pub unfit_judged : (limits : Limits) (place : Place) (ds : List Detection) (e : Fault)
    → IsOneUnfit place limits.grown (of_items name_count ds) limits.grown (of_items test_count ds) (every_item has_legal_names ds) e
    → Judged (λ (made : List Detection). made ≡ ds) (grown_refusal limits place ds) (Err e)
unfit_judged limits place ds Memory unfit = tt
unfit_judged limits place ds (Refused r) unfit = unfit_refuses limits place ds r unfit

pub paid_judged : (limits : Limits) (place : Place) (ds made : List Detection) (names tests : ℕ) (result : Result (List Detection) Fault) → made ≡ ds
    → names + of_items name_count ds ≡ limits.grown → tests + of_items test_count ds ≡ limits.grown
    → Judged (λ (x : List Detection). x ≡ made) (must 99 place (every_item has_legal_names made && every_item (has_short_patterns limits) made)) result
    → Judged (λ (x : List Detection). x ≡ ds) (grown_refusal limits place ds) result
paid_judged limits place ds made names tests result is first second judged =
    subst (λ o. Judged (λ (x : List Detection). x ≡ ds) o result) (sym (paid_fits limits place ds names tests first second))
    (subst (λ (all : List Detection). Judged (λ (x : List Detection). x ≡ all) (must 99 place (are_fit limits all)) result) is judged)
