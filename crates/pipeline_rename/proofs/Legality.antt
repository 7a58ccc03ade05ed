-- Names that are made and aren't legal.
use Rattle.std.proofs.Common.{ℕ, suc, ◌<◌, length, get_or, map, ◌++◌, ◌≡◌, Bool, true, false, ◌&&◌, inl, inr, List, [], ◌∷◌, refl, sym, subst, ap, ◌∙◌}
use Rattle.std.specs.List.{list_all}
use Rattle.std.proofs.lemmas.List.Folds.{list_all-map, list_all_at}
use Rattle.event_schema.specs.Names.{is_legal}
use Rattle.sig_base.specs.declared.refusal.Place.{Place}
use Rattle.sig_base.specs.declared.refusal.Fault.{Fault}
use Rattle.sig_base.specs.declared.refusal.Fault.TheVariants.{Memory, Refused}
use Rattle.rule_detections.specs.declared.test.Test.TheVariants as tests
use Rattle.pipeline_rename.specs.Names.{each_before}
use Rattle.pipeline_limits.specs.Sizes.{compares_legally}
use Rattle.pipeline_rename.specs.Made.{AreUnfitTests, IsFull, IsIllegal, IsOneUnfit, IsUnfit}
use Rattle.pipeline_rename.proofs.NameLists.{no_second}

-- ---- what is so of one of them is so of all together

each_legal : (prefixes : List (List ℕ)) (back : List ℕ)
    → list_all compares_legally (map tests.SameAs (each_before prefixes back)) ≡ list_all (λ (front : List ℕ). is_legal (front ++ back)) prefixes
each_legal prefixes back =
    list_all-map compares_legally tests.SameAs (each_before prefixes back) ∙ list_all-map is_legal (λ (front : List ℕ). front ++ back) prefixes

illegal_at : (prefixes : List (List ℕ)) (back : List ℕ) (i : ℕ) (x : List ℕ) → i < length prefixes → x ≡ get_or prefixes i x → is_legal (x ++ back) ≡ false
    → list_all compares_legally (map tests.SameAs (each_before prefixes back)) ≡ false
illegal_at prefixes back i x inside is h =
    each_legal prefixes back
    ∙ list_all_at (λ (front : List ℕ). is_legal (front ++ back)) prefixes i x inside (ap (λ (y : List ℕ). is_legal (y ++ back)) (sym is) ∙ h)

pub illegal_front : (place : Place) (prefixes : List (List ℕ)) (back : List ℕ) (i : ℕ) (x : List ℕ) (e : Fault) → i < length prefixes → x ≡ get_or prefixes i x
    → IsIllegal place (is_legal (x ++ back)) e → IsIllegal place (list_all compares_legally (map tests.SameAs (each_before prefixes back))) e
illegal_front place prefixes back i x Memory inside is h = tt
illegal_front place prefixes back i x (Refused r) inside is h = (h.0, illegal_at prefixes back i x inside is h.1)

pub illegal_one : (place : Place) (b : Bool) (e : Fault) → IsIllegal place b e → IsIllegal place (b && true) e
illegal_one place b Memory h = tt
illegal_one place b (Refused r) h = (h.0, ap (λ (c : Bool). c && true) h.1)

-- ---- from one judgement to the next

pub full_unfit : (place : Place) (room size : ℕ) (legal : Bool) (e : Fault) → IsFull place room size e → IsUnfit place room size legal e
full_unfit place room size legal Memory full = tt
full_unfit place room size legal (Refused r) full = (full.0, inl full.1)

as_many : (names : List (List ℕ)) → length (map tests.SameAs names) ≡ length names
as_many [] = refl
as_many (n ∷ ns) = ap suc (as_many ns)

-- of the tests that compare with these names
pub full_compared : (place : Place) (room : ℕ) (names made : List (List ℕ)) (e : Fault) → made ≡ names → IsFull place room (length made) e → AreUnfitTests place room (map tests.SameAs names) e
full_compared place room names made Memory is full = tt
full_compared place room names made (Refused r) is full = (full.0, inl (subst (λ (n : ℕ). room < n) (ap length is ∙ sym (as_many names)) full.1))

pub illegal_compared : (place : Place) (room : ℕ) (names made : List (List ℕ)) (e : Fault) → made ≡ names → IsIllegal place (list_all compares_legally (map tests.SameAs made)) e
    → AreUnfitTests place room (map tests.SameAs names) e
illegal_compared place room names made Memory is h = tt
illegal_compared place room names made (Refused r) is h = (h.0, inr (ap (λ (ns : List (List ℕ)). list_all compares_legally (map tests.SameAs ns)) (sym is) ∙ h.1))

-- of an item
pub tests_unfit : (place : Place) (names name_size tests test_size : ℕ) (a b : Bool) (e : Fault) → IsUnfit place tests test_size b e
    → IsOneUnfit place names name_size tests test_size (a && b) e
tests_unfit place names name_size tests test_size a b Memory unfit = tt
tests_unfit place names name_size tests test_size a b (Refused r) unfit = (
  unfit.0,
  elim unfit.1 [
    | inl h ↦ inr (inl h)
    | inr h ↦ inr (inr (ap (λ (c : Bool). a && c) h ∙ no_second a))
  ],
)

pub names_unfit : (place : Place) (names name_size tests test_size : ℕ) (a b : Bool) (e : Fault) → IsUnfit place names name_size a e
    → IsOneUnfit place names name_size tests test_size (a && b) e
names_unfit place names name_size tests test_size a b Memory unfit = tt
names_unfit place names name_size tests test_size a b (Refused r) unfit = (
  unfit.0,
  elim unfit.1 [
    | inl h ↦ inl h
    | inr h ↦ inr (inr (ap (λ (c : Bool). c && b) h))
  ],
)
