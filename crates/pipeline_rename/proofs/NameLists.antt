-- Names behind others.
use Rattle.std.proofs.Common.{ℕ, ◌+◌, ◌<◌, ◌≤◌, length, drop, get_or, ◌≡◌, Bool, true, false, cond, ◌&&◌, inl, inr, List, [], ◌∷◌, ◌++◌, refl, sym, subst, ap, ◌∙◌}
use native.Mathlib.Omega.{arith}
use Rattle.std.specs.List.{flat_map, list_all}
use Rattle.std.proofs.lemmas.List.{drop_more}
use Rattle.std.proofs.lemmas.List.Folds.{list_all-append}
use Rattle.event_schema.specs.Names.{is_legal}
use Rattle.sig_base.specs.Judged.{refusal}
use Rattle.sig_base.specs.declared.refusal.Place.{Place}
use Rattle.sig_base.specs.declared.refusal.Fault.{Fault}
use Rattle.sig_base.specs.declared.refusal.Fault.TheVariants.{Memory, Refused}
use Rattle.pipeline_model.specs.Concerned.{is_among}
use Rattle.pipeline_model.specs.declared.step.Step.{Step}
use Rattle.pipeline_rename.specs.Names.{each_before, with_name, with_names, names_for}
use Rattle.pipeline_rename.specs.Made.{AreUnfit}

one_more : (names : List (List ℕ)) (name : List ℕ) → length names ≤ length (names ++ name ∷ [])
one_more [] name = omega arith
one_more (n ∷ ns) name = omega (arith, one_more ns name)

kept : (b : Bool) (names : List (List ℕ)) (name : List ℕ) → length names ≤ length (cond b names (names ++ name ∷ []))
kept true names name = omega arith
kept false names name = one_more names name

-- none is lost
grows : (names more : List (List ℕ)) → length names ≤ length (with_names names more)
grows names [] = omega arith
grows names (n ∷ ns) = omega (arith, kept (is_among names n) names n, grows (with_name names n) ns)

pub no_second : (b : Bool) → (b && false) ≡ false
no_second true = refl
no_second false = refl

pushed_illegal : (names more : List (List ℕ)) → list_all is_legal names ≡ false → list_all is_legal (names ++ more) ≡ false
pushed_illegal names more h = list_all-append is_legal names more ∙ ap (λ (b : Bool). b && list_all is_legal more) h

kept_illegal : (b : Bool) (names : List (List ℕ)) (name : List ℕ) → list_all is_legal names ≡ false → list_all is_legal (cond b names (names ++ name ∷ [])) ≡ false
kept_illegal true names name h = h
kept_illegal false names name h = pushed_illegal names (name ∷ []) h

stays_illegal : (names more : List (List ℕ)) → list_all is_legal names ≡ false → list_all is_legal (with_names names more) ≡ false
stays_illegal names [] h = h
stays_illegal names (n ∷ ns) h = stays_illegal (with_name names n) ns (kept_illegal (is_among names n) names n h)

-- names that are refused are so with more
unfit_more : (place : Place) (most : ℕ) (names more : List (List ℕ)) (e : Fault) → AreUnfit place most names e → AreUnfit place most (with_names names more) e
unfit_more place most names more Memory unfit = tt
unfit_more place most names more (Refused r) unfit = (
  unfit.0,
  elim unfit.1 [
    | inl h ↦ inl (omega (arith, h, grows names more))
    | inr h ↦ inr (stays_illegal names more h)
  ],
)

pushed_more : (names : List (List ℕ)) (name : List ℕ) → length names < length (names ++ name ∷ [])
pushed_more [] name = omega arith
pushed_more (n ∷ ns) name = omega (arith, pushed_more ns name)

pub no_room : (place : Place) (most : ℕ) (names : List (List ℕ)) (name : List ℕ) (e : Fault) → most ≤ length names → e ≡ Refused (refusal 99 place)
    → AreUnfit place most (names ++ name ∷ []) e
no_room place most names name e full is =
    subst (AreUnfit place most (names ++ name ∷ [])) (sym is) ((refl, inl (omega (arith, full, pushed_more names name))))

pub not_legal : (place : Place) (most : ℕ) (names : List (List ℕ)) (name : List ℕ) (e : Fault) → is_legal name ≡ false → e ≡ Refused (refusal 99 place)
    → AreUnfit place most (names ++ name ∷ []) e
not_legal place most names name e h is =
    subst (AreUnfit place most (names ++ name ∷ [])) (sym is) ((
      refl,
      inr (list_all-append is_legal names (name ∷ []) ∙ (ap (λ (b : Bool). list_all is_legal names && (b && true)) h ∙ no_second (list_all is_legal names))),
    ))

-- of a name that isn't among them
pub unfit_new : (place : Place) (most : ℕ) (names : List (List ℕ)) (name : List ℕ) (e : Fault) → is_among names name ≡ false → AreUnfit place most (names ++ name ∷ []) e
    → AreUnfit place most (with_name names name) e
unfit_new place most names name e h unfit = subst (λ (b : Bool). AreUnfit place most (cond b names (names ++ name ∷ [])) e) (sym h) unfit

pub with_append : (names xs ys : List (List ℕ)) → with_names names (xs ++ ys) ≡ with_names (with_names names xs) ys
with_append names [] ys = refl
with_append names (x ∷ xs) ys = with_append (with_name names x) xs ys

-- Of each element of a list several names are made.
module _ {X : Type 0} (made_of : X → List (List ℕ)) where
  parts_at : (names : List (List ℕ)) (all : List X) (i : ℕ) (x : X) → i < length all → x ≡ get_or all i x
      → with_names names (flat_map made_of (drop i all)) ≡ with_names (with_names names (made_of x)) (flat_map made_of (drop (i + 1) all))
  parts_at names all i x inside is =
      let front : drop i all ≡ x ∷ drop (i + 1) all = drop_more all i x inside ∙ ap (λ (y : X). y ∷ drop (i + 1) all) (sym is) in
      ap (λ (ns : List X). with_names names (flat_map made_of ns)) front ∙ with_append names (made_of x) (flat_map made_of (drop (i + 1) all))

  any_turn : (names start : List (List ℕ)) (all : List X) (i : ℕ) (x : X)
      → with_names names (flat_map made_of (drop i all)) ≡ with_names start (flat_map made_of all) → i < length all → x ≡ get_or all i x
      → with_names (with_names names (made_of x)) (flat_map made_of (drop (i + 1) all)) ≡ with_names start (flat_map made_of all)
  any_turn names start all i x same inside is = sym (parts_at names all i x inside is) ∙ same

  any_unfit : (place : Place) (most : ℕ) (names start : List (List ℕ)) (all : List X) (i : ℕ) (x : X) (e : Fault)
      → with_names names (flat_map made_of (drop i all)) ≡ with_names start (flat_map made_of all) → i < length all → x ≡ get_or all i x
      → AreUnfit place most (with_names names (made_of x)) e → AreUnfit place most (with_names start (flat_map made_of all)) e
  any_unfit place most names start all i x e same inside is unfit =
      subst (λ (ns : List (List ℕ)). AreUnfit place most ns e) (any_turn names start all i x same inside is)
      (unfit_more place most (with_names names (made_of x)) (flat_map made_of (drop (i + 1) all)) e unfit)

-- of a name what a step makes
pub turn_at : (step : Step) (names start all : List (List ℕ)) (i : ℕ) (x : List ℕ)
    → with_names names (flat_map (names_for step) (drop i all)) ≡ with_names start (flat_map (names_for step) all) → i < length all → x ≡ get_or all i x
    → with_names (with_names names (names_for step x)) (flat_map (names_for step) (drop (i + 1) all)) ≡ with_names start (flat_map (names_for step) all)
turn_at step = any_turn (names_for step)

pub unfit_there : (step : Step) (place : Place) (most : ℕ) (names start all : List (List ℕ)) (i : ℕ) (x : List ℕ) (e : Fault)
    → with_names names (flat_map (names_for step) (drop i all)) ≡ with_names start (flat_map (names_for step) all) → i < length all → x ≡ get_or all i x
    → AreUnfit place most (with_names names (names_for step x)) e → AreUnfit place most (with_names start (flat_map (names_for step) all)) e
unfit_there step = any_unfit (names_for step)

-- of a front the text with another behind it
each_at : (names all : List (List ℕ)) (back : List ℕ) (i : ℕ) (x : List ℕ) → i < length all → x ≡ get_or all i x
    → with_names names (each_before (drop i all) back) ≡ with_names (with_name names (x ++ back)) (each_before (drop (i + 1) all) back)
each_at names all back i x inside is =
    let front : drop i all ≡ x ∷ drop (i + 1) all = drop_more all i x inside ∙ ap (λ (y : List ℕ). y ∷ drop (i + 1) all) (sym is) in
    ap (λ (ns : List (List ℕ)). with_names names (each_before ns back)) front

pub more_added : (names start all : List (List ℕ)) (back : List ℕ) (i : ℕ) (x : List ℕ)
    → with_names names (each_before (drop i all) back) ≡ with_names start (each_before all back) → i < length all → x ≡ get_or all i x
    → with_names (with_name names (x ++ back)) (each_before (drop (i + 1) all) back) ≡ with_names start (each_before all back)
more_added names start all back i x same inside is = sym (each_at names all back i x inside is) ∙ same

pub unfit_with : (place : Place) (most : ℕ) (names start all : List (List ℕ)) (back : List ℕ) (i : ℕ) (x : List ℕ) (e : Fault)
    → with_names names (each_before (drop i all) back) ≡ with_names start (each_before all back) → i < length all → x ≡ get_or all i x
    → AreUnfit place most (with_name names (x ++ back)) e → AreUnfit place most (with_names start (each_before all back)) e
unfit_with place most names start all back i x e same inside is unfit =
    subst (λ (ns : List (List ℕ)). AreUnfit place most ns e) (more_added names start all back i x same inside is)
    (unfit_more place most (with_name names (x ++ back)) (each_before (drop (i + 1) all) back) e unfit)

-- the names of a list one by one
pub name_turn : (names start all : List (List ℕ)) (i : ℕ) (x : List ℕ) → with_names names (drop i all) ≡ with_names start all → i < length all → x ≡ get_or all i x
    → with_names (with_name names x) (drop (i + 1) all) ≡ with_names start all
name_turn names start all i x same inside is =
    sym (ap (with_names names) (drop_more all i x inside ∙ ap (λ (y : List ℕ). y ∷ drop (i + 1) all) (sym is))) ∙ same
