-- Building regular expressions that follow one another.
use Rattle.std.proofs.Common.{ℕ, ◌≡◌, ◌<◌, ◌∙◌, Bool, true, false, not, ◌||◌, ◌==◌, List, [], ◌∷◌, ◌++◌, length, get_or, map, inl, inr, refl, sym, ap, subst, append-nil, ◌+◌, take}
use Rattle.std.specs.Prelude.{Some, None, Result, Ok, Err}
use Rattle.std.specs.List.{list_any}
use Rattle.std.proofs.lemmas.Bool.{and_from, eq-eqb}
use Rattle.event_schema.specs.Lists.{SomeOf}
use Rattle.query_lang.specs.Patterns.{is_pattern}
use Rattle.rule_regex.specs.Building.{ArePatterns, Builds}
use Rattle.rule_regex.specs.Unbuilt.{unbuilt_refusal, ArePlacesOf, IsOneOf}
use Rattle.rule_detections.specs.declared.expression.Expression.{Expression}
use Rattle.rule_model.proofs.Places.{same_place, among}
use Rattle.sig_base.specs.Judged.{Judged, must, first, refusal}
use Rattle.sig_base.specs.declared.refusal.Fault.{Fault}
use Rattle.sig_base.specs.declared.refusal.Fault.TheVariants.{Memory, Refused}
use Rattle.sig_base.specs.declared.refusal.Place.{Place}
use Rattle.sig_base.specs.declared.refusal.Refusal.{Refusal}
use Rattle.modifier_values.specs.Expressions.{is_same_place}
use Rattle.rule_regex.proofs.Lists.{each_joined, of_one, some_at, some_map, some_one, taken}

some_is : (x y : Refusal) → Some x ≡ Some y → x ≡ y
some_is x y e = cc

none_some : (x : Refusal) → None ≡ Some x → ⊥
none_some x e = cc

-- ---- what is refused

pub none_refused : (es : List Expression) → unbuilt_refusal [] es ≡ None
none_refused [] = refl
none_refused (e ∷ es) = none_refused es

abbrev SaysOf : List Place → List Expression → Refusal → Type 0
SaysOf unbuilt es r = (r ≡ refusal 48 r.place) × SomeOf (λ e. e.place ≡ r.place) es × SomeOf (λ p. p ≡ r.place) unbuilt

pub says : (unbuilt : List Place) (es : List Expression) (r : Refusal) → unbuilt_refusal unbuilt es ≡ Some r → SaysOf unbuilt es r
says unbuilt [] r is = absurd (none_some r is)
says unbuilt (e ∷ es) r is = by (list_any (is_same_place e.place) unbuilt) refl (says unbuilt es r) is
  where
    by : (b : Bool) → list_any (is_same_place e.place) unbuilt ≡ b → (unbuilt_refusal unbuilt es ≡ Some r → SaysOf unbuilt es r)
        → first (must 48 e.place (not b) ∷ map (λ e. must 48 e.place (not (list_any (is_same_place e.place) unbuilt))) es) ≡ Some r → SaysOf unbuilt (e ∷ es) r
    by true there more is =
        subst (λ (s : Refusal). SaysOf unbuilt (e ∷ es) s) (some_is (refusal 48 e.place) r is) (refl, inl refl, among unbuilt e.place there)
    by false there more is = let later = more is in (later.0, inr later.1, later.2)

same_self : (p : Place) → is_same_place p p ≡ true
same_self p = and_from (p.line == p.line) (p.column == p.column) (eq-eqb p.line p.line refl) (eq-eqb p.column p.column refl)

untrue : false ≡ true → ⊥
untrue e = cc

-- 48 at the one place at which one isn't built, if it's the place of one
pub refused_at_one : (p : Place) (es : List Expression) → SomeOf (λ e. e.place ≡ p) es → unbuilt_refusal (p ∷ []) es ≡ Some (refusal 48 p)
refused_at_one p [] there = absurd there
refused_at_one p (e ∷ es) there = by (is_same_place e.place p) refl there (refused_at_one p es)
  where
    by : (b : Bool) → is_same_place e.place p ≡ b → SomeOf (λ e. e.place ≡ p) (e ∷ es) → (SomeOf (λ e. e.place ≡ p) es → unbuilt_refusal (p ∷ []) es ≡ Some (refusal 48 p))
        → first (must 48 e.place (not (b || false)) ∷ map (λ e. must 48 e.place (not (list_any (is_same_place e.place) (p ∷ [])))) es) ≡ Some (refusal 48 p)
    by true same there more = ap (λ (q : Place). Some (refusal 48 q)) (sym (same_place e.place p same))
    by false same (inl here) more = absurd (untrue (sym same ∙ (ap (λ (q : Place). is_same_place q p) here ∙ same_self p)))
    by false same (inr later) more = more later

-- ---- in a row

abbrev IsRefused : List (List ℕ) → List (List ℕ) → Refusal → Expression → Type 0
IsRefused before after r e = (r ≡ refusal 48 e.place) × (after ≡ before ++ e.text ∷ [])

-- a fault at one of these, before which all were built, is one for all, of whatever would have been built
pub stops_at : {X Y : Type 0} (Is : X → Type 0) (Js : Y → Type 0) (es : List Expression) (i : ℕ) (e : Expression) (before now after : List (List ℕ)) (f : Fault)
    → i < length es → e ≡ get_or es i e → now ≡ before → Builds Is (e ∷ []) now after (Err f) → Builds Js es before after (Err f)
stops_at Is Js es i e before now after Memory below is same built = built ∙ same
stops_at Is Js es i e before now after (Refused r) below is same built =
    let here = of_one (IsRefused now after r) e built in
    some_at (IsRefused before after r) es i e below is (here.0, here.1 ∙ ap (λ (texts : List (List ℕ)). texts ++ e.text ∷ []) same)

-- a fault is one of whatever would have been built
pub fault_so : {X Y : Type 0} (Is : X → Type 0) (Js : Y → Type 0) (es : List Expression) (before after : List (List ℕ)) (f : Fault)
    → Builds Is es before after (Err f) → Builds Js es before after (Err f)
fault_so Is Js es before after Memory built = built
fault_so Is Js es before after (Refused r) built = built

-- memory was missing
pub no_memory : {X : Type 0} (Is : X → Type 0) (es : List Expression) (before after : List (List ℕ)) (f : Fault) → f ≡ Memory → after ≡ before → Builds Is es before after (Err f)
no_memory Is es before after f is same = subst (λ (e : Fault). Builds Is es before after (Err e)) (sym is) same

-- one is refused
pub is_refused : {X : Type 0} (Is : X → Type 0) (e : Expression) (before after : List (List ℕ)) (f : Fault) → f ≡ Refused (refusal 48 e.place) → after ≡ before ++ e.text ∷ []
    → Builds Is (e ∷ []) before after (Err f)
is_refused Is e before after f is more = subst (λ (g : Fault). Builds Is (e ∷ []) before after (Err g)) (sym is) (inl (refl, more))

-- what is built is read by the grammar, one after the other
pub patterns_more : (es : List Expression) (i : ℕ) (e : Expression) → i < length es → e ≡ get_or es i e → ArePatterns (take i es) → is_pattern e.text ≡ true → ArePatterns (take (i + 1) es)
patterns_more es i e below is so_far one =
    subst ArePatterns (sym (taken es i e below is)) (each_joined (λ (x : Expression). is_pattern x.text ≡ true) (take i es) (e ∷ []) so_far (one, tt))

-- ---- the places at which none is built

-- what is answered, as the refusal for these places decides, which are those of the texts that the builder refused
pub record BuiltAt {X : Type 0} (Is : X → Type 0) (es : List Expression) (before after : List (List ℕ)) (result : Result X Fault) : Type 0 where
  pub items : List Place
  pub refused : List (List ℕ)
  pub follows : after ≡ before ++ refused
  pub places : ArePlacesOf (IsOneOf es) refused items
  pub judged : Judged Is (unbuilt_refusal items es) result

pub built_at : {X : Type 0} (Is : X → Type 0) (es : List Expression) (before after : List (List ℕ)) (result : Result X Fault) → Builds Is es before after result
    → BuiltAt Is es before after result
built_at Is es before after (Ok x) built =
    record { items = []; refused = []; follows = built.0 ∙ sym (append-nil before); places = tt; judged = (none_refused es, built.2) }
built_at Is es before after (Err Memory) built = record { items = []; refused = []; follows = built ∙ sym (append-nil before); places = tt; judged = tt }
built_at Is es before after (Err (Refused r)) built =
    let (e, there, is) = some_one (IsRefused before after r) es built in
    let here : SomeOf (λ (x : Expression). x.place ≡ e.place) es =
    some_map (λ (x : Expression). x ≡ e) (λ (x : Expression). x.place ≡ e.place) es (λ x same. ap (λ (y : Expression). y.place) same) there in
    record {
      items = e.place ∷ [];
      refused = e.text ∷ [];
      follows = is.1;
      places = (there, tt);
      judged = refused_at_one e.place es here ∙ ap Some (sym is.0);
    }
