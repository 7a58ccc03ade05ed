-- What the gathered names are: each name once, where it first appears, with what all its uses ask, unless two clash.
use Rattle.std.proofs.Common.{ℕ, ◌≡◌, Bool, true, false, not, ◌&&◌, ◌||◌, ◌⊎◌, inl, inr, List, [], ◌∷◌, ◌++◌, Some, None, refl, sym, subst, ap, ◌∙◌, map, append-nil, append_assoc}
use Rattle.std.specs.Prelude.{filter, if◌then◌else◌, Ok, Err}
use Rattle.std.specs.List.{list_any, flat_map}
use Rattle.std.specs.Result.{IsErrAnd}
use Rattle.std.specs.Str.{bytes_eq}
use Rattle.std.specs.declared.result.Result.{Result}
use Rattle.std.proofs.lemmas.List.Folds.{list_any-append}
use Rattle.std.proofs.lemmas.Slice.Eq.{bytes_eq-Decides}
use Rattle.std.proofs.lemmas.Bool.{or_parts, cases_Bool}
use Rattle.event_schema.specs.Lists.{EachOf}
use Rattle.event_schema.specs.Schemas.{IsOther, AreApart}
use Rattle.event_schema.specs.declared.schema.Field.{Field}
use Rattle.sig_base.specs.Folding.{folded}
use Rattle.sig_base.specs.Judged.{refusal, Judged}
use Rattle.sig_base.specs.declared.refusal.Fault.{Fault}
use Rattle.sig_base.specs.declared.refusal.Fault.TheVariants.{Memory, Refused}
use Rattle.sig_base.specs.declared.refusal.Refusal.{Refusal}
use Rattle.rule_detections.specs.declared.detection.Detection.{Detection}
use Rattle.rule_detections.specs.declared.item.Item.{Item}
use Rattle.rule_schema.specs.Asked.{asks_view, either_asks}
use Rattle.rule_schema.specs.Gathered.{Gathers, texts_of, folds_to, differs, clash_with, joined as join, with_use, gathered, alternative_uses, detection_uses, field_of, AreMade}
use Rattle.rule_schema.specs.Inferred.{Use, item_uses, uses_of, items_of, distinct, asks_in, made_field, clashes, clash_behind}
use Rattle.rule_schema.specs.Kinds.{Asks, opposed, kind_for}
use Rattle.rule_schema.specs.declared.names.Named.{Named}
use Rattle.rule_schema.proofs.Gathering.{choose, clash}

-- ---- Booleans and texts

or_no : (a : Bool) → (a || false) ≡ a
or_no true = refl
or_no false = refl

or_true : (a : Bool) → (a || true) ≡ true
or_true true = refl
or_true false = refl

or_assoc : (a b c : Bool) → ((a || b) || c) ≡ (a || (b || c))
or_assoc true b c = refl
or_assoc false b c = refl

or_turned : (a b : Bool) → (a || b) ≡ (b || a)
or_turned true b = sym (or_true b)
or_turned false b = sym (or_no b)

or_last : (a b c : Bool) → ((a || b) || c) ≡ ((a || c) || b)
or_last true b c = refl
or_last false b c = or_turned b c

or_middle : (a b c d : Bool) → ((a || b) || (c || d)) ≡ ((a || c) || (b || d))
or_middle true b c d = refl
or_middle false b true d = or_true b
or_middle false b false d = refl

and_either : (a b c : Bool) → ((a || b) && c) ≡ (a && c || b && c)
and_either true b true = refl
and_either true true false = refl
and_either true false false = refl
and_either false b c = refl

true_false : true ≡ false → ⊥
true_false e = cc

equal : (a b : List ℕ) → bytes_eq a b ≡ true → a ≡ b
equal a b e = (bytes_eq-Decides a b).0 e

self : (a : List ℕ) → bytes_eq a a ≡ true
self a = (bytes_eq-Decides a a).1 refl

-- texts that differ when folded differ
apart : (a b : List ℕ) → (folded a ≡ folded b → ⊥) → bytes_eq a b ≡ false
apart a b f = elim (cases_Bool (bytes_eq a b)) [
  | inl h ↦ absurd (f (ap folded (equal a b h)))
  | inr h ↦ h
]

not_true : (a : Bool) → not a ≡ false → a ≡ true
not_true true e = refl
not_true false e = absurd cc

-- no difference is none of the names
one_name : (n : Named) (u : Use) → differs n u ≡ false → n.name ≡ u.name
one_name n u e = equal n.name u.name (not_true (bytes_eq n.name u.name) (or_parts (not (bytes_eq n.name u.name)) (opposed (asks_view n.asked) u.asks) e).0)

-- ---- tests of a name and of what is asked

abbrev Tests : Type 0
Tests = List ℕ → Asks → Bool

-- passes of what is asked at once where it does of one of both
abbrev Adds : Tests → Type 0
Adds p = (name : List ℕ) (a b : Asks) → p name (either_asks a b) ≡ (p name a || p name b)

abbrev some_named : Tests → List Named → Bool
some_named p ns = list_any (λ n. p n.name (asks_view n.asked)) ns

abbrev some_used : Tests → List Use → Bool
some_used p us = list_any (λ u. p u.name u.asks) us

some_with : (p : Tests) → Adds p → (ns : List Named) (u : Use) → clash_with ns u ≡ false → some_named p (with_use ns u) ≡ (some_named p ns || p u.name u.asks)
some_with p adds [] u e = or_no (p u.name u.asks)
some_with p adds (n ∷ ns) u e = by (cases_Bool (folds_to (folded u.name) n.name)) (some_with p adds ns u) where
  here : folds_to (folded u.name) n.name ≡ true → n.name ≡ u.name
  here h = one_name n u (rw h at e)

  by : (folds_to (folded u.name) n.name ≡ true) ⊎ (folds_to (folded u.name) n.name ≡ false)
      → (clash_with ns u ≡ false → some_named p (with_use ns u) ≡ (some_named p ns || p u.name u.asks))
      → some_named p (with_use (n ∷ ns) u) ≡ (some_named p (n ∷ ns) || p u.name u.asks)
  by (inl h) rest =
      rw h (ap (λ (b : Bool). b || some_named p ns) (adds n.name (asks_view n.asked) u.asks)
      ∙ (or_last (p n.name (asks_view n.asked)) (p n.name u.asks) (some_named p ns)
      ∙ ap (λ (name : List ℕ). (p n.name (asks_view n.asked) || some_named p ns) || p name u.asks) (here h)))
  by (inr h) rest =
      rw h (ap (λ (b : Bool). p n.name (asks_view n.asked) || b) (rest (rw h at e))
      ∙ sym (or_assoc (p n.name (asks_view n.asked)) (some_named p ns) (p u.name u.asks)))

ok_same : (x y : List Named) → ((let r : Result (List Named) Refusal = Ok x in r) ≡ Ok y) → x ≡ y
ok_same x y e = cc

err_ok : (x : Refusal) (y : List Named) → ((let r : Result (List Named) Refusal = Err x in r) ≡ Ok y) → ⊥
err_ok x y e = cc

err_same : (x y : Refusal) → ((let r : Result (List Named) Refusal = Err x in r) ≡ Err y) → x ≡ y
err_same x y e = cc

-- what is gathered of a use and others is gathered of the others, behind the use
behind_use : (ns ms : List Named) (u : Use) (us : List Use) → gathered ns (u ∷ us) ≡ Ok ms → (clash ns u ≡ false) × (gathered (with_use ns u) us ≡ Ok ms)
behind_use ns ms u us e =
    elim (choose (clash ns u) (Err (refusal 80 u.place)) (gathered (with_use ns u) us) (Ok ms) e) [
      | inl h ↦ absurd (err_ok _ _ h.1)
      | inr h ↦ h
    ]

free : (ns : List Named) (u : Use) → clash ns u ≡ false → clash_with ns u ≡ false
free ns u e = (or_parts (opposed u.asks u.asks) (clash_with ns u) e).1

some_gathered : (p : Tests) → Adds p → (ns ms : List Named) (us : List Use) → gathered ns us ≡ Ok ms → some_named p ms ≡ (some_named p ns || some_used p us)
some_gathered p adds ns ms [] e = ap (some_named p) (sym (ok_same ns ms e)) ∙ sym (or_no (some_named p ns))
some_gathered p adds ns ms (u ∷ us) e =
    let h = behind_use ns ms u us e in
    some_gathered p adds (with_use ns u) ms us h.1
    ∙ (ap (λ (b : Bool). b || some_used p us) (some_with p adds ns u (free ns u h.0))
    ∙ or_assoc (some_named p ns) (p u.name u.asks) (some_used p us))

-- ---- names that are apart

other_with : (name : List ℕ) (ns : List Named) (u : Use) → IsOther name (texts_of ns) → (folded u.name ≡ folded name → ⊥) → IsOther name (texts_of (with_use ns u))
other_with name [] u o f = (f, tt)
other_with name (n ∷ ns) u o f = by (folds_to (folded u.name) n.name) (other_with name ns u o.1 f) where
  by : (b : Bool) → IsOther name (texts_of (with_use ns u)) → IsOther name (texts_of (if b then join n u.asks ∷ ns else n ∷ with_use ns u))
  by true rest = o
  by false rest = (o.0, rest)

apart_with : (ns : List Named) (u : Use) → AreApart (texts_of ns) → AreApart (texts_of (with_use ns u))
apart_with [] u a = (tt, tt)
apart_with (n ∷ ns) u a = by (folds_to (folded u.name) n.name) refl (apart_with ns u a.1) where
  by : (b : Bool) → folds_to (folded u.name) n.name ≡ b → AreApart (texts_of (with_use ns u)) → AreApart (texts_of (if b then join n u.asks ∷ ns else n ∷ with_use ns u))
  by true h rest = a
  by false h rest =
      (other_with n.name ns u a.0 (λ e. true_false (sym ((bytes_eq-Decides (folded n.name) (folded u.name)).1 (sym e)) ∙ h)), rest)

pub apart_gathered : (ns ms : List Named) (us : List Use) → AreApart (texts_of ns) → gathered ns us ≡ Ok ms → AreApart (texts_of ms)
apart_gathered ns ms [] a e = subst (λ (xs : List Named). AreApart (texts_of xs)) (ok_same ns ms e) a
apart_gathered ns ms (u ∷ us) a e = apart_gathered (with_use ns u) ms us (apart_with ns u a) (behind_use ns ms u us e).1

-- ---- clashes

-- a name of which that is asked clashes with the use
abbrev clash_by : Use → Tests
clash_by x name asks = bytes_eq (folded name) (folded x.name) && (not (bytes_eq name x.name) || opposed asks x.asks)

opposed_either : (a b c : Asks) → opposed (either_asks a b) c ≡ (opposed a c || opposed b c)
opposed_either a b c =
    ap (λ (x : Bool). x || (a.address || b.address) && c.whole) (and_either a.whole b.whole c.address)
    ∙ (ap (λ (x : Bool). (a.whole && c.address || b.whole && c.address) || x) (and_either a.address b.address c.whole)
    ∙ or_middle (a.whole && c.address) (b.whole && c.address) (a.address && c.whole) (b.address && c.whole))

clash_adds : (x : Use) → Adds (clash_by x)
clash_adds x name a b = by (bytes_eq (folded name) (folded x.name)) (bytes_eq name x.name) where
  by : (f s : Bool) → (f && (not s || opposed (either_asks a b) x.asks)) ≡ (f && (not s || opposed a x.asks) || f && (not s || opposed b x.asks))
  by true true = opposed_either a b x.asks
  by true false = refl
  by false s = refl

none_alike : (name : List ℕ) (u : Use) (ns : List Named) → folded name ≡ folded u.name → IsOther name (texts_of ns) → some_named (clash_by u) ns ≡ false
none_alike name u [] e o = refl
none_alike name u (n ∷ ns) e o =
    elim (cases_Bool (bytes_eq (folded n.name) (folded u.name))) [
      | inl h ↦ absurd (o.0 (equal (folded n.name) (folded u.name) h ∙ sym e))
      | inr h ↦ rw h (none_alike name u ns e o.1)
    ]

-- of names that are apart, one that is alike clashes alone
clash_is : (ns : List Named) (u : Use) → AreApart (texts_of ns) → clash_with ns u ≡ some_named (clash_by u) ns
clash_is [] u a = refl
clash_is (n ∷ ns) u a =
    elim (cases_Bool (bytes_eq (folded n.name) (folded u.name))) [
      | inl h ↦
          let none = none_alike n.name u ns (equal (folded n.name) (folded u.name) h) a.0 in
          rw h (sym (or_no (differs n u)) ∙ ap (λ (b : Bool). differs n u || b) (sym none))
      | inr h ↦ rw h (clash_is ns u a.1)
    ]

-- the names and the uses before have the same clashes
abbrev Same : List Named → List Use → Type 0
Same ns before = (x : Use) → some_named (clash_by x) ns ≡ some_used (clash_by x) before

used_end : (p : Tests) (before : List Use) (u : Use) → some_used p (before ++ u ∷ []) ≡ (some_used p before || p u.name u.asks)
used_end p before u =
    list_any-append (λ (v : Use). p v.name v.asks) before (u ∷ [])
    ∙ ap (λ (b : Bool). some_used p before || b) (or_no (p u.name u.asks))

same_step : (ns : List Named) (before : List Use) (u : Use) → clash_with ns u ≡ false → Same ns before → Same (with_use ns u) (before ++ u ∷ [])
same_step ns before u e s x =
    some_with (clash_by x) (clash_adds x) ns u e
    ∙ (ap (λ (b : Bool). b || clash_by x u.name u.asks) (s x) ∙ sym (used_end (clash_by x) before u))

own_clash : (u : Use) → clash_by u u.name u.asks ≡ opposed u.asks u.asks
own_clash u = rw (self (folded u.name), self u.name) refl

-- the test for a clash is the same
test_is : (ns : List Named) (before : List Use) (u : Use) → AreApart (texts_of ns) → Same ns before → list_any (λ v. clashes v u) (before ++ u ∷ []) ≡ clash ns u
test_is ns before u a s =
    used_end (clash_by u) before u
    ∙ (ap (λ (b : Bool). b || clash_by u u.name u.asks) (sym (s u) ∙ sym (clash_is ns u a))
    ∙ (ap (λ (b : Bool). clash_with ns u || b) (own_clash u)
    ∙ or_turned (clash_with ns u) (opposed u.asks u.asks)))

none_clash : (ns ms : List Named) (before us : List Use) → AreApart (texts_of ns) → Same ns before → gathered ns us ≡ Ok ms → clash_behind before us ≡ None
none_clash ns ms before [] a s e = refl
none_clash ns ms before (u ∷ us) a s e =
    let h = behind_use ns ms u us e in
    rw (test_is ns before u a s ∙ h.0)
    (none_clash (with_use ns u) ms (before ++ u ∷ []) us (apart_with ns u a) (same_step ns before u (free ns u h.0) s) h.1)

one_clash : (ns : List Named) (r : Refusal) (before us : List Use) → AreApart (texts_of ns) → Same ns before → gathered ns us ≡ Err r → clash_behind before us ≡ Some r
one_clash ns r before [] a s e = absurd (err_ok r ns (sym e))
one_clash ns r before (u ∷ us) a s e =
    elim (choose (clash ns u) (Err (refusal 80 u.place)) (gathered (with_use ns u) us) (Err r) e) [
      | inl h ↦ rw (test_is ns before u a s ∙ h.0) (ap Some (err_same _ _ h.1))
      | inr h ↦ rw (test_is ns before u a s ∙ h.0)
          (one_clash (with_use ns u) r (before ++ u ∷ []) us (apart_with ns u a) (same_step ns before u (free ns u h.0) s) h.1)
    ]

-- ---- the names

-- the name behind the others, unless it is one of them
abbrev with_name : List (List ℕ) → List ℕ → List (List ℕ)
with_name names name = if list_any (λ other. bytes_eq other name) names then names else names ++ name ∷ []

names_with : (ns : List Named) (u : Use) → clash_with ns u ≡ false → texts_of (with_use ns u) ≡ with_name (texts_of ns) u.name
names_with [] u e = refl
names_with (n ∷ ns) u e = by (cases_Bool (folds_to (folded u.name) n.name)) (names_with ns u) where
  first : (names : List (List ℕ)) (b : Bool) → list_any (λ other. bytes_eq other u.name) names ≡ b
      → n.name ∷ with_name names u.name ≡ (if false || b then n.name ∷ names else n.name ∷ (names ++ u.name ∷ []))
  first names true h = rw h refl
  first names false h = rw h refl

  by : (folds_to (folded u.name) n.name ≡ true) ⊎ (folds_to (folded u.name) n.name ≡ false)
      → (clash_with ns u ≡ false → texts_of (with_use ns u) ≡ with_name (texts_of ns) u.name)
      → texts_of (with_use (n ∷ ns) u) ≡ with_name (texts_of (n ∷ ns)) u.name
  by (inl h) rest =
      let there : bytes_eq n.name u.name ≡ true = (bytes_eq-Decides n.name u.name).1 (one_name n u (rw h at e)) in
      rw (h, there) refl
  by (inr h) rest =
      let other : bytes_eq n.name u.name ≡ false = apart n.name u.name (λ s. true_false (sym ((bytes_eq-Decides (folded n.name) (folded u.name)).1 s) ∙ h)) in
      rw (h, other) (ap (λ (names : List (List ℕ)). n.name ∷ names) (rest (rw h at e)) ∙ first (texts_of ns) _ refl)

or_end : (p : List ℕ → Bool) (ns : List (List ℕ)) (x : List ℕ) → list_any p (ns ++ x ∷ []) ≡ (list_any p ns || p x)
or_end p ns x = list_any-append p ns (x ∷ []) ∙ ap (λ (b : Bool). list_any p ns || b) (or_no (p x))

turned : (a b : List ℕ) → bytes_eq a b ≡ bytes_eq b a
turned a b = by (cases_Bool (bytes_eq a b)) (cases_Bool (bytes_eq b a)) where
  by : (bytes_eq a b ≡ true) ⊎ (bytes_eq a b ≡ false) → (bytes_eq b a ≡ true) ⊎ (bytes_eq b a ≡ false) → bytes_eq a b ≡ bytes_eq b a
  by (inl h) k = h ∙ sym ((bytes_eq-Decides b a).1 (sym (equal a b h)))
  by (inr h) (inl k) = (bytes_eq-Decides a b).1 (sym (equal b a k)) ∙ sym k
  by (inr h) (inr k) = h ∙ sym k

-- what holds of a name that is there holds of one of them
absorbed : (a b : Bool) → ((a || b) || a) ≡ (a || b)
absorbed true b = refl
absorbed false true = refl
absorbed false false = refl

later : (a b c : Bool) → (b || c) ≡ b → ((a || b) || c) ≡ (a || b)
later true b c h = refl
later false b c h = h

behind_first : (a b : Bool) → a ≡ false → (a || b) ≡ true → b ≡ true
behind_first true b f e = cc
behind_first false b f e = e

there : (p : List ℕ → Bool) (name : List ℕ) (ns : List (List ℕ)) → list_any (λ other. bytes_eq other name) ns ≡ true → (list_any p ns || p name) ≡ list_any p ns
there p name [] e = cc
there p name (n ∷ ns) e =
    elim (cases_Bool (bytes_eq n name)) [
      | inl h ↦ ap (λ (m : List ℕ). list_any p (n ∷ ns) || p m) (sym (equal n name h)) ∙ absorbed (p n) (list_any p ns)
      | inr h ↦ later (p n) (list_any p ns) (p name) (there p name ns (behind_first (bytes_eq n name) _ h e))
    ]

-- with a name behind the others, a test passes where it did before or passes of the name
with_any : (p : List ℕ → Bool) (ns : List (List ℕ)) (name : List ℕ) → list_any p (with_name ns name) ≡ (list_any p ns || p name)
with_any p ns name = by (cases_Bool (list_any (λ other. bytes_eq other name) ns)) where
  by : (list_any (λ other. bytes_eq other name) ns ≡ true) ⊎ (list_any (λ other. bytes_eq other name) ns ≡ false) → list_any p (with_name ns name) ≡ (list_any p ns || p name)
  by (inl h) = rw h (sym (there p name ns h))
  by (inr h) = rw h (or_end p ns name)

abbrev unseen : List (List ℕ) → List ℕ → Bool
unseen ns m = not (list_any (λ other. bytes_eq other m) ns)

left_step : (ns : List (List ℕ)) (name m : List ℕ) (ms : List (List ℕ)) (a b : Bool) → list_any (λ other. bytes_eq other m) ns ≡ a → bytes_eq m name ≡ b
    → list_any (λ other. bytes_eq other m) (with_name ns name) ≡ (a || b)
    → filter (unseen (with_name ns name)) ms ≡ filter (unseen ns) (filter (λ other. not (bytes_eq other name)) ms)
    → filter (unseen (with_name ns name)) (m ∷ ms) ≡ filter (unseen ns) (filter (λ other. not (bytes_eq other name)) (m ∷ ms))
left_step ns name m ms a true e f s ih = rw (s, or_true a, f) ih
left_step ns name m ms true false e f s ih = rw (s, f) (rw e ih)
left_step ns name m ms false false e f s ih = rw (s, f) (rw e (ap (λ (xs : List (List ℕ)). m ∷ xs) ih))

left_out : (ns : List (List ℕ)) (name : List ℕ) (ms : List (List ℕ)) → filter (unseen (with_name ns name)) ms ≡ filter (unseen ns) (filter (λ other. not (bytes_eq other name)) ms)
left_out ns name [] = refl
left_out ns name (m ∷ ms) =
    left_step ns name m ms _ _ refl refl
    (with_any (λ other. bytes_eq other m) ns name ∙ ap (λ (b : Bool). list_any (λ other. bytes_eq other m) ns || b) (turned name m))
    (left_out ns name ms)

-- the names of uses behind others: these, and of the others each that is new, once
names_are : (ns ms : List Named) (us : List Use) → gathered ns us ≡ Ok ms → texts_of ms ≡ texts_of ns ++ filter (unseen (texts_of ns)) (distinct (map (λ u. u.name) us))
names_are ns ms [] e = ap texts_of (sym (ok_same ns ms e)) ∙ sym (append-nil (texts_of ns))
names_are ns ms (u ∷ us) e =
    let h = behind_use ns ms u us e in
    let rest : List (List ℕ) = distinct (map (λ v. v.name) us) in
    let names : List (List ℕ) = texts_of ns in
    names_are (with_use ns u) ms us h.1
    ∙ (ap (λ (xs : List (List ℕ)). xs ++ filter (unseen xs) rest) (names_with ns u (free ns u h.0))
    ∙ (ap (λ (xs : List (List ℕ)). with_name names u.name ++ xs) (left_out names u.name rest)
    ∙ behind names u.name (filter (λ other. not (bytes_eq other u.name)) rest))) where
      behind_by : (ns : List (List ℕ)) (name : List ℕ) (xs : List (List ℕ)) (b : Bool) → list_any (λ other. bytes_eq other name) ns ≡ b
          → with_name ns name ++ filter (unseen ns) xs ≡ ns ++ filter (unseen ns) (name ∷ xs)
      behind_by ns name xs true h = rw h refl
      behind_by ns name xs false h = rw h (append_assoc ns (name ∷ []) (filter (unseen ns) xs))

      behind : (ns : List (List ℕ)) (name : List ℕ) (xs : List (List ℕ)) → with_name ns name ++ filter (unseen ns) xs ≡ ns ++ filter (unseen ns) (name ∷ xs)
      behind ns name xs = behind_by ns name xs _ refl

all_unseen : (ms : List (List ℕ)) → filter (unseen []) ms ≡ ms
all_unseen [] = refl
all_unseen (m ∷ ms) = ap (λ (xs : List (List ℕ)). m ∷ xs) (all_unseen ms)

pub names_of_uses : (ms : List Named) (us : List Use) → gathered [] us ≡ Ok ms → texts_of ms ≡ distinct (map (λ u. u.name) us)
names_of_uses ms us e = names_are [] ms us e ∙ all_unseen (distinct (map (λ u. u.name) us))

-- ---- what is asked of them

-- so it is of some name of these that is this one
abbrev some_of : (Named → Bool) → List Named → List ℕ → Bool
some_of q ns name = list_any (λ n. bytes_eq n.name name && q n) ns

abbrev AreOwn : (Named → Bool) → List Named → List Named → Type 0
AreOwn q whole ns = EachOf (λ n. some_of q whole n.name ≡ q n) ns

none_of : (q : Named → Bool) (name : List ℕ) (ns : List Named) → IsOther name (texts_of ns) → some_of q ns name ≡ false
none_of q name [] o = refl
none_of q name (n ∷ ns) o = rw (apart n.name name o.0) (none_of q name ns o.1)

wider : (q : Named → Bool) (n : Named) (whole ns : List Named) → IsOther n.name (texts_of ns) → AreOwn q whole ns → AreOwn q (n ∷ whole) ns
wider q n whole [] o each = tt
wider q n whole (m ∷ ns) o each =
    (rw (apart n.name m.name (λ e. o.0 (sym e))) each.0, wider q n whole ns o.1 each.1)

own_all : (q : Named → Bool) (ns : List Named) → AreApart (texts_of ns) → AreOwn q ns ns
own_all q [] a = tt
own_all q (n ∷ ns) a =
    (rw (self n.name, none_of q n.name ns a.0) (or_no (q n)), wider q n ns ns a.0 (own_all q ns a.1))

abbrev whole_by : List ℕ → Tests
whole_by m name asks = bytes_eq name m && asks.whole

abbrev address_by : List ℕ → Tests
address_by m name asks = bytes_eq name m && asks.address

and_adds : (a b c : Bool) → (a && (b || c)) ≡ (a && b || a && c)
and_adds true b c = refl
and_adds false b c = refl

asked_of : (ms : List Named) (us : List Use) (name : List ℕ) → gathered [] us ≡ Ok ms
    → asks_in us name ≡ record { whole = some_of (λ n. n.asked.whole) ms name; address = some_of (λ n. n.asked.address) ms name }
asked_of ms us name e = λ i. record {
  whole = sym (some_gathered (whole_by name) (λ n a b. and_adds (bytes_eq n name) a.whole b.whole) [] ms us e) i;
  address = sym (some_gathered (address_by name) (λ n a b. and_adds (bytes_eq n name) a.address b.address) [] ms us e) i;
}

made_of : (us : List Use) (n : Named) → asks_in us n.name ≡ asks_view n.asked → field_of n ≡ made_field us n.name
made_of us n e = ap (λ (asks : Asks). let field : Field = record { name = n.name; kind = kind_for asks; at = n.name ∷ []; search = false; cased = false; many = false } in field) (sym e)

fields_made : (whole ns : List Named) (us : List Use) → gathered [] us ≡ Ok whole → AreOwn (λ n. n.asked.whole) whole ns → AreOwn (λ n. n.asked.address) whole ns
    → map field_of ns ≡ map (made_field us) (texts_of ns)
fields_made whole [] us e w a = refl
fields_made whole (n ∷ ns) us e w a =
    let asks : asks_in us n.name ≡ asks_view n.asked = asked_of whole us n.name e ∙ (λ i. record { whole = w.0 i; address = a.0 i }) in
    ap (λ (f : Field). f ∷ map field_of ns) (made_of us n asks)
    ∙ ap (λ (fs : List Field). made_field us n.name ∷ fs) (fields_made whole ns us e w.1 a.1)

pub are_made : (ms : List Named) (us : List Use) → gathered [] us ≡ Ok ms → AreMade us ms
are_made ms us e =
    let a : AreApart (texts_of ms) = apart_gathered [] ms us tt e in
    fields_made ms ms us e (own_all (λ n. n.asked.whole) ms a) (own_all (λ n. n.asked.address) ms a)
    ∙ ap (map (made_field us)) (names_of_uses ms us e)

-- ---- the uses of detections

joined : (xs ys : List Item) → flat_map item_uses (xs ++ ys) ≡ flat_map item_uses xs ++ flat_map item_uses ys
joined [] ys = refl
joined (x ∷ xs) ys = ap (λ (us : List Use). item_uses x ++ us) (joined xs ys) ∙ sym (append_assoc (item_uses x) (flat_map item_uses xs) (flat_map item_uses ys))

alternatives_uses : (xss : List (List Item)) → flat_map item_uses (flat_map (λ items. items) xss) ≡ flat_map alternative_uses xss
alternatives_uses [] = refl
alternatives_uses (xs ∷ xss) = joined xs (flat_map (λ items. items) xss) ∙ ap (λ (us : List Use). flat_map item_uses xs ++ us) (alternatives_uses xss)

pub detections_uses : (ds : List Detection) → flat_map detection_uses ds ≡ uses_of (items_of ds)
detections_uses [] = refl
detections_uses (d ∷ ds) =
    sym (joined (flat_map (λ items. items) d.alternatives) (items_of ds)
    ∙ (ap (λ (us : List Use). us ++ flat_map item_uses (items_of ds)) (alternatives_uses d.alternatives)
    ∙ ap (λ (us : List Use). detection_uses d ++ us) (sym (detections_uses ds))))

-- ---- what stands at the end

pub free_of_clashes : (ms : List Named) (us : List Use) → gathered [] us ≡ Ok ms → clash_behind [] us ≡ None
free_of_clashes ms us e = none_clash [] ms [] us tt (λ x. refl) e

pub has_clash : (r : Refusal) (us : List Use) → gathered [] us ≡ Err r → clash_behind [] us ≡ Some r
has_clash r us e = one_clash [] r [] us tt (λ x. refl) e

pub names_gathered : (ds : List Detection) (ms : List Named) → gathered [] (flat_map detection_uses ds) ≡ Ok ms
    → (clash_behind [] (uses_of (items_of ds)) ≡ None) × AreMade (uses_of (items_of ds)) ms
names_gathered ds ms e =
    let g = sym (ap (gathered []) (detections_uses ds)) ∙ e in
    (free_of_clashes ms (uses_of (items_of ds)) g, are_made ms (uses_of (items_of ds)) g)

-- a clash is handed on
pub clash_judged : {X : Type 0} (IsRead : X → Type 0) (result : Result X Fault) (e : Fault) (Q : Fault → Type 0) (ds : List Detection) (new : List Named)
    → IsErrAnd result Q → ((y : Fault) → Q y → y ≡ e) → Gathers (Err e) [] new (flat_map detection_uses ds) → Judged IsRead (clash_behind [] (uses_of (items_of ds))) result
clash_judged IsRead (Ok x) e Q ds new h q g = absurd h
clash_judged IsRead (Err y) Memory Q ds new h q g = subst (λ (z : Fault). Judged IsRead (clash_behind [] (uses_of (items_of ds))) (Err z)) (sym (q y h)) tt
clash_judged IsRead (Err y) (Refused r) Q ds new h q g =
    subst (λ (z : Fault). Judged IsRead (clash_behind [] (uses_of (items_of ds))) (Err z)) (sym (q y h))
    (has_clash r (uses_of (items_of ds)) (sym (ap (gathered []) (detections_uses ds)) ∙ g))
