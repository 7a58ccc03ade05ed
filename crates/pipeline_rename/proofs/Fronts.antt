-- Entries that are found by the number of their text.
use Rattle.std.proofs.Common.{ℕ, zero, suc, ◌+◌, ◌<◌, ◌≤◌, min, length, get_or, ◌≡◌, Bool, true, false, not, cond, nat_lt, List, [], ◌∷◌, ◌++◌, refl, sym, subst, ap, ◌∙◌, append-nil, append_assoc}
use native.Mathlib.Omega.{arith}
use Rattle.std.specs.Prelude.{Option, Some, None, if◌then◌else◌, ◌&&◌, ◌||◌, ◌==◌, drop}
use Rattle.std.specs.List.{position, position_or_len}
use Rattle.std.specs.Str.{bytes_eq}
use Rattle.std.proofs.lemmas.Bool.{ltb-true, ltb-false, lt-ltb, le-ltb}
use Rattle.std.proofs.lemmas.List.{length-map}
use Rattle.pipeline_model.specs.declared.step.Pair.{Pair}
use Rattle.pipeline_rename.specs.Names.{begins, each_before, mapped, prefixed}
use Rattle.pipeline_rename.specs.Made.{keys_of, sooner}

-- ---- the first place at which a test passes

number_of : (b : Bool) (n m len : ℕ) → nat_lt m len ≡ b → Some n ≡ cond b (Some m) None → (m < len) × (n ≡ m)
number_of true n m len e same = (ltb-true m len e, cc)
number_of false n m len e same = absurd cc

no_number : (b : Bool) (m len : ℕ) → nat_lt m len ≡ b → None ≡ cond b (Some m) None → len ≤ m
no_number true m len e none = absurd cc
no_number false m len e none = ltb-false m len e

-- entries are found by their texts
entry_place : (p : List ℕ → Bool) (pairs : List Pair) → position_or_len (λ (pair : Pair). p pair.from) pairs ≡ position_or_len p (keys_of pairs)
entry_place p [] = refl
entry_place p (pair ∷ pairs) = ap (λ (n : ℕ). cond (not (p pair.from)) (1 + n) 0) (entry_place p pairs)

pub entry_position : (p : List ℕ → Bool) (pairs : List Pair) → position (λ (pair : Pair). p pair.from) pairs ≡ position p (keys_of pairs)
entry_position p pairs =
    ap (λ (n : ℕ). cond (nat_lt n (length pairs)) (Some n) None) (entry_place p pairs)
    ∙ ap (λ (len : ℕ). cond (nat_lt (position_or_len p (keys_of pairs)) len) (Some (position_or_len p (keys_of pairs))) None) (sym (length-map pairs (λ pair. pair.from)))

-- Of several entries the first whose text passes the test decides.
module _ (p : List ℕ → Bool) (made : Pair → List (List ℕ)) (other : List (List ℕ)) where
  abbrev decided : List Pair → List (List ℕ)
  decided [] = other
  decided (pair ∷ pairs) = if p pair.from then made pair else decided pairs

  decided_at : (pairs : List Pair) (d : Pair) → position_or_len p (keys_of pairs) < length pairs → decided pairs ≡ made (get_or pairs (position_or_len p (keys_of pairs)) d)
  decided_at [] d inside = absurd (let h : 0 < 0 = inside in omega arith)
  decided_at (pair ∷ pairs) d inside = by (p pair.from) (decided_at pairs d) inside
    where
      by : (b : Bool) → (position_or_len p (keys_of pairs) < length pairs → decided pairs ≡ made (get_or pairs (position_or_len p (keys_of pairs)) d))
          → cond (not b) (1 + position_or_len p (keys_of pairs)) 0 < suc (length pairs)
          → (if b then made pair else decided pairs) ≡ made (get_or (pair ∷ pairs) (cond (not b) (1 + position_or_len p (keys_of pairs)) 0) d)
      by true rest inside = refl
      by false rest inside =
          let e : 1 + position_or_len p (keys_of pairs) ≡ suc (position_or_len p (keys_of pairs)) = omega arith in
          rest (omega (arith, inside)) ∙ ap (λ (m : ℕ). made (get_or (pair ∷ pairs) m d)) (sym e)

  undecided : (pairs : List Pair) → length pairs ≤ position_or_len p (keys_of pairs) → decided pairs ≡ other
  undecided [] long = refl
  undecided (pair ∷ pairs) long = by (p pair.from) (undecided pairs) long
    where
      by : (b : Bool) → (length pairs ≤ position_or_len p (keys_of pairs) → decided pairs ≡ other)
          → suc (length pairs) ≤ cond (not b) (1 + position_or_len p (keys_of pairs)) 0 → (if b then made pair else decided pairs) ≡ other
      by true rest long = absurd (let h : suc (length pairs) ≤ 0 = long in omega arith)
      by false rest long = rest (omega (arith, long))

  within : (pairs : List Pair) (texts : List (List ℕ)) (n : ℕ) → texts ≡ keys_of pairs → Some n ≡ position p texts
      → (n < length pairs) × (n ≡ position_or_len p (keys_of pairs))
  within pairs texts n same is =
      let at : Some n ≡ position p (keys_of pairs) = is ∙ ap (position p) same in
      let found = number_of (nat_lt (position_or_len p (keys_of pairs)) (length (keys_of pairs))) n (position_or_len p (keys_of pairs)) (length (keys_of pairs)) refl at in
      let long : length (keys_of pairs) ≡ length pairs = length-map pairs (λ pair. pair.from) in
      (omega (arith, found.0, found.1, long), found.1)

  found_entry : (pairs : List Pair) (texts : List (List ℕ)) (n : ℕ) (d : Pair) → texts ≡ keys_of pairs → Some n ≡ position p texts → decided pairs ≡ made (get_or pairs n d)
  found_entry pairs texts n d same is =
      let found = within pairs texts n same is in
      decided_at pairs d (subst (λ (m : ℕ). m < length pairs) found.1 found.0) ∙ ap (λ (m : ℕ). made (get_or pairs m d)) (sym found.1)

  no_entry : (pairs : List Pair) (texts : List (List ℕ)) → texts ≡ keys_of pairs → None ≡ position p texts → decided pairs ≡ other
  no_entry pairs texts same is =
      let at : None ≡ position p (keys_of pairs) = is ∙ ap (position p) same in
      let long : length (keys_of pairs) ≡ length pairs = length-map pairs (λ pair. pair.from) in
      undecided pairs (omega (arith, long, no_number (nat_lt (position_or_len p (keys_of pairs)) (length (keys_of pairs))) (position_or_len p (keys_of pairs)) (length (keys_of pairs)) refl at))

-- ---- a name with an entry

abbrev targets_of : Pair → List (List ℕ)
targets_of pair = pair.to

mapped_decided : (pairs : List Pair) (name : List ℕ) → mapped pairs name ≡ decided (λ from. bytes_eq from name) targets_of (name ∷ []) pairs
mapped_decided [] name = refl
mapped_decided (pair ∷ pairs) name = ap (λ (rest : List (List ℕ)). if bytes_eq pair.from name then pair.to else rest) (mapped_decided pairs name)

pub mapped_within : (pairs : List Pair) (texts : List (List ℕ)) (name : List ℕ) (n : ℕ) → texts ≡ keys_of pairs → Some n ≡ position (λ t. bytes_eq t name) texts → n < length pairs
mapped_within pairs texts name n same is = (within (λ from. bytes_eq from name) targets_of (name ∷ []) pairs texts n same is).0

pub mapped_found : (pairs : List Pair) (texts : List (List ℕ)) (name : List ℕ) (n : ℕ) (d : Pair) → texts ≡ keys_of pairs → Some n ≡ position (λ t. bytes_eq t name) texts
    → mapped pairs name ≡ (get_or pairs n d).to
mapped_found pairs texts name n d same is = mapped_decided pairs name ∙ found_entry (λ from. bytes_eq from name) targets_of (name ∷ []) pairs texts n d same is

pub mapped_missing : (pairs : List Pair) (texts : List (List ℕ)) (name : List ℕ) → texts ≡ keys_of pairs → None ≡ position (λ t. bytes_eq t name) texts → mapped pairs name ≡ name ∷ []
mapped_missing pairs texts name same is = mapped_decided pairs name ∙ no_entry (λ from. bytes_eq from name) targets_of (name ∷ []) pairs texts same is

-- ---- a name that an entry begins

abbrev fronts_of : List ℕ → Pair → List (List ℕ)
fronts_of name pair = each_before pair.to (drop (length pair.from) name)

prefixed_decided : (pairs : List Pair) (name : List ℕ) → prefixed pairs name ≡ decided (λ from. begins from name) (fronts_of name) (name ∷ []) pairs
prefixed_decided [] name = refl
prefixed_decided (pair ∷ pairs) name = ap (λ (rest : List (List ℕ)). if begins pair.from name then fronts_of name pair else rest) (prefixed_decided pairs name)

pub prefixed_within : (pairs : List Pair) (texts : List (List ℕ)) (name : List ℕ) (n : ℕ) → texts ≡ keys_of pairs → Some n ≡ position (λ from. begins from name) texts → n < length pairs
prefixed_within pairs texts name n same is = (within (λ from. begins from name) (fronts_of name) (name ∷ []) pairs texts n same is).0

pub prefixed_found : (pairs : List Pair) (texts : List (List ℕ)) (name : List ℕ) (n : ℕ) (pair : Pair) → texts ≡ keys_of pairs → Some n ≡ position (λ from. begins from name) texts
    → pair ≡ get_or pairs n pair → prefixed pairs name ≡ each_before pair.to (drop (length pair.from) name)
prefixed_found pairs texts name n pair same is at =
    prefixed_decided pairs name ∙ (found_entry (λ from. begins from name) (fronts_of name) (name ∷ []) pairs texts n pair same is ∙ ap (fronts_of name) (sym at))

pub prefixed_missing : (pairs : List Pair) (texts : List (List ℕ)) (name : List ℕ) → texts ≡ keys_of pairs → None ≡ position (λ from. begins from name) texts → prefixed pairs name ≡ name ∷ []
prefixed_missing pairs texts name same is = prefixed_decided pairs name ∙ no_entry (λ from. begins from name) (fronts_of name) (name ∷ []) pairs texts same is

-- nothing behind a text is that text
pub each_alone : (prefixes : List (List ℕ)) → each_before prefixes [] ≡ prefixes
each_alone [] = refl
each_alone (f ∷ fs) = ap (λ (x : List ℕ). x ∷ each_before fs []) (append-nil f) ∙ ap (λ (xs : List (List ℕ)). f ∷ xs) (each_alone fs)

-- ---- the prefixes of a name, one after another

-- the smaller place of two tests is that of either
either_place : (p q : List ℕ → Bool) (xs : List (List ℕ)) → position_or_len (λ x. p x || q x) xs ≡ min (position_or_len p xs) (position_or_len q xs)
either_place p q [] = refl
either_place p q (x ∷ xs) = by (p x) (q x) (either_place p q xs)
  where
    by : (b c : Bool) → position_or_len (λ x. p x || q x) xs ≡ min (position_or_len p xs) (position_or_len q xs)
        → cond (not (b || c)) (1 + position_or_len (λ x. p x || q x) xs) 0 ≡ min (cond (not b) (1 + position_or_len p xs) 0) (cond (not c) (1 + position_or_len q xs) 0)
    by true true rest = omega arith
    by true false rest = omega arith
    by false true rest = omega arith
    by false false rest = omega (arith, rest)

places_join : (a b len : ℕ) → cond (nat_lt (min a b) len) (Some (min a b)) None ≡ sooner (cond (nat_lt a len) (Some a) None) (cond (nat_lt b len) (Some b) None)
places_join a b len = by (nat_lt a len) (nat_lt b len) refl refl
  where
    by : (x y : Bool) → nat_lt a len ≡ x → nat_lt b len ≡ y → cond (nat_lt (min a b) len) (Some (min a b)) None ≡ sooner (cond x (Some a) None) (cond y (Some b) None)
    by true true e f =
        let h : a < len = ltb-true a len e in ap (λ (t : Bool). cond t (Some (min a b)) None) (lt-ltb (min a b) len (omega (arith, h)))
    by true false e f =
        let h : a < len = ltb-true a len e in
        let k : len ≤ b = ltb-false b len f in
        let m : min a b ≡ a = omega (arith, h, k) in
        ap (λ (n : ℕ). cond (nat_lt n len) (Some n) None) m ∙ ap (λ (t : Bool). cond t (Some a) None) e
    by false true e f =
        let h : len ≤ a = ltb-false a len e in
        let k : b < len = ltb-true b len f in
        let m : min a b ≡ b = omega (arith, h, k) in
        ap (λ (n : ℕ). cond (nat_lt n len) (Some n) None) m ∙ ap (λ (t : Bool). cond t (Some b) None) f
    by false false e f =
        let h : len ≤ a = ltb-false a len e in
        let k : len ≤ b = ltb-false b len f in
        ap (λ (t : Bool). cond t (Some (min a b)) None) (le-ltb (min a b) len (omega (arith, h, k)))

same_place : (p q : List ℕ → Bool) → ((x : List ℕ) → p x ≡ q x) → (xs : List (List ℕ)) → position_or_len p xs ≡ position_or_len q xs
same_place p q same [] = refl
same_place p q same (x ∷ xs) = ap (λ (b : Bool). cond (not b) (1 + position_or_len p xs) 0) (same x) ∙ ap (λ (n : ℕ). cond (not (q x)) (1 + n) 0) (same_place p q same xs)

same_position : (p q : List ℕ → Bool) → ((x : List ℕ) → p x ≡ q x) → (xs : List (List ℕ)) → position p xs ≡ position q xs
same_position p q same xs = ap (λ (n : ℕ). cond (nat_lt n (length xs)) (Some n) None) (same_place p q same xs)

either_position : (p q : List ℕ → Bool) (xs : List (List ℕ)) → position (λ x. p x || q x) xs ≡ sooner (position p xs) (position q xs)
either_position p q xs =
    ap (λ (n : ℕ). cond (nat_lt n (length xs)) (Some n) None) (either_place p q xs) ∙ places_join (position_or_len p xs) (position_or_len q xs) (length xs)

begins_nothing : (from : List ℕ) → begins from [] ≡ bytes_eq from []
begins_nothing [] = refl
begins_nothing (c ∷ cs) = refl

both_or : (a b c : Bool) → (a && (b || c)) ≡ ((a && b) || (a && c))
both_or true b c = refl
both_or false b c = refl

begins_more : (from front : List ℕ) (c : ℕ) → begins from (front ++ c ∷ []) ≡ (begins from front || bytes_eq from (front ++ c ∷ []))
begins_more [] front c = refl
begins_more (d ∷ ds) [] c = ap (λ (b : Bool). (d == c) && b) (begins_nothing ds)
begins_more (d ∷ ds) (f ∷ fs) c = ap (λ (b : Bool). (d == f) && b) (begins_more ds fs c) ∙ both_or (d == f) (begins ds fs) (bytes_eq ds (fs ++ c ∷ []))

pub none_begun : (texts : List (List ℕ)) → position (λ t. bytes_eq t []) texts ≡ position (λ from. begins from []) texts
none_begun texts = same_position (λ t. bytes_eq t []) (λ from. begins from []) (λ from. sym (begins_nothing from)) texts

-- a text that begins the longer front begins the shorter one, or is the longer one
pub begun_more : (texts : List (List ℕ)) (front new : List ℕ) (c : ℕ) (found other : Option ℕ) → found ≡ position (λ from. begins from front) texts
    → other ≡ position (λ t. bytes_eq t new) texts → new ≡ front ++ c ∷ [] → sooner found other ≡ position (λ from. begins from new) texts
begun_more texts front new c found other before here is =
    ap (λ (o : Option ℕ). sooner o other) before ∙ (ap (sooner (position (λ from. begins from front) texts)) here
    ∙ (sym (either_position (λ from. begins from front) (λ t. bytes_eq t new) texts)
    ∙ same_position (λ x. begins x front || bytes_eq x new) (λ from. begins from new)
    (λ x. subst (λ (t : List ℕ). (begins x front || bytes_eq x t) ≡ begins x t) (sym is) (sym (begins_more x front c))) texts))

pub begun_first : (texts : List (List ℕ)) (front : List ℕ) (found : Option ℕ) → front ≡ [] → found ≡ position (λ t. bytes_eq t front) texts
    → found ≡ position (λ from. begins from front) texts
begun_first texts front found empty is =
    subst (λ (f : List ℕ). found ≡ position (λ from. begins from f) texts) (sym empty)
    (is ∙ (ap (λ (f : List ℕ). position (λ t. bytes_eq t f) texts) empty ∙ none_begun texts))

pub passed_on : (front rest name : List ℕ) (c : ℕ) (new left : List ℕ) → front ++ left ≡ name → left ≡ c ∷ rest → new ≡ front ++ c ∷ [] → new ++ rest ≡ name
passed_on front rest name c new left all is grown =
    ap (λ (t : List ℕ). t ++ rest) grown ∙ (append_assoc front (c ∷ []) rest ∙ (ap (λ (t : List ℕ). front ++ t) (sym is) ∙ all))

pub front_whole : (front left name : List ℕ) → front ++ left ≡ name → left ≡ [] → front ≡ name
front_whole front left name all empty = sym (append-nil front) ∙ (ap (λ (t : List ℕ). front ++ t) (sym empty) ∙ all)

-- a text that isn't at its end doesn't begin one that is
pub begun_short : (passed left more : List ℕ) (c : ℕ) (all : Bool) → passed ≡ c ∷ more → left ≡ [] → begins passed left ≡ all → false ≡ all
begun_short passed left more c all is empty same =
    sym (ap (λ (t : List ℕ). begins t left) is ∙ ap (λ (t : List ℕ). begins (c ∷ more) t) empty) ∙ same

pub begun_whole : (passed left : List ℕ) (all : Bool) → passed ≡ [] → begins passed left ≡ all → true ≡ all
begun_whole passed left all empty same = sym (ap (λ (t : List ℕ). begins t left) empty) ∙ same

-- with nothing left of a text, nothing is passed
pub dropped_end : (n : ℕ) (left all : List ℕ) → left ≡ [] → drop n left ≡ all → left ≡ all
dropped_end zero left all empty same = same
dropped_end (suc n) left all empty same = subst (λ (t : List ℕ). drop (suc n) t ≡ all → t ≡ all) (sym empty) (λ h. h) same

pub dropped_all : (passed left all : List ℕ) → passed ≡ [] → drop (length passed) left ≡ all → left ≡ all
dropped_all passed left all empty same = ap (λ (t : List ℕ). drop (length t) left) (sym empty) ∙ same
