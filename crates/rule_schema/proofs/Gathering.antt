-- Names that are found again by their folded texts.
use Rattle.std.proofs.Common.{ℕ, suc, ◌+◌, ◌<◌, length, drop, get_or, set, map, ◌≡◌, Bool, true, false, not, cond, nat_lt, ◌||◌, ◌⊎◌, inl, inr, List, [], ◌∷◌, ◌++◌, Option, Some, None, refl, sym, subst, ap, ◌∙◌, arith}
use Rattle.std.specs.Prelude.{if◌then◌else◌, Ok, Err, OnOk, IfErr, encode_utf8_all, String}
use Rattle.std.specs.BTreeMap.{BTreeMap, get_by_text}
use Rattle.std.proofs.Math.Seq.{map-set_same}
use Rattle.std.proofs.lemmas.Bool.{lt-ltb, ltb-true, or_right, cases_Bool}
use Rattle.std.proofs.lemmas.List.{drop_more, map-append}
use Rattle.std.proofs.lemmas.Option.{none-some}
use Rattle.std.proofs.lemmas.Slice.Eq.{bytes_eq-Decides}
use Rattle.std.proofs.lemmas.Str.{chars-nil}
use Rattle.std.specs.List.{flat_map, position, position_or_len}
use Rattle.std.specs.Result.{IsErrAnd}
use Rattle.std.specs.Str.{bytes_eq, all_scalars, chars}
use Rattle.std.specs.declared.result.Result.{Result}
use Rattle.sig_base.specs.Folding.{folded}
use Rattle.sig_base.specs.Judged.{refusal}
use Rattle.sig_base.specs.declared.refusal.Fault.{Fault}
use Rattle.sig_base.specs.declared.refusal.Fault.TheVariants.{Memory, Refused}
use Rattle.sig_base.specs.declared.refusal.Refusal.{Refusal}
use Rattle.sig_base.proofs.Firsts.{from_error}
use Rattle.text_index.proofs.Indexing.{same_bytes}
use Rattle.sig_base.specs.declared.refusal.Place.{Place}
use Rattle.rule_detections.specs.References.{references_in}
use Rattle.rule_detections.specs.declared.test.Test.{Test}
use Rattle.rule_detections.specs.declared.item.Item.{Item}
use Rattle.rule_schema.specs.Compared.{test_names, value_names}
use Rattle.rule_schema.specs.Gathered.{AreFound, Gathers, use_of, texts_of, folds_to, next_place, place_of, differs, clash_with, joined, named, with_use, gathered, value_uses}
use Rattle.rule_schema.specs.Inferred.{Use, item_uses}
use Rattle.rule_schema.specs.Kinds.{Asks, nothing_asked, asks_of, opposed, names_in}
use Rattle.rule_schema.specs.declared.names.Named.{Named}
use Rattle.rule_schema.proofs.Compared.{names_compared}

pub choose : {A : Type 0} (b : Bool) (x y z : A) → cond b x y ≡ z → ((b ≡ true) × (x ≡ z)) ⊎ ((b ≡ false) × (y ≡ z))
choose true x y z e = inl (refl, e)
choose false x y z e = inr (refl, e)

some_same : (m n : ℕ) → Some m ≡ Some n → m ≡ n
some_same m n e = cc

true_false : true ≡ false → ⊥
true_false e = cc

same : (a b : List ℕ) → bytes_eq a b ≡ true → a ≡ b
same a b e = (bytes_eq-Decides a b).0 e

-- ---- where a name stands

pub position_place : (t : List ℕ) (ns : List Named) → position (λ n. folds_to t n.name) ns ≡ place_of t (texts_of ns)
position_place t [] = refl
position_place t (n ∷ ns) =
    let p : Named → Bool = λ m. folds_to t m.name in
    one (p n) (position_or_len p ns) (length ns)
    ∙ ap (λ (o : Option ℕ). if p n then Some 0 else next_place o) (position_place t ns) where
      later : (a b : Bool) (m : ℕ) → a ≡ b → cond a (Some (1 + m)) None ≡ next_place (cond b (Some m) None)
      later true true m e = ap (λ (k : ℕ). Some k) (omega arith)
      later true false m e = absurd (true_false e)
      later false true m e = absurd (true_false (sym e))
      later false false m e = refl

      less : (m k : ℕ) → nat_lt (1 + m) (suc k) ≡ nat_lt m k
      less m k = elim (cases_Bool (nat_lt m k)) [
        | inl h ↦ let lt : m < k = ltb-true m k h in lt-ltb (1 + m) (suc k) (omega (arith, lt)) ∙ sym h
        | inr h ↦ elim (cases_Bool (nat_lt (1 + m) (suc k))) [
          | inl j ↦ let lt : 1 + m < suc k = ltb-true (1 + m) (suc k) j in absurd (true_false (sym (lt-ltb m k (omega (arith, lt))) ∙ h))
          | inr j ↦ j ∙ sym h
        ]
      ]

      one : (b : Bool) (m k : ℕ) → cond (nat_lt (cond (not b) (1 + m) 0) (suc k)) (Some (cond (not b) (1 + m) 0)) None ≡ (if b then Some 0 else next_place (cond (nat_lt m k) (Some m) None))
      one true m k = ap (λ (b : Bool). cond b (Some 0) None) (lt-ltb 0 (suc k) (omega arith))
      one false m k = later (nat_lt (1 + m) (suc k)) (nat_lt m k) m (less m k)

next_some : (o : Option ℕ) (at : ℕ) → next_place o ≡ Some at → (k : ℕ) × (o ≡ Some k) × (suc k ≡ at)
next_some None at e = absurd (none-some at e)
next_some (Some k) at e = (k, refl, some_same (suc k) at e)

next_none : (o : Option ℕ) → next_place o ≡ None → o ≡ None
next_none None e = refl
next_none (Some k) e = absurd (none-some (suc k) (sym e))

-- ---- a name that none of the others is

pub new_name : (ns : List Named) (u : Use) → place_of (folded u.name) (texts_of ns) ≡ None → (clash_with ns u ≡ false) × (with_use ns u ≡ ns ++ named u ∷ [])
new_name [] u e = (refl, refl)
new_name (n ∷ ns) u e =
    elim (choose (folds_to (folded u.name) n.name) (Some 0) (next_place (place_of (folded u.name) (texts_of ns))) None e) [
      | inl h ↦ absurd (none-some 0 (sym h.1))
      | inr h ↦
          let rest = new_name ns u (next_none (place_of (folded u.name) (texts_of ns)) h.1) in
          (rw h.0 rest.0, rw h.0 (ap (λ (ms : List Named). n ∷ ms) rest.1))
    ]

pub gathers_adds : (ns : List Named) (u : Use) → opposed u.asks u.asks ≡ false → place_of (folded u.name) (texts_of ns) ≡ None → gathered ns (u ∷ []) ≡ Ok (ns ++ named u ∷ [])
gathers_adds ns u o e = let new = new_name ns u e in rw (o, new.0, new.1) refl

-- ---- a name that is found

pub found_within : (t : List ℕ) (ns : List Named) (at : ℕ) → place_of t (texts_of ns) ≡ Some at → at < length ns
found_within t [] at e = absurd (none-some at e)
found_within t (n ∷ ns) at e =
    elim (choose (folds_to t n.name) (Some 0) (next_place (place_of t (texts_of ns))) (Some at) e) [
      | inl h ↦ let is = some_same 0 at h.1 in omega (arith, is)
      | inr h ↦
          let k = next_some (place_of t (texts_of ns)) at h.1 in
          let less = found_within t ns k.0 k.1 in
          let is = k.2 in omega (arith, less, is)
    ]

found_clash : (ns : List Named) (u : Use) (at : ℕ) (d : Named) → place_of (folded u.name) (texts_of ns) ≡ Some at → clash_with ns u ≡ differs (get_or ns at d) u
found_clash [] u at d e = absurd (none-some at e)
found_clash (n ∷ ns) u at d e =
    elim (choose (folds_to (folded u.name) n.name) (Some 0) (next_place (place_of (folded u.name) (texts_of ns))) (Some at) e) [
      | inl h ↦ subst (λ (k : ℕ). clash_with (n ∷ ns) u ≡ differs (get_or (n ∷ ns) k d) u) (some_same 0 at h.1) (rw h.0 refl)
      | inr h ↦
          let k = next_some (place_of (folded u.name) (texts_of ns)) at h.1 in
          subst (λ (j : ℕ). clash_with (n ∷ ns) u ≡ differs (get_or (n ∷ ns) j d) u) k.2 (rw h.0 (found_clash ns u k.0 d k.1))
    ]

found_with : (ns : List Named) (u : Use) (at : ℕ) (d : Named) → place_of (folded u.name) (texts_of ns) ≡ Some at → with_use ns u ≡ set ns at (joined (get_or ns at d) u.asks)
found_with [] u at d e = absurd (none-some at e)
found_with (n ∷ ns) u at d e =
    elim (choose (folds_to (folded u.name) n.name) (Some 0) (next_place (place_of (folded u.name) (texts_of ns))) (Some at) e) [
      | inl h ↦ subst (λ (k : ℕ). with_use (n ∷ ns) u ≡ set (n ∷ ns) k (joined (get_or (n ∷ ns) k d) u.asks)) (some_same 0 at h.1) (rw h.0 refl)
      | inr h ↦
          let k = next_some (place_of (folded u.name) (texts_of ns)) at h.1 in
          subst (λ (j : ℕ). with_use (n ∷ ns) u ≡ set (n ∷ ns) j (joined (get_or (n ∷ ns) j d) u.asks)) k.2
          (rw h.0 (ap (λ (ms : List Named). n ∷ ms) (found_with ns u k.0 d k.1)))
    ]

pub gathers_clash : (ns : List Named) (u : Use) (at : ℕ) (n : Named) → place_of (folded u.name) (texts_of ns) ≡ Some at → n ≡ get_or ns at n → differs n u ≡ true
    → gathered ns (u ∷ []) ≡ Err (refusal 80 u.place)
gathers_clash ns u at n e is d =
    let clash : clash_with ns u ≡ true = found_clash ns u at n e ∙ (sym (ap (λ (m : Named). differs m u) is) ∙ d) in
    ap (λ (b : Bool). if b then Err (refusal 80 u.place) else Ok (with_use ns u)) (or_right (opposed u.asks u.asks) (clash_with ns u) clash)

-- a clash is what is answered
pub clash_gathers : (ns new : List Named) (u : Use) (e : Fault) → e ≡ Refused (refusal 80 u.place) → gathered ns (u ∷ []) ≡ Err (refusal 80 u.place) → Gathers (Err e) ns new (u ∷ [])
clash_gathers ns new u e is h = subst (λ (f : Fault). Gathers (Err f) ns new (u ∷ [])) (sym is) h

-- a name is added, or memory is wanted
pub adds_gathers : (result : Result (Unit {0}) Fault) (ns new : List Named) (u : Use) → opposed u.asks u.asks ≡ false → place_of (folded u.name) (texts_of ns) ≡ None
    → OnOk result (new ≡ ns ++ named u ∷ []) → IfErr result (λ e. e ≡ Memory) → Gathers result ns new (u ∷ [])
adds_gathers (Ok x) ns new u o e added err = gathers_adds ns u o e ∙ ap Ok (sym added)
adds_gathers (Err f) ns new u o e added err = subst (λ (g : Fault). Gathers (Err g) ns new (u ∷ [])) (sym err) tt

pub gathers_joins : (ns ms : List Named) (u : Use) (at : ℕ) (n k m : Named) → opposed u.asks u.asks ≡ false → place_of (folded u.name) (texts_of ns) ≡ Some at → n ≡ get_or ns at n
    → differs n u ≡ false → k ≡ get_or ns at k → m ≡ joined k u.asks → ms ≡ set ns at m → gathered ns (u ∷ []) ≡ Ok ms
gathers_joins ns ms u at n k m o e is d same j s =
    let free : clash_with ns u ≡ false = found_clash ns u at n e ∙ (sym (ap (λ (x : Named). differs x u) is) ∙ d) in
    let made : with_use ns u ≡ ms = found_with ns u at k e ∙ (ap (λ (x : Named). set ns at (joined x u.asks)) (sym same) ∙ (ap (set ns at) (sym j) ∙ sym s)) in
    rw (o, free, made) refl

-- the names' texts stay
pub joined_found : {Y : Type 0} (ns ms : List Named) (asks : Asks) (at : ℕ) (n m : Named) (index : BTreeMap (String Y) ℕ) (indexed : Bool) → n ≡ get_or ns at n → m ≡ joined n asks
    → ms ≡ set ns at m → AreFound (texts_of ns) index indexed → AreFound (texts_of ms) index indexed
joined_found ns ms asks at n m index indexed is j s =
    subst (λ (texts : List (List ℕ)). AreFound texts index indexed)
    (sym (ap texts_of s ∙ map-set_same (λ (k : Named). k.name) ns at m n (ap (λ (k : Named). k.name) j ∙ ap (λ (k : Named). k.name) is)))

-- ---- a name behind the others

last_placed : (t : List ℕ) (names : List (List ℕ)) (name : List ℕ) → place_of t names ≡ None → folds_to t name ≡ true → place_of t (names ++ name ∷ []) ≡ Some (length names)
last_placed t [] name e f = rw f refl
last_placed t (n ∷ names) name e f =
    elim (choose (folds_to t n) (Some 0) (next_place (place_of t names)) None e) [
      | inl h ↦ absurd (none-some 0 (sym h.1))
      | inr h ↦ rw h.0 (ap next_place (last_placed t names name (next_none (place_of t names) h.1) f))
    ]

not_placed : (t : List ℕ) (names : List (List ℕ)) (name : List ℕ) → folds_to t name ≡ false → place_of t (names ++ name ∷ []) ≡ place_of t names
not_placed t [] name f = rw f refl
not_placed t (n ∷ names) name f = ap (λ (o : Option ℕ). if folds_to t n then Some 0 else next_place o) (not_placed t names name f)

placed_and : (names : List (List ℕ)) (name text : List ℕ) (old new : Option ℕ) → place_of (folded name) names ≡ None → old ≡ place_of text names
    → new ≡ (if bytes_eq (folded name) text then Some (length names) else old) → new ≡ place_of text (names ++ name ∷ [])
placed_and names name text old new e o n =
    elim (cases_Bool (bytes_eq (folded name) text)) [
      | inl t ↦
          let none : place_of text names ≡ None = ap (λ (x : List ℕ). place_of x names) (sym (same (folded name) text t)) ∙ e in
          n ∙ (rw t refl ∙ sym (last_placed text names name none t))
      | inr f ↦ n ∙ (rw f refl ∙ (o ∙ sym (not_placed text names name f)))
    ]

-- one more name, whose place is looked up
pub found_more : {Y : Type 0} (ns items : List Named) (n : Named) (name key : List ℕ) (count : ℕ) (old new : BTreeMap (String Y) ℕ) (indexed : Bool)
    → AreFound (texts_of ns) old indexed → place_of (folded name) (texts_of ns) ≡ None → all_scalars (folded name) ≡ true → key ≡ encode_utf8_all (folded name) → n.name ≡ name
    → items ≡ ns ++ n ∷ [] → count ≡ length ns
    → ((text : List ℕ) → get_by_text new (encode_utf8_all text) ≡ (if bytes_eq key (encode_utf8_all text) then Some count else get_by_text old (encode_utf8_all text)))
    → AreFound (texts_of items) new indexed
found_more ns items n name key count old new indexed g e s k o i c updated = λ is text u.
    placed_and (texts_of ns) name text (get_by_text old (encode_utf8_all text)) (get_by_text new (encode_utf8_all text)) e (g is text u)
    (updated text
    ∙ (ap (λ (m : ℕ). if bytes_eq key (encode_utf8_all text) then Some m else get_by_text old (encode_utf8_all text)) (c ∙ sym (as_many ns))
    ∙ (ap (λ (bs : List ℕ). if bytes_eq bs (encode_utf8_all text) then Some (length (texts_of ns)) else get_by_text old (encode_utf8_all text)) k
    ∙ ap (λ (b : Bool). if b then Some (length (texts_of ns)) else get_by_text old (encode_utf8_all text)) (same_bytes (folded name) text s u))))
    ∙ ap (place_of text) (sym all) where
      as_many : (ms : List Named) → length (texts_of ms) ≡ length ms
      as_many [] = refl
      as_many (m ∷ ms) = ap suc (as_many ms)

      all : texts_of items ≡ texts_of ns ++ name ∷ []
      all = ap texts_of i ∙ (map-append (λ (m : Named). m.name) ns (n ∷ []) ∙ ap (λ (x : List ℕ). texts_of ns ++ x ∷ []) o)

-- names that aren't indexed needn't be found
pub found_unasked : {Y : Type 0} (names : List (List ℕ)) (index : BTreeMap (String Y) ℕ) (indexed : Bool) → indexed ≡ false → AreFound names index indexed
found_unasked names index indexed f = λ t. absurd (true_false (sym t ∙ f))

-- ---- texts

-- whether a text has characters, and whether one is alike where the other has fewer
pub more_left : (text rest : List ℕ) (c : ℕ) → chars text ≡ c ∷ rest → false ≡ bytes_eq [] (folded (chars text))
more_left text rest c e = rw e refl

pub none_left : (text : List ℕ) → text ≡ [] → true ≡ bytes_eq [] (folded (chars text))
none_left text e = sym (ap (λ (t : List ℕ). bytes_eq [] (folded t)) (ap chars e ∙ chars-nil))

pub shorter : (left right rest : List ℕ) (c : ℕ) (whole : Bool) → left ≡ c ∷ rest → right ≡ [] → bytes_eq (folded left) (folded right) ≡ whole → false ≡ whole
shorter left right rest c whole l r inv =
    sym (ap (λ (t : List ℕ). bytes_eq (folded t) (folded right)) l ∙ ap (λ (t : List ℕ). bytes_eq (folded (c ∷ rest)) (folded t)) r) ∙ inv

-- ---- lists of uses, one behind the other

ok_same : (x y : List Named) → ((let r : Result (List Named) Refusal = Ok x in r) ≡ Ok y) → x ≡ y
ok_same x y e = cc

err_ok : (x : Refusal) (y : List Named) → ((let r : Result (List Named) Refusal = Err x in r) ≡ Ok y) → ⊥
err_ok x y e = cc

-- no use clashes with the names
abbrev pub clash : List Named → Use → Bool
clash ns u = opposed u.asks u.asks || clash_with ns u

pub then_gathered : (ns ms : List Named) (a b : List Use) → gathered ns a ≡ Ok ms → gathered ns (a ++ b) ≡ gathered ms b
then_gathered ns ms [] b e = ap (λ (x : List Named). gathered x b) (ok_same ns ms e)
then_gathered ns ms (u ∷ us) b e =
    elim (choose (clash ns u) (Err (refusal 80 u.place)) (gathered (with_use ns u) us) (Ok ms) e) [
      | inl h ↦ absurd (err_ok _ _ h.1)
      | inr h ↦ rw h.0 (then_gathered (with_use ns u) ms us b h.1)
    ]

pub gathered_stops : (ns : List Named) (r : Refusal) (a b : List Use) → gathered ns a ≡ Err r → gathered ns (a ++ b) ≡ Err r
gathered_stops ns r [] b e = absurd (err_ok r ns (sym e))
gathered_stops ns r (u ∷ us) b e =
    elim (choose (clash ns u) (Err (refusal 80 u.place)) (gathered (with_use ns u) us) (Err r) e) [
      | inl h ↦ rw h.0 h.1
      | inr h ↦ rw h.0 (gathered_stops (with_use ns u) r us b h.1)
    ]

rest : {X : Type 0} (f : X → List Use) (i : ℕ) (xs : List X) (x : X) → i < length xs → x ≡ get_or xs i x → flat_map f (drop i xs) ≡ f x ++ flat_map f (drop (i + 1) xs)
rest f i xs x l e = ap (flat_map f) (drop_more xs i x l ∙ ap (λ (y : _). y ∷ drop (i + 1) xs) (sym e))

-- a loop over parts goes on, or stops at one
pub turn : {X : Type 0} (f : X → List Use) (i : ℕ) (xs : List X) (x : X) (ns ms : List Named) (whole : Result (List Named) Refusal) → i < length xs → x ≡ get_or xs i x
    → gathered ns (flat_map f (drop i xs)) ≡ whole → gathered ns (f x) ≡ Ok ms → gathered ms (flat_map f (drop (i + 1) xs)) ≡ whole
turn f i xs x ns ms whole l e h g =
    sym (then_gathered ns ms (f x) (flat_map f (drop (i + 1) xs)) g) ∙ (sym (ap (gathered ns) (rest f i xs x l e)) ∙ h)

pub stop : {X : Type 0} (f : X → List Use) (i : ℕ) (xs : List X) (x : X) (ns : List Named) (r : Refusal) (whole : Result (List Named) Refusal) → i < length xs → x ≡ get_or xs i x
    → gathered ns (flat_map f (drop i xs)) ≡ whole → gathered ns (f x) ≡ Err r → whole ≡ Err r
stop f i xs x ns r whole l e h g =
    sym h ∙ (ap (gathered ns) (rest f i xs x l e) ∙ gathered_stops ns r (f x) (flat_map f (drop (i + 1) xs)) g)

-- a fault of a part is the whole's
pub gathers_on : (result : Result (Unit {0}) Fault) (e : Fault) (Q : Fault → Type 0) (old now new last : List Named) (part whole : List Use)
    → IsErrAnd result Q → ((y : Fault) → Q y → y ≡ e) → Gathers (Err e) now new part → ((r : Refusal) → gathered now part ≡ Err r → gathered old whole ≡ Err r)
    → Gathers result old last whole
gathers_on result Memory Q old now new last part whole h q g f = from_error (λ (s : Result (Unit {0}) Fault). Gathers s old last whole) result Memory Q h q tt
gathers_on result (Refused r) Q old now new last part whole h q g f = from_error (λ (s : Result (Unit {0}) Fault). Gathers s old last whole) result (Refused r) Q h q (f r g)

-- the same of a loop over names, each of which is one use
pub name_stops : (f : List ℕ → Use) (i : ℕ) (xs : List (List ℕ)) (x : List ℕ) (ns : List Named) (r : Refusal) (whole : Result (List Named) Refusal) → i < length xs → x ≡ get_or xs i x
    → gathered ns (map f (drop i xs)) ≡ whole → gathered ns (f x ∷ []) ≡ Err r → whole ≡ Err r
name_stops f i xs x ns r whole l e h g =
    sym h ∙ (ap (λ ys. gathered ns (map f ys)) (drop_more xs i x l ∙ ap (λ (y : List ℕ). y ∷ drop (i + 1) xs) (sym e))
    ∙ gathered_stops ns r (f x ∷ []) (map f (drop (i + 1) xs)) g)

-- ---- the uses of an item

map_all : {X : Type 0} (f : List ℕ → Use) (h : X → List (List ℕ)) (xs : List X) → flat_map (λ x. map f (h x)) xs ≡ map f (flat_map h xs)
map_all f h [] = refl
map_all f h (x ∷ xs) = ap (λ (us : List Use). map f (h x) ++ us) (map_all f h xs) ∙ sym (map-append f (h x) (flat_map h xs))

values_uses : (place : Place) (values : List (List Test)) → flat_map (value_uses place) values ≡ map (use_of place nothing_asked) (references_in values)
values_uses place values =
    each values
    ∙ (map_all (use_of place nothing_asked) value_names values ∙ ap (map (use_of place nothing_asked)) (sym (names_compared values))) where
      each : (vs : List (List Test)) → flat_map (value_uses place) vs ≡ flat_map (λ v. map (use_of place nothing_asked) (value_names v)) vs
      each [] = refl
      each (v ∷ vs) =
          ap (λ (us : List Use). us ++ flat_map (value_uses place) vs) (map_all (use_of place nothing_asked) test_names v)
          ∙ ap (λ (us : List Use). map (use_of place nothing_asked) (value_names v) ++ us) (each vs)

pub item_stops : (i : Item) (asks : Asks) (ns : List Named) (r : Refusal) → asks ≡ asks_of i.tests → gathered ns (map (use_of i.place asks) (names_in i.fields)) ≡ Err r
    → gathered ns (item_uses i) ≡ Err r
item_stops i asks ns r own g =
    gathered_stops ns r (map (use_of i.place (asks_of i.tests)) (names_in i.fields)) (map (use_of i.place nothing_asked) (references_in i.tests))
    (subst (λ (a : Asks). gathered ns (map (use_of i.place a) (names_in i.fields)) ≡ Err r) own g)

gathers_then : (result : Result (Unit {0}) Fault) (ns ms last : List Named) (a b : List Use) → gathered ns a ≡ Ok ms → Gathers result ms last b → Gathers result ns last (a ++ b)
gathers_then (Ok x) ns ms last a b e g = then_gathered ns ms a b e ∙ g
gathers_then (Err Memory) ns ms last a b e g = tt
gathers_then (Err (Refused r)) ns ms last a b e g = then_gathered ns ms a b e ∙ g

pub item_gathers : (i : Item) (asks : Asks) (result : Result (Unit {0}) Fault) (ns ms last : List Named) → asks ≡ asks_of i.tests
    → gathered ns (map (use_of i.place asks) (names_in i.fields)) ≡ Ok ms → Gathers result ms last (flat_map (value_uses i.place) i.tests) → Gathers result ns last (item_uses i)
item_gathers i asks result ns ms last own e g =
    gathers_then result ns ms last (map (use_of i.place (asks_of i.tests)) (names_in i.fields)) (map (use_of i.place nothing_asked) (references_in i.tests))
    (subst (λ (a : Asks). gathered ns (map (use_of i.place a) (names_in i.fields)) ≡ Ok ms) own e)
    (subst (λ (us : List Use). Gathers result ms last us) (values_uses i.place i.tests) g)
