-- Regular expressions of a rule are found by the numbers of their texts, each where it stands.
use Rattle.std.proofs.Common.{ℕ, suc, ◌≡◌, ◌↔◌, ◌+◌, ◌<◌, Bool, true, false, not, cond, ◌||◌, List, [], ◌∷◌, ◌++◌, length, map, refl, sym, ap, ◌∙◌, arith}
use Rattle.std.specs.Prelude.{Some, None, slice_get}
use Rattle.std.specs.List.{flat_map, list_any, position_or_len}
use Rattle.std.specs.Str.{bytes_eq}
use Rattle.std.proofs.lemmas.Bool.{lt-ltb}
use Rattle.std.proofs.lemmas.List.{append_assoc}
use Rattle.std.proofs.lemmas.Slice.Eq.{bytes_eq-Decides}
use Rattle.event_schema.specs.Lists.{EachOf}
use Rattle.modifier_words.specs.declared.modifier.Joined.{Joined}
use Rattle.rule_model.proofs.Iffs.{Over, iff_pair, iff_then, iff_back, over_cons, over_empty, each_append}
use Rattle.text_index.specs.Numbers.{first_number}

-- ---- parts of lists

pub each_flat : {A B : Type 0} (P : B → Type 0) (f : A → List B) (xs : List A) → EachOf P (flat_map f xs) → EachOf (λ x. EachOf P (f x)) xs
each_flat P f [] h = tt
each_flat P f (x ∷ xs) h = let parts = (each_append P (f x) (flat_map f xs)).0 h in (parts.0, each_flat P f xs parts.1)

pub each_mapped : {A B : Type 0} (P : B → Type 0) (f : A → B) (xs : List A) → EachOf P (map f xs) → EachOf (λ x. P (f x)) xs
each_mapped P f [] h = tt
each_mapped P f (x ∷ xs) h = (h.0, each_mapped P f xs h.1)

-- what each of these elements' two words say of it, all or some of them say
pub over_map_of : {A B : Type 0} (j : Joined) (f : A → B) (P : B → Type 0) (Q : A → Type 0) (xs : List A) → EachOf (λ x. P (f x) ↔ Q x) xs
    → Over j P (map f xs) ↔ Over j Q xs
over_map_of j f P Q [] same = over_empty j P Q
over_map_of j f P Q (x ∷ xs) same =
    iff_then (over_cons j P (f x) (map f xs)) (iff_then (iff_pair j same.0 (over_map_of j f P Q xs same.1)) (iff_back (over_cons j Q x xs)))

-- ---- texts and their numbers

-- a text of the list has a number, at which it stands
pub record Stands (texts : List (List ℕ)) (text : List ℕ) : Type 0 where
  pub number : ℕ
  pub found : first_number texts text ≡ Some number
  pub there : slice_get texts number ≡ Some text

abbrev place_of : List (List ℕ) → List ℕ → ℕ
place_of texts text = position_or_len (λ t. bytes_eq t text) texts

abbrev has : List ℕ → List (List ℕ) → Bool
has text texts = list_any (λ t. bytes_eq t text) texts

behind : (b c : Bool) → (b || c) ≡ true → b ≡ false → c ≡ true
behind true c h e = absurd (cc)
behind false c h e = h

one_more : (n : ℕ) → 1 + n ≡ suc n
one_more n = omega arith

within_step : (b : Bool) (n m : ℕ) → (b ≡ false → n < m) → cond (not b) (1 + n) 0 < suc m
within_step true n m later = omega arith
within_step false n m later = let l : n < m = later refl in omega arith

place_within : (texts : List (List ℕ)) (text : List ℕ) → has text texts ≡ true → place_of texts text < length texts
place_within [] text h = absurd (let f : false ≡ true = h in cc)
place_within (t ∷ texts) text h =
    within_step (bytes_eq t text) (place_of texts text) (length texts) (λ e. place_within texts text (behind (bytes_eq t text) (has text texts) h e))

there_step : (b : Bool) (t text : List ℕ) (texts : List (List ℕ)) (n : ℕ) → bytes_eq t text ≡ b → (b ≡ false → slice_get texts n ≡ Some text)
    → slice_get (t ∷ texts) (cond (not b) (1 + n) 0) ≡ Some text
there_step true t text texts n e later = ap Some ((bytes_eq-Decides t text).0 e)
there_step false t text texts n e later = ap (slice_get (t ∷ texts)) (one_more n) ∙ later refl

place_there : (texts : List (List ℕ)) (text : List ℕ) → has text texts ≡ true → slice_get texts (place_of texts text) ≡ Some text
place_there [] text h = absurd (let f : false ≡ true = h in cc)
place_there (t ∷ texts) text h =
    there_step (bytes_eq t text) t text texts (place_of texts text) refl (λ e. place_there texts text (behind (bytes_eq t text) (has text texts) h e))

stands : (texts : List (List ℕ)) (text : List ℕ) → has text texts ≡ true → Stands texts text
stands texts text h =
    record {
      number = place_of texts text;
      found = ap (λ (b : Bool). cond b (Some (place_of texts text)) None) (lt-ltb (place_of texts text) (length texts) (place_within texts text h));
      there = place_there texts text h;
    }

has_behind : (before : List (List ℕ)) (text : List ℕ) (texts : List (List ℕ)) → has text (before ++ text ∷ texts) ≡ true
has_behind [] text texts = rw ((bytes_eq-Decides text text).1 refl) refl
has_behind (t ∷ before) text texts =
    let rest = has_behind before text texts in
    elim (bytes_eq t text) as (λ b. (b || has text (before ++ text ∷ texts)) ≡ true) [ true ↦ refl | false ↦ rest ]

each_behind : (whole before texts : List (List ℕ)) → whole ≡ before ++ texts → EachOf (Stands whole) texts
each_behind whole before [] e = tt
each_behind whole before (t ∷ texts) e =
    (stands whole t (ap (has t) e ∙ has_behind before t texts), each_behind whole (before ++ t ∷ []) texts (e ∙ sym (append_assoc before (t ∷ []) texts)))

pub all_stand : (texts : List (List ℕ)) → EachOf (Stands texts) texts
all_stand texts = each_behind texts [] texts refl
