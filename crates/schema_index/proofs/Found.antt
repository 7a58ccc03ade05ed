-- The numbers of names that fields have are those of fields.
use Rattle.std.proofs.Common.{ℕ, ◌≡◌, ◌+◌, ◌<◌, Bool, true, false, not, nat_lt, cond, List, [], ◌∷◌, ◌++◌, length, map, filter, refl, sym, ap, ◌∙◌, arith, ◌||◌}
use Rattle.std.specs.Prelude.{Option, Some, None, unwrap_or}
use Rattle.std.specs.List.{list_any, position_or_len}
use Rattle.std.specs.Str.{bytes_eq}
use Rattle.std.proofs.lemmas.List.{append_assoc}
use Rattle.std.proofs.lemmas.Slice.Eq.{bytes_eq-Decides}
use Rattle.event_schema.specs.Lists.{EachOf}
use Rattle.event_schema.specs.Rows.{field_number}
use Rattle.event_schema.specs.declared.schema.Field.{Field}
use Rattle.schema_index.specs.Numbers.{number_of, searched}

place_step : (b : Bool) (n m : ℕ) → (b ≡ false → n < m) → cond (not b) (1 + n) 0 < 1 + m
place_step true n m h = omega arith
place_step false n m h = let l : n < m = h refl in omega arith

any_step : (b c : Bool) → (b || c) ≡ true → b ≡ false → c ≡ true
any_step true c h e = absurd (cc)
any_step false c h e = h

place_within : {A : Type 0} (p : A → Bool) (xs : List A) → list_any p xs ≡ true → position_or_len p xs < length xs
place_within p [] h = absurd (let f : false ≡ true = h in cc)
place_within p (x ∷ xs) h =
    let step = place_step (p x) (position_or_len p xs) (length xs) (λ e. place_within p xs (any_step (p x) (list_any p xs) h e)) in
    omega (arith, step)

number_within : (b : Bool) (n m : ℕ) → nat_lt n m ≡ b → n < m → unwrap_or (cond b (Some n) None) m < m
number_within true n m e h = h
number_within false n m e h = absurd (grind arith)

pub field_within : (fields : List Field) (name : List ℕ) → list_any (λ (f : Field). bytes_eq f.name name) fields ≡ true → number_of fields name < length fields
field_within fields name h =
    let place = position_or_len (λ (f : Field). bytes_eq f.name name) fields in
    number_within (nat_lt place (length fields)) place (length fields) refl (place_within (λ (f : Field). bytes_eq f.name name) fields h)

-- ---- each field is one of its schema's

same_name : (name : List ℕ) → bytes_eq name name ≡ true
same_name name = (bytes_eq-Decides name name).1 refl

any_behind : {A : Type 0} (p : A → Bool) (before : List A) (x : A) (xs : List A) → p x ≡ true → list_any p (before ++ x ∷ xs) ≡ true
any_behind p [] x xs h = rw h refl
any_behind p (y ∷ before) x xs h =
    let rest = any_behind p before x xs h in
    elim (p y) as (λ b. (b || list_any p (before ++ x ∷ xs)) ≡ true) [ true ↦ refl | false ↦ rest ]

each_behind : (whole before fields : List Field) → whole ≡ before ++ fields → EachOf (λ f. number_of whole f.name < length whole) fields
each_behind whole before [] e = tt
each_behind whole before (f ∷ fields) e =
    let found : list_any (λ (g : Field). bytes_eq g.name f.name) whole ≡ true =
    ap (list_any (λ (g : Field). bytes_eq g.name f.name)) e ∙ any_behind (λ (g : Field). bytes_eq g.name f.name) before f fields (same_name f.name) in
    (field_within whole f.name found, each_behind whole (before ++ f ∷ []) fields (e ∙ sym (append_assoc before (f ∷ []) fields)))

kept_step : {A B : Type 0} (p : A → Bool) (g : A → B) (P : B → Type 0) (x : A) (xs : List A) → P (g x) → EachOf P (map g (filter p xs)) → (b : Bool) → p x ≡ b
    → EachOf P (map g (filter p (x ∷ xs)))
kept_step p g P x xs h rest true e = rw e (h, rest)
kept_step p g P x xs h rest false e = rw e rest

each_kept : {A B : Type 0} (p : A → Bool) (g : A → B) (P : B → Type 0) (xs : List A) → EachOf (λ x. P (g x)) xs → EachOf P (map g (filter p xs))
each_kept p g P [] h = tt
each_kept p g P (x ∷ xs) h = kept_step p g P x xs h.0 (each_kept p g P xs h.1) (p x) refl

pub searched_within : (fields : List Field) → EachOf (λ n. n < length fields) (searched fields)
searched_within fields =
    each_kept (λ f. f.search) (λ f. number_of fields f.name) (λ n. n < length fields) fields (each_behind fields [] fields refl)

-- each field's own name has a number
pub each_within : (fields : List Field) → EachOf (λ f. number_of fields f.name < length fields) fields
each_within fields = each_behind fields [] fields refl

number_there : (found : Option ℕ) (n : ℕ) → unwrap_or found n < n → found ≡ Some (unwrap_or found n)
number_there None n within = absurd (omega (arith, within))
number_there (Some k) n within = refl

-- a name that has a number is found at it
pub number_found : (fields : List Field) (name : List ℕ) → number_of fields name < length fields → field_number fields name ≡ Some (number_of fields name)
number_found fields name within = number_there (field_number fields name) (length fields) within
