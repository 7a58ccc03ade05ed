-- Names that stand in a list twice are found name by name.
use Rattle.std.proofs.Common.{◌≡◌, ℕ, ◌+◌, ◌<◌, ◌≤◌, Bool, true, false, not, List, [], ◌∷◌, ◌++◌, length, get_or, take, drop, map, refl, sym, ap, ◌∙◌, if◌then◌else◌}
use Rattle.std.specs.Prelude.{◌||◌, ◌&&◌}
use Rattle.std.specs.List.{list_any}
use Rattle.std.specs.Str.{bytes_eq}
use Rattle.std.proofs.Math.ListN.{drop_of_length-le}
use Rattle.std.proofs.lemmas.Bool.{false≢true, or_parts}
use Rattle.std.proofs.lemmas.List.{drop_more, take_more, take_all}
use Rattle.std.proofs.lemmas.List.Folds.{list_any-append}
use Rattle.std.proofs.lemmas.Slice.Eq.{bytes_eq-Decides}
use Rattle.sig_base.specs.Folding.{folded}
use Rattle.event_read.specs.SchemaOf.{is_named, has_repeat, is_twin_named}
use Rattle.event_schema.specs.Lists.{EachOf}
use Rattle.event_schema.specs.Schemas.{IsOther, AreApart, names_of, twin}
use Rattle.event_schema.specs.declared.schema.Field.{Field}

-- the names of the fields, folded
abbrev pub folded_names : List Field → List (List ℕ)
folded_names fields = map folded (names_of fields)

-- some of these names was seen, or stands there twice
abbrev pub repeats : List (List ℕ) → List (List ℕ) → Bool
repeats seen names = list_any (is_named seen) names || has_repeat names

swap : (a b x y : Bool) → ((a || (b || false)) || (x || y)) ≡ ((a || x) || (b || y))
swap true b x y = refl
swap false true true y = refl
swap false true false y = refl
swap false false true y = refl
swap false false false y = refl

together : (a b c : Bool) → ((a || b) || c) ≡ (a || (b || c))
together true b c = refl
together false b c = refl

one_seen : (seen : List (List ℕ)) (n : List ℕ) (names : List (List ℕ)) → list_any (is_named (seen ++ n ∷ [])) names ≡ (list_any (is_named seen) names || list_any (λ later. bytes_eq later n) names)
one_seen seen n [] = refl
one_seen seen n (m ∷ names) =
    ap (λ (b : Bool). b || list_any (is_named (seen ++ n ∷ [])) names) (list_any-append (bytes_eq m) seen (n ∷ []))
    ∙ (ap (λ (b : Bool). (list_any (bytes_eq m) seen || (bytes_eq m n || false)) || b) (one_seen seen n names)
    ∙ swap (list_any (bytes_eq m) seen) (bytes_eq m n) (list_any (is_named seen) names) (list_any (λ later. bytes_eq later n) names))

next_name : (seen : List (List ℕ)) (n : List ℕ) (names : List (List ℕ)) → is_named seen n ≡ false → repeats (seen ++ n ∷ []) names ≡ repeats seen (n ∷ names)
next_name seen n names fresh =
    ap (λ (b : Bool). b || has_repeat names) (one_seen seen n names)
    ∙ (together (list_any (is_named seen) names) (list_any (λ later. bytes_eq later n) names) (has_repeat names)
    ∙ sym (ap (λ (b : Bool). (b || list_any (is_named seen) names) || (list_any (λ later. bytes_eq later n) names || has_repeat names)) fresh))

rest_names : (fields : List Field) (i : ℕ) (f : Field) → f ≡ get_or fields i f → i < length fields → folded_names (drop i fields) ≡ folded f.name ∷ folded_names (drop (i + 1) fields)
rest_names fields i f is within =
    ap folded_names (drop_more fields i f within ∙ ap (λ (x : Field). x ∷ drop (i + 1) fields) (sym is))

first_names : (fields : List Field) (f : Field) → folded_names (fields ++ f ∷ []) ≡ folded_names fields ++ folded f.name ∷ []
first_names [] f = refl
first_names (g ∷ fields) f = ap (λ (names : List (List ℕ)). folded g.name ∷ names) (first_names fields f)

-- what the loop knows: the names that are in, and that what is left decides
abbrev pub SoFar : List Field → ℕ → List (List ℕ) → Type 0
SoFar fields i keys = (keys ≡ folded_names (take i fields)) × (repeats keys (folded_names (drop i fields)) ≡ has_repeat (folded_names fields))

none_seen : (names : List (List ℕ)) → list_any (is_named []) names ≡ false
none_seen [] = refl
none_seen (n ∷ names) = none_seen names

-- before the first field
pub names_start : (fields : List Field) (keys : List (List ℕ)) → keys ≡ [] → SoFar fields 0 keys
names_start fields keys is =
    (is, ap (λ (ks : List (List ℕ)). repeats ks (folded_names fields)) is ∙ ap (λ (b : Bool). b || has_repeat (folded_names fields)) (none_seen (folded_names fields)))

module _ (fields : List Field) (i : ℕ) (f : Field) (keys : List (List ℕ)) (name : List ℕ) where
  -- a name that is new
  pub name_more : (new : List (List ℕ)) (r : Bool) → f ≡ get_or fields i f → i < length fields → name ≡ folded f.name → r ≡ not (list_any (bytes_eq name) keys) → r ≡ true
      → new ≡ (if list_any (bytes_eq name) keys then keys else keys ++ name ∷ []) → SoFar fields i keys → SoFar fields (i + 1) new
  name_more new r is within own added there inserted so =
      let fresh : list_any (bytes_eq name) keys ≡ false = unseen (list_any (bytes_eq name) keys) (sym added ∙ there) in
      let kept : new ≡ keys ++ folded f.name ∷ [] =
      inserted ∙ (ap (λ (b : Bool). if b then keys else keys ++ name ∷ []) fresh ∙ ap (λ (n : List ℕ). keys ++ n ∷ []) own) in (
        kept
            ∙ (ap (λ (ks : List (List ℕ)). ks ++ folded f.name ∷ []) so.0
            ∙ (sym (first_names (take i fields) f) ∙ ap folded_names (sym (take_more fields i f within ∙ ap (λ (x : Field). take i fields ++ x ∷ []) (sym is))))),
        ap (λ (ks : List (List ℕ)). repeats ks (folded_names (drop (i + 1) fields))) kept
            ∙ (next_name keys (folded f.name) (folded_names (drop (i + 1) fields)) (ap (is_named keys) (sym own) ∙ fresh)
            ∙ (sym (ap (repeats keys) (rest_names fields i f is within)) ∙ so.1)),
      )
    where
      unseen : (b : Bool) → not b ≡ true → b ≡ false
      unseen true e = absurd (false≢true e)
      unseen false e = refl

  -- a name that is in already
  pub name_again : (r : Bool) → f ≡ get_or fields i f → i < length fields → name ≡ folded f.name → r ≡ not (list_any (bytes_eq name) keys) → r ≡ false
      → SoFar fields i keys → has_repeat (folded_names fields) ≡ true
  name_again r is within own added there so =
      let seen : is_named keys (folded f.name) ≡ true = ap (is_named keys) (sym own) ∙ again (list_any (bytes_eq name) keys) (sym added ∙ there) in
      sym so.1
      ∙ (ap (repeats keys) (rest_names fields i f is within)
      ∙ ap
      (λ (b : Bool). (b || list_any (is_named keys) (folded_names (drop (i + 1) fields)))
      || (list_any (λ later. bytes_eq later (folded f.name)) (folded_names (drop (i + 1) fields)) || has_repeat (folded_names (drop (i + 1) fields))))
      seen)
    where
      again : (b : Bool) → not b ≡ false → b ≡ true
      again true e = refl
      again false e = absurd (false≢true (sym e))

-- behind the last field
pub names_done : (fields : List Field) (i : ℕ) (keys : List (List ℕ)) → length fields ≤ i → SoFar fields i keys → (has_repeat (folded_names fields) ≡ false) × (keys ≡ folded_names fields)
names_done fields i keys past so =
    (sym so.1 ∙ ap (λ (fs : List Field). repeats keys (folded_names fs)) (drop_of_length-le fields past), so.0 ∙ ap folded_names (take_all i fields past))

same_found : (a b : List ℕ) → a ≡ b → bytes_eq a b ≡ false → ⊥
same_found a b e no_eq = false≢true (sym no_eq ∙ (bytes_eq-Decides a b).1 e)

-- names that don't repeat are apart
pub are_apart : (names : List (List ℕ)) → has_repeat (map folded names) ≡ false → AreApart names
are_apart [] e = tt
are_apart (n ∷ names) e =
    let p = or_parts (list_any (λ later. bytes_eq later (folded n)) (map folded names)) (has_repeat (map folded names)) e in
    (other names p.0, are_apart names p.1)
  where
    other : (ms : List (List ℕ)) → list_any (λ later. bytes_eq later (folded n)) (map folded ms) ≡ false → IsOther n ms
    other [] h = tt
    other (m ∷ ms) h =
        let q = or_parts (bytes_eq (folded m) (folded n)) (list_any (λ later. bytes_eq later (folded n)) (map folded ms)) h in
        ((λ same. same_found (folded m) (folded n) same q.0), other ms q.1)

pub twins_apart : (names : List (List ℕ)) (fields : List Field) → list_any (is_twin_named (map folded names)) fields ≡ false → EachOf (λ field. field.cased ≡ true → IsOther (twin field.name) names) fields
twins_apart names [] e = tt
twins_apart names (f ∷ fields) e =
    let p = or_parts (is_twin_named (map folded names) f) (list_any (is_twin_named (map folded names)) fields) e in
    ((λ cased. other names (left f.cased (is_named (map folded names) (folded (twin f.name))) p.0 cased)), twins_apart names fields p.1)
  where
    left : (a b : Bool) → (a && b) ≡ false → a ≡ true → b ≡ false
    left true b e on = e
    left false b e on = absurd (false≢true on)

    other : (ms : List (List ℕ)) → list_any (bytes_eq (folded (twin f.name))) (map folded ms) ≡ false → IsOther (twin f.name) ms
    other [] h = tt
    other (m ∷ ms) h =
        let q = or_parts (bytes_eq (folded (twin f.name)) (folded m)) (list_any (bytes_eq (folded (twin f.name))) (map folded ms)) h in
        ((λ same. same_found (folded (twin f.name)) (folded m) (sym same) q.0), other ms q.1)
