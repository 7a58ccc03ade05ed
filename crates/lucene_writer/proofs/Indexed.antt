-- Fields with names and twins that are apart are found by them.
use Rattle.std.proofs.Common.{ℕ, zero, suc, ◌≡◌, ◌<◌, refl, sym, ap, Bool, true, false, List, [], ◌∷◌, ◌++◌, codes, length, arith}
use Rattle.std.specs.Prelude.{Some, if◌then◌else◌}
use Rattle.std.specs.Str.{bytes_eq}
use Rattle.std.proofs.lemmas.List.{append_cancel_right}
use Rattle.std.proofs.lemmas.Slice.Eq.{bytes_eq-Decides}
use Rattle.sig_base.specs.Folding.{folded}
use Rattle.event_schema.specs.Lists.{EachOf}
use Rattle.event_schema.specs.Names.{IsName}
use Rattle.event_schema.specs.Schemas.{IsOther, AreApart, IsField, twin, names_of}
use Rattle.event_schema.specs.declared.schema.Field.{Field}
use Rattle.event_schema.specs.declared.schema.Schema.{Schema}
use Rattle.backend_core.specs.Schemas.{IsNamed}
use Rattle.lucene_lang.specs.Query.{named, is_twin, found_in}
use Rattle.lucene_writer.specs.Lacking.{is_cased}
use Rattle.lucene_writer.specs.Schemas.{is_named, AreNamed, IsIndexed}
use Rattle.backend_core.specs.FieldAt.{name_at}

same_itself : (name : List ℕ) → bytes_eq name name ≡ true
same_itself name = (bytes_eq-Decides name name).1 refl

-- names that differ after folding are different
differs : (a b : List ℕ) → (folded b ≡ folded a → ⊥) → bytes_eq a b ≡ false
differs a b other = by (bytes_eq a b) refl where
  by : (so : Bool) → bytes_eq a b ≡ so → so ≡ false
  by true is = absurd (other (ap folded (sym ((bytes_eq-Decides a b).0 is))))
  by false is = refl

differs_back : (a b : List ℕ) → (folded a ≡ folded b → ⊥) → bytes_eq a b ≡ false
differs_back a b other = differs a b (λ e. other (sym e))

other_at : (name : List ℕ) (fields : List Field) (k : ℕ) → IsOther name (names_of fields) → k < length fields
    → folded (name_at fields k) ≡ folded name → ⊥
other_at name [] k other near = absurd (omega (arith, near))
other_at name (later ∷ fields) zero other near = other.0
other_at name (later ∷ fields) (suc k) other near = other_at name fields k other.1 (omega (arith, near))

-- ---- twins

cut_twin : (a b : List ℕ) → a ++ codes ".cased" ≡ b ++ codes ".cased" → a ≡ b
cut_twin a b e = append_cancel_right a b (codes ".cased") e

-- a field that keeps its case has a name other than these
abbrev TwinIsOther : List Field → Field → Type 0
TwinIsOther all field = field.cased ≡ true → IsOther (twin field.name) (names_of all)

twin_at : (all fields : List Field) (k : ℕ) → EachOf (TwinIsOther all) fields → k < length fields → is_cased fields k ≡ true
    → IsOther (twin (name_at fields k)) (names_of all)
twin_at all [] k each near so = absurd (omega (arith, near))
twin_at all (field ∷ fields) zero each near so = each.0 so
twin_at all (field ∷ fields) (suc k) each near so = twin_at all fields k each.1 (omega (arith, near)) so

-- a name that is no twin of a field
no_twin : (field : Field) (name : List ℕ) → (field.cased ≡ true → bytes_eq (twin field.name) name ≡ false) → is_twin field name ≡ false
no_twin field name other = by field.cased refl where
  by : (so : Bool) → field.cased ≡ so → (if so then bytes_eq (twin field.name) name else false) ≡ false
  by true is = other is
  by false is = refl

-- ---- names are found

found_next : (field : Field) (fields : List Field) (name : List ℕ) (k : ℕ) (cased : Bool) → bytes_eq field.name name ≡ false → is_twin field name ≡ false
    → found_in fields name ≡ Some (named k cased) → found_in (field ∷ fields) name ≡ Some (named (suc k) cased)
found_next field fields name k cased other apart found = rw (other, apart, found) refl

own_found : (all fields : List Field) → EachOf (TwinIsOther all) fields → AreApart (names_of fields) → (k : ℕ) → k < length fields
    → ((name : List ℕ) → IsOther name (names_of all) → folded (name_at fields k) ≡ folded name → ⊥)
    → found_in fields (name_at fields k) ≡ Some (named k false)
own_found all [] each apart k near within = absurd (omega (arith, near))
own_found all (field ∷ fields) each apart zero near within = let same = same_itself field.name in rw same refl
own_found all (field ∷ fields) each apart (suc k) near within =
    let closer : k < length fields = omega (arith, near) in
    let name = name_at fields k in
    found_next field fields name k false
    (differs field.name name (other_at field.name fields k apart.0 closer))
    (no_twin field name (λ so. differs (twin field.name) name (within (twin field.name) (each.0 so))))
    (own_found all fields each.1 apart.1 k closer within)

twin_found : (all fields : List Field) → AreApart (names_of fields) → (k : ℕ) → k < length fields → is_cased fields k ≡ true
    → IsOther (twin (name_at fields k)) (names_of fields)
    → found_in fields (twin (name_at fields k)) ≡ Some (named k true)
twin_found all [] apart k near so other = absurd (omega (arith, near))
twin_found all (field ∷ fields) apart zero near so other =
    let first = differs_back field.name (twin field.name) other.0 in
    let same = same_itself (twin field.name) in
    rw (first, so, same) refl
twin_found all (field ∷ fields) apart (suc k) near so other =
    let closer : k < length fields = omega (arith, near) in
    let name = name_at fields k in
    found_next field fields (twin name) k true
    (differs_back field.name (twin name) other.0)
    (no_twin field (twin name) (λ h. not_so (bytes_eq (twin field.name) (twin name)) refl))
    (twin_found all fields apart.1 k closer so other.1) where
      not_so : (b : Bool) → bytes_eq (twin field.name) (twin (name_at fields k)) ≡ b → b ≡ false
      not_so true is =
          absurd (other_at field.name fields k apart.0 (omega (arith, near))
          (ap folded (sym (cut_twin field.name (name_at fields k) ((bytes_eq-Decides (twin field.name) (twin (name_at fields k))).0 is)))))
      not_so false is = refl

-- ---- names have a character

some_characters : (name : List ℕ) → IsName name → is_named name ≡ true
some_characters [] h = let legal = h.legal in absurd cc
some_characters (c ∷ cs) h = h.scalars

names_named : (fields : List Field) → EachOf IsField fields → AreNamed fields
names_named [] each = tt
names_named (field ∷ fields) each = (some_characters field.name each.0.name, names_named fields each.1)

pub schema_indexed : (schema : Schema) → IsNamed schema → IsIndexed schema.fields
schema_indexed schema n = record {
  names = names_named schema.fields n.fields;
  found = λ k near. own_found schema.fields schema.fields n.twins n.apart k near (λ name other. other_at name schema.fields k other near);
  twins = λ k near so. twin_found schema.fields schema.fields n.apart k near so (twin_at schema.fields schema.fields k n.twins near so);
}
