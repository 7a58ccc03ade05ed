-- What each atom holds of, value by value.
use Rattle.std.proofs.Common.{ℕ, ◌≡◌, refl, Bool, true, false, List, [], ◌∷◌, ◌||◌, inl, inr}
use Rattle.std.specs.Prelude.{◌↔◌, Option, ℤ}
use Rattle.std.specs.List.{list_any}
use Rattle.std.proofs.lemmas.Slice.Eq.{bytes_eq-Decides}
use Rattle.std.proofs.lemmas.Bool.{and_parts}
use Rattle.event_schema.specs.Lists.{SomeOf, HasElement}
use Rattle.event_schema.specs.Rows.{field_values, value_text}
use Rattle.event_schema.specs.declared.value.Value.{Value}
use Rattle.event_schema.specs.declared.value.Value.TheVariants as values
use Rattle.lucene_lang.specs.declared.query.Glyph.{Glyph}
use Rattle.lucene_lang.specs.declared.query.Glyph.TheVariants.{Run}
use Rattle.lucene_lang.specs.Query.{Term, Phrase, Range, OfField}
use Rattle.lucene_lang.specs.Meaning.{atom_holds, kept, kept_glyphs, term_fits, some_end, is_above, is_below, value_meets}

-- some value passes a test, exactly where one is what the test says
module _ (p : Value → Bool) (P : Value → Type 0) (says : (v : Value) → (p v ≡ true) ↔ P v) where
  some_passes : (vs : List Value) → list_any p vs ≡ true → SomeOf P vs
  some_passes [] h = absurd cc
  some_passes (v ∷ vs) h = by (p v) refl h (some_passes vs) where
    by : (b : Bool) → p v ≡ b → (b || list_any p vs) ≡ true → (list_any p vs ≡ true → SomeOf P vs) → SomeOf P (v ∷ vs)
    by true is g more = inl ((says v).0 is)
    by false is g more = inr (more g)

  passes_some : (vs : List Value) → SomeOf P vs → list_any p vs ≡ true
  passes_some [] some = absurd some
  passes_some (v ∷ vs) (inl here) = let is = (says v).1 here in rw is refl
  passes_some (v ∷ vs) (inr later) = by (p v) (passes_some vs later) where
    by : (b : Bool) → list_any p vs ≡ true → (b || list_any p vs) ≡ true
    by true is = refl
    by false is = is

  some_is : (vs : List Value) → (list_any p vs ≡ true) ↔ SomeOf P vs
  some_is vs = (some_passes vs, passes_some vs)

any_text : (cs : List ℕ) → some_end (term_fits []) cs ≡ true
unfolding term_fits
any_text [] = refl
any_text (c ∷ cs) = any_text cs

run_fits : (cased : Bool) (v : Value) → value_meets cased (Term (Run ∷ [])) v ≡ true
unfolding term_fits
run_fits cased v = any_text (kept cased (value_text v))

pub value_is : (row : List (List Value)) (k : ℕ) (cased : Bool) → (atom_holds row (OfField k cased (Term (Run ∷ []))) ≡ true) ↔ HasElement (field_values row k)
value_is row k cased = by (field_values row k) where
  by : (vs : List Value) → (list_any (value_meets cased (Term (Run ∷ []))) vs ≡ true) ↔ HasElement vs
  by [] = (λ h. absurd cc, λ h. absurd h)
  by (v ∷ vs) = (λ h. tt, λ h. let is = run_fits cased v in rw is refl)

pub term_is : (row : List (List Value)) (k : ℕ) (cased : Bool) (gs : List Glyph) → (atom_holds row (OfField k cased (Term gs)) ≡ true)
    ↔ SomeOf (λ v. term_fits (kept_glyphs cased gs) (kept cased (value_text v)) ≡ true) (field_values row k)
term_is row k cased gs =
    some_is (value_meets cased (Term gs)) (λ v. term_fits (kept_glyphs cased gs) (kept cased (value_text v)) ≡ true) (λ v. (λ h. h, λ h. h)) (field_values row k)

pub phrase_is : (row : List (List Value)) (k : ℕ) (cased : Bool) (t : List ℕ) → (atom_holds row (OfField k cased (Phrase t)) ≡ true)
    ↔ SomeOf (λ v. kept cased t ≡ kept cased (value_text v)) (field_values row k)
phrase_is row k cased t =
    some_is (value_meets cased (Phrase t)) (λ v. kept cased t ≡ kept cased (value_text v))
    (λ v. let d = bytes_eq-Decides (kept cased t) (kept cased (value_text v)) in (λ h. d.0 h, λ h. d.1 h)) (field_values row k)

pub range_is : (row : List (List Value)) (k : ℕ) (cased : Bool) (low : Option ℤ) (low_in : Bool) (high : Option ℤ) (high_in : Bool)
    → (atom_holds row (OfField k cased (Range low low_in high high_in)) ≡ true)
    ↔ SomeOf (λ v. (n : ℤ) × (v ≡ values.Whole n) × (is_above low low_in n ≡ true) × (is_below high high_in n ≡ true)) (field_values row k)
range_is row k cased low low_in high high_in =
    some_is (value_meets cased (Range low low_in high high_in))
    (λ v. (n : ℤ) × (v ≡ values.Whole n) × (is_above low low_in n ≡ true) × (is_below high high_in n ≡ true)) meets (field_values row k) where
      meets : (v : Value) → (value_meets cased (Range low low_in high high_in) v ≡ true)
          ↔ ((n : ℤ) × (v ≡ values.Whole n) × (is_above low low_in n ≡ true) × (is_below high high_in n ≡ true))
      meets (values.Text t) = (λ h. absurd cc, λ h. let e = h.1 in absurd cc)
      meets (values.Whole n) = (
        λ h. let each = and_parts (is_above low low_in n) (is_below high high_in n) h in (n, refl, each.0, each.1),
        λ h. let e : n ≡ h.0 = let same = h.1 in cc in let above = h.2 in let below = h.3 in rw (e, above, below) refl,
      )
