-- Leaves that are written are sound, and read as what they say.
use Rattle.std.proofs.Common.{ℕ, ◌≡◌, refl, sym, ◌∙◌, ap, true, false, List, [], ◌∷◌}
use Rattle.std.specs.Prelude.{Option, Some}
use Rattle.std.specs.Str.{all_scalars}
use Rattle.event_schema.specs.declared.schema.Field.{Field}
use Rattle.query_tokens.specs.Places.{At}
use Rattle.lucene_lang.specs.declared.query.Glyph.{Glyph}
use Rattle.lucene_lang.specs.Tokens.{Sort, Colon}
use Rattle.lucene_lang.specs.Grammar as grammar
use Rattle.lucene_lang.specs.Grammar.{Name, to, decimal, plain, Term, star, wild, exact, a_term, sought, spell_name, spell_term}
use Rattle.lucene_lang.specs.Query.{FieldName, OfField, found_in, leaf_of, field_atom, or_first, name_text, term_glyphs}
use Rattle.lucene_lang.specs.Query as query
use Rattle.lucene_lang.specs.Faults.{is_ill, is_whole_at, found_faults, is_outside}
use Rattle.lucene_layout.specs.Escaped.{term_for, name_for, characters}
use Rattle.lucene_layout.specs.Trees.{has_outside, IsSound}
use Rattle.lucene_layout.proofs.Escapes.{term_fine, name_fine}

two_inside : (s t : Sort) → is_outside false s ≡ false → is_outside false t ≡ false → (n : Name) → s ≡ spell_name n → (u : Term) → t ≡ spell_term u
    → has_outside false (spell_name n ∷ Colon ∷ spell_term u ∷ []) ≡ false
unfolding has_outside
two_inside s t first second to same star same' = refl
two_inside s t first second to same (wild w) same' = let b = sym (ap (is_outside false) same') ∙ second in rw b refl
two_inside s t first second to same (exact to) same' = refl
two_inside s t first second to same (exact (decimal w)) same' = let b = sym (ap (is_outside false) same') ∙ second in rw b refl
two_inside s t first second to same (exact (plain w)) same' = let b = sym (ap (is_outside false) same') ∙ second in rw b refl
two_inside s t first second (decimal v) same star same' = let a = sym (ap (is_outside false) same) ∙ first in rw a refl
two_inside s t first second (decimal v) same (wild w) same' = let a = sym (ap (is_outside false) same) ∙ first in let b = sym (ap (is_outside false) same') ∙ second in rw (a, b) refl
two_inside s t first second (decimal v) same (exact to) same' = let a = sym (ap (is_outside false) same) ∙ first in rw a refl
two_inside s t first second (decimal v) same (exact (decimal w)) same' = let a = sym (ap (is_outside false) same) ∙ first in let b = sym (ap (is_outside false) same') ∙ second in rw (a, b) refl
two_inside s t first second (decimal v) same (exact (plain w)) same' = let a = sym (ap (is_outside false) same) ∙ first in let b = sym (ap (is_outside false) same') ∙ second in rw (a, b) refl
two_inside s t first second (plain v) same star same' = let a = sym (ap (is_outside false) same) ∙ first in rw a refl
two_inside s t first second (plain v) same (wild w) same' = let a = sym (ap (is_outside false) same) ∙ first in let b = sym (ap (is_outside false) same') ∙ second in rw (a, b) refl
two_inside s t first second (plain v) same (exact to) same' = let a = sym (ap (is_outside false) same) ∙ first in rw a refl
two_inside s t first second (plain v) same (exact (decimal w)) same' = let a = sym (ap (is_outside false) same) ∙ first in let b = sym (ap (is_outside false) same') ∙ second in rw (a, b) refl
two_inside s t first second (plain v) same (exact (plain w)) same' = let a = sym (ap (is_outside false) same) ∙ first in let b = sym (ap (is_outside false) same') ∙ second in rw (a, b) refl

pub found_none : (fields : List Field) (o : Option FieldName) (f : FieldName) (v : grammar.Value) (p : At) → o ≡ Some f → is_ill (is_whole_at fields f.field) v ≡ false
    → found_faults fields o v p ≡ []
found_none fields o f v p same fits = rw (same, fits) refl

pub leaf_is_sound : (fields : List Field) (c : ℕ) (cs : List ℕ) (g : Glyph) (gs : List Glyph) (f : FieldName)
    → all_scalars (c ∷ cs) ≡ true → all_scalars (characters (g ∷ gs)) ≡ true → found_in fields (c ∷ cs) ≡ Some f
    → is_ill (is_whole_at fields f.field) (a_term (term_for (g ∷ gs))) ≡ false → IsSound fields (sought (name_for (c ∷ cs)) (a_term (term_for (g ∷ gs))))
leaf_is_sound fields c cs g gs f named scalars found fits =
    let n = name_fine c cs named in
    let t = term_fine g gs scalars in
    record {
      writable = (n.has, (tt, (t.has, tt)));
      inside = two_inside (spell_name (name_for (c ∷ cs))) (spell_term (term_for (g ∷ gs))) n.inside t.inside (name_for (c ∷ cs)) refl (term_for (g ∷ gs)) refl;
      faultless = λ ps. found_none fields (found_in fields (name_text (name_for (c ∷ cs)))) f (a_term (term_for (g ∷ gs))) _ (ap (found_in fields) n.name ∙ found) fits;
    }

pub leaf_is_read : (fields : List Field) (c : ℕ) (cs : List ℕ) (g : Glyph) (gs : List Glyph) (f : FieldName)
    → all_scalars (c ∷ cs) ≡ true → all_scalars (characters (g ∷ gs)) ≡ true → found_in fields (c ∷ cs) ≡ Some f
    → leaf_of fields (sought (name_for (c ∷ cs)) (a_term (term_for (g ∷ gs)))) ≡ OfField f.field f.cased (query.Term (g ∷ gs))
leaf_is_read fields c cs g gs f named scalars found =
    let n = name_fine c cs named in
    let t = term_fine g gs scalars in
    ap (λ (o : Option FieldName). field_atom (or_first o) (query.Term (term_glyphs (term_for (g ∷ gs))))) (ap (found_in fields) n.name ∙ found)
    ∙ ap (λ (hs : List Glyph). OfField f.field f.cased (query.Term hs)) t.glyphs
