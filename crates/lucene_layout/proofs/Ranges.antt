-- Ranges that are written are sound, and read as what they say.
use Rattle.std.proofs.Common.{ℕ, suc, ◌≡◌, ◌^◌, ◌<◌, refl, ◌∙◌, ap, Bool, true, false, List, [], ◌∷◌, ◌++◌, length, arith}
use Rattle.std.specs.Prelude.{ℤ, pos, negsuc, ◌==◌, if◌then◌else◌, Option, Some, None}
use Rattle.std.specs.Fmt.{decimal, signed_decimal}
use Rattle.std.specs.Str.{all_scalars}
use Rattle.std.proofs.lemmas.Int.{ints}
use Rattle.std.proofs.lemmas.Bool.{and_parts}
use Rattle.sig_base.specs.Digits.{unsigned, digits_from}
use Rattle.event_schema.specs.Events.{IsWholeNumber}
use Rattle.event_schema.specs.declared.schema.Field.{Field}
use Rattle.lucene_lang.specs.Tokens.{Sort, Colon, is_decimal}
use Rattle.lucene_lang.specs.Grammar.{Name, to, decimal as decimal_name, plain, a_range, sought, spell_name, spell_end, spell_value}
use Rattle.lucene_lang.specs.Query.{FieldName, OfField, Range, negative, number_of, end_number, found_in, leaf_of, field_atom, or_first, name_text, sought_of}
use Rattle.lucene_lang.specs.Faults.{is_ill, is_whole_at, is_outside, is_number, in_bounds, end_in_bounds}
use Rattle.lucene_layout.specs.Escaped.{IsEnd, end_for, name_for, name_written}
use Rattle.lucene_layout.specs.Layout.{HasText, text_leaf, text_value, written}
use Rattle.lucene_layout.specs.Trees.{has_outside, IsSound}
use Rattle.lucene_layout.proofs.Escapes.{name_fine, name_text_is}
use Rattle.lucene_layout.proofs.LeafRead.{found_none}
use Rattle.lucene_layout.proofs.Numbers.{decimal_writes, canonical_unsigned, is_number_of, decimal_part}

-- ---- texts

pub range_text : (cs : List ℕ) (b : Bool) (low high : Option ℤ) (c : Bool)
    → text_leaf (sought (name_for cs) (a_range b (end_for low) (end_for high) c)) ≡ written (name_written cs) ++ (58 ∷ text_value (a_range b (end_for low) (end_for high) c))
range_text cs b low high c = ap (λ (t : List ℕ). t ++ (58 ∷ text_value (a_range b (end_for low) (end_for high) c))) (name_text_is cs)

-- ---- numbers are read as they are written

no_minus : (c : ℕ) (cs : List ℕ) → unsigned (c ∷ cs) ≡ c ∷ cs → (c == 45) ≡ false
no_minus c cs same = by (c == 45) refl same where
  by : (b : Bool) → (c == 45) ≡ b → (if b then cs else c ∷ cs) ≡ c ∷ cs → (c == 45) ≡ false
  by true is e = absurd (omega (arith, ap length e))
  by false is e = is

plain_reads : (ds : List ℕ) (n : ℕ) → unsigned ds ≡ ds → digits_from 0 ds ≡ n → number_of ds ≡ pos n
plain_reads [] n same value = ap pos value
plain_reads (c ∷ cs) n same value = let none = no_minus c cs same in rw none (ap pos value)

number_reads : (z : ℤ) → IsWholeNumber z → number_of (signed_decimal z) ≡ z
number_reads (pos n) whole =
    let small : n < 2 ^ 63 = omega (arith, ints, whole.1) in
    let w = decimal_writes n (omega (arith, small)) in
    plain_reads (decimal n) n (canonical_unsigned (decimal n) w.canonical) w.value
number_reads (negsuc n) whole =
    let small : suc n < 2 ^ 63 = omega (arith, ints, whole.0) in
    ap negative (decimal_writes (suc n) (omega (arith, small))).value

end_reads : (e : Option ℤ) → IsEnd e → end_number (end_for e) ≡ e
end_reads None whole = refl
end_reads (Some z) whole = ap (λ (n : ℤ). Some n) (number_reads z whole)

-- ---- soundness

end_has : (e : Option ℤ) → IsEnd e → HasText (spell_end (end_for e))
end_has None whole = tt
end_has (Some z) whole = decimal_part (signed_decimal z) (is_number_of z whole)

bounds_part : (w : List ℕ) → is_number w ≡ true → in_bounds w ≡ true
unfolding is_number
bounds_part w h = (and_parts (is_decimal w) (in_bounds w) h).1

end_within : (e : Option ℤ) → IsEnd e → end_in_bounds (end_for e) ≡ true
end_within None whole = refl
end_within (Some z) whole = bounds_part (signed_decimal z) (is_number_of z whole)

name_then : (n : Name) (rest : List Sort) → is_outside false (spell_name n) ≡ false → has_outside false rest ≡ false → has_outside false (spell_name n ∷ Colon ∷ rest) ≡ false
unfolding has_outside
name_then to rest inside h = h
name_then (decimal_name w) rest inside h = rw (inside, h) refl
name_then (plain w) rest inside h = rw (inside, h) refl

range_inside : (b : Bool) (low high : Option ℤ) (d : Bool) → has_outside false (spell_value (a_range b (end_for low) (end_for high) d)) ≡ false
unfolding has_outside
range_inside b None None d = refl
range_inside b None (Some n) d = refl
range_inside b (Some m) None d = refl
range_inside b (Some m) (Some n) d = refl

range_taken : (whole b : Bool) (low high : Option ℤ) (d : Bool) → whole ≡ true → IsEnd low → IsEnd high → is_ill whole (a_range b (end_for low) (end_for high) d) ≡ false
range_taken whole b low high d is first second =
    let one = end_within low first in
    let other = end_within high second in
    rw (is, one, other) refl

pub range_is_sound : (fields : List Field) (c : ℕ) (cs : List ℕ) (f : FieldName) (b : Bool) (low high : Option ℤ) (d : Bool)
    → all_scalars (c ∷ cs) ≡ true → found_in fields (c ∷ cs) ≡ Some f → is_whole_at fields f.field ≡ true
    → IsEnd low → IsEnd high → IsSound fields (sought (name_for (c ∷ cs)) (a_range b (end_for low) (end_for high) d))
range_is_sound fields c cs f b low high d named found whole first second =
    let n = name_fine c cs named in
    record {
      writable = (n.has, (tt, (tt, (end_has low first, (tt, (end_has high second, (tt, tt)))))));
      inside = name_then (name_for (c ∷ cs)) (spell_value (a_range b (end_for low) (end_for high) d)) n.inside (range_inside b low high d);
      faultless = λ ps.
          found_none fields (found_in fields (name_text (name_for (c ∷ cs)))) f (a_range b (end_for low) (end_for high) d) _ (ap (found_in fields) n.name ∙ found)
          (range_taken (is_whole_at fields f.field) b low high d whole first second);
    }

pub range_is_read : (fields : List Field) (c : ℕ) (cs : List ℕ) (f : FieldName) (b : Bool) (low high : Option ℤ) (d : Bool)
    → all_scalars (c ∷ cs) ≡ true → found_in fields (c ∷ cs) ≡ Some f → IsEnd low → IsEnd high
    → leaf_of fields (sought (name_for (c ∷ cs)) (a_range b (end_for low) (end_for high) d)) ≡ OfField f.field f.cased (Range low b high d)
range_is_read fields c cs f b low high d named found first second =
    let n = name_fine c cs named in
    ap (λ (o : Option FieldName). field_atom (or_first o) (sought_of (a_range b (end_for low) (end_for high) d))) (ap (found_in fields) n.name ∙ found)
    ∙ (ap (λ (e : Option ℤ). OfField f.field f.cased (Range e b (end_number (end_for high)) d)) (end_reads low first)
    ∙ ap (λ (e : Option ℤ). OfField f.field f.cased (Range low b e d)) (end_reads high second))
