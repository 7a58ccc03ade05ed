-- A pattern has the dash places that `windash` makes of the text's, and runs add none.
use Rattle.std.proofs.Common.{ℕ, ◌≡◌, ◌+◌, arith, Bool, true, false, ◌&&◌, ◌||◌, ◌==◌, not, if◌then◌else◌, List, [], ◌∷◌, ◌++◌, refl, sym, ap, subst, ◌∙◌, cond}
use Rattle.std.specs.List.{list_any}
use Rattle.std.proofs.lemmas.Bool.{eqb-true}
use Rattle.std.proofs.lemmas.List.Sums.{sum_by-cons}
use Rattle.modifier_windash.specs.Choices.{dash_count, is_dash_place}
use Rattle.modifier_words.specs.Kinds.{is_position, is_windash, is_expand}
use Rattle.modifier_words.specs.Written.{Written}
use Rattle.modifier_words.specs.declared.modifier.Modifier.{Modifier}
use Rattle.modifier_words.specs.declared.modifier.Modifier.TheVariants.{Position as In, All, Cased, Windash, Expand, Units, Encoding as As, Exists, Cidr, Order, Fieldref, Re, Flag}
use Rattle.modifier_words.specs.declared.modifier.Position.{Position}
use Rattle.modifier_words.specs.declared.modifier.Position.TheVariants.{Around, After, Before}
use Rattle.sig_strings.specs.Edits.{is_dash_sign, is_word_part, starts_with_word, dashes_after, dashes_of, starts_with_run, ends_with_run, with_run_before, with_run_after}
use Rattle.sig_strings.specs.Spells.{Spells, SpellsFront, star, question, escaped, backslash, hole, other}
use Rattle.sig_strings.specs.declared.part.Part.{Part}
use Rattle.sig_strings.specs.declared.part.Part.TheVariants.{Char, One, Run, Dash, Hole}
use Rattle.modifier_values.specs.Edited.{with_runs, all_edited, pattern_of}
use Rattle.modifier_values.specs.Uses.{parts_in}
use Rattle.modifier_values.proofs.PartsLemmas.{parts_spell}

-- how many places parts have, and how many there'd be with `windash`
abbrev windash_count : List Part → ℕ
windash_count parts = dash_count (dashes_of parts)

counts : (part : Part) (parts : List Part) → dash_count (part ∷ parts) ≡ cond (is_dash_place part) 1 0 + dash_count parts
counts part parts = sum_by-cons (λ x. cond (is_dash_place x) 1 0) part parts

no_more : (part : Part) (parts : List Part) → is_dash_place part ≡ false → dash_count (part ∷ parts) ≡ dash_count parts
no_more part parts is =
    let counted : dash_count (part ∷ parts) ≡ 0 + dash_count parts = subst (λ b. dash_count (part ∷ parts) ≡ cond b 1 0 + dash_count parts) is (counts part parts) in
    omega (arith, counted)

-- ---- runs

run_last : (parts : List Part) → dash_count (parts ++ Run ∷ []) ≡ dash_count parts
run_last [] = no_more Run [] refl
run_last (part ∷ parts) =
    counts part (parts ++ Run ∷ []) ∙ ap (λ n. cond (is_dash_place part) 1 0 + n) (run_last parts) ∙ sym (counts part parts)

word_first : (parts : List Part) → starts_with_word (parts ++ Run ∷ []) ≡ starts_with_word parts
word_first [] = refl
word_first (part ∷ parts) = refl

dashes_last : (word : Bool) (parts : List Part) → dashes_after word (parts ++ Run ∷ []) ≡ dashes_after word parts ++ Run ∷ []
dashes_last word [] = refl
dashes_last word (part ∷ parts) =
    ap (λ b. (if is_dash_sign part && not word && b then Dash else part) ∷ dashes_after (is_word_part part) (parts ++ Run ∷ [])) (word_first parts)
    ∙ ap (λ (ps : List Part). (if is_dash_sign part && not word && starts_with_word parts then Dash else part) ∷ ps) (dashes_last (is_word_part part) parts)

-- a count that runs leave as it is
record IsKept (parts more : List Part) : Type 0 where
  places : dash_count more ≡ dash_count parts
  windash : windash_count more ≡ windash_count parts

same : (parts : List Part) → IsKept parts parts
same parts = record { places = refl; windash = refl }

then_kept : (a b c : List Part) → IsKept a b → IsKept b c → IsKept a c
then_kept a b c h k = record { places = k.places ∙ h.places; windash = k.windash ∙ h.windash }

kept_before : (b : Bool) (parts : List Part) → IsKept parts (if b then parts else Run ∷ parts)
kept_before true parts = same parts
kept_before false parts = record { places = no_more Run parts refl; windash = no_more Run (dashes_of parts) refl }

kept_after : (b : Bool) (parts : List Part) → IsKept parts (if b then parts else parts ++ Run ∷ [])
kept_after true parts = same parts
kept_after false parts = record {
  places = run_last parts;
  windash = ap dash_count (dashes_last false parts) ∙ run_last (dashes_of parts);
}

kept_runs : (at : Position) (parts : List Part) → IsKept parts (with_runs at parts)
kept_runs Around parts =
    then_kept parts (with_run_before parts) (with_run_after (with_run_before parts)) (kept_before (starts_with_run parts) parts)
    (kept_after (ends_with_run (with_run_before parts)) (with_run_before parts))
kept_runs After parts = kept_after (ends_with_run parts) parts
kept_runs Before parts = kept_before (starts_with_run parts) parts

-- ---- dashes that are there make no more

sign_no_word : (c : ℕ) (a b : Bool) → (c == 45) ≡ a → (c == 47) ≡ b → (a || b) ≡ true → is_word_part (Char c) ≡ false
sign_no_word c true b ea eb h = ap (λ (d : ℕ). is_word_part (Char d)) (eqb-true c 45 ea)
sign_no_word c false true ea eb h = ap (λ (d : ℕ). is_word_part (Char d)) (eqb-true c 47 eb)
sign_no_word c false false ea eb h = absurd cc

no_word : (part : Part) → is_dash_sign part ≡ true → is_word_part part ≡ false
no_word (Char c) h = sign_no_word c (c == 45) (c == 47) refl refl h
no_word One h = refl
no_word Run h = refl
no_word Dash h = refl
no_word (Hole name) h = refl

-- a part that becomes a dash place, or stays
word_kept : (part : Part) (a b : Bool) → is_dash_sign part ≡ a → is_word_part (if a && b then Dash else part) ≡ is_word_part part
word_kept part true true is = sym (no_word part is)
word_kept part true false is = refl
word_kept part false b is = refl

split_test : (part : Part) (a b c : Bool) → is_word_part (if a && b && c then Dash else part) ≡ is_word_part (if a && (b && c) then Dash else part)
split_test part true b c = refl
split_test part false b c = refl

word_stays : (part : Part) (word next : Bool) → is_word_part (if is_dash_sign part && not word && next then Dash else part) ≡ is_word_part part
word_stays part word next = split_test part (is_dash_sign part) (not word) next ∙ word_kept part (is_dash_sign part) (not word && next) refl

first_word : (word : Bool) (parts : List Part) → starts_with_word (dashes_after word parts) ≡ starts_with_word parts
first_word word [] = refl
first_word word (part ∷ parts) = word_stays part word (starts_with_word parts)

-- where the test made a dash place, it makes none of that; where it didn't, it doesn't again
again : (part : Part) (word next : Bool) (b : Bool) → (is_dash_sign part && not word && next) ≡ b
    → (if is_dash_sign (if b then Dash else part) && not word && next then Dash else (if b then Dash else part)) ≡ (if b then Dash else part)
again part word next true h = refl
again part word next false h = rw h refl

twice : (word : Bool) (parts : List Part) → dashes_after word (dashes_after word parts) ≡ dashes_after word parts
twice word [] = refl
twice word (part ∷ parts) =
    let next : Bool = starts_with_word parts in
    let first : Part = if is_dash_sign part && not word && next then Dash else part in
    let rest : List Part = dashes_after (is_word_part part) parts in
    ap (λ b. (if is_dash_sign first && not word && b then Dash else first) ∷ dashes_after (is_word_part first) rest) (first_word (is_word_part part) parts)
    ∙ ap (λ (p : Part). p ∷ dashes_after (is_word_part first) rest) (again part word next (is_dash_sign part && not word && next) refl)
    ∙ ap (λ b. first ∷ dashes_after b rest) (word_stays part word next)
    ∙ ap (λ (ps : List Part). first ∷ ps) (twice (is_word_part part) parts)

-- ---- chains

abbrev places_after : Bool → List Part → ℕ
places_after dashed parts = if dashed then windash_count parts else dash_count parts

kept_places : (dashed : Bool) (parts more : List Part) → IsKept parts more → places_after dashed more ≡ places_after dashed parts
kept_places true parts more h = h.windash
kept_places false parts more h = h.places

dashed_places : (dashed : Bool) (parts : List Part) → places_after dashed (dashes_of parts) ≡ windash_count parts
dashed_places true parts = ap dash_count (twice false parts)
dashed_places false parts = refl

edited_places : (modifiers : List Modifier) (parts : List Part) → dash_count (all_edited modifiers parts) ≡ places_after (list_any is_windash modifiers) parts
edited_places [] parts = refl
edited_places (In at ∷ modifiers) parts =
    edited_places modifiers (with_runs at parts) ∙ kept_places (list_any is_windash modifiers) parts (with_runs at parts) (kept_runs at parts)
edited_places (All ∷ modifiers) parts = edited_places modifiers parts
edited_places (Cased ∷ modifiers) parts = edited_places modifiers parts
edited_places (Windash ∷ modifiers) parts = edited_places modifiers (dashes_of parts) ∙ dashed_places (list_any is_windash modifiers) parts
edited_places (Expand ∷ modifiers) parts = edited_places modifiers parts
edited_places (Units form ∷ modifiers) parts = edited_places modifiers parts
edited_places (As encoding ∷ modifiers) parts = edited_places modifiers parts
edited_places (Exists ∷ modifiers) parts = edited_places modifiers parts
edited_places (Cidr ∷ modifiers) parts = edited_places modifiers parts
edited_places (Order op ∷ modifiers) parts = edited_places modifiers parts
edited_places (Fieldref ∷ modifiers) parts = edited_places modifiers parts
edited_places (Re ∷ modifiers) parts = edited_places modifiers parts
edited_places (Flag flag ∷ modifiers) parts = edited_places modifiers parts

around_places : (b : Bool) (parts : List Part) → dash_count (if b then parts else with_runs Around parts) ≡ dash_count parts
around_places true parts = refl
around_places false parts = (kept_runs Around parts).places

-- no part of a text's own pattern is a dash place
first_none : (expand : Bool) (t rest : List ℕ) (part : Part) → SpellsFront expand t part rest → is_dash_place part ≡ false
first_none expand t rest part (star e q) = ap is_dash_place q
first_none expand t rest part (question e q) = ap is_dash_place q
first_none expand t rest part (escaped c e s q) = ap is_dash_place q
first_none expand t rest part (backslash e b q) = ap is_dash_place q
first_none expand t rest part (hole name e h q) = ap is_dash_place q
first_none expand t rest part (other c e s n q) = ap is_dash_place q

none_spelled : (expand : Bool) (parts : List Part) (t : List ℕ) → Spells expand t parts → dash_count parts ≡ 0
none_spelled expand [] t h = refl
none_spelled expand (part ∷ parts) t h = no_more part parts (first_none expand t h.0 part h.1) ∙ none_spelled expand parts h.0 h.2

by_windash : (dashed : Bool) (parts : List Part) → dash_count parts ≡ 0 → places_after dashed parts ≡ (if dashed then windash_count parts else 0)
by_windash true parts none = refl
by_windash false parts none = none

pub places : (chain : Written) (t : List ℕ)
    → dash_count (pattern_of chain (parts_in chain t)) ≡ (if list_any is_windash chain.modifiers then dash_count (dashes_of (parts_in chain t)) else 0)
places chain t =
    let expand : Bool = list_any is_expand chain.modifiers in
    around_places (not chain.keyword || list_any is_position chain.modifiers) (all_edited chain.modifiers (parts_in chain t))
    ∙ edited_places chain.modifiers (parts_in chain t)
    ∙ by_windash (list_any is_windash chain.modifiers) (parts_in chain t) (none_spelled expand (parts_in chain t) t (parts_spell expand t))
