-- What is answered for a pattern and for a network is what the table of uses says.
use Rattle.std.proofs.Common.{◌≡◌, ℕ, Bool, true, false, not, nat_le, List, [], ◌∷◌, length, map, refl, sym, ap, ◌∙◌, subst, arith}
use Rattle.std.specs.Prelude.{ℤ, Option, Some, None, Result, Ok, Err, is_some}
use Rattle.std.specs.List.{list_any}
use Rattle.std.proofs.lemmas.Bool.{le-leb}
use Rattle.std.proofs.lemmas.Simd.{map-map}
use Rattle.sig_base.specs.declared.refusal.Fault.{Fault}
use Rattle.sig_base.specs.declared.refusal.Fault.TheVariants.{Memory, Refused}
use Rattle.sig_base.specs.declared.refusal.Place.{Place}
use Rattle.sig_base.specs.declared.refusal.Refusal.{Refusal}
use Rattle.sig_base.specs.Judged.{Judged, must, first}
use Rattle.modifier_windash.specs.Choices.{dash_count}
use Rattle.modifier_words.specs.Kinds.{is_expand}
use Rattle.modifier_words.specs.Written.{Written}
use Rattle.event_schema.specs.Names.{is_legal}
use Rattle.modifier_words.specs.declared.modifier.Encoding.{Encoding}
use Rattle.modifier_words.specs.declared.modifier.Op.{Op}
use Rattle.sig_encode.specs.Answers.{NetworkRead}
use Rattle.sig_encode.specs.Networks.{Net, IsNetwork}
use Rattle.sig_encode.specs.Written.{net_in}
use Rattle.sig_encode.proofs.WrittenLemmas.{network_read, network_written}
use Rattle.sig_strings.specs.Spells.{Spells}
use Rattle.sig_strings.specs.declared.part.Part.{Part}
use Rattle.modifier_values.specs.Edited.{pattern_of}
use Rattle.modifier_values.specs.Encoded.{encoding_of, units_of, as_pattern, AreAlternatives}
use Rattle.modifier_values.specs.Parts.{has_nul}
use Rattle.modifier_values.specs.Numbers.{is_whole}
use Rattle.modifier_values.specs.Uses.{pattern, network, ordered, reference, text_checks, encoding_checks, use_refusal, no_wildcard, enough_bytes, dash_places_of, ArePatterns, AreEditedTexts}
use Rattle.modifier_values.proofs.PartsLemmas.{spelled_is}

-- a text's own checks pass, so the later lines of the table decide
later : (a b : Bool) (place : Place) (more : List (Option Refusal)) → first (must 49 place a ∷ must 50 place b ∷ []) ≡ None
    → first (must 49 place a ∷ must 50 place b ∷ more) ≡ first more
later true true place more h = refl
later true false place more h = absurd cc
later false b place more h = absurd cc

-- the lines of the table for a pattern, by its encoding
abbrev pattern_lines : ℕ → Option Encoding → Written → Place → List ℕ → Option Refusal
pattern_lines dashes encoding chain place t =
    first (must 43 place (no_wildcard encoding chain t) ∷ must 42 place (enough_bytes encoding chain t) ∷ None ∷ None ∷ None ∷ must 46 place (nat_le (dash_places_of encoding chain t) dashes) ∷ None ∷ None ∷ [])

-- a text's own checks decide where one of them refuses
pub sooner : (a b : Bool) (place : Place) (more : List (Option Refusal)) (r : Refusal) → first (must 49 place a ∷ must 50 place b ∷ []) ≡ Some r
    → first (must 49 place a ∷ must 50 place b ∷ more) ≡ Some r
sooner true true place more r h = absurd cc
sooner true false place more r h = h
sooner false b place more r h = h

-- no dash places are never too many
no_places : (dashes : ℕ) → nat_le 0 dashes ≡ true
no_places dashes = le-leb 0 dashes (omega arith)

-- two lines, and then nothing else that is refused
two_lines : (a b c : Bool) (place : Place) → c ≡ true → first (must 43 place a ∷ must 42 place b ∷ None ∷ None ∷ None ∷ must 46 place c ∷ None ∷ None ∷ []) ≡ first (must 43 place a ∷ must 42 place b ∷ [])
two_lines true true c place h = rw h refl
two_lines true false c place h = refl
two_lines false b c place h = refl

one_line : (a : Bool) (place : Place) → first (None ∷ None ∷ None ∷ None ∷ None ∷ must 46 place a ∷ None ∷ None ∷ []) ≡ must 46 place a
one_line true place = refl
one_line false place = refl

module _ (unbuilt : List Place) (most dashes : ℕ) (chain : Written) (place : Place) (t : List ℕ) (parts : List Part) (spelled : Spells (list_any is_expand chain.modifiers) t parts)
    (taken : first (text_checks most place t) ≡ None) where
  the_lines : use_refusal unbuilt most dashes chain place (pattern t) ≡ pattern_lines dashes (encoding_of chain.modifiers) chain place t
  the_lines = later (nat_le (length t) most) (not (has_nul t)) place _ taken

  encoded_lines : (e : Encoding) → encoding_of chain.modifiers ≡ Some e
      → use_refusal unbuilt most dashes chain place (pattern t) ≡ first (encoding_checks e chain place parts)
  encoded_lines e is =
      the_lines ∙ ap (λ (o : Option Encoding). pattern_lines dashes o chain place t) is
      ∙ two_lines _ _ (nat_le 0 dashes) place (no_places dashes) ∙ ap (λ (ps : List Part). first (encoding_checks e chain place ps)) (sym (spelled_is (list_any is_expand chain.modifiers) parts t spelled))

  plain_lines : encoding_of chain.modifiers ≡ None
      → use_refusal unbuilt most dashes chain place (pattern t) ≡ must 46 place (nat_le (dash_count (pattern_of chain parts)) dashes)
  plain_lines is =
      the_lines ∙ ap (λ (o : Option Encoding). pattern_lines dashes o chain place t) is
      ∙ one_line _ place ∙ ap (λ (ps : List Part). must 46 place (nat_le (dash_count (pattern_of chain ps)) dashes)) (sym (spelled_is (list_any is_expand chain.modifiers) parts t spelled))

  encoded_patterns : (e : Encoding) → encoding_of chain.modifiers ≡ Some e → (all : List (List Part)) → AreEditedTexts chain e parts all → ArePatterns chain t all
  encoded_patterns e is all h = record {
    parts = parts;
    spelled = spelled;
    alternatives = map as_pattern h.0;
    are_alternatives = subst (λ (o : Option Encoding). AreAlternatives o (units_of chain.modifiers) parts (map as_pattern h.0)) (sym is) (h.0, h.1, refl);
    patterns_are = h.2 ∙ sym (map-map (pattern_of chain) as_pattern h.0);
  }

  plain_patterns : encoding_of chain.modifiers ≡ None → (all : List (List Part)) → all ≡ pattern_of chain parts ∷ [] → ArePatterns chain t all
  plain_patterns is all h = record {
    parts = parts;
    spelled = spelled;
    alternatives = parts ∷ [];
    are_alternatives = subst (λ (o : Option Encoding). AreAlternatives o (units_of chain.modifiers) parts (parts ∷ [])) (sym is) refl;
    patterns_are = h;
  }

  pub encoded_judged : {X : Type 0} (items : X → List (List Part)) (e : Encoding) → encoding_of chain.modifiers ≡ Some e → (r : Result X Fault)
      → Judged (λ all. AreEditedTexts chain e parts (items all)) (first (encoding_checks e chain place parts)) r
      → Judged (λ all. ArePatterns chain t (items all)) (use_refusal unbuilt most dashes chain place (pattern t)) r
  encoded_judged items e is (Ok all) h = (encoded_lines e is ∙ h.0, encoded_patterns e is (items all) h.1)
  encoded_judged items e is (Err Memory) h = tt
  encoded_judged items e is (Err (Refused r)) h = encoded_lines e is ∙ h

  pub plain_judged : {X : Type 0} (items : X → List (List Part)) → encoding_of chain.modifiers ≡ None → (r : Result X Fault)
      → Judged (λ all. items all ≡ pattern_of chain parts ∷ []) (must 46 place (nat_le (dash_count (pattern_of chain parts)) dashes)) r
      → Judged (λ all. ArePatterns chain t (items all)) (use_refusal unbuilt most dashes chain place (pattern t)) r
  plain_judged items is (Ok all) h = (plain_lines is ∙ h.0, plain_patterns is (items all) h.1)
  plain_judged items is (Err Memory) h = tt
  plain_judged items is (Err (Refused r)) h = plain_lines is ∙ h

pub refused_sooner : (unbuilt : List Place) (most dashes : ℕ) (chain : Written) (place : Place) (t : List ℕ) (r : Refusal)
    → first (text_checks most place t) ≡ Some r → use_refusal unbuilt most dashes chain place (pattern t) ≡ Some r
refused_sooner unbuilt most dashes chain place t r h = sooner (nat_le (length t) most) (not (has_nul t)) place _ r h

-- ---- networks

network_line : (place : Place) (b c : Bool) → c ≡ true → first (None ∷ None ∷ None ∷ must 44 place b ∷ None ∷ must 46 place c ∷ None ∷ None ∷ []) ≡ must 44 place b
network_line place true c h = rw h refl
network_line place false c h = refl

none_in : (t : List ℕ) (o : Option Net) → net_in t ≡ o → ((n : Net) → IsNetwork t n → ⊥) → is_some o ≡ false
none_in t None is none = refl
none_in t (Some n) is none = absurd (none n (network_written t n is))

network_decides : (place : Place) (t : List ℕ) (r : Result Net Fault) → NetworkRead place t r → Judged (λ n. IsNetwork t n) (must 44 place (is_some (net_in t))) r
network_decides place t (Ok n) h = (ap (λ (o : Option Net). must 44 place (is_some o)) (network_read t n h), h)
network_decides place t (Err Memory) h = absurd h
network_decides place t (Err (Refused r)) h =
    ap (λ b. must 44 place b) (none_in t (net_in t) refl h.1) ∙ ap (λ (x : Refusal). Some x) (sym h.0)

pub network_judged : (unbuilt : List Place) (most dashes : ℕ) (chain : Written) (place : Place) (t : List ℕ) (r : Result Net Fault)
    → nat_le (length t) most ≡ true → has_nul t ≡ false → NetworkRead place t r
    → Judged (λ n. IsNetwork t n) (use_refusal unbuilt most dashes chain place (network t)) r
network_judged unbuilt most dashes chain place t r short free h =
    let taken : first (text_checks most place t) ≡ None = rw (short, free) refl in
    let lines : use_refusal unbuilt most dashes chain place (network t) ≡ must 44 place (is_some (net_in t)) =
    later (nat_le (length t) most) (not (has_nul t)) place _ taken ∙ network_line place (is_some (net_in t)) (nat_le 0 dashes) (no_places dashes) in
    subst (λ (o : Option Refusal). Judged (λ n. IsNetwork t n) o r) (sym lines) (network_decides place t r h)

-- ---- numbers that others stand to, and names of fields

ordered_line : (place : Place) (b c : Bool) → c ≡ true
    → first (None ∷ None ∷ None ∷ None ∷ None ∷ None ∷ None ∷ must 45 place b ∷ must 46 place c ∷ None ∷ None ∷ []) ≡ must 45 place b
ordered_line place true c h = rw h refl
ordered_line place false c h = refl

-- an empty text is short, whatever the greatest length is
pub ordered_lines : (unbuilt : List Place) (most dashes : ℕ) (chain : Written) (place : Place) (op : Op) (n : ℤ)
    → use_refusal unbuilt most dashes chain place (ordered op n) ≡ must 45 place (is_whole n)
ordered_lines unbuilt most dashes chain place op n =
    let short : nat_le 0 most ≡ true = le-leb 0 most (omega arith) in
    later (nat_le 0 most) true place _ (rw short refl) ∙ ordered_line place (is_whole n) (nat_le 0 dashes) (no_places dashes)

name_line : (place : Place) (b c : Bool) → c ≡ true
    → first (None ∷ None ∷ must 42 place b ∷ None ∷ None ∷ must 46 place c ∷ None ∷ None ∷ []) ≡ must 42 place b
name_line place true c h = rw h refl
name_line place false c h = refl

pub reference_lines : (unbuilt : List Place) (most dashes : ℕ) (chain : Written) (place : Place) (t : List ℕ)
    → first (text_checks most place t) ≡ None → use_refusal unbuilt most dashes chain place (reference t) ≡ must 42 place (is_legal t)
reference_lines unbuilt most dashes chain place t taken =
    later (nat_le (length t) most) (not (has_nul t)) place _ taken ∙ name_line place (is_legal t) (nat_le 0 dashes) (no_places dashes)

-- ---- what isn't refused

passes : (code : ℕ) (place : Place) (b : Bool) → must code place b ≡ None → b ≡ true
passes code place true h = refl
passes code place false h = absurd cc

pub ordered_taken : (unbuilt : List Place) (most dashes : ℕ) (chain : Written) (place : Place) (op : Op) (n : ℤ)
    → use_refusal unbuilt most dashes chain place (ordered op n) ≡ None → is_whole n ≡ true
ordered_taken unbuilt most dashes chain place op n h = passes 45 place (is_whole n) (sym (ordered_lines unbuilt most dashes chain place op n) ∙ h)

third_passes : (a b c : Bool) (place : Place) (more : List (Option Refusal))
    → first (must 49 place a ∷ must 50 place b ∷ None ∷ None ∷ must 42 place c ∷ more) ≡ None → c ≡ true
third_passes true true true place more h = refl
third_passes true true false place more h = absurd cc
third_passes true false c place more h = absurd cc
third_passes false b c place more h = absurd cc

pub reference_taken : (unbuilt : List Place) (most dashes : ℕ) (chain : Written) (place : Place) (t : List ℕ)
    → use_refusal unbuilt most dashes chain place (reference t) ≡ None → is_legal t ≡ true
reference_taken unbuilt most dashes chain place t h = third_passes (nat_le (length t) most) (not (has_nul t)) (is_legal t) place _ h
