-- What the edits of a chain keep.
use Rattle.std.proofs.Common.{ℕ, ◌≡◌, Bool, true, false, ◌&&◌, ◌||◌, ◌==◌, not, if◌then◌else◌, List, [], ◌∷◌, ◌++◌, refl, sym, ap, subst, ◌∙◌, map}
use Rattle.std.specs.Prelude.{Option, Some, None}
use Rattle.std.specs.List.{list_all, list_any}
use Rattle.std.proofs.lemmas.Bool.{and_parts, and_from}
use Rattle.std.proofs.lemmas.List.Folds.{list_all-append}
use Rattle.event_schema.specs.Lists.{EachOf}
use Rattle.modifier_words.specs.Kinds.{is_position, is_expand}
use Rattle.modifier_words.specs.Written.{Written}
use Rattle.modifier_words.specs.declared.modifier.Encoding.{Encoding}
use Rattle.modifier_words.specs.declared.modifier.Modifier.{Modifier}
use Rattle.modifier_words.specs.declared.modifier.Modifier.TheVariants.{Position as In, All, Cased, Windash, Expand, Units, Encoding as As, Exists, Cidr, Order, Fieldref, Re, Flag}
use Rattle.modifier_words.specs.declared.modifier.Position.{Position}
use Rattle.modifier_words.specs.declared.modifier.Position.TheVariants.{Around, After, Before}
use Rattle.sig_encode.specs.Base64.{alphabet}
use Rattle.sig_encode.specs.declared.utf16.Form.{Form}
use Rattle.sig_strings.specs.Edits.{is_dash_sign, is_word_part, starts_with_word, dashes_after, dashes_of, plain_piece, plain_text, starts_with_run, ends_with_run, with_run_before, with_run_after}
use Rattle.sig_strings.specs.Spells.{Spells, SpellsFront, star, question, escaped, backslash, hole, other}
use Rattle.sig_strings.specs.declared.part.Part.{Part}
use Rattle.sig_strings.specs.declared.part.Part.TheVariants.{Run, Dash}
use Rattle.modifier_values.specs.Edited.{with_runs, edited, all_edited, pattern_of}
use Rattle.modifier_values.specs.Encoded.{encoding_of, units_of, bytes_in, as_pattern, AreAlternatives}
use Rattle.modifier_values.specs.PlainPatterns.{is_filled}
use Rattle.modifier_values.specs.Uses.{ArePatterns}
use Rattle.modifier_values.proofs.Passing.{parts_pass, texts_pass, AllPassing, own_text}

-- ---- what holds of a pattern, and of it with runs and dash places
module _ (Q : List Part → Type 0) (before : (parts : List Part) → Q parts → Q (with_run_before parts))
    (after : (parts : List Part) → Q parts → Q (with_run_after parts)) (dashes : (parts : List Part) → Q parts → Q (dashes_of parts)) where
  runs_keep : (at : Position) (parts : List Part) → Q parts → Q (with_runs at parts)
  runs_keep Around parts h = after (with_run_before parts) (before parts h)
  runs_keep After parts h = after parts h
  runs_keep Before parts h = before parts h

  edit_keeps : (modifier : Modifier) (parts : List Part) → Q parts → Q (edited modifier parts)
  edit_keeps (In at) parts h = runs_keep at parts h
  edit_keeps All parts h = h
  edit_keeps Cased parts h = h
  edit_keeps Windash parts h = dashes parts h
  edit_keeps Expand parts h = h
  edit_keeps (Units form) parts h = h
  edit_keeps (As encoding) parts h = h
  edit_keeps Exists parts h = h
  edit_keeps Cidr parts h = h
  edit_keeps (Order op) parts h = h
  edit_keeps Fieldref parts h = h
  edit_keeps Re parts h = h
  edit_keeps (Flag flag) parts h = h

  edits_keep : (modifiers : List Modifier) (parts : List Part) → Q parts → Q (all_edited modifiers parts)
  edits_keep [] parts h = h
  edits_keep (modifier ∷ modifiers) parts h = edits_keep modifiers (edited modifier parts) (edit_keeps modifier parts h)

  around : (b : Bool) (parts : List Part) → Q parts → Q (if b then parts else with_runs Around parts)
  around true parts h = h
  around false parts h = runs_keep Around parts h

  pattern_keeps : (chain : Written) (parts : List Part) → Q parts → Q (pattern_of chain parts)
  pattern_keeps chain parts h = around (not chain.keyword || list_any is_position chain.modifiers) (all_edited chain.modifiers parts) (edits_keep chain.modifiers parts h)

  patterns_keep : (chain : Written) (all : List (List Part)) → EachOf Q all → EachOf Q (map (pattern_of chain) all)
  patterns_keep chain [] h = tt
  patterns_keep chain (parts ∷ all) h = (pattern_keeps chain parts h.0, patterns_keep chain all h.1)

-- ---- parts of a kind

abbrev pub AllParts : (Part → Bool) → List Part → Type 0
AllParts q parts = list_all q parts ≡ true

module _ (q : Part → Bool) (run : q Run ≡ true) (dash : q Dash ≡ true) where
  run_first : (b : Bool) (parts : List Part) → AllParts q parts → AllParts q (if b then parts else Run ∷ parts)
  run_first true parts h = h
  run_first false parts h = and_from (q Run) (list_all q parts) run h

  run_last : (b : Bool) (parts : List Part) → AllParts q parts → AllParts q (if b then parts else parts ++ Run ∷ [])
  run_last true parts h = h
  run_last false parts h = list_all-append q parts (Run ∷ []) ∙ and_from (list_all q parts) (q Run && true) h (and_from (q Run) true run refl)

  one_dash : (b : Bool) (part : Part) → q part ≡ true → q (if b then Dash else part) ≡ true
  one_dash true part h = dash
  one_dash false part h = h

  dashes_keep : (word : Bool) (parts : List Part) → AllParts q parts → AllParts q (dashes_after word parts)
  dashes_keep word [] h = refl
  dashes_keep word (part ∷ parts) h =
      let both = and_parts (q part) (list_all q parts) h in
      and_from (q (if is_dash_sign part && not word && starts_with_word parts then Dash else part)) (list_all q (dashes_after (is_word_part part) parts))
      (one_dash (is_dash_sign part && not word && starts_with_word parts) part both.0) (dashes_keep (is_word_part part) parts both.1)

  pub parts_keep : (chain : Written) (all : List (List Part)) → EachOf (AllParts q) all → EachOf (AllParts q) (map (pattern_of chain) all)
  parts_keep chain all h =
      patterns_keep (AllParts q) (λ parts k. run_first (starts_with_run parts) parts k) (λ parts k. run_last (ends_with_run parts) parts k)
      (λ parts k. dashes_keep false parts k) chain all h

-- characters that pass a test, and any other part
abbrev pub passing : (ℕ → Bool) → Part → Bool
passing p part = list_all p (plain_piece part)

pub by_parts : (p : ℕ → Bool) (parts : List Part) → list_all (passing p) parts ≡ list_all p (plain_text parts)
by_parts p [] = refl
by_parts p (part ∷ parts) = ap (λ b. passing p part && b) (by_parts p parts) ∙ sym (list_all-append p (plain_piece part) (plain_text parts))

-- ---- the patterns of a text

-- characters alone are filled
chars_filled : (text : List ℕ) → AllParts is_filled (as_pattern text)
chars_filled [] = refl
chars_filled (c ∷ cs) = chars_filled cs

all_chars_filled : (texts : List (List ℕ)) → EachOf (AllParts is_filled) (map as_pattern texts)
all_chars_filled [] = tt
all_chars_filled (text ∷ texts) = (chars_filled text, all_chars_filled texts)

front_filled : (t rest : List ℕ) (part : Part) → SpellsFront false t part rest → is_filled part ≡ true
front_filled t rest part (star e q) = ap is_filled q
front_filled t rest part (question e q) = ap is_filled q
front_filled t rest part (escaped c e s q) = ap is_filled q
front_filled t rest part (backslash e b q) = ap is_filled q
front_filled t rest part (hole name e h q) = absurd cc
front_filled t rest part (other c e s n q) = ap is_filled q

parts_filled : (parts : List Part) (t : List ℕ) → Spells false t parts → AllParts is_filled parts
parts_filled [] t h = refl
parts_filled (part ∷ parts) t h =
    and_from (is_filled part) (list_all is_filled parts) (front_filled t h.0 part h.1) (parts_filled parts h.0 h.2)

alternatives_filled : (o : Option Encoding) (units : Option Form) (parts : List Part) (all : List (List Part)) → AllParts is_filled parts
    → AreAlternatives o units parts all → EachOf (AllParts is_filled) all
alternatives_filled None units parts all filled are =
    subst (λ (ps : List (List Part)). EachOf (AllParts is_filled) ps) (sym are) (filled, tt)
alternatives_filled (Some e) units parts all filled are =
    subst (λ (ps : List (List Part)). EachOf (AllParts is_filled) ps) (sym are.2) (all_chars_filled are.0)

-- without `expand` no pattern of a text has a placeholder
pub patterns_filled : (chain : Written) (t : List ℕ) (all : List (List Part)) → list_any is_expand chain.modifiers ≡ false → ArePatterns chain t all
    → EachOf (AllParts is_filled) all
patterns_filled chain t all none are =
    let spelled : Spells false t are.parts = subst (λ (b : Bool). Spells b t are.parts) none are.spelled in
    subst (λ (ps : List (List Part)). EachOf (AllParts is_filled) ps) (sym are.patterns_are)
    (parts_keep is_filled refl refl chain are.alternatives
    (alternatives_filled (encoding_of chain.modifiers) (units_of chain.modifiers) are.parts are.alternatives
    (parts_filled are.parts t spelled) are.are_alternatives))

-- ---- a test that the characters of base64 pass
module _ (p : ℕ → Bool) (symbols : list_all p alphabet ≡ true) (padding : p 61 ≡ true) where
  text_parts_pass : (text : List ℕ) → list_all p text ≡ true → AllParts (passing p) (as_pattern text)
  text_parts_pass text all = by_parts p (as_pattern text) ∙ ap (λ (t : List ℕ). list_all p t) (own_text text) ∙ all

  all_parts_pass : (texts : List (List ℕ)) → AllPassing p symbols padding texts → EachOf (AllParts (passing p)) (map as_pattern texts)
  all_parts_pass [] h = tt
  all_parts_pass (text ∷ texts) h = (text_parts_pass text h.0, all_parts_pass texts h.1)

  alternatives_pass : (o : Option Encoding) (units : Option Form) (parts : List Part) (all : List (List Part)) → list_all p (plain_text parts) ≡ true
      → AreAlternatives o units parts all → EachOf (AllParts (passing p)) all
  alternatives_pass None units parts all passes are =
      subst (λ (ps : List (List Part)). EachOf (AllParts (passing p)) ps) (sym are) (by_parts p parts ∙ passes, tt)
  alternatives_pass (Some e) units parts all passes are =
      subst (λ (ps : List (List Part)). EachOf (AllParts (passing p)) ps) (sym are.2)
      (all_parts_pass are.0 (texts_pass p symbols padding e (bytes_in units (plain_text parts)) are.0 are.1))

  pub patterns_pass : (chain : Written) (t : List ℕ) (all : List (List Part)) → list_all p t ≡ true → ArePatterns chain t all → EachOf (AllParts (passing p)) all
  patterns_pass chain t all passes are =
      subst (λ (ps : List (List Part)). EachOf (AllParts (passing p)) ps) (sym are.patterns_are)
      (parts_keep (passing p) refl refl chain are.alternatives
      (alternatives_pass (encoding_of chain.modifiers) (units_of chain.modifiers) are.parts are.alternatives
      (parts_pass p (list_any is_expand chain.modifiers) are.parts t are.spelled passes) are.are_alternatives))
