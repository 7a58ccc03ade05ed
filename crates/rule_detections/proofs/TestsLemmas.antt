-- A value that isn't refused has tests, one list of them, which isn't empty.
use Rattle.std.proofs.Common.{◌≡◌, ℕ, List, [], ◌∷◌, map as list_map, refl, sym, ◌∙◌, ap, subst}
use Rattle.std.specs.Prelude.{Option, Some, None, length}
use Rattle.event_schema.specs.Lists.{HasElement}
use Rattle.modifier_words.specs.Written.{Written}
use Rattle.modifier_words.specs.declared.modifier.Encoding.{Encoding}
use Rattle.modifier_words.specs.declared.modifier.Encoding.TheVariants.{Base64, Base64Offset}
use Rattle.sig_base.specs.declared.refusal.Place.{Place}
use Rattle.sig_encode.specs.Networks.{Net, IsNetwork}
use Rattle.sig_encode.specs.declared.utf16.Form.{Form}
use Rattle.sig_strings.specs.Edits.{plain_text}
use Rattle.sig_strings.specs.declared.part.Part.{Part}
use Rattle.modifier_values.specs.Edited.{pattern_of}
use Rattle.modifier_values.specs.Encoded.{encoding_of, units_of, bytes_in, as_pattern, AreTexts, AreAlternatives}
use Rattle.modifier_values.specs.Uses.{Use, unused, absent, existing, pattern, network, number, ordered, reference, expression, use_refusal, ArePatterns}
use Rattle.yaml_tree.specs.Nodes.{place_of}
use Rattle.yaml_tree.specs.Tree.{Tree}
use Rattle.rule_detections.specs.TestsOf.{UseTests, TestsOf, use_of, fits_of, value_refusal}
use Rattle.rule_detections.specs.declared.test.Test.{Test}
use Rattle.rule_detections.specs.declared.test.Test.TheVariants as tests

-- where a text stands for one list of patterns at most, and is one network at most
module _ (same : (chain : Written) (t : List ℕ) (patterns others : List (List Part)) → ArePatterns chain t patterns → ArePatterns chain t others → patterns ≡ others)
    (same_network : (t : List ℕ) (m n : Net) → IsNetwork t m → IsNetwork t n → m ≡ n) where
  use_one : (chain : Written) (u : Use) (a b : List Test) → UseTests chain u a → UseTests chain u b → a ≡ b
  use_one chain unused a b p q = absurd p
  use_one chain absent a b p q = p ∙ sym q
  use_one chain (existing e) a b p q = p ∙ sym q
  use_one chain (pattern t) a b p q =
      p.tests_are ∙ (ap (λ (all : List (List Part)). list_map (fits_of chain) all) (same chain t p.patterns q.patterns p.are_patterns q.are_patterns) ∙ sym q.tests_are)
  use_one chain (network t) a b p q = p.2 ∙ (ap (λ (n : Net). tests.Inside n ∷ []) (same_network t p.0 q.0 p.1 q.1) ∙ sym q.2)
  use_one chain (number n) a b p q = p ∙ sym q
  use_one chain (ordered op n) a b p q = p ∙ sym q
  use_one chain (reference t) a b p q = p ∙ sym q
  use_one chain (expression flags t) a b p q = p ∙ sym q

  pub one_list : (chain : Written) (value : Tree) (a b : List Test) → TestsOf chain value a → TestsOf chain value b → a ≡ b
  one_list chain value a b p q = use_one chain (use_of chain value) a b p q

-- where each text stands for some patterns, and is some network unless it's refused
module _ (some : (chain : Written) (t : List ℕ) → (patterns : List (List Part)) × ArePatterns chain t patterns)
    (some_network : (unbuilt : List Place) (most dashes : ℕ) (chain : Written) (place : Place) (t : List ℕ) → use_refusal unbuilt most dashes chain place (network t) ≡ None
    → (n : Net) × IsNetwork t n) where
  use_some : (unbuilt : List Place) (most dashes : ℕ) (chain : Written) (place : Place) (u : Use) → use_refusal unbuilt most dashes chain place u ≡ None
      → (ts : List Test) × UseTests chain u ts
  use_some unbuilt most dashes chain place unused h = absurd cc
  use_some unbuilt most dashes chain place absent h = (tests.Absent ∷ [], refl)
  use_some unbuilt most dashes chain place (existing e) h = (tests.Exists e ∷ [], refl)
  use_some unbuilt most dashes chain place (pattern t) h =
      let p : (patterns : List (List Part)) × ArePatterns chain t patterns = some chain t in
      (list_map (fits_of chain) p.0, record { patterns = p.0; are_patterns = p.1; tests_are = refl })
  use_some unbuilt most dashes chain place (network t) h =
      let p : (n : Net) × IsNetwork t n = some_network unbuilt most dashes chain place t h in
      (tests.Inside p.0 ∷ [], (p.0, p.1, refl))
  use_some unbuilt most dashes chain place (number n) h = (tests.Equals n ∷ [], refl)
  use_some unbuilt most dashes chain place (ordered op n) h = (tests.Compare op n ∷ [], refl)
  use_some unbuilt most dashes chain place (reference t) h = (tests.SameAs t ∷ [], refl)
  use_some unbuilt most dashes chain place (expression flags t) h = (tests.Finds t flags ∷ [], refl)

  pub some_list : (unbuilt : List Place) (most dashes : ℕ) (chain : Written) (value : Tree) → value_refusal unbuilt most dashes chain value ≡ None
      → (ts : List Test) × TestsOf chain value ts
  some_list unbuilt most dashes chain value h =
      use_some unbuilt most dashes chain (place_of value) (use_of chain value) h

-- ---- there's a test

some_map : {A B : Type 0} (f : A → B) (xs : List A) → HasElement xs → HasElement (list_map f xs)
some_map f [] h = absurd h
some_map f (x ∷ xs) h = tt

some_of_three : (texts : List (List ℕ)) → length texts ≡ 3 → HasElement texts
some_of_three [] h = absurd cc
some_of_three (first ∷ others) h = tt

some_text : (encoding : Encoding) (bytes : List ℕ) (texts : List (List ℕ)) → AreTexts encoding bytes texts → HasElement texts
some_text Base64 bytes texts h = subst (λ (ts : List (List ℕ)). HasElement ts) (sym h.2) tt
some_text Base64Offset bytes texts h = some_of_three texts h.three

some_alternative : (encoding : Option Encoding) (units : Option Form) (parts : List Part) (all : List (List Part))
    → AreAlternatives encoding units parts all → HasElement all
some_alternative None units parts patterns h = subst (λ (ps : List (List Part)). HasElement ps) (sym h) tt
some_alternative (Some encoding) units parts patterns h =
    subst (λ (ps : List (List Part)). HasElement ps) (sym h.2)
    (some_map as_pattern h.0 (some_text encoding (bytes_in units (plain_text parts)) h.0 h.1))

some_pattern : (chain : Written) (t : List ℕ) (patterns : List (List Part)) → ArePatterns chain t patterns → HasElement patterns
some_pattern chain t patterns h =
    subst (λ (ps : List (List Part)). HasElement ps) (sym h.patterns_are)
    (some_map (pattern_of chain) h.alternatives
    (some_alternative (encoding_of chain.modifiers) (units_of chain.modifiers) h.parts h.alternatives h.are_alternatives))

use_has : (chain : Written) (u : Use) (ts : List Test) → UseTests chain u ts → HasElement ts
use_has chain unused ts h = absurd h
use_has chain absent ts h = subst (λ (us : List Test). HasElement us) (sym h) tt
use_has chain (existing b) ts h = subst (λ (us : List Test). HasElement us) (sym h) tt
use_has chain (pattern t) ts h =
    subst (λ (us : List Test). HasElement us) (sym h.tests_are) (some_map (fits_of chain) h.patterns (some_pattern chain t h.patterns h.are_patterns))
use_has chain (network t) ts h = subst (λ (us : List Test). HasElement us) (sym h.2) tt
use_has chain (number n) ts h = subst (λ (us : List Test). HasElement us) (sym h) tt
use_has chain (ordered op n) ts h = subst (λ (us : List Test). HasElement us) (sym h) tt
use_has chain (reference t) ts h = subst (λ (us : List Test). HasElement us) (sym h) tt
use_has chain (expression flags t) ts h = subst (λ (us : List Test). HasElement us) (sym h) tt

pub has_test : (chain : Written) (value : Tree) (ts : List Test) → TestsOf chain value ts → HasElement ts
has_test chain value ts h = use_has chain (use_of chain value) ts h
