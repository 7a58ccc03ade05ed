-- Tests of keywords are patterns and regular expressions; patterns of texts of scalar values are plain.
use Rattle.std.proofs.Common.{ℕ, zero, suc, ◌≡◌, ◌/◌, ◌%◌, ◌<◌, ℤ, pos, negsuc, Bool, true, false, ◌==◌, nat_lt, if◌then◌else◌, List, [], ◌∷◌, map as list_map, refl, sym, ap, ◌∙◌, subst, arith}
use Rattle.std.specs.Prelude.{Option, None, not, nat_le, length, Result, Ok, Err, IfOk, IfErr}
use Rattle.std.specs.List.{list_any}
use Rattle.std.specs.Fmt.{digit_glyph, digits_onto, digits, signed_decimal}
use Rattle.std.specs.Str.{all_scalars}
use Rattle.std.proofs.lemmas.Bool.{and_from}
use Rattle.std.proofs.lemmas.Bool.Decides.{nat_tests}
use Rattle.event_schema.specs.Lists.{EachOf}
use Rattle.modifier_words.specs.Chains.{form_of, keyword_form, is_expression_chain, flags_of}
use Rattle.modifier_words.specs.Kinds.{is_cased}
use Rattle.modifier_words.specs.Written.{Written}
use Rattle.modifier_words.specs.declared.form.ChainForm.{ChainForm}
use Rattle.modifier_words.specs.declared.form.ChainForm.TheVariants.{Bare, Presence, Networks, Orders, Reference, Expressions, Texts}
use Rattle.modifier_words.specs.declared.form.Flags.{Flags}
use Rattle.sig_base.specs.Texts.{is_ascii}
use Rattle.sig_base.specs.declared.refusal.Place.{Place}
use Rattle.sig_base.specs.declared.refusal.Refusal.{Refusal}
use Rattle.sig_base.specs.Judged.{must, first, Judged}
use Rattle.sig_base.specs.declared.refusal.Fault.{Fault}
use Rattle.sig_base.specs.declared.refusal.Fault.TheVariants.{Memory, Refused}
use Rattle.sig_base.proofs.TextLemmas.{ascii_scalars}
use Rattle.sig_encode.specs.Networks.{Net, IsNetwork}
use Rattle.sig_strings.specs.declared.part.Part.{Part}
use Rattle.modifier_values.specs.Parts.{has_nul}
use Rattle.modifier_values.specs.PlainPatterns.{HasPlainText}
use Rattle.modifier_values.specs.Uses.{Use, unused, absent, existing, pattern, network, number, ordered, reference, expression, use_refusal, ArePatterns}
use Rattle.modifier_values.proofs.JudgedLemmas.{ordered_taken, reference_taken}
use Rattle.modifier_values.proofs.Numbers.{whole_holds}
use Rattle.modifier_values.proofs.Plain.{expression_taken}
use Rattle.yaml_tree.specs.Nodes.{place_of}
use Rattle.yaml_tree.specs.Texts.{IsScalarText, HasScalarTexts}
use Rattle.yaml_tree.specs.Tree.{Scalar, null, truth, whole, text, Tree, scalar, list, map}
use Rattle.rule_detections.specs.PlainTests.{IsPlainNetwork, ArePlainTests, IsPatternTest}
use Rattle.rule_detections.specs.TestsOf.{AreFits, AreInside, UseTests, TestsOf, use_of, form_use, scalar_use, truth_text, fits_of, value_refusal}
use Rattle.rule_detections.specs.declared.test.Test.{Test}
use Rattle.rule_detections.specs.declared.test.Test.TheVariants as tests

-- ---- keywords

each_pattern : (chain : Written) (patterns : List (List Part)) → EachOf IsPatternTest (list_map (fits_of chain) patterns)
each_pattern chain [] = tt
each_pattern chain (parts ∷ patterns) = (tt, each_pattern chain patterns)

text_patterns : (chain : Written) (value : Tree) (ts : List Test) → UseTests chain (form_use (Texts false) value) ts → EachOf IsPatternTest ts
text_patterns chain (scalar at null) ts h = absurd h
text_patterns chain (scalar at (truth b)) ts h = subst (EachOf IsPatternTest) (sym h.tests_are) (each_pattern chain h.patterns)
text_patterns chain (scalar at (whole n)) ts h = subst (EachOf IsPatternTest) (sym h.tests_are) (each_pattern chain h.patterns)
text_patterns chain (scalar at (text t)) ts h = subst (EachOf IsPatternTest) (sym h.tests_are) (each_pattern chain h.patterns)
text_patterns chain (list at parts) ts h = absurd h
text_patterns chain (map at parts) ts h = absurd h

expression_patterns : (chain : Written) (flags : Flags) (value : Tree) (ts : List Test) → UseTests chain (form_use (Expressions flags) value) ts → EachOf IsPatternTest ts
expression_patterns chain flags (scalar at null) ts h = absurd h
expression_patterns chain flags (scalar at (truth b)) ts h = absurd h
expression_patterns chain flags (scalar at (whole n)) ts h = absurd h
expression_patterns chain flags (scalar at (text t)) ts h = subst (EachOf IsPatternTest) (sym h) (tt, tt)
expression_patterns chain flags (list at parts) ts h = absurd h
expression_patterns chain flags (map at parts) ts h = absurd h

either_patterns : (b : Bool) (chain : Written) (flags : Flags) (value : Tree) (ts : List Test)
    → UseTests chain (form_use (if b then Expressions flags else Texts false) value) ts → EachOf IsPatternTest ts
either_patterns true chain flags value ts h = expression_patterns chain flags value ts h
either_patterns false chain flags value ts h = text_patterns chain value ts h

at_keyword : (chain : Written) → chain.keyword ≡ true → form_of chain ≡ keyword_form chain.modifiers
at_keyword chain h = rw h refl

pub keyword_patterns : (chain : Written) (value : Tree) (ts : List Test) → chain.keyword ≡ true → TestsOf chain value ts → EachOf IsPatternTest ts
keyword_patterns chain value ts h t =
    either_patterns (is_expression_chain chain.modifiers) chain (flags_of chain.modifiers) value ts
    (subst (λ (f : ChainForm). UseTests chain (form_use f value) ts) (at_keyword chain h) t)

-- ---- texts of scalar values

digit_ascii : (d : ℕ) → d < 10 → nat_lt (digit_glyph false d) 128 ≡ true
digit_ascii d h = grind (arith, nat_tests)

digits_ascii : (k n : ℕ) (acc : List ℕ) → is_ascii acc ≡ true → is_ascii (digits_onto k 10 false n acc) ≡ true
digits_ascii zero n acc h = h
digits_ascii (suc k) n acc h =
    let small : n % 10 < 10 = omega arith in
    let now : is_ascii (digit_glyph false (n % 10) ∷ acc) ≡ true = and_from _ _ (digit_ascii (n % 10) small) h in
    elim (n / 10 == 0) as (λ (b : Bool). is_ascii (if b then digit_glyph false (n % 10) ∷ acc else digits_onto k 10 false (n / 10) (digit_glyph false (n % 10) ∷ acc)) ≡ true)
    [ true ↦ now | false ↦ digits_ascii k (n / 10) (digit_glyph false (n % 10) ∷ acc) now ]

all_digits_ascii : (n : ℕ) → is_ascii (digits 10 false n) ≡ true
unfolding digits
all_digits_ascii n = digits_ascii 64 n [] refl

decimal_ascii : (n : ℤ) → is_ascii (signed_decimal n) ≡ true
decimal_ascii (pos n) = all_digits_ascii n
decimal_ascii (negsuc n) = all_digits_ascii (suc n)

abbrev IsScalarUse : Use → Type 0
IsScalarUse unused = Unit {0}
IsScalarUse absent = Unit {0}
IsScalarUse (existing b) = Unit {0}
IsScalarUse (pattern t) = all_scalars t ≡ true
IsScalarUse (network t) = Unit {0}
IsScalarUse (number n) = Unit {0}
IsScalarUse (ordered op n) = Unit {0}
IsScalarUse (reference t) = all_scalars t ≡ true
IsScalarUse (expression flags t) = all_scalars t ≡ true

truth_scalars : (b : Bool) → all_scalars (truth_text b) ≡ true
truth_scalars true = refl
truth_scalars false = refl

null_scalars : (nulls : Bool) → IsScalarUse (if nulls then absent else unused)
null_scalars true = tt
null_scalars false = tt

scalar_uses : (form : ChainForm) (s : Scalar) → IsScalarText s → IsScalarUse (scalar_use form s)
scalar_uses Bare null h = tt
scalar_uses Bare (truth b) h = truth_scalars b
scalar_uses Bare (whole n) h = tt
scalar_uses Bare (text t) h = h
scalar_uses Presence null h = tt
scalar_uses Presence (truth b) h = tt
scalar_uses Presence (whole n) h = tt
scalar_uses Presence (text t) h = tt
scalar_uses Networks null h = tt
scalar_uses Networks (truth b) h = tt
scalar_uses Networks (whole n) h = tt
scalar_uses Networks (text t) h = tt
scalar_uses (Orders op) null h = tt
scalar_uses (Orders op) (truth b) h = tt
scalar_uses (Orders op) (whole n) h = tt
scalar_uses (Orders op) (text t) h = tt
scalar_uses Reference null h = tt
scalar_uses Reference (truth b) h = tt
scalar_uses Reference (whole n) h = tt
scalar_uses Reference (text t) h = h
scalar_uses (Expressions flags) null h = tt
scalar_uses (Expressions flags) (truth b) h = tt
scalar_uses (Expressions flags) (whole n) h = tt
scalar_uses (Expressions flags) (text t) h = h
scalar_uses (Texts nulls) null h = null_scalars nulls
scalar_uses (Texts nulls) (truth b) h = truth_scalars b
scalar_uses (Texts nulls) (whole n) h = ascii_scalars (signed_decimal n) (decimal_ascii n)
scalar_uses (Texts nulls) (text t) h = h

node_uses : (form : ChainForm) (t : Tree) → HasScalarTexts t → IsScalarUse (form_use form t)
node_uses form (scalar a s) h = scalar_uses form s h
node_uses form (list a es) h = tt
node_uses form (map a ms) h = tt

-- ---- plain patterns

pub each_plain : (chain : Written) (patterns : List (List Part)) → EachOf HasPlainText patterns → ArePlainTests (list_map (fits_of chain) patterns)
each_plain chain [] h = tt
each_plain chain (parts ∷ patterns) h = (h.0, each_plain chain patterns h.1)

first_three : (long nul : Bool) (place : Place) (more : List (Option Refusal))
    → first (must 42 place true ∷ must 49 place long ∷ must 50 place (not nul) ∷ more) ≡ None → nul ≡ false
first_three true true place more h = absurd cc
first_three true false place more h = refl
first_three false nul place more h = absurd cc

-- a text that isn't refused has no U+0000
pub no_nul : (unbuilt : List Place) (most dashes : ℕ) (chain : Written) (place : Place) (t : List ℕ) → use_refusal unbuilt most dashes chain place (pattern t) ≡ None
    → has_nul t ≡ false
no_nul unbuilt most dashes chain place t h = first_three (nat_le (length t) most) (has_nul t) place _ h

module _ (plain : (chain : Written) (t : List ℕ) (patterns : List (List Part))
    → all_scalars t ≡ true → has_nul t ≡ false → ArePatterns chain t patterns → EachOf HasPlainText patterns)
    (plain_network : (t : List ℕ) (n : Net) → IsNetwork t n → IsPlainNetwork n) where
  use_plain : (unbuilt : List Place) (most dashes : ℕ) (place : Place) (chain : Written) (u : Use) (ts : List Test) → use_refusal unbuilt most dashes chain place u ≡ None
      → IsScalarUse u → UseTests chain u ts → ArePlainTests ts
  use_plain unbuilt most dashes place chain unused ts none scalars h = absurd h
  use_plain unbuilt most dashes place chain absent ts none scalars h = subst ArePlainTests (sym h) (tt, tt)
  use_plain unbuilt most dashes place chain (existing b) ts none scalars h = subst ArePlainTests (sym h) (tt, tt)
  use_plain unbuilt most dashes place chain (pattern t) ts none scalars h =
      subst ArePlainTests (sym h.tests_are)
      (each_plain chain h.patterns (plain chain t h.patterns scalars (no_nul unbuilt most dashes chain place t none) h.are_patterns))
  use_plain unbuilt most dashes place chain (network t) ts none scalars h = subst ArePlainTests (sym h.2) (plain_network t h.0 h.1, tt)
  use_plain unbuilt most dashes place chain (number n) ts none scalars h = subst ArePlainTests (sym h) (tt, tt)
  use_plain unbuilt most dashes place chain (ordered op n) ts none scalars h =
      subst ArePlainTests (sym h) (whole_holds n (ordered_taken unbuilt most dashes chain place op n none), tt)
  use_plain unbuilt most dashes place chain (reference t) ts none scalars h =
      subst ArePlainTests (sym h) (record { legal = reference_taken unbuilt most dashes chain place t none; scalars = scalars }, tt)
  use_plain unbuilt most dashes place chain (expression flags t) ts none scalars h =
      subst ArePlainTests (sym h) (expression_taken unbuilt most dashes chain place flags t scalars none, tt)

  pub value_plain : (unbuilt : List Place) (most dashes : ℕ) (chain : Written) (t : Tree) (ts : List Test) → value_refusal unbuilt most dashes chain t ≡ None
      → HasScalarTexts t → TestsOf chain t ts → ArePlainTests ts
  value_plain unbuilt most dashes chain t ts none scalars h =
      use_plain unbuilt most dashes (place_of t) chain (use_of chain t) ts none (node_uses (form_of chain) t scalars) h

-- ---- what is answered for a text

pub fits_plain : (cased : Bool) (items patterns : List (List Part)) (ts : List Test) → items ≡ patterns → EachOf HasPlainText patterns
    → ts ≡ list_map (λ parts. tests.Fits parts cased) items → ArePlainTests ts
fits_plain cased items patterns ts same h is =
    subst ArePlainTests (sym (is ∙ ap (λ (ps : List (List Part)). list_map (λ parts. tests.Fits parts cased) ps) same)) (each patterns h)
  where
    each : (ps : List (List Part)) → EachOf HasPlainText ps → ArePlainTests (list_map (λ parts. tests.Fits parts cased) ps)
    each [] h = tt
    each (p ∷ ps) h = (h.0, each ps h.1)

pub are_fits : (chain : Written) (t : List ℕ) (cased : Bool) (items patterns : List (List Part)) (ts : List Test) → items ≡ patterns
    → cased ≡ list_any is_cased chain.modifiers → ArePatterns chain t patterns → ts ≡ list_map (λ parts. tests.Fits parts cased) items → AreFits chain t ts
are_fits chain t cased items patterns ts same case h is = record {
  patterns = patterns;
  are_patterns = h;
  tests_are = is
      ∙ (ap (λ (ps : List (List Part)). list_map (λ parts. tests.Fits parts cased) ps) same
      ∙ ap (λ (b : Bool). list_map (λ parts. tests.Fits parts b) patterns) case);
}

pub judged_so : (Q : List Test → Type 0) (cause : Option Refusal) (r : Result (List Test) Fault) → cause ≡ None → IfOk r Q
    → IfErr r (λ e. e ≡ Memory) → Judged Q cause r
judged_so Q cause (Ok ts) none ok err = (none, ok)
judged_so Q cause (Err Memory) none ok err = tt
judged_so Q cause (Err (Refused x)) none ok err = absurd cc

-- ---- what is answered for a network

pub are_inside : (t : List ℕ) (n : Net) (ts : List Test) → IsNetwork t n → ts ≡ tests.Inside n ∷ [] → AreInside t ts
are_inside t n ts h is = (n, h, is)

pub inside_plain : (t : List ℕ) (n : Net) (ts : List Test) → IsPlainNetwork n → ts ≡ tests.Inside n ∷ [] → ArePlainTests ts
inside_plain t n ts h is = subst ArePlainTests (sym is) (h, tt)
