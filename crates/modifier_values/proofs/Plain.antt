-- The characters of the patterns of a text are other than U+0000 where its own are.
use Rattle.std.proofs.Common.{ℕ, ◌≡◌, ◌==◌, nat_lt, nat_le, not, length, arith, Bool, true, false, ◌&&◌, List, [], ◌∷◌, refl, sym, ap, ◌∙◌}
use Rattle.std.proofs.Math.Utf8.{scalar}
use Rattle.std.specs.List.{list_all}
use Rattle.std.specs.Prelude.{Option, None, Result, Ok, Err, IfOk}
use Rattle.std.specs.Str.{all_scalars}
use Rattle.std.proofs.lemmas.Bool.{and_from, or_parts}
use Rattle.std.proofs.lemmas.Bool.Decides.{nat_tests}
use Rattle.event_schema.specs.Lists.{EachOf}
use Rattle.query_lang.specs.Patterns.{is_pattern}
use Rattle.modifier_words.specs.Written.{Written}
use Rattle.modifier_words.specs.declared.form.Flags.{Flags}
use Rattle.sig_base.specs.declared.refusal.Fault.{Fault}
use Rattle.sig_base.specs.declared.refusal.Place.{Place}
use Rattle.sig_base.specs.declared.refusal.Refusal.{Refusal}
use Rattle.sig_base.specs.Judged.{Judged, must, first}
use Rattle.sig_strings.specs.Edits.{is_written, plain_text}
use Rattle.sig_strings.specs.declared.part.Part.{Part}
use Rattle.modifier_values.specs.Expressions.{expression_text, IsPlainExpression}
use Rattle.modifier_values.specs.Parts.{has_nul}
use Rattle.modifier_values.specs.PlainPatterns.{has_no_nul, is_plain, HasPlainText, IsPlainPattern}
use Rattle.modifier_values.specs.Uses.{pattern, expression, use_refusal, ArePatterns}
use Rattle.modifier_values.proofs.Keeping.{AllParts, passing, by_parts, patterns_pass}

abbrev pub above_nul : ℕ → Bool
above_nul c = nat_lt 0 c

scalars_pass : (text : List ℕ) → all_scalars text ≡ list_all scalar text
scalars_pass [] = refl
scalars_pass (c ∷ cs) = ap (λ (b : Bool). scalar c && b) (scalars_pass cs)

above : (c : ℕ) → (c == 0) ≡ false → nat_lt 0 c ≡ true
above c differs = grind (arith, nat_tests)

pub no_nul : (text : List ℕ) → has_nul text ≡ false → list_all above_nul text ≡ true
no_nul [] none = refl
no_nul (c ∷ cs) none =
    let both = or_parts (c == 0) (has_nul cs) none in
    and_from (nat_lt 0 c) (list_all above_nul cs) (above c both.0) (no_nul cs both.1)

-- ---- from parts to patterns

passed : (p : ℕ → Bool) (parts : List Part) → AllParts (passing p) parts → list_all p (plain_text parts) ≡ true
passed p parts h = sym (by_parts p parts) ∙ h

each_plain_text : (all : List (List Part)) → EachOf (AllParts (passing scalar)) all → EachOf (AllParts (passing above_nul)) all → EachOf HasPlainText all
each_plain_text [] scalars aboves = tt
each_plain_text (parts ∷ all) scalars aboves = (
  (scalars_pass (plain_text parts) ∙ passed scalar parts scalars.0, passed above_nul parts aboves.0),
  each_plain_text all scalars.1 aboves.1,
)

pub each_plain : (all : List (List Part)) → EachOf (AllParts is_written) all → EachOf (AllParts (passing scalar)) all → EachOf (AllParts (passing above_nul)) all
    → EachOf IsPlainPattern all
each_plain [] written scalars aboves = tt
each_plain (parts ∷ all) written scalars aboves = (
  record { written = written.0; plain = (scalars_pass (plain_text parts) ∙ passed scalar parts scalars.0, passed above_nul parts aboves.0) },
  each_plain all written.1 scalars.1 aboves.1,
)

all_without_nul : (all : List (List Part)) → EachOf (AllParts (passing above_nul)) all → list_all has_no_nul all ≡ true
all_without_nul [] aboves = refl
all_without_nul (parts ∷ all) aboves =
    and_from (has_no_nul parts) (list_all has_no_nul all) (passed above_nul parts aboves.0) (all_without_nul all aboves.1)

pub all_plain : (all : List (List Part)) → EachOf (AllParts is_written) all → EachOf (AllParts (passing above_nul)) all → list_all is_plain all ≡ true
all_plain [] written aboves = refl
all_plain (parts ∷ all) written aboves =
    and_from (is_plain parts) (list_all is_plain all)
    (and_from (list_all is_written parts) (list_all above_nul (plain_text parts)) written.0 (passed above_nul parts aboves.0)) (all_plain all written.1 aboves.1)

-- ---- the patterns of a text

pub patterns_without_nul : (chain : Written) (t : List ℕ) (all : List (List Part)) → has_nul t ≡ false → ArePatterns chain t all → list_all has_no_nul all ≡ true
patterns_without_nul chain t all none are = all_without_nul all (patterns_pass above_nul refl refl chain t all (no_nul t none) are)

pub patterns_plain : (chain : Written) (t : List ℕ) (all : List (List Part)) → all_scalars t ≡ true → has_nul t ≡ false → ArePatterns chain t all → EachOf HasPlainText all
patterns_plain chain t all scalars none are =
    each_plain_text all (patterns_pass scalar refl refl chain t all (sym (scalars_pass t) ∙ scalars) are)
    (patterns_pass above_nul refl refl chain t all (no_nul t none) are)

pub no_nul_left : (a b : Bool) (place : Place) (more : List (Option Refusal)) → first (must 49 place a ∷ must 50 place (not b) ∷ more) ≡ None → b ≡ false
no_nul_left true true place more h = absurd cc
no_nul_left true false place more h = refl
no_nul_left false b place more h = absurd cc

-- what is read of a text that isn't refused
pub judged_plain : {X : Type 0} (items : X → List (List Part)) (unbuilt : List Place) (most dashes : ℕ) (chain : Written) (place : Place) (t : List ℕ) (r : Result X Fault) → all_scalars t ≡ true
    → Judged (λ all. ArePatterns chain t (items all)) (use_refusal unbuilt most dashes chain place (pattern t)) r → IfOk r (λ all. EachOf HasPlainText (items all))
judged_plain items unbuilt most dashes chain place t (Ok all) scalars h =
    patterns_plain chain t (items all) scalars (no_nul_left (nat_le (length t) most) (has_nul t) place _ h.0) h.1
judged_plain items unbuilt most dashes chain place t (Err e) scalars h = tt

-- ---- regular expressions

is_read : (a b c reads : Bool) (place : Place) (more : List (Option Refusal))
    → first (must 49 place a ∷ must 50 place b ∷ None ∷ None ∷ None ∷ None ∷ None ∷ must 46 place c ∷ must 47 place reads ∷ more) ≡ None → reads ≡ true
is_read true true true true place more h = refl
is_read true true true false place more h = absurd cc
is_read true true false reads place more h = absurd cc
is_read true false c reads place more h = absurd cc
is_read false b c reads place more h = absurd cc

-- a regular expression that isn't refused is one that the grammar reads
pub expression_taken : (unbuilt : List Place) (most dashes : ℕ) (chain : Written) (place : Place) (flags : Flags) (t : List ℕ)
    → all_scalars t ≡ true → use_refusal unbuilt most dashes chain place (expression flags t) ≡ None → IsPlainExpression flags t
expression_taken unbuilt most dashes chain place flags t scalars h = (
  is_read (nat_le (length t) most) (not (has_nul t)) (nat_le 0 dashes) (is_pattern (expression_text flags t)) place _ h,
  (scalars, no_nul t (no_nul_left (nat_le (length t) most) (has_nul t) place _ h)),
)
