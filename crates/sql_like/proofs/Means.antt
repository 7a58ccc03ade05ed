-- The parts of LIKE and GLOB fit what the parts of a pattern fit.
use Rattle.std.proofs.Common.{ℕ, ◌≡◌, refl, Bool, true, false, List, [], ◌∷◌}
use Rattle.std.specs.Prelude.{◌↔◌, Some}
use Rattle.matching.proofs.SuffixLemmas.{SuffixHolds-tests, CharThen-tests}
use Rattle.matching.specs.Suffixes.{SuffixHolds, CharThen}
use Rattle.sig_strings.specs.declared.part.Part.{Part}
use Rattle.sig_strings.specs.declared.part.Part.TheVariants.{Char, One, Run, Dash, Hole}
use Rattle.sig_strings.specs.Fits.{same_char, Fits}
use Rattle.sql_lang.specs.Meaning.{some_end, behind_one, is_nothing, fits_parts, like_fits, glob_fits}
use Rattle.sql_layout.specs.Escaped.{like_text, glob_text}
use Rattle.sql_layout.proofs.Written.{like_reads, glob_reads}
use Rattle.sql_like.specs.Writable.{is_writable, sql_parts}

pub nothing_is : (text : List ℕ) → (is_nothing text ≡ true) ↔ (text ≡ [])
nothing_is [] = (λ h. refl, λ h. refl)
nothing_is (c ∷ cs) = (λ h. absurd cc, λ h. absurd cc)

-- a run, and a single character, where what stands behind them agrees
module _ (fits : List ℕ → Bool) (holds : List ℕ → Type 0) (text : List ℕ) (agrees : (rest : List ℕ) → (fits rest ≡ true) ↔ holds rest) where
  pub run_agrees : (some_end fits text ≡ true) ↔ SuffixHolds holds text
  run_agrees = SuffixHolds-tests fits holds agrees (some_end fits) refl (λ c cs. refl) text

  pub one_agrees : (is_so : ℕ → Bool) → (behind_one is_so fits text ≡ true) ↔ CharThen is_so holds text
  one_agrees is_so = CharThen-tests fits holds agrees is_so (behind_one is_so fits) refl (λ c cs. refl) text

parts_agree : (cased : Bool) (parts : List Part) (text : List ℕ) → is_writable parts ≡ true
    → (fits_parts (same_char cased) (sql_parts parts) text ≡ true) ↔ Fits parts text cased
unfolding fits_parts
parts_agree cased [] text written = nothing_is text
parts_agree cased (Char c ∷ parts) text written =
    one_agrees (fits_parts (same_char cased) (sql_parts parts)) (λ rest. Fits parts rest cased) text (λ rest. parts_agree cased parts rest written) (same_char cased c)
parts_agree cased (One ∷ parts) text written =
    one_agrees (fits_parts (same_char cased) (sql_parts parts)) (λ rest. Fits parts rest cased) text (λ rest. parts_agree cased parts rest written) (λ d. true)
parts_agree cased (Run ∷ parts) text written =
    run_agrees (fits_parts (same_char cased) (sql_parts parts)) (λ rest. Fits parts rest cased) text (λ rest. parts_agree cased parts rest written)
parts_agree cased (Dash ∷ parts) text written = absurd cc
parts_agree cased (Hole name ∷ parts) text written = absurd cc

pub like_is : (parts : List Part) (text : List ℕ) → is_writable parts ≡ true
    → (like_fits (like_text (sql_parts parts)) (Some 92) text ≡ true) ↔ Fits parts text false
like_is parts text written = rw (like_reads (sql_parts parts)) (parts_agree false parts text written)

pub glob_is : (parts : List Part) (text : List ℕ) → is_writable parts ≡ true
    → (glob_fits (glob_text (sql_parts parts)) text ≡ true) ↔ Fits parts text true
glob_is parts text written = rw (glob_reads (sql_parts parts)) (parts_agree true parts text written)
