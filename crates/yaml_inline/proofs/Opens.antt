-- What a quote that comes next isn't.
use Rattle.std.proofs.Common.{◌≡◌, ℕ, Bool, true, false, ◌==◌, List, [], ◌∷◌, refl, ap, ◌∙◌, arith}
use Rattle.std.proofs.lemmas.Bool.Decides.{nat_tests}
use Rattle.yaml_inline.specs.File.{begins}
use Rattle.yaml_inline.specs.Line.{is_dash, is_left_out}
use Rattle.yaml_inline.specs.Flow.{is_quote}

-- a test that fails at both quotes fails at a quote
pub at_quote : (test : List ℕ → Bool) → ((cs : List ℕ) → test (39 ∷ cs) ≡ false) → ((cs : List ℕ) → test (34 ∷ cs) ≡ false) → (cs : List ℕ) → is_quote cs ≡ true → test cs ≡ false
at_quote test single double [] e = cc
at_quote test single double (c ∷ cs) e = by (c == 39) refl where
  by : (b : Bool) → (c == 39) ≡ b → test (c ∷ cs) ≡ false
  by true one =
      let c_is : c ≡ 39 = grind (arith, nat_tests) in
      ap (λ (x : ℕ). test (x ∷ cs)) c_is ∙ single cs
  by false one =
      let other : (c == 34) ≡ true = rw one at e in
      let c_is : c ≡ 34 = grind (arith, nat_tests) in
      ap (λ (x : ℕ). test (x ∷ cs)) c_is ∙ double cs

pub quote_not_left_out : (cs : List ℕ) → is_quote cs ≡ true → is_left_out cs ≡ false
quote_not_left_out cs e = at_quote is_left_out (λ ds. refl) (λ ds. refl) cs e

pub quote_no_dash : (cs : List ℕ) → is_quote cs ≡ true → is_dash cs ≡ false
quote_no_dash cs e = at_quote is_dash (λ ds. refl) (λ ds. refl) cs e

pub quote_no_percent : (cs : List ℕ) → is_quote cs ≡ true → begins 37 cs ≡ false
quote_no_percent cs e = at_quote (begins 37) (λ ds. refl) (λ ds. refl) cs e
