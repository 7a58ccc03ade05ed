-- Numbers by their digits from the left.
use Rattle.std.proofs.Common.{ℕ, ◌≡◌, ◌+◌, ◌*◌, ◌-◌, ◌^◌, ◌≤◌, Bool, List, [], ◌∷◌, ◌++◌, sym, ◌∙◌, ap, arith, append_assoc, append-nil, ◌⊎◌, inl, inr}
use Rattle.std.specs.Prelude.{min, if◌then◌else◌, Option, Some, None, ℤ, pos}
use Rattle.std.specs.Str.{chars}
use Rattle.std.proofs.lemmas.Bool.{le-ltb}
use Rattle.std.proofs.lemmas.Str.{chars-nil}
use Rattle.sig_base.specs.Digits.{digits_from}
use Rattle.sig_base.proofs.DigitLemmas.{digits_from-le}
use Rattle.lucene_read.specs.Known.{bounded, number_in}

far : (n : ℕ) → 2 ^ 63 ≤ n → bounded n ≡ None
far n large = ap (λ (b : Bool). if b then Some (pos n) else None) (le-ltb n (2 ^ 63) large)

-- what was read, before any rest
abbrev pub Reads : List ℕ → ℕ → Type 0
Reads cs v = (rest : List ℕ) → bounded (digits_from 0 (cs ++ rest)) ≡ bounded (digits_from v rest)

less_or : (m n : ℕ) → (m ≤ n) ⊎ (n ≤ m)
less_or m n = grind arith

capped : (n next : ℕ) (rest : List ℕ) → next ≡ min n (2 ^ 63) → bounded (digits_from n rest) ≡ bounded (digits_from next rest)
capped n next rest is = by (less_or n (2 ^ 63)) where
  by : (n ≤ 2 ^ 63) ⊎ (2 ^ 63 ≤ n) → bounded (digits_from n rest) ≡ bounded (digits_from next rest)
  by (inl small) = ap (λ (m : ℕ). bounded (digits_from m rest)) (omega (arith, is, small))
  by (inr large) =
      let g = digits_from-le n rest in
      let h = digits_from-le next rest in
      far (digits_from n rest) (omega (arith, g, large)) ∙ sym (far (digits_from next rest) (omega (arith, h, is, large)))

pub goes_on : (cs : List ℕ) (v c d next : ℕ) → Reads cs v → d ≡ c - 48 → next ≡ min (v * 10 + d) (2 ^ 63) → Reads (cs ++ c ∷ []) next
goes_on cs v c d next reads digit is rest =
    ap (λ (ds : List ℕ). bounded (digits_from 0 ds)) (append_assoc cs (c ∷ []) rest)
    ∙ (reads (c ∷ rest) ∙ capped (10 * v + (c - 48)) next rest (omega (arith, digit, is)))

pub all_read : (cs all : List ℕ) (v : ℕ) (o : Option ℤ) → Reads cs v → cs ≡ all → o ≡ bounded v → o ≡ bounded (digits_from 0 all)
all_read cs all v o reads same is = is ∙ (sym (reads []) ∙ ap (λ (ds : List ℕ). bounded (digits_from 0 ds)) (append-nil cs ∙ same))

pub no_number : (t : List ℕ) → t ≡ [] → Some (pos 0) ≡ number_in (chars t)
no_number t is = sym (ap number_in (ap chars is ∙ chars-nil))
