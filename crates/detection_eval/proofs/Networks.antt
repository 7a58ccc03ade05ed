-- Whether a text is an address of a network: it is or it isn't.
use Rattle.std.proofs.Common.{ℕ, ◌≡◌, ◌+◌, ◌-◌, ◌/◌, ◌^◌, ◌%◌, ◌<◌, ◌==◌, Bool, true, false, ◌||◌, List, [], ◌∷◌, ◌++◌, Option, Some, None, refl, sym, ap, ◌∙◌, ◌⊎◌, inl, inr, subst, arith}
use Rattle.std.specs.Fmt.{decimal}
use Rattle.std.specs.List.{list_any}
use Rattle.std.proofs.lemmas.Bool.{eqb-true, eq-eqb, ne_eqb}
use Rattle.std.proofs.lemmas.Fmt.{decimal_by_steps}
use Rattle.std.proofs.lemmas.List.Folds.{list_any-append}
use Rattle.event_schema.specs.Addresses.{IsQuad}
use Rattle.sig_encode.specs.Networks.{Net, InNetwork, IsNetwork, number_of}
use Rattle.sig_encode.specs.Written.{net_in}
use Rattle.sig_encode.proofs.WrittenLemmas.{network_read, network_written}

-- ---- addresses have no slash

abbrev has_slash : List ℕ → Bool
has_slash text = list_any (λ c. c == 47) text

none_of_both : (a b : List ℕ) → has_slash a ≡ false → has_slash b ≡ false → has_slash (a ++ b) ≡ false
none_of_both a b e f = list_any-append (λ c. c == 47) a b ∙ rw (e, f) refl

no_slash_digit : (d : ℕ) → d < 10 → has_slash ((48 + d) ∷ []) ≡ false
no_slash_digit d h = rw (ne_eqb (48 + d) 47 (λ e. omega (arith, e))) refl

no_slash_decimal : (n : ℕ) → n < 256 → has_slash (decimal n) ≡ false
no_slash_decimal n small =
    decimal_by_steps (λ m ds. has_slash ds ≡ false) (λ m h. no_slash_digit m h)
    (λ m ds h before. none_of_both ds ((48 + m % 10) ∷ []) before (no_slash_digit (m % 10) (omega arith))) n (omega arith)

dotted : (n : ℕ) (rest : List ℕ) → n < 256 → has_slash rest ≡ false → has_slash (decimal n ++ (46 ∷ rest)) ≡ false
dotted n rest small none = none_of_both (decimal n) (46 ∷ rest) (no_slash_decimal n small) none

no_slash : (text : List ℕ) → IsQuad text → has_slash text ≡ false
no_slash text q =
    ap has_slash q.spelled
    ∙ dotted q.first _ q.bytes.0 (dotted q.second _ q.bytes.1 (dotted q.third _ q.bytes.2 (no_slash_decimal q.fourth q.bytes.3)))

or_true : (b : Bool) → (b || true) ≡ true
or_true true = refl
or_true false = refl

a_slash : (front behind : List ℕ) → has_slash (front ++ 47 ∷ behind) ≡ true
a_slash front behind = list_any-append (λ c. c == 47) front (47 ∷ behind) ∙ or_true (has_slash front)

-- ---- addresses

-- the network of one address
alone : (text : List ℕ) (q : IsQuad text) → IsNetwork text (record { bits = number_of q; prefix = 32 })
alone text q = record { address = text; quad = q; number = refl; few = omega arith; spelled = inl (refl, refl) }

some_same : (x y : Net) → Some x ≡ Some y → x ≡ y
some_same x y e = cc

one_number : (text : List ℕ) (q r : IsQuad text) → number_of q ≡ number_of r
one_number text q r =
    ap (λ (n : Net). n.bits)
    (some_same (record { bits = number_of q; prefix = 32 }) (record { bits = number_of r; prefix = 32 })
    (sym (network_read text _ (alone text q)) ∙ network_read text _ (alone text r)))

quad_decided : (text : List ℕ) → IsQuad text ⊎ (IsQuad text → ⊥)
quad_decided text = by (net_in text) refl where
  written : (n : Net) → IsNetwork text n → IsQuad text ⊎ (IsQuad text → ⊥)
  written n h = elim h.spelled [
    | inl own ↦ inl (subst IsQuad (sym own.0) h.quad)
    | inr own ↦ inr (λ q. let both : true ≡ false = sym (a_slash h.address _) ∙ (ap has_slash (sym own) ∙ no_slash text q) in absurd cc)
  ]

  by : (found : Option Net) → net_in text ≡ found → IsQuad text ⊎ (IsQuad text → ⊥)
  by None e = inr (λ q. let both = sym (network_read text _ (alone text q)) ∙ e in absurd cc)
  by (Some n) e = written n (network_written text n e)

-- ---- networks

pub inside_decided : (n : Net) (text : List ℕ) → InNetwork n text ⊎ (InNetwork n text → ⊥)
inside_decided n text = elim (quad_decided text) [ inl q ↦ compared q | inr no_quad ↦ inr (λ h. no_quad h.quad) ] where
  compared : (q : IsQuad text) → InNetwork n text ⊎ (InNetwork n text → ⊥)
  compared q = by (number_of q / 2 ^ (32 - n.prefix) == n.bits / 2 ^ (32 - n.prefix)) refl where
    by : (b : Bool) → (number_of q / 2 ^ (32 - n.prefix) == n.bits / 2 ^ (32 - n.prefix)) ≡ b → InNetwork n text ⊎ (InNetwork n text → ⊥)
    by true e = inl (record { quad = q; same = eqb-true _ _ e })
    by false e =
        inr (λ h. let own = eq-eqb (number_of q / 2 ^ (32 - n.prefix)) _ (ap (λ (k : ℕ). k / 2 ^ (32 - n.prefix)) (one_number text q h.quad) ∙ h.same) in
        absurd (let both : true ≡ false = sym own ∙ e in cc))
