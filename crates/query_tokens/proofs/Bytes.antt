-- Bytes are a text of characters, or there is one place where they stop being one.
use Rattle.std.proofs.Common.{ℕ, zero, suc, ◌≡◌, ◌≤◌, ◌<◌, refl, sym, ◌∙◌, ap, Bool, true, false, List, length, take, subst, arith, ◌⊎◌, inl, inr}
use Rattle.std.specs.Str.{chars, is_utf8, IsUtf8, IsValidUpTo}
use Rattle.std.proofs.lemmas.List.{take_all}
use Rattle.std.proofs.lemmas.Str.{IsUtf8-nil, IsUtf8-from_is_utf8, is_utf8-from_IsUtf8, chars-encodes, utf8_valid_len-IsValidUpTo}
use Rattle.query_tokens.specs.Places.{At, origin, place_after, IsText, IsBadAt}

less_or : (m n : ℕ) → (m < n) ⊎ (n ≤ m)
less_or m zero = inr (omega arith)
less_or zero (suc n) = inl (omega arith)
less_or (suc m) (suc n) = more (less_or m n) where
  more : (m < n) ⊎ (n ≤ m) → (suc m < suc n) ⊎ (suc n ≤ suc m)
  more (inl less) = inl (omega arith)
  more (inr under) = inr (omega arith)

module _ (bytes : List ℕ) where
  -- no longer front than n is a text
  abbrev Past : ℕ → Type 0
  Past n = (m : ℕ) → n < m → IsUtf8 (take m bytes) → ⊥

  abbrev Longest : ℕ → Type 0
  Longest n = IsUtf8 (take n bytes) × Past n

  next_past : (n m : ℕ) → is_utf8 (take (suc n) bytes) ≡ false → Past (suc n) → n < m → IsUtf8 (take m bytes) → (m ≡ suc n) ⊎ (suc n < m) → ⊥
  next_past n m bad past over text (inl same) =
      let good : is_utf8 (take (suc n) bytes) ≡ true = is_utf8-from_IsUtf8 (take (suc n) bytes) (subst (λ (k : ℕ). IsUtf8 (take k bytes)) same text) in
      absurd cc
  next_past n m bad past over text (inr later) = past m later text

  step : (n m : ℕ) → n < m → (m ≡ suc n) ⊎ (suc n < m)
  step n zero over = absurd (omega arith)
  step zero (suc zero) over = inl refl
  step zero (suc (suc m)) over = inr (omega arith)
  step (suc n) (suc m) over = more (step n m (omega arith)) where
    more : (m ≡ suc n) ⊎ (suc n < m) → (suc m ≡ suc (suc n)) ⊎ (suc (suc n) < suc m)
    more (inl same) = inl (ap suc same)
    more (inr later) = inr (omega arith)

  longest : (n : ℕ) → Past n → (k : ℕ) × Longest k
  longest zero past = (zero, (IsUtf8-nil, past))
  longest (suc n) past = by (is_utf8 (take (suc n) bytes)) refl (longest n) where
    by : (b : Bool) → is_utf8 (take (suc n) bytes) ≡ b → (Past n → (k : ℕ) × Longest k) → (k : ℕ) × Longest k
    by true is below = (suc n, (IsUtf8-from_is_utf8 (take (suc n) bytes) is, past))
    by false is below = below (λ m over text. next_past n m is past over text (step n m over))

  module _ (bad : is_utf8 bytes ≡ false) where
    no_text : IsUtf8 bytes → ⊥
    no_text text = let good = is_utf8-from_IsUtf8 bytes text in absurd cc

    none_past : Past (length bytes)
    none_past m over text = no_text (subst IsUtf8 (take_all m bytes (omega arith)) text)

    found : (k : ℕ) × Longest k
    found = longest (length bytes) none_past

    shorter : (k : ℕ) → IsUtf8 (take k bytes) → (k < length bytes) ⊎ (length bytes ≤ k) → k < length bytes
    shorter k text (inl less) = less
    shorter k text (inr more) = absurd (no_text (subst IsUtf8 (take_all k bytes more) text))

    valid : IsValidUpTo bytes found.0
    valid = record {
      short = shorter found.0 found.1.0 (less_or found.0 (length bytes));
      front = found.1.0;
      longest = found.1.1;
    }

  bad_at : is_utf8 bytes ≡ false → (place : At) × IsBadAt bytes place
  bad_at bad = (place_after origin (chars (take (found bad).0 bytes)), record { count = (found bad).0; longest = valid bad; behind = refl })

  text_or : (b : Bool) → is_utf8 bytes ≡ b → ((cs : List ℕ) × IsText bytes cs) ⊎ ((place : At) × IsBadAt bytes place)
  text_or true is = let text = IsUtf8-from_is_utf8 bytes is in inl (text.0, record { scalars = text.1.0; encoded = sym text.1.1 })
  text_or false is = inr (bad_at is)

  pub text_or_bad : ((cs : List ℕ) × IsText bytes cs) ⊎ ((place : At) × IsBadAt bytes place)
  text_or_bad = text_or (is_utf8 bytes) refl

  -- bytes are one text at most
  pub one_text : (cs ds : List ℕ) → IsText bytes cs → IsText bytes ds → cs ≡ ds
  one_text cs ds r s = sym (chars-encodes cs r.scalars) ∙ (ap chars (sym r.encoded ∙ s.encoded) ∙ chars-encodes ds s.scalars)

  pub one_bad : (p q : At) → IsBadAt bytes p → IsBadAt bytes q → p ≡ q
  one_bad p q r s =
      let same : r.count ≡ s.count = sym (utf8_valid_len-IsValidUpTo bytes r.count r.longest) ∙ utf8_valid_len-IsValidUpTo bytes s.count s.longest in
      r.behind ∙ (ap (λ (n : ℕ). place_after origin (chars (take n bytes))) same ∙ sym s.behind)

  pub not_both : (cs : List ℕ) (p : At) → IsText bytes cs → IsBadAt bytes p → ⊥
  not_both cs p text bad =
      bad.longest.longest (length bytes) bad.longest.short
      (subst IsUtf8 (sym (take_all (length bytes) bytes (omega arith))) (cs, (text.scalars, sym text.encoded)))
