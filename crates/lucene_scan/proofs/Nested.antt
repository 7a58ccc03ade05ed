-- Parentheses, counted from the left.
use Rattle.std.proofs.Common.{ℕ, suc, ◌≡◌, ◌+◌, ◌-◌, ◌<◌, ◌≤◌, refl, sym, ◌∙◌, ap, Bool, true, false, List, ◌∷◌, length, drop, get_or, arith}
use Rattle.std.specs.Prelude.{◌||◌, if◌then◌else◌, nat_lt}
use Rattle.std.proofs.lemmas.Bool.{lt-ltb, le-ltb}
use Rattle.std.proofs.lemmas.List.{drop_more}
use Rattle.std.proofs.Math.ListN.{drop_of_length-le}
use Rattle.query_tokens.specs.Tokens.{sorts}
use Rattle.lucene_lang.specs.Tokens.{Sort, Joins, Not, Star, Wild, To, Decimal, Plain, Phrase, Opening, Closing, Opens, Closes, Colon, Unclosed}
use Rattle.lucene_lang.specs.Reading.{opens_too_far}
use Rattle.lucene_scan.specs.declared.token.Token.{Token}
use Rattle.lucene_scan.specs.View.{sort_view, tokens_view, is_opening, is_closing}

abbrev step : ℕ → ℕ → ℕ → Sort → List Sort → Bool
step limit opened closed s ss =
    if is_opening s then nat_lt (closed + limit) (suc opened) || opens_too_far limit (suc opened) closed ss
    else if is_closing s then opens_too_far limit opened (suc closed) ss
    else opens_too_far limit opened closed ss

one_step : (limit opened closed : ℕ) (s : Sort) (ss : List Sort) → opens_too_far limit opened closed (s ∷ ss) ≡ step limit opened closed s ss
unfolding opens_too_far
one_step limit opened closed (Joins w) ss = refl
one_step limit opened closed Not ss = refl
one_step limit opened closed Star ss = refl
one_step limit opened closed (Wild w) ss = refl
one_step limit opened closed To ss = refl
one_step limit opened closed (Decimal w) ss = refl
one_step limit opened closed (Plain w) ss = refl
one_step limit opened closed (Phrase w) ss = refl
one_step limit opened closed Opening ss = refl
one_step limit opened closed Closing ss = refl
one_step limit opened closed (Opens b) ss = refl
one_step limit opened closed (Closes b) ss = refl
one_step limit opened closed Colon ss = refl
one_step limit opened closed Unclosed ss = refl

-- what is left to look at decides as the whole
abbrev pub Decides : ℕ → ℕ → ℕ → List Token → ℕ → Type 0
Decides limit opened closed ts i = opens_too_far limit opened closed (sorts (tokens_view (drop i ts))) ≡ opens_too_far limit 0 0 (sorts (tokens_view ts))

module _ (limit opened closed : ℕ) (ts : List Token) (i : ℕ) (t : Token) (decides : Decides limit opened closed ts i) (within : i < length ts) (is : t ≡ get_or ts i t) where
  next_is : step limit opened closed (sort_view t.sort) (sorts (tokens_view (drop (i + 1) ts))) ≡ opens_too_far limit 0 0 (sorts (tokens_view ts))
  next_is =
      ap (λ (u : Token). step limit opened closed (sort_view u.sort) (sorts (tokens_view (drop (i + 1) ts)))) is
      ∙ (sym (one_step limit opened closed (sort_view (get_or ts i t).sort) (sorts (tokens_view (drop (i + 1) ts))))
      ∙ (sym (ap (λ (us : List Token). opens_too_far limit opened closed (sorts (tokens_view us))) (drop_more ts i t within)) ∙ decides))

  at_opening : is_opening (sort_view t.sort) ≡ true
      → (nat_lt (closed + limit) (suc opened) || opens_too_far limit (suc opened) closed (sorts (tokens_view (drop (i + 1) ts)))) ≡ opens_too_far limit 0 0 (sorts (tokens_view ts))
  at_opening so = ap (λ (b : Bool). if b then nat_lt (closed + limit) (suc opened) || opens_too_far limit (suc opened) closed (sorts (tokens_view (drop (i + 1) ts)))
      else if is_closing (sort_view t.sort) then opens_too_far limit opened (suc closed) (sorts (tokens_view (drop (i + 1) ts)))
      else opens_too_far limit opened closed (sorts (tokens_view (drop (i + 1) ts)))) (sym so) ∙ next_is

  not_opening : is_opening (sort_view t.sort) ≡ false
      → (if is_closing (sort_view t.sort) then opens_too_far limit opened (suc closed) (sorts (tokens_view (drop (i + 1) ts)))
      else opens_too_far limit opened closed (sorts (tokens_view (drop (i + 1) ts)))) ≡ opens_too_far limit 0 0 (sorts (tokens_view ts))
  not_opening so = ap (λ (b : Bool). if b then nat_lt (closed + limit) (suc opened) || opens_too_far limit (suc opened) closed (sorts (tokens_view (drop (i + 1) ts)))
      else if is_closing (sort_view t.sort) then opens_too_far limit opened (suc closed) (sorts (tokens_view (drop (i + 1) ts)))
      else opens_too_far limit opened closed (sorts (tokens_view (drop (i + 1) ts)))) (sym so) ∙ next_is

  pub far_here : (b : Bool) (more : ℕ) → b ≡ is_opening (sort_view t.sort) → b ≡ true → more ≡ opened + 1 → limit < more - closed
      → true ≡ opens_too_far limit 0 0 (sorts (tokens_view ts))
  far_here b more test so counted far =
      ap (λ (c : Bool). c || opens_too_far limit (suc opened) closed (sorts (tokens_view (drop (i + 1) ts)))) (sym (lt-ltb (closed + limit) (suc opened) (omega (arith, counted, far))))
      ∙ at_opening (sym test ∙ so)

  pub opened_more : (b : Bool) (more : ℕ) → b ≡ is_opening (sort_view t.sort) → b ≡ true → more ≡ opened + 1 → more - closed ≤ limit
      → Decides limit more closed ts (i + 1)
  opened_more b more test so counted near =
      ap (λ (n : ℕ). opens_too_far limit n closed (sorts (tokens_view (drop (i + 1) ts)))) (omega (arith, counted))
      ∙ (ap (λ (c : Bool). c || opens_too_far limit (suc opened) closed (sorts (tokens_view (drop (i + 1) ts)))) (sym (le-ltb (closed + limit) (suc opened) (omega (arith, counted, near))))
      ∙ at_opening (sym test ∙ so))

  pub closed_more : (b c : Bool) (more : ℕ) → b ≡ is_opening (sort_view t.sort) → b ≡ false → c ≡ is_closing (sort_view t.sort) → c ≡ true → more ≡ closed + 1
      → Decides limit opened more ts (i + 1)
  closed_more b c more test so other here counted =
      ap (λ (n : ℕ). opens_too_far limit opened n (sorts (tokens_view (drop (i + 1) ts)))) (omega (arith, counted))
      ∙ (ap (λ (d : Bool). if d then opens_too_far limit opened (suc closed) (sorts (tokens_view (drop (i + 1) ts)))
      else opens_too_far limit opened closed (sorts (tokens_view (drop (i + 1) ts)))) (sym (sym other ∙ here)) ∙ not_opening (sym test ∙ so))

  pub other_more : (b c : Bool) → b ≡ is_opening (sort_view t.sort) → b ≡ false → c ≡ is_closing (sort_view t.sort) → c ≡ false
      → Decides limit opened closed ts (i + 1)
  other_more b c test so other here =
      ap (λ (d : Bool). if d then opens_too_far limit opened (suc closed) (sorts (tokens_view (drop (i + 1) ts)))
      else opens_too_far limit opened closed (sorts (tokens_view (drop (i + 1) ts)))) (sym (sym other ∙ here)) ∙ not_opening (sym test ∙ so)

pub far_end : (limit opened closed : ℕ) (ts : List Token) (i : ℕ) → Decides limit opened closed ts i → length ts ≤ i → false ≡ opens_too_far limit 0 0 (sorts (tokens_view ts))
unfolding opens_too_far
far_end limit opened closed ts i decides past =
    sym (ap (λ (us : List Token). opens_too_far limit opened closed (sorts (tokens_view us))) (drop_of_length-le ts past)) ∙ decides
