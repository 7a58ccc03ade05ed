-- Parentheses and words NOT, counted from the left.
use Rattle.std.proofs.Common.{ℕ, suc, ◌≡◌, ◌+◌, ◌<◌, ◌≤◌, refl, sym, ◌∙◌, ap, Bool, true, false, List, ◌∷◌, length, drop, get_or, arith}
use Rattle.std.specs.Prelude.{◌||◌, if◌then◌else◌, nat_lt}
use Rattle.std.proofs.lemmas.Bool.{lt-ltb, le-ltb}
use Rattle.std.proofs.lemmas.List.{drop_more}
use Rattle.std.proofs.Math.ListN.{drop_of_length-le}
use Rattle.query_tokens.specs.Tokens.{sorts}
use Rattle.sql_lang.specs.Tokens.{Keyword, SELECT, FROM, WHERE, OR, AND, NOT, IS, NULL, LIKE, ESCAPE, GLOB, REGEXP, IN, BETWEEN, COLLATE, NOCASE, BINARY, Sort, Word, Name, Text, Number, Opening, Closing, Comma, Star, Semicolon, Compares, Unclosed, Other}
use Rattle.sql_lang.specs.Reading.{opens_too_far, nots_too_many}
use Rattle.sql_scan.specs.declared.token.Token.{Token}
use Rattle.sql_scan.specs.View.{sort_view, tokens_view, is_opening, is_closing, is_not}

abbrev step : ℕ → ℕ → ℕ → Sort → List Sort → Bool
step limit opened closed s ss =
    if is_opening s then nat_lt (closed + limit) (suc opened) || opens_too_far limit (suc opened) closed ss
    else if is_closing s then opens_too_far limit opened (suc closed) ss
    else opens_too_far limit opened closed ss

one_step : (limit opened closed : ℕ) (s : Sort) (ss : List Sort) → opens_too_far limit opened closed (s ∷ ss) ≡ step limit opened closed s ss
unfolding opens_too_far
one_step limit opened closed (Word w) ss = refl
one_step limit opened closed (Name w) ss = refl
one_step limit opened closed (Text w) ss = refl
one_step limit opened closed (Number w) ss = refl
one_step limit opened closed Opening ss = refl
one_step limit opened closed Closing ss = refl
one_step limit opened closed Comma ss = refl
one_step limit opened closed Star ss = refl
one_step limit opened closed Semicolon ss = refl
one_step limit opened closed (Compares op) ss = refl
one_step limit opened closed Unclosed ss = refl
one_step limit opened closed Other ss = refl

-- what is left to look at decides as the whole
abbrev pub Decides : ℕ → ℕ → ℕ → List Token → ℕ → Type 0
Decides limit opened closed ts i = opens_too_far limit opened closed (sorts (tokens_view (drop i ts))) ≡ opens_too_far limit 0 0 (sorts (tokens_view ts))

module _ (limit opened closed : ℕ) (ts : List Token) (i : ℕ) (t : Token) (decides : Decides limit opened closed ts i) (within : i < length ts) (is : t ≡ get_or ts i t) where
  next_is : step limit opened closed (sort_view t.sort) (sorts (tokens_view (drop (i + 1) ts))) ≡ opens_too_far limit 0 0 (sorts (tokens_view ts))
  next_is =
      ap (λ (u : Token). step limit opened closed (sort_view u.sort) (sorts (tokens_view (drop (i + 1) ts)))) is
      ∙ (sym (one_step limit opened closed (sort_view (get_or ts i t).sort) (sorts (tokens_view (drop (i + 1) ts))))
      ∙ (sym (ap (λ (us : List Token). opens_too_far limit opened closed (sorts (tokens_view us))) (drop_more ts i t within)) ∙ decides))

  at_opening : is_opening (sort_view t.sort) ≡ true
      → (nat_lt (closed + limit) (suc opened) || opens_too_far limit (suc opened) closed (sorts (tokens_view (drop (i + 1) ts)))) ≡ opens_too_far limit 0 0 (sorts (tokens_view ts))
  at_opening so = ap (λ (b : Bool). if b then nat_lt (closed + limit) (suc opened) || opens_too_far limit (suc opened) closed (sorts (tokens_view (drop (i + 1) ts)))
      else if is_closing (sort_view t.sort) then opens_too_far limit opened (suc closed) (sorts (tokens_view (drop (i + 1) ts)))
      else opens_too_far limit opened closed (sorts (tokens_view (drop (i + 1) ts)))) (sym so) ∙ next_is

  not_opening : is_opening (sort_view t.sort) ≡ false
      → (if is_closing (sort_view t.sort) then opens_too_far limit opened (suc closed) (sorts (tokens_view (drop (i + 1) ts)))
      else opens_too_far limit opened closed (sorts (tokens_view (drop (i + 1) ts)))) ≡ opens_too_far limit 0 0 (sorts (tokens_view ts))
  not_opening so = ap (λ (b : Bool). if b then nat_lt (closed + limit) (suc opened) || opens_too_far limit (suc opened) closed (sorts (tokens_view (drop (i + 1) ts)))
      else if is_closing (sort_view t.sort) then opens_too_far limit opened (suc closed) (sorts (tokens_view (drop (i + 1) ts)))
      else opens_too_far limit opened closed (sorts (tokens_view (drop (i + 1) ts)))) (sym so) ∙ next_is

  pub far_here : (b : Bool) (more : ℕ) → b ≡ is_opening (sort_view t.sort) → b ≡ true → more ≡ opened + 1 → closed + limit < more
      → true ≡ opens_too_far limit 0 0 (sorts (tokens_view ts))
  far_here b more test so counted far =
      ap (λ (c : Bool). c || opens_too_far limit (suc opened) closed (sorts (tokens_view (drop (i + 1) ts)))) (sym (lt-ltb (closed + limit) (suc opened) (omega (arith, counted, far))))
      ∙ at_opening (sym test ∙ so)

  pub opened_more : (b : Bool) (more : ℕ) → b ≡ is_opening (sort_view t.sort) → b ≡ true → more ≡ opened + 1 → more ≤ closed + limit
      → Decides limit more closed ts (i + 1)
  opened_more b more test so counted near =
      ap (λ (n : ℕ). opens_too_far limit n closed (sorts (tokens_view (drop (i + 1) ts)))) (omega (arith, counted))
      ∙ (ap (λ (c : Bool). c || opens_too_far limit (suc opened) closed (sorts (tokens_view (drop (i + 1) ts)))) (sym (le-ltb (closed + limit) (suc opened) (omega (arith, counted, near))))
      ∙ at_opening (sym test ∙ so))

  pub closed_more : (b c : Bool) (more : ℕ) → b ≡ is_opening (sort_view t.sort) → b ≡ false → c ≡ is_closing (sort_view t.sort) → c ≡ true → more ≡ closed + 1
      → Decides limit opened more ts (i + 1)
  closed_more b c more test so other here counted =
      ap (λ (n : ℕ). opens_too_far limit opened n (sorts (tokens_view (drop (i + 1) ts)))) (omega (arith, counted))
      ∙ (ap (λ (d : Bool). if d then opens_too_far limit opened (suc closed) (sorts (tokens_view (drop (i + 1) ts)))
      else opens_too_far limit opened closed (sorts (tokens_view (drop (i + 1) ts)))) (sym (sym other ∙ here)) ∙ not_opening (sym test ∙ so))

  pub other_more : (b c : Bool) → b ≡ is_opening (sort_view t.sort) → b ≡ false → c ≡ is_closing (sort_view t.sort) → c ≡ false
      → Decides limit opened closed ts (i + 1)
  other_more b c test so other here =
      ap (λ (d : Bool). if d then opens_too_far limit opened (suc closed) (sorts (tokens_view (drop (i + 1) ts)))
      else opens_too_far limit opened closed (sorts (tokens_view (drop (i + 1) ts)))) (sym (sym other ∙ here)) ∙ not_opening (sym test ∙ so)

pub far_end : (limit opened closed : ℕ) (ts : List Token) (i : ℕ) → Decides limit opened closed ts i → length ts ≤ i → false ≡ opens_too_far limit 0 0 (sorts (tokens_view ts))
unfolding opens_too_far
far_end limit opened closed ts i decides past =
    sym (ap (λ (us : List Token). opens_too_far limit opened closed (sorts (tokens_view us))) (drop_of_length-le ts past)) ∙ decides

-- ---- words NOT

abbrev not_step : ℕ → ℕ → Sort → List Sort → Bool
not_step limit n s ss = if is_not s then nat_lt limit (suc n) || nots_too_many limit (suc n) ss else nots_too_many limit 0 ss

one_not : (limit n : ℕ) (s : Sort) (ss : List Sort) → nots_too_many limit n (s ∷ ss) ≡ not_step limit n s ss
unfolding nots_too_many
one_not limit n (Word NOT) ss = refl
one_not limit n (Word SELECT) ss = refl
one_not limit n (Word FROM) ss = refl
one_not limit n (Word WHERE) ss = refl
one_not limit n (Word OR) ss = refl
one_not limit n (Word AND) ss = refl
one_not limit n (Word IS) ss = refl
one_not limit n (Word NULL) ss = refl
one_not limit n (Word LIKE) ss = refl
one_not limit n (Word ESCAPE) ss = refl
one_not limit n (Word GLOB) ss = refl
one_not limit n (Word REGEXP) ss = refl
one_not limit n (Word IN) ss = refl
one_not limit n (Word BETWEEN) ss = refl
one_not limit n (Word COLLATE) ss = refl
one_not limit n (Word NOCASE) ss = refl
one_not limit n (Word BINARY) ss = refl
one_not limit n (Name w) ss = refl
one_not limit n (Text w) ss = refl
one_not limit n (Number w) ss = refl
one_not limit n Opening ss = refl
one_not limit n Closing ss = refl
one_not limit n Comma ss = refl
one_not limit n Star ss = refl
one_not limit n Semicolon ss = refl
one_not limit n (Compares op) ss = refl
one_not limit n Unclosed ss = refl
one_not limit n Other ss = refl

abbrev pub DecidesNots : ℕ → ℕ → List Token → ℕ → Type 0
DecidesNots limit n ts i = nots_too_many limit n (sorts (tokens_view (drop i ts))) ≡ nots_too_many limit 0 (sorts (tokens_view ts))

module _ (limit n : ℕ) (ts : List Token) (i : ℕ) (t : Token) (decides : DecidesNots limit n ts i) (within : i < length ts) (is : t ≡ get_or ts i t) where
  next_not : not_step limit n (sort_view t.sort) (sorts (tokens_view (drop (i + 1) ts))) ≡ nots_too_many limit 0 (sorts (tokens_view ts))
  next_not =
      ap (λ (u : Token). not_step limit n (sort_view u.sort) (sorts (tokens_view (drop (i + 1) ts)))) is
      ∙ (sym (one_not limit n (sort_view (get_or ts i t).sort) (sorts (tokens_view (drop (i + 1) ts))))
      ∙ (sym (ap (λ (us : List Token). nots_too_many limit n (sorts (tokens_view us))) (drop_more ts i t within)) ∙ decides))

  abbrev after_test : Bool → Bool
  after_test b = if b then nat_lt limit (suc n) || nots_too_many limit (suc n) (sorts (tokens_view (drop (i + 1) ts))) else nots_too_many limit 0 (sorts (tokens_view (drop (i + 1) ts)))

  pub nots_here : (b : Bool) → b ≡ is_not (sort_view t.sort) → b ≡ true → limit ≤ n → true ≡ nots_too_many limit 0 (sorts (tokens_view ts))
  nots_here b test so far =
      ap (λ (c : Bool). c || nots_too_many limit (suc n) (sorts (tokens_view (drop (i + 1) ts)))) (sym (lt-ltb limit (suc n) (omega (arith, far))))
      ∙ (ap after_test (sym (sym test ∙ so)) ∙ next_not)

  pub not_more : (b : Bool) (more : ℕ) → b ≡ is_not (sort_view t.sort) → b ≡ true → n < limit → more ≡ n + 1 → DecidesNots limit more ts (i + 1)
  not_more b more test so near counted =
      ap (λ (k : ℕ). nots_too_many limit k (sorts (tokens_view (drop (i + 1) ts)))) (omega (arith, counted))
      ∙ (ap (λ (c : Bool). c || nots_too_many limit (suc n) (sorts (tokens_view (drop (i + 1) ts)))) (sym (le-ltb limit (suc n) (omega (arith, near))))
      ∙ (ap after_test (sym (sym test ∙ so)) ∙ next_not))

  pub none_more : (b : Bool) → b ≡ is_not (sort_view t.sort) → b ≡ false → DecidesNots limit 0 ts (i + 1)
  none_more b test so = ap after_test (sym (sym test ∙ so)) ∙ next_not

pub nots_end : (limit n : ℕ) (ts : List Token) (i : ℕ) → DecidesNots limit n ts i → length ts ≤ i → false ≡ nots_too_many limit 0 (sorts (tokens_view ts))
unfolding nots_too_many
nots_end limit n ts i decides past =
    sym (ap (λ (us : List Token). nots_too_many limit n (sorts (tokens_view us))) (drop_of_length-le ts past)) ∙ decides
