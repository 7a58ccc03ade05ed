-- Chains of tests of plain texts, each 3 deep, with the depths of their halves, reckoned by hand.
use Rattle.std.proofs.Common.{ℕ, zero, suc, ◌≡◌, [], ◌∷◌, codes, map, refl}
use Rattle.sql_lang.specs.Tokens.{Eq}
use Rattle.sql_lang.specs.Grammar.{Unsaid, NoCase, a_text, a_literal, compares, Ors, last_and, and_or, Ands, last_not, not_and, Nots, a_test}
use Rattle.sql_lang.specs.Expression.{or_expr, and_expr, depth}
use Rattle.sql_layout.specs.Halves.{ors_in_halves, ands_in_halves}

abbrev part : Nots
part = a_test (compares (codes "a") Unsaid Eq (a_literal (a_text (codes "x"))) NoCase)

-- so many parts and one
abbrev ors : ℕ → Ors
ors zero = last_and (last_not part)
ors (suc n) = and_or (last_not part) (ors n)

abbrev ands : ℕ → Ands
ands zero = last_not part
ands (suc n) = not_and part (ands n)

-- 1, 64, 65, 128 and 129 parts, halved twice at most: 3; 66; 36, by 33 and 32; 67, by 64 and 64; 67, by 65 and 64
or_depths : map (λ n. depth (or_expr [] (ors_in_halves 2 (ors n)))) (0 ∷ 63 ∷ 64 ∷ 127 ∷ 128 ∷ []) ≡ 3 ∷ 66 ∷ 36 ∷ 67 ∷ 67 ∷ []
unfolding ors_in_halves
or_depths = refl

and_depths : map (λ n. depth (and_expr [] (ands_in_halves 2 (ands n)))) (0 ∷ 63 ∷ 64 ∷ 127 ∷ 128 ∷ []) ≡ 3 ∷ 66 ∷ 36 ∷ 67 ∷ 67 ∷ []
unfolding ands_in_halves
and_depths = refl

-- 2,000 parts, halved five times at most
many_ors : depth (or_expr [] (ors_in_halves 5 (ors 1999))) ≡ 70
unfolding ors_in_halves
many_ors = refl
