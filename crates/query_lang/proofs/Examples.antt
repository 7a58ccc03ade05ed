-- Texts as regular expressions, and places that are refused, reckoned by hand.
use Rattle.std.proofs.Common.{ℕ, ◌≡◌, inl, inr, refl, sym, ap, ◌∙◌, Bool, true, false, List, [], ◌∷◌, ◌++◌, codes, map}
use Rattle.std.specs.Prelude.{◌==◌}
use Rattle.std.proofs.Math.ListN.{replicate}
use Rattle.regex.proofs.OnLiterals.{regex_on_literals}
use Rattle.regex_hir.specs.Find.{first_from, find_str}
use Rattle.regex_hir.specs.Looks.{holds, holds_between}
use Rattle.regex_hir.specs.Re.{attempt, rounds}
use Rattle.regex_hir.specs.Text.{byte_before, has_bytes_at, is_boundary}
use Rattle.event_schema.specs.Lists.{SomeOf}
use Rattle.query_tokens.specs.Places.{At, CodeAt, code_at}
use Rattle.query_lang.specs.Patterns.{is_pattern, finds}
use Rattle.query_lang.specs.RefusedPlaces.{PatternAt, IsCause, no_pattern, not_built, AreRefused}

abbrev nested : ℕ → List ℕ
nested n = replicate n 40 ++ codes "a" ++ replicate n 41

patterns : map is_pattern (codes "a+b" ∷ [] ∷ codes "^(a|b)$" ∷ codes "a{2,3}?" ∷ codes "\\." ∷ []) ≡ true ∷ true ∷ true ∷ true ∷ true ∷ []
unfolding is_pattern regex_on_literals
patterns = refl

no_patterns : map is_pattern (codes "(" ∷ codes "a)" ∷ codes "*a" ∷ codes "a{3,2}" ∷ codes "\\y" ∷ codes "(a)\\1" ∷ []) ≡ false ∷ false ∷ false ∷ false ∷ false ∷ false ∷ []
unfolding is_pattern regex_on_literals
no_patterns = refl

deepest : (is_pattern (nested 250) ≡ true) × (is_pattern (nested 251) ≡ false)
unfolding is_pattern regex_on_literals
deepest = (refl, refl)

abbrev is_found : List ℕ × List ℕ → Bool
is_found (pattern, value) = finds pattern value

found : map is_found (
    (codes "a+b", codes "xaab") ∷
    (codes "^a$", codes "a") ∷
    (codes "a|bc", codes "xbc") ∷
    ([], []) ∷
    (233 ∷ [], 120 ∷ 233 ∷ []) ∷
    [])
    ≡ true ∷ true ∷ true ∷ true ∷ true ∷ []
unfolding finds regex_on_literals find_str first_from attempt rounds holds holds_between byte_before has_bytes_at is_boundary
found = refl

not_found : map is_found (
    (codes "a+b", codes "xa b") ∷
    (codes "^a$", codes "ba") ∷
    (codes "a|bc", codes "xbd") ∷
    (codes "a", []) ∷
    (codes "(", codes "(") ∷
    (codes "A", codes "a") ∷
    [])
    ≡ false ∷ false ∷ false ∷ false ∷ false ∷ false ∷ []
unfolding finds regex_on_literals find_str first_from attempt rounds holds holds_between byte_before has_bytes_at is_boundary
not_found = refl

-- ---- an expression that is a pattern, and one that is none

open_only : is_pattern (codes "(") ≡ false
unfolding is_pattern regex_on_literals
open_only = refl

letter : is_pattern (codes "a") ≡ true
unfolding is_pattern regex_on_literals
letter = refl

abbrev at : ℕ → List ℕ → PatternAt
at column pattern = record { place = record { line = 1; column = column }; pattern = pattern }

abbrev told : ℕ → ℕ → CodeAt
told code column = code_at code (record { line = 1; column = column })

abbrev two : List PatternAt
two = at 5 (codes "a") ∷ at 9 (codes "(") ∷ []

both_refused : AreRefused two (codes "a" ∷ []) (told 48 5 ∷ told 47 9 ∷ [])
both_refused = record {
  caused = (inl (refl, not_built refl (inl refl)), (inr (inl (refl, no_pattern refl open_only)), tt));
  all = ((λ none. inl refl), ((λ none. inr (inl refl)), tt));
}

one_refused : AreRefused two [] (told 47 9 ∷ [])
one_refused = record {
  caused = (inr (inl (refl, no_pattern refl open_only)), tt);
  all = ((λ none. absurd (let bad : true ≡ false = sym letter ∙ none in cc)), ((λ none. inl refl), tt));
}

left_out : AreRefused two [] [] → ⊥
left_out h = h.all.1.0 open_only

not_refused : IsCause [] (codes "a") 48 → ⊥
not_refused (no_pattern code none) = absurd (let bad : true ≡ false = sym letter ∙ none in cc)
not_refused (not_built code among) = among

a_pattern : IsCause (codes "a" ∷ []) (codes "a") 47 → ⊥
a_pattern (no_pattern code none) = absurd (let bad : true ≡ false = sym letter ∙ none in cc)
a_pattern (not_built code among) = absurd (let bad : false ≡ true = ap (λ (n : ℕ). n == 48) code in cc)

elsewhere : AreRefused two [] (told 47 7 ∷ told 47 9 ∷ []) → ⊥
elsewhere h = nowhere h.caused.0 where
  nowhere : SomeOf (λ p. (p.place ≡ record { line = 1; column = 7 }) × IsCause [] p.pattern 47) two → ⊥
  nowhere (inl (place, cause)) = absurd (let bad : false ≡ true = ap (λ (p : At). p.column == 7) place in cc)
  nowhere (inr (inl (place, cause))) = absurd (let bad : false ≡ true = ap (λ (p : At). p.column == 7) place in cc)
  nowhere (inr (inr h)) = h
