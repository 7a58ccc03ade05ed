-- Runs and single characters are what they say.
use Rattle.std.proofs.Common.{ℕ, ◌≡◌, refl, sym, ap, Bool, true, false, List, [], ◌∷◌, ◌++◌, ◌||◌, inl, inr, subst}
use Rattle.std.specs.Prelude.{◌↔◌}
use Rattle.std.proofs.lemmas.Bool.{and_parts, cases_Bool}
use Rattle.sql_lang.specs.Meaning.{some_end, behind_one}

end_found : (fits : List ℕ → Bool) (before suffix : List ℕ) → fits suffix ≡ true → some_end fits (before ++ suffix) ≡ true
end_found fits [] [] is = is
end_found fits [] (c ∷ cs) is = rw is refl
end_found fits (c ∷ before) suffix is = elim (cases_Bool (fits (c ∷ (before ++ suffix))))
    [ inl here ↦ rw here refl | inr not ↦ rw not (end_found fits before suffix is) ]

some_end_is : (fits : List ℕ → Bool) (text : List ℕ) → some_end fits text ≡ true
    → (before : List ℕ) × (suffix : List ℕ) × (text ≡ before ++ suffix) × (fits suffix ≡ true)
some_end_is fits [] h = ([], [], refl, h)
some_end_is fits (c ∷ cs) h = by (fits (c ∷ cs)) refl h (λ g. some_end_is fits cs g) where
  by : (b : Bool) → fits (c ∷ cs) ≡ b → (b || some_end fits cs) ≡ true
      → (some_end fits cs ≡ true → (before : List ℕ) × (suffix : List ℕ) × (cs ≡ before ++ suffix) × (fits suffix ≡ true))
      → (before : List ℕ) × (suffix : List ℕ) × (c ∷ cs ≡ before ++ suffix) × (fits suffix ≡ true)
  by true is g more = ([], c ∷ cs, refl, is)
  by false is g more = let m = more g in (c ∷ m.0, m.1, ap (λ (ds : List ℕ). c ∷ ds) m.2, m.3)

pub run_is : (fits : List ℕ → Bool) (text : List ℕ)
    → (some_end fits text ≡ true) ↔ ((before : List ℕ) × (suffix : List ℕ) × (text ≡ before ++ suffix) × (fits suffix ≡ true))
run_is fits text = (some_end_is fits text, λ h. subst (λ (cs : List ℕ). some_end fits cs ≡ true) (sym h.2) (end_found fits h.0 h.1 h.3))

one_found : (is_so : ℕ → Bool) (fits : List ℕ → Bool) (text : List ℕ) → behind_one is_so fits text ≡ true
    → (first : ℕ) × (rest : List ℕ) × (text ≡ first ∷ rest) × (is_so first ≡ true) × (fits rest ≡ true)
one_found is_so fits [] h = absurd cc
one_found is_so fits (c ∷ cs) h = let each = and_parts (is_so c) (fits cs) h in (c, cs, refl, each.0, each.1)

pub one_is : (is_so : ℕ → Bool) (fits : List ℕ → Bool) (text : List ℕ)
    → (behind_one is_so fits text ≡ true) ↔ ((first : ℕ) × (rest : List ℕ) × (text ≡ first ∷ rest) × (is_so first ≡ true) × (fits rest ≡ true))
one_is is_so fits text = (
  one_found is_so fits text,
  λ h. let so = h.3 in let behind = h.4 in subst (λ (cs : List ℕ). behind_one is_so fits cs ≡ true) (sym h.2) (rw (so, behind) refl),
)
