-- Runs and single characters are what they say.
use Rattle.std.proofs.Common.{ℕ, ◌≡◌, refl, sym, ap, ◌∙◌, Bool, true, false, List, [], ◌∷◌, ◌++◌, ◌||◌, inl, inr, subst}
use Rattle.std.specs.Prelude.{◌↔◌, ◌==◌}
use Rattle.std.proofs.lemmas.Bool.{eqb-true, eq-eqb, and_parts, cases_Bool}
use Rattle.lucene_lang.specs.declared.query.Glyph.{Glyph}
use Rattle.lucene_lang.specs.declared.query.Glyph.TheVariants.{Char, One, Run}
use Rattle.lucene_lang.specs.Meaning.{some_end, behind_one, term_fits}

end_found : (fits : List ℕ → Bool) (before suffix : List ℕ) → fits suffix ≡ true → some_end fits (before ++ suffix) ≡ true
end_found fits [] [] is = is
end_found fits [] (c ∷ cs) is = rw is refl
end_found fits (c ∷ before) suffix is = elim (cases_Bool (fits (c ∷ (before ++ suffix))))
    [ inl here ↦ rw here refl | inr not ↦ rw not (end_found fits before suffix is) ]

some_end_is : (fits : List ℕ → Bool) (text : List ℕ) → some_end fits text ≡ true
    → (before : List ℕ) × (suffix : List ℕ) × (text ≡ before ++ suffix) × (fits suffix ≡ true)
some_end_is fits [] h = ([], [], refl, h)
some_end_is fits (c ∷ cs) h = by (fits (c ∷ cs)) refl h (λ g. some_end_is fits cs g) where
  by : (b : Bool) → fits (c ∷ cs) ≡ b → (b || some_end fits cs) ≡ true
      → (some_end fits cs ≡ true → (before : List ℕ) × (suffix : List ℕ) × (cs ≡ before ++ suffix) × (fits suffix ≡ true))
      → (before : List ℕ) × (suffix : List ℕ) × (c ∷ cs ≡ before ++ suffix) × (fits suffix ≡ true)
  by true is g more = ([], c ∷ cs, refl, is)
  by false is g more = let m = more g in (c ∷ m.0, m.1, ap (λ (ds : List ℕ). c ∷ ds) m.2, m.3)

run_is : (fits : List ℕ → Bool) (text : List ℕ)
    → (some_end fits text ≡ true) ↔ ((before : List ℕ) × (suffix : List ℕ) × (text ≡ before ++ suffix) × (fits suffix ≡ true))
run_is fits text = (some_end_is fits text, λ h. subst (λ (cs : List ℕ). some_end fits cs ≡ true) (sym h.2) (end_found fits h.0 h.1 h.3))

one_found : (is_so : ℕ → Bool) (fits : List ℕ → Bool) (text : List ℕ) → behind_one is_so fits text ≡ true
    → (first : ℕ) × (rest : List ℕ) × (text ≡ first ∷ rest) × (is_so first ≡ true) × (fits rest ≡ true)
one_found is_so fits [] h = absurd cc
one_found is_so fits (c ∷ cs) h = let each = and_parts (is_so c) (fits cs) h in (c, cs, refl, each.0, each.1)

one_is : (is_so : ℕ → Bool) (fits : List ℕ → Bool) (text : List ℕ)
    → (behind_one is_so fits text ≡ true) ↔ ((first : ℕ) × (rest : List ℕ) × (text ≡ first ∷ rest) × (is_so first ≡ true) × (fits rest ≡ true))
one_is is_so fits text = (
  one_found is_so fits text,
  λ h. let so = h.3 in let behind = h.4 in subst (λ (cs : List ℕ). behind_one is_so fits cs ≡ true) (sym h.2) (rw (so, behind) refl),
)

-- ---- of terms

pub run_fits : (gs : List Glyph) (text : List ℕ)
    → (term_fits (Run ∷ gs) text ≡ true) ↔ ((before : List ℕ) × (suffix : List ℕ) × (text ≡ before ++ suffix) × (term_fits gs suffix ≡ true))
unfolding term_fits
run_fits gs text = run_is (term_fits gs) text

pub one_fits : (gs : List Glyph) (text : List ℕ)
    → (term_fits (One ∷ gs) text ≡ true) ↔ ((first : ℕ) × (rest : List ℕ) × (text ≡ first ∷ rest) × (term_fits gs rest ≡ true))
unfolding term_fits
one_fits gs text =
    let is = one_is (λ (d : ℕ). true) (term_fits gs) text in
    (λ h. let f = is.0 h in (f.0, f.1, f.2, f.4), λ h. is.1 (h.0, h.1, h.2, refl, h.3))

pub character_fits : (c : ℕ) (gs : List Glyph) (text : List ℕ)
    → (term_fits (Char c ∷ gs) text ≡ true) ↔ ((rest : List ℕ) × (text ≡ c ∷ rest) × (term_fits gs rest ≡ true))
unfolding term_fits
character_fits c gs text =
    let is = one_is (λ (d : ℕ). c == d) (term_fits gs) text in (
      λ h. let f = is.0 h in (f.1, f.2 ∙ ap (λ (d : ℕ). d ∷ f.1) (sym (eqb-true c f.0 f.3)), f.4),
      λ h. is.1 (c, h.0, h.1, eq-eqb c c refl, h.2),
    )

pub nothing_fits : (text : List ℕ) → (term_fits [] text ≡ true) ↔ (text ≡ [])
unfolding term_fits
nothing_fits [] = ((λ h. refl), (λ h. refl))
nothing_fits (c ∷ cs) = ((λ h. absurd (not_true h)), (λ h. absurd (not_nothing h)))
  where
    not_true : false ≡ true → ⊥
    not_true h = cc

    not_nothing : c ∷ cs ≡ [] → ⊥
    not_nothing h = cc
