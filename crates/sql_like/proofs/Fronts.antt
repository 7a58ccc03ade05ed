-- What LIKE and GLOB say at the front of a pattern.
use Rattle.std.proofs.Common.{ℕ, ◌≡◌, ◌≢◌, refl, sym, ◌∙◌, ap, Bool, true, false, List, [], ◌∷◌, arith}
use Rattle.std.specs.Prelude.{◌==◌, ◌↔◌, IsTrue, Option}
use Rattle.std.proofs.lemmas.Bool.Decides.{nat_tests}
use Rattle.matching.specs.Suffixes.{SuffixHolds, CharThen}
use Rattle.sql_lang.specs.Meaning.{Part, AnyRun, AnyOne, Exactly, is_escape, like_part, like_from, like_parts, same_folded, glob_part, glob_from, glob_parts, fits_parts, like_fits, glob_fits}
use Rattle.sql_like.proofs.Means.{nothing_is, run_agrees, one_agrees}

-- the front part of a pattern, and what it says of texts
module _ (same : ℕ → ℕ → Bool) (ps : List Part) (text : List ℕ) where
  abbrev Behind : List ℕ → Type 0
  Behind rest = fits_parts same ps rest ≡ true

  ends : (qs : List Part) → qs ≡ [] → (fits_parts same qs text ≡ true) ↔ (text ≡ [])
  unfolding fits_parts
  ends qs is = rw is (nothing_is text)

  runs : (qs : List Part) → qs ≡ AnyRun ∷ ps → (fits_parts same qs text ≡ true) ↔ SuffixHolds Behind text
  unfolding fits_parts
  runs qs is = rw is (run_agrees (fits_parts same ps) Behind text (λ rest. (λ h. h, λ h. h)))

  any_one : (qs : List Part) → qs ≡ AnyOne ∷ ps → (fits_parts same qs text ≡ true) ↔ CharThen (λ d. true) Behind text
  unfolding fits_parts
  any_one qs is = rw is (one_agrees (fits_parts same ps) Behind text (λ rest. (λ h. h, λ h. h)) (λ d. true))

  exactly : (qs : List Part) (c : ℕ) → qs ≡ Exactly c ∷ ps → (fits_parts same qs text ≡ true) ↔ CharThen (same c) Behind text
  unfolding fits_parts
  exactly qs c is = rw is (one_agrees (fits_parts same ps) Behind text (λ rest. (λ h. h, λ h. h)) (same c))

is_equal : (c k : ℕ) → c ≡ k → (c == k) ≡ true
is_equal c k h = grind (arith, nat_tests)

is_other : (c k : ℕ) → c ≢ k → (c == k) ≡ false
is_other c k h = grind (arith, nat_tests)

-- ---- LIKE

module _ (e : Option ℕ) (cs : List ℕ) (text : List ℕ) where
  pub like_ends : cs ≡ [] → (like_fits cs e text ≡ true) ↔ (text ≡ [])
  unfolding like_from
  like_ends is = ends same_folded [] text (like_parts e cs) (ap (like_parts e) is)

  pub like_lone : (c : ℕ) → cs ≡ c ∷ [] → is_escape e c ≡ true → (like_fits cs e text ≡ true) ↔ (text ≡ [])
  unfolding like_from
  like_lone c is escape = ends same_folded [] text (like_parts e cs) (ap (like_parts e) is ∙ rw escape refl)

  pub like_escaped : (c d : ℕ) (rest : List ℕ) → cs ≡ c ∷ d ∷ rest → is_escape e c ≡ true
      → (like_fits cs e text ≡ true) ↔ CharThen (same_folded d) (λ t. like_fits rest e t ≡ true) text
  unfolding like_from
  like_escaped c d rest is escape = exactly same_folded (like_parts e rest) text (like_parts e cs) d (ap (like_parts e) is ∙ rw escape refl)

  plain : (c : ℕ) (rest : List ℕ) → cs ≡ c ∷ rest → is_escape e c ≡ false → like_parts e cs ≡ like_part c ∷ like_parts e rest
  unfolding like_from
  plain c rest is escape = ap (like_parts e) is ∙ rw escape refl

  pub like_runs : (c : ℕ) (rest : List ℕ) → cs ≡ c ∷ rest → is_escape e c ≡ false → c ≡ 37
      → (like_fits cs e text ≡ true) ↔ SuffixHolds (λ t. like_fits rest e t ≡ true) text
  like_runs c rest is escape sign =
      let run : like_part c ≡ AnyRun = (let h = is_equal c 37 sign in rw h refl) in
      runs same_folded (like_parts e rest) text (like_parts e cs) (plain c rest is escape ∙ ap (λ (p : Part). p ∷ like_parts e rest) run)

  pub like_one : (c : ℕ) (rest : List ℕ) → cs ≡ c ∷ rest → is_escape e c ≡ false → c ≢ 37 → c ≡ 95
      → (like_fits cs e text ≡ true) ↔ CharThen (λ d. true) (λ t. like_fits rest e t ≡ true) text
  like_one c rest is escape run sign =
      let one : like_part c ≡ AnyOne = (let g = is_other c 37 run in let h = is_equal c 95 sign in rw (g, h) refl) in
      any_one same_folded (like_parts e rest) text (like_parts e cs) (plain c rest is escape ∙ ap (λ (p : Part). p ∷ like_parts e rest) one)

  pub like_char : (c : ℕ) (rest : List ℕ) → cs ≡ c ∷ rest → is_escape e c ≡ false → c ≢ 37 → c ≢ 95
      → (like_fits cs e text ≡ true) ↔ CharThen (same_folded c) (λ t. like_fits rest e t ≡ true) text
  like_char c rest is escape run one =
      let itself : like_part c ≡ Exactly c = (let g = is_other c 37 run in let h = is_other c 95 one in rw (g, h) refl) in
      exactly same_folded (like_parts e rest) text (like_parts e cs) c (plain c rest is escape ∙ ap (λ (p : Part). p ∷ like_parts e rest) itself)

-- ---- GLOB

abbrev exact : ℕ → ℕ → Bool
exact c d = c == d

module _ (cs : List ℕ) (text : List ℕ) where
  pub glob_ends : cs ≡ [] → (glob_fits cs text ≡ true) ↔ (text ≡ [])
  unfolding glob_from
  glob_ends is = ends exact [] text (glob_parts cs) (ap glob_parts is)

  pub glob_lone : (c : ℕ) → cs ≡ c ∷ [] → c ≡ 91 → (glob_fits cs text ≡ true) ↔ (text ≡ [])
  unfolding glob_from
  glob_lone c is open' = ends exact [] text (glob_parts cs) (ap glob_parts is ∙ (let h = is_equal c 91 open' in rw h refl))

  pub glob_half : (c d : ℕ) → cs ≡ c ∷ d ∷ [] → c ≡ 91 → (glob_fits cs text ≡ true) ↔ (text ≡ [])
  unfolding glob_from
  glob_half c d is open' = ends exact [] text (glob_parts cs) (ap glob_parts is ∙ (let h = is_equal c 91 open' in rw h refl))

  pub glob_bracket : (c d x : ℕ) (rest : List ℕ) → cs ≡ c ∷ d ∷ x ∷ rest → c ≡ 91
      → (glob_fits cs text ≡ true) ↔ CharThen (λ y. d == y) (λ t. glob_fits rest t ≡ true) text
  unfolding glob_from
  glob_bracket c d x rest is open' =
      exactly exact (glob_parts rest) text (glob_parts cs) d (ap glob_parts is ∙ (let h = is_equal c 91 open' in rw h refl))

  outside : (c : ℕ) (rest : List ℕ) → cs ≡ c ∷ rest → c ≢ 91 → glob_parts cs ≡ glob_part c ∷ glob_parts rest
  unfolding glob_from
  outside c rest is other = ap glob_parts is ∙ (let h = is_other c 91 other in rw h refl)

  pub glob_runs : (c : ℕ) (rest : List ℕ) → cs ≡ c ∷ rest → c ≢ 91 → c ≡ 42
      → (glob_fits cs text ≡ true) ↔ SuffixHolds (λ t. glob_fits rest t ≡ true) text
  glob_runs c rest is other sign =
      let run : glob_part c ≡ AnyRun = (let h = is_equal c 42 sign in rw h refl) in
      runs exact (glob_parts rest) text (glob_parts cs) (outside c rest is other ∙ ap (λ (p : Part). p ∷ glob_parts rest) run)

  pub glob_one : (c : ℕ) (rest : List ℕ) → cs ≡ c ∷ rest → c ≢ 91 → c ≢ 42 → c ≡ 63
      → (glob_fits cs text ≡ true) ↔ CharThen (λ d. true) (λ t. glob_fits rest t ≡ true) text
  glob_one c rest is other run sign =
      let one : glob_part c ≡ AnyOne = (let g = is_other c 42 run in let h = is_equal c 63 sign in rw (g, h) refl) in
      any_one exact (glob_parts rest) text (glob_parts cs) (outside c rest is other ∙ ap (λ (p : Part). p ∷ glob_parts rest) one)

  pub glob_char : (c : ℕ) (rest : List ℕ) → cs ≡ c ∷ rest → c ≢ 91 → c ≢ 42 → c ≢ 63
      → (glob_fits cs text ≡ true) ↔ CharThen (λ d. c == d) (λ t. glob_fits rest t ≡ true) text
  glob_char c rest is other run one =
      let itself : glob_part c ≡ Exactly c = (let g = is_other c 42 run in let h = is_other c 63 one in rw (g, h) refl) in
      exactly exact (glob_parts rest) text (glob_parts cs) c (outside c rest is other ∙ ap (λ (p : Part). p ∷ glob_parts rest) itself)

-- a test that is true exactly where another is, is this other
pub same_test : (r b : Bool) → IsTrue r ↔ (b ≡ true) → r ≡ b
same_test true true h = refl
same_test true false h = sym (h.0 refl)
same_test false true h = h.1 refl
same_test false false h = refl
