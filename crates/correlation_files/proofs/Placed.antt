-- Places that stand beside documents.
use Rattle.std.proofs.Common.{◌≡◌, ℕ, ◌≤◌, List, [], ◌∷◌, ◌++◌, length, map, refl, sym, ap, ◌∙◌, arith, append_assoc, append-nil}
use Rattle.std.specs.List.{flat_map}
use Rattle.std.proofs.lemmas.Grind.{flat_map-append}
use Rattle.std.proofs.lemmas.List.{length-map, map-append}
use Rattle.pipeline_files.specs.Paired.{paired}

module _ {X Y : Type 0} where
  abbrev pub firsts : List (X × Y) → List X
  firsts ps = map (λ p. p.0) ps

  abbrev pub seconds : List (X × Y) → List Y
  seconds ps = map (λ p. p.1) ps

  pub of_both : (ps qs : List (X × Y)) (xs ys : List Y) → seconds ps ≡ xs → seconds qs ≡ ys → seconds (ps ++ qs) ≡ xs ++ ys
  of_both ps qs xs ys is too = map-append (λ (p : X × Y). p.1) ps qs ∙ (ap (λ (l : List Y). l ++ seconds qs) is ∙ ap (λ (l : List Y). xs ++ l) too)

  -- the texts of the first ones, and then those of the second ones
  pub follows_both : (texts : X → List (List ℕ)) (ps qs : List (X × Y)) (a b c : List (List ℕ)) → b ≡ a ++ flat_map texts (firsts ps) → c ≡ b ++ flat_map texts (firsts qs)
      → c ≡ a ++ flat_map texts (firsts (ps ++ qs))
  follows_both texts ps qs a b c is too =
      too ∙ (ap (λ (l : List (List ℕ)). l ++ flat_map texts (firsts qs)) is
      ∙ (append_assoc a (flat_map texts (firsts ps)) (flat_map texts (firsts qs))
      ∙ ap (λ (l : List (List ℕ)). a ++ l) (sym (ap (flat_map texts) (map-append (λ (p : X × Y). p.0) ps qs) ∙ flat_map-append texts (firsts ps) (firsts qs)))))

  -- the one beside the other again
  paired_all : (none : X) (ps : List (X × Y)) → paired none (firsts ps) (seconds ps) ≡ ps
  paired_all none [] = refl
  paired_all none ((x, y) ∷ ps) = ap (λ (l : List (X × Y)). (x, y) ∷ l) (paired_all none ps)

  pub paired_of : (none : X) (ps : List (X × Y)) (ys : List Y) → seconds ps ≡ ys → paired none (firsts ps) ys ≡ ps
  paired_of none ps ys is = ap (paired none (firsts ps)) (sym is) ∙ paired_all none ps

  pub no_more : (ps : List (X × Y)) (ys : List Y) → seconds ps ≡ ys → length (firsts ps) ≤ length ys
  no_more ps ys is =
      let same : length (firsts ps) ≡ length ys = length-map ps (λ (p : X × Y). p.0) ∙ (sym (length-map ps (λ (p : X × Y). p.1)) ∙ ap length is) in
      omega (arith, same)

  -- this one beside each
  abbrev pub beside : X → List Y → List (X × Y)
  beside none ys = map (λ y. (none, y)) ys

  pub beside_of : (none : X) (ys : List Y) → seconds (beside none ys) ≡ ys
  beside_of none [] = refl
  beside_of none (y ∷ ys) = ap (λ (l : List Y). y ∷ l) (beside_of none ys)

  pub beside_follows : (texts : X → List (List ℕ)) (none : X) → texts none ≡ [] → (ys : List Y) (a : List (List ℕ)) → a ≡ a ++ flat_map texts (firsts (beside none ys))
  beside_follows texts none no_texts ys a = sym (append-nil a) ∙ ap (λ (l : List (List ℕ)). a ++ l) (sym (nothing ys))
    where
      nothing : (zs : List Y) → flat_map texts (firsts (beside none zs)) ≡ []
      nothing [] = refl
      nothing (z ∷ zs) = ap (λ (l : List (List ℕ)). l ++ flat_map texts (firsts (beside none zs))) no_texts ∙ nothing zs

  pub beside_paired : (none : X) (ys : List Y) → beside none ys ≡ paired none [] ys
  beside_paired none [] = refl
  beside_paired none (y ∷ ys) = ap (λ (l : List (X × Y)). (none, y) ∷ l) (beside_paired none ys)
