-- At most one place where tokens stop being a query's, and none in a query.
use Rattle.std.proofs.Common.{◌≡◌, refl, sym, ◌∙◌, List, [], ◌∷◌, ◌++◌, append_assoc, append-nil, subst}
use Rattle.query_tokens.specs.Spelled.{Begins, IsDead, StopsAt}

module _ {Sort : Type 0} where
  -- two partings of one list: the same, or one of the fronts goes on with the first of the other's rest
  pub data Parted (a b c d : List Sort) : Type 0 where
    alike : a ≡ c → b ≡ d → Parted a b c d
    later : (t : Sort) (more : List Sort) → b ≡ t ∷ (more ++ d) → c ≡ a ++ t ∷ more → Parted a b c d
    earlier : (t : Sort) (more : List Sort) → d ≡ t ∷ (more ++ b) → a ≡ c ++ t ∷ more → Parted a b c d

  pub parted : (a b c d : List Sort) → a ++ b ≡ c ++ d → Parted a b c d
  parted [] b [] d same = alike refl same
  parted [] b (t ∷ c) d same = later t c same refl
  parted (t ∷ a) b [] d same = earlier t a (sym same) refl
  parted (t ∷ a) b (u ∷ c) d same =
      let first : t ≡ u = cc in
      let behind : a ++ b ≡ c ++ d = cc in
      elim (parted a b c d behind) [
        | alike p q ↦ alike (cc) q
        | later v more p q ↦ later v more p (cc)
        | earlier v more p q ↦ earlier v more p (cc)
      ]

module _ {Query Sort : Type 0} (spell : Query → List Sort) where
  -- a front that goes on with a token isn't dead there
  goes_on : (front more rest : List Sort) (t : Sort) → Begins spell (front ++ t ∷ more) → IsDead spell front (t ∷ rest) → ⊥
  goes_on front more rest t alive dead =
      dead (alive.0, more ++ alive.1, alive.2 ∙ (append_assoc front (t ∷ more) alive.1 ∙ sym (append_assoc front (t ∷ []) (more ++ alive.1))))

  pub one_stop_of : (ts front rest other more : List Sort) → StopsAt spell ts front rest → StopsAt spell ts other more → rest ≡ more
  one_stop_of ts front rest other more s r = elim (parted front rest other more (sym s.parts ∙ r.parts)) [
    | alike p q ↦ q
    | later t mid p q ↦ absurd (goes_on front mid (mid ++ more) t (subst (Begins spell) q r.alive) (subst (IsDead spell front) p s.dead))
    | earlier t mid p q ↦ absurd (goes_on other mid (mid ++ rest) t (subst (Begins spell) q s.alive) (subst (IsDead spell other) p r.dead))
  ]

  not_dead : (q : Query) (front rest : List Sort) → spell q ≡ front ++ rest → IsDead spell front rest → ⊥
  not_dead q front [] parts dead = dead (q, parts ∙ append-nil front)
  not_dead q front (t ∷ rest) parts dead = dead (q, rest, parts ∙ sym (append_assoc front (t ∷ []) rest))

  pub no_stop_of : (q : Query) (front rest : List Sort) → StopsAt spell (spell q) front rest → ⊥
  no_stop_of q front rest s = not_dead q front rest s.parts s.dead
