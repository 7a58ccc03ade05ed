-- Where tokens stop being a query's, in any language whose queries are spelled in tokens.
use Rattle.std.specs.Prelude.{◌≡◌, List, [], ◌∷◌, ◌++◌}

module _ {Query Sort : Type 0} (spell : Query → List Sort) where
  -- some query begins with these tokens
  abbrev pub Begins : List Sort → Type 0
  Begins front = (q : Query) × (more : List Sort) × (spell q ≡ front ++ more)

  abbrev pub IsQuery : List Sort → Type 0
  IsQuery ts = (q : Query) × (spell q ≡ ts)

  -- No query begins with these tokens and the first of the rest; where there is no rest, the tokens aren't a query.
  abbrev pub IsDead : List Sort → List Sort → Type 0
  IsDead front [] = IsQuery front → ⊥
  IsDead front (t ∷ rest) = Begins (front ++ t ∷ []) → ⊥

  -- The tokens part where they stop being a query's: at the first token with which no query begins together with those
  -- before it, or at the end.
  pub record StopsAt (ts front rest : List Sort) : Type 0 where
    pub parts : ts ≡ front ++ rest
    pub alive : Begins front
    pub dead : IsDead front rest
