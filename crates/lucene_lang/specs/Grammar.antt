-- The grammar: what a query is made of, and how it is spelled in tokens.
--
--   query = group              group  = clause { word clause }       word = AND | OR
--   clause = [NOT] atom        atom   = *:* | ( group ) | field : value
--   value  = term | "phrase" | open end TO end close
--   open   = [ or {    close = ] or }    end = * or a canonical decimal
--
-- A query is plain data here, with its parentheses; a text is this query where the query's spelling is the text's tokens.
-- That the words of a group are all the same is no matter of the grammar, but of `Faults`.
use Rattle.std.specs.Prelude.{ℕ, ◌≡◌, Bool, List, [], ◌∷◌, ◌++◌}
use Rattle.query_tokens.specs.Spelled as spelled
use Rattle.lucene_lang.specs.declared.query.Word.{Word}
use Rattle.lucene_lang.specs.declared.written.Written.{Written}
use Rattle.lucene_lang.specs.Tokens.{Sort, Joins, Not, Star, Wild, To, Decimal, Plain, Phrase, Opening, Closing, Opens, Closes, Colon}

-- a run without a wildcard: a field's name, or a term
pub data Name : Type 0 where
  to : Name
  decimal : List ℕ → Name
  plain : List Written → Name

pub data Term : Type 0 where
  star : Term
  wild : List Written → Term
  exact : Name → Term

-- * or a canonical decimal
pub data End : Type 0 where
  unbounded : End
  bound : List ℕ → End

-- a range has a flag for each end, whether it is inside
pub data Value : Type 0 where
  a_term : Term → Value
  a_phrase : List Written → Value
  a_range : (low_in : Bool) → (low : End) → (high : End) → (high_in : Bool) → Value

-- *:* | field : value
pub data Leaf : Type 0 where
  everything : Leaf
  sought : Name → Value → Leaf

mutual
  -- group = clause { word clause }
  pub data Group : Type 0 where
    last : Clause → Group
    joined : Clause → Word → Group → Group

  -- clause = [NOT] atom
  pub data Clause : Type 0 where
    asked : Atom → Clause
    forbidden : Atom → Clause

  -- atom = *:* | ( group ) | field : value
  pub data Atom : Type 0 where
    a_leaf : Leaf → Atom
    enclosed : Group → Atom

abbrev pub spell_name : Name → Sort
spell_name to = To
spell_name (decimal w) = Decimal w
spell_name (plain w) = Plain w

abbrev pub spell_term : Term → Sort
spell_term star = Star
spell_term (wild w) = Wild w
spell_term (exact n) = spell_name n

abbrev pub spell_end : End → Sort
spell_end unbounded = Star
spell_end (bound w) = Decimal w

abbrev pub spell_value : Value → List Sort
spell_value (a_term t) = spell_term t ∷ []
spell_value (a_phrase w) = Phrase w ∷ []
spell_value (a_range b low high c) = Opens b ∷ spell_end low ∷ To ∷ spell_end high ∷ Closes c ∷ []

abbrev pub spell_leaf : Leaf → List Sort
spell_leaf everything = Star ∷ Colon ∷ Star ∷ []
spell_leaf (sought n v) = spell_name n ∷ Colon ∷ spell_value v

abbrev mutual
  pub spell_group : Group → List Sort
  spell_group (last c) = spell_clause c
  spell_group (joined c w g) = spell_clause c ++ Joins w ∷ spell_group g

  pub spell_clause : Clause → List Sort
  spell_clause (asked a) = spell_atom a
  spell_clause (forbidden a) = Not ∷ spell_atom a

  pub spell_atom : Atom → List Sort
  spell_atom (a_leaf l) = spell_leaf l
  spell_atom (enclosed g) = Opening ∷ (spell_group g ++ Closing ∷ [])

-- Tokens spell one query at most: they fix where a group is divided, and which pairs of parentheses it has.
abbrev pub OneSpelling : Type 0
OneSpelling = (a b : Group) → spell_group a ≡ spell_group b → a ≡ b

-- ---- what begins a query, and where tokens stop being one's

abbrev pub Begins : List Sort → Type 0
Begins = spelled.Begins spell_group

abbrev pub IsQuery : List Sort → Type 0
IsQuery = spelled.IsQuery spell_group

abbrev pub IsDead : List Sort → List Sort → Type 0
IsDead = spelled.IsDead spell_group

abbrev pub StopsAt : List Sort → List Sort → List Sort → Type 0
StopsAt = spelled.StopsAt spell_group
