-- The grammar: what a query is made of, and how it is spelled in tokens.
--
--   query = SELECT * FROM name WHERE or [;]
--   or    = and ( OR and )*          and = not ( AND not )*          not = NOT not | test
--   test  = ( or ) | 0 | 1 | name IS [NOT] NULL | cname op side | name [NOT] LIKE text [ESCAPE text] | name [NOT] GLOB text
--         | name [NOT] REGEXP text | cname [NOT] IN ( literal {, literal} ) | cname [NOT] BETWEEN number AND number
--   side  = cname | literal [COLLATE NOCASE|BINARY]          cname = name [COLLATE NOCASE|BINARY]
--
-- A query is plain data here, with its parentheses; a text is this query where the query's spelling is the text's
-- tokens. The tests are of SQLite's page on expressions; NOT binds tighter than AND, and AND tighter than OR.
use Rattle.std.specs.Prelude.{ℕ, ◌≡◌, Bool, true, false, List, [], ◌∷◌, ◌++◌, codes, Option, Some, None}
use Rattle.query_tokens.specs.Spelled as spelled
use Rattle.sql_lang.specs.Tokens.{SELECT, FROM, WHERE, OR, AND, NOT, IS, NULL, LIKE, ESCAPE, GLOB, REGEXP, IN, BETWEEN, COLLATE, NOCASE, BINARY, Op, Sort, Word, Name, Text, Number, Opening, Closing, Comma, Star, Semicolon, Compares}

-- ---- one test

pub data Collate : Type 0 where
  Unsaid : Collate
  NoCase : Collate
  Binary : Collate

-- a number has its characters as written
pub data Literal : Type 0 where
  a_text : List ℕ → Literal
  a_number : List ℕ → Literal

pub data Right : Type 0 where
  a_name : List ℕ → Right
  a_literal : Literal → Right

-- One test that isn't in parentheses. IN has a last literal, and those before it.
pub data Leaf : Type 0 where
  constant : Bool → Leaf
  is_null : (name : List ℕ) → (negated : Bool) → Leaf
  compares : (name : List ℕ) → Collate → Op → Right → Collate → Leaf
  like : (name : List ℕ) → (negated : Bool) → (pattern : List ℕ) → (escape : Option (List ℕ)) → Leaf
  glob : (name : List ℕ) → (negated : Bool) → (pattern : List ℕ) → Leaf
  regexp : (name : List ℕ) → (negated : Bool) → (pattern : List ℕ) → Leaf
  one_of : (name : List ℕ) → Collate → (negated : Bool) → (before : List Literal) → (last : Literal) → Leaf
  between : (name : List ℕ) → Collate → (negated : Bool) → (low : List ℕ) → (high : List ℕ) → Leaf

abbrev pub digit : Bool → List ℕ
digit false = codes "0"
digit true = codes "1"

abbrev pub spell_collate : Collate → List Sort
spell_collate Unsaid = []
spell_collate NoCase = Word COLLATE ∷ Word NOCASE ∷ []
spell_collate Binary = Word COLLATE ∷ Word BINARY ∷ []

abbrev pub spell_literal : Literal → Sort
spell_literal (a_text t) = Text t
spell_literal (a_number w) = Number w

abbrev pub spell_right : Right → Sort
spell_right (a_name n) = Name n
spell_right (a_literal l) = spell_literal l

abbrev pub spell_not : Bool → List Sort
spell_not false = []
spell_not true = Word NOT ∷ []

abbrev pub spell_escape : Option (List ℕ) → List Sort
spell_escape None = []
spell_escape (Some e) = Word ESCAPE ∷ Text e ∷ []

-- each with its comma
abbrev pub spell_before : List Literal → List Sort
spell_before [] = []
spell_before (l ∷ ls) = spell_literal l ∷ Comma ∷ spell_before ls

abbrev pub spell_test : Leaf → List Sort
spell_test (constant b) = Number (digit b) ∷ []
spell_test (is_null n negated) = Name n ∷ Word IS ∷ (spell_not negated ++ Word NULL ∷ [])
spell_test (compares n c op right d) = Name n ∷ (spell_collate c ++ Compares op ∷ spell_right right ∷ spell_collate d)
spell_test (like n negated p e) = Name n ∷ (spell_not negated ++ Word LIKE ∷ Text p ∷ spell_escape e)
spell_test (glob n negated p) = Name n ∷ (spell_not negated ++ Word GLOB ∷ Text p ∷ [])
spell_test (regexp n negated p) = Name n ∷ (spell_not negated ++ Word REGEXP ∷ Text p ∷ [])
spell_test (one_of n c negated before last) =
    Name n ∷ (spell_collate c ++ (spell_not negated ++ Word IN ∷ Opening ∷ (spell_before before ++ spell_literal last ∷ Closing ∷ [])))
spell_test (between n c negated low high) =
    Name n ∷ (spell_collate c ++ (spell_not negated ++ Word BETWEEN ∷ Number low ∷ Word AND ∷ Number high ∷ []))

-- ---- OR, AND, NOT and parentheses

mutual
  -- or = and ( OR and )*
  pub data Ors : Type 0 where
    last_and : Ands → Ors
    and_or : Ands → Ors → Ors

  -- and = not ( AND not )*
  pub data Ands : Type 0 where
    last_not : Nots → Ands
    not_and : Nots → Ands → Ands

  -- not = NOT not | test, and a test may be ( or )
  pub data Nots : Type 0 where
    not_not : Nots → Nots
    a_test : Leaf → Nots
    enclosed : Ors → Nots

abbrev mutual
  pub spell_or : Ors → List Sort
  spell_or (last_and a) = spell_and a
  spell_or (and_or a o) = spell_and a ++ Word OR ∷ spell_or o

  pub spell_and : Ands → List Sort
  spell_and (last_not n) = spell_nots n
  spell_and (not_and n a) = spell_nots n ++ Word AND ∷ spell_and a

  pub spell_nots : Nots → List Sort
  spell_nots (not_not n) = Word NOT ∷ spell_nots n
  spell_nots (a_test t) = spell_test t
  spell_nots (enclosed o) = Opening ∷ (spell_or o ++ Closing ∷ [])

-- SELECT * FROM table WHERE condition, and perhaps a semicolon
pub record Query : Type 0 where
  pub table : List ℕ
  pub condition : Ors
  pub ends : Bool

abbrev pub spell_end : Bool → List Sort
spell_end false = []
spell_end true = Semicolon ∷ []

abbrev pub spell_head : List ℕ → List Sort
spell_head table = Word SELECT ∷ Star ∷ Word FROM ∷ Name table ∷ Word WHERE ∷ []

abbrev pub spell_query : Query → List Sort
spell_query q = spell_head q.table ++ (spell_or q.condition ++ spell_end q.ends)

-- Tokens spell one query at most: they fix where each or and each and is divided, and which pairs of parentheses it has.
abbrev pub OneSpelling : Type 0
OneSpelling = (a b : Query) → spell_query a ≡ spell_query b → a ≡ b

-- ---- what begins a query, and where tokens stop being one's

abbrev pub Begins : List Sort → Type 0
Begins = spelled.Begins spell_query

abbrev pub IsQuery : List Sort → Type 0
IsQuery = spelled.IsQuery spell_query

abbrev pub IsDead : List Sort → List Sort → Type 0
IsDead = spelled.IsDead spell_query

abbrev pub StopsAt : List Sort → List Sort → List Sort → Type 0
StopsAt = spelled.StopsAt spell_query
