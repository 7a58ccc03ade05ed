-- What is wrong with a query's names, kinds and patterns, in the order of the text. Which regular expressions are refused, and
-- whether with 47 or 48, is told by a list of places.
use Rattle.std.specs.Prelude.{ℕ, suc, ◌+◌, Bool, true, false, not, ◌&&◌, ◌||◌, ◌==◌, if◌then◌else◌, List, [], ◌∷◌, ◌++◌, length, drop, Option, Some, None}
use Rattle.std.specs.List.{list_any}
use Rattle.query_tokens.specs.Places.{At, CodeAt, code_at, code_at_if, nth}
use Rattle.sql_lang.specs.Tokens.{Op, Eq, Ne}
use Rattle.sql_lang.specs.Grammar.{Collate, Unsaid, NoCase, Binary, Literal, a_text, a_number, Right, a_name, a_literal, Leaf, constant, is_null, compares, like, glob, regexp, one_of, between, spell_collate, spell_not, spell_and, spell_nots, Ors, last_and, and_or, Ands, last_not, not_and, Nots, not_not, a_test, enclosed, Query}
use Rattle.event_schema.specs.declared.schema.Field.{Field}
use Rattle.event_schema.specs.declared.schema.FieldKind.{FieldKind}
use Rattle.event_schema.specs.declared.schema.FieldKind.TheVariants as kinds
use Rattle.event_schema.specs.declared.schema.Schema.{Schema}
use Rattle.sql_lang.specs.Names.{is_named, kind_of}
use Rattle.sql_lang.specs.Meaning.{Bracket, Outside, Opened, Closing}

-- ---- patterns

-- An escape character at the end, or before another character than %, _ or itself; the flag says that an escape character
-- stands directly before.
unfoldable pub is_bad_escape : ℕ → Bool → List ℕ → Bool
is_bad_escape e escaped [] = escaped
is_bad_escape e true (c ∷ cs) = not (c == 37 || c == 95 || c == e) || is_bad_escape e false cs
is_bad_escape e false (c ∷ cs) = is_bad_escape e (c == e) cs

abbrev pub is_bad_like : ℕ → List ℕ → Bool
is_bad_like e pattern = is_bad_escape e false pattern

-- An ESCAPE that isn't one character stands at its own place, and else a bad pattern at the pattern's.
abbrev pub like_faults : List ℕ → Option (List ℕ) → At → At → List CodeAt
like_faults v None p q = []
like_faults v (Some []) p q = code_at 125 q ∷ []
like_faults v (Some (e ∷ [])) p q = code_at_if (is_bad_like e v) 125 p
like_faults v (Some (e ∷ f ∷ es)) p q = code_at 125 q ∷ []

-- a [ outside [*], [?] and [[]
unfoldable pub is_bad_bracket : Bracket → List ℕ → Bool
is_bad_bracket Outside [] = false
is_bad_bracket Outside (c ∷ cs) = if c == 91 then is_bad_bracket Opened cs else is_bad_bracket Outside cs
is_bad_bracket Opened [] = true
is_bad_bracket Opened (c ∷ cs) = not (c == 42 || c == 63 || c == 91) || is_bad_bracket (Closing c) cs
is_bad_bracket (Closing d) [] = true
is_bad_bracket (Closing d) (c ∷ cs) = not (c == 93) || is_bad_bracket Outside cs

abbrev pub is_bad_glob : List ℕ → Bool
is_bad_glob pattern = is_bad_bracket Outside pattern

-- ---- kinds: a name that is no column's is of no kind

abbrev pub is_whole : Option FieldKind → Bool
is_whole (Some kinds.Whole) = true
is_whole (Some kinds.Text) = false
is_whole (Some kinds.Address) = false
is_whole None = false

abbrev pub is_not_whole : Option FieldKind → Bool
is_not_whole (Some kinds.Whole) = false
is_not_whole (Some kinds.Text) = true
is_not_whole (Some kinds.Address) = true
is_not_whole None = false

abbrev pub is_unknown : Option FieldKind → Bool
is_unknown None = true
is_unknown (Some k) = false

abbrev pub is_said : Collate → Bool
is_said Unsaid = false
is_said NoCase = true
is_said Binary = true

abbrev pub is_order : Op → Bool
is_order Eq = false
is_order Ne = false
is_order op = true

abbrev pub is_text : Literal → Bool
is_text (a_text t) = true
is_text (a_number w) = false

module _ (fields : List Field) where
  abbrev pub whole : List ℕ → Bool
  whole n = is_whole (kind_of fields n)

  abbrev pub not_whole : List ℕ → Bool
  not_whole n = is_not_whole (kind_of fields n)

  abbrev pub unknown : List ℕ → Bool
  unknown n = is_unknown (kind_of fields n)

  -- a text against a whole column, a number against another one
  abbrev pub is_ill_literal : List ℕ → Literal → Bool
  is_ill_literal n (a_text t) = whole n
  is_ill_literal n (a_number w) = not_whole n

  -- what a side does not stand on the right of op for, against the column n: an order on a column that isn't whole,
  -- COLLATE on a whole column or on a number, two columns of which one is whole, and an ill literal
  abbrev pub is_ill_right : List ℕ → Op → Right → Collate → Bool
  is_ill_right n op (a_name m) d =
      is_said d && whole m || is_order op && not_whole m || whole n && not_whole m || not_whole n && whole m
  is_ill_right n op (a_literal l) d = is_said d && not (is_text l) || is_ill_literal n l

  -- COLLATE on a whole column
  abbrev pub is_ill_left : List ℕ → Collate → Bool
  is_ill_left n c = is_said c && whole n

  -- IS NULL, LIKE, GLOB and REGEXP stand on columns of every kind
  abbrev pub is_ill : Leaf → Bool
  is_ill (constant b) = false
  is_ill (is_null n b) = false
  is_ill (compares n c op x d) = is_ill_left n c || is_order op && not_whole n || is_ill_right n op x d
  is_ill (like n b v e) = false
  is_ill (glob n b v) = false
  is_ill (regexp n b v) = false
  is_ill (one_of n c b ls l) = is_ill_left n c || list_any (is_ill_literal n) (ls ++ l ∷ [])
  is_ill (between n c b low high) = is_ill_left n c || not_whole n

  abbrev pub right_faults : Right → At → List CodeAt
  right_faults (a_name m) p = code_at_if (unknown m) 122 p
  right_faults (a_literal l) p = []

  -- at the name that a test begins with: first the name, then the test
  abbrev pub name_faults : List ℕ → Bool → At → List CodeAt
  name_faults n ill p = code_at_if (unknown n) 122 p ++ code_at_if ill 123 p

-- ---- regular expressions

abbrev pub same_place : At → At → Bool
same_place p q = p.line == q.line && p.column == q.column

-- the list has this place with this code
abbrev pub is_refused : List CodeAt → ℕ → At → Bool
is_refused refused code p = list_any (λ (r : CodeAt). r.code == code && same_place r.place p) refused

-- 47 goes before 48
abbrev pub refused_at : List CodeAt → At → List CodeAt
refused_at refused p = code_at_if (is_refused refused 47 p) 47 p ++ code_at_if (is_refused refused 48 p) 48 p

-- ---- of tests and queries

module _ (fields : List Field) (refused : List CodeAt) where
  -- the faults of a test whose tokens stand at these places
  abbrev pub test_faults : Leaf → List At → List CodeAt
  test_faults (constant b) ps = []
  test_faults (is_null n b) ps = name_faults fields n (is_ill fields (is_null n b)) (nth ps 0)
  test_faults (compares n c op x d) ps =
      name_faults fields n (is_ill fields (compares n c op x d)) (nth ps 0) ++ right_faults fields x (nth ps (2 + length (spell_collate c)))
  test_faults (like n b v e) ps =
      name_faults fields n (is_ill fields (like n b v e)) (nth ps 0) ++ like_faults v e (nth ps (2 + length (spell_not b))) (nth ps (4 + length (spell_not b)))
  test_faults (glob n b v) ps =
      name_faults fields n (is_ill fields (glob n b v)) (nth ps 0) ++ code_at_if (is_bad_glob v) 125 (nth ps (2 + length (spell_not b)))
  test_faults (regexp n b v) ps =
      name_faults fields n (is_ill fields (regexp n b v)) (nth ps 0) ++ refused_at refused (nth ps (2 + length (spell_not b)))
  test_faults (one_of n c b ls l) ps = name_faults fields n (is_ill fields (one_of n c b ls l)) (nth ps 0)
  test_faults (between n c b low high) ps = name_faults fields n (is_ill fields (between n c b low high)) (nth ps 0)

  -- of a piece whose tokens stand at these places: its parts' faults, from the left
  abbrev mutual
    pub or_faults : Ors → List At → List CodeAt
    or_faults (last_and a) ps = and_faults a ps
    or_faults (and_or a o) ps = and_faults a ps ++ or_faults o (drop (suc (length (spell_and a))) ps)

    pub and_faults : Ands → List At → List CodeAt
    and_faults (last_not n) ps = not_faults n ps
    and_faults (not_and n a) ps = not_faults n ps ++ and_faults a (drop (suc (length (spell_nots n))) ps)

    pub not_faults : Nots → List At → List CodeAt
    not_faults (not_not n) ps = not_faults n (drop 1 ps)
    not_faults (a_test t) ps = test_faults t ps
    not_faults (enclosed o) ps = or_faults o (drop 1 ps)

-- of a query whose tokens stand at these places: by place, and at one place in the order of 122, 123, 125, 47, 48
abbrev pub query_faults : Schema → List CodeAt → Query → List At → List CodeAt
query_faults schema refused q ps =
    code_at_if (not (is_named q.table schema.table)) 122 (nth ps 3) ++ or_faults schema.fields refused q.condition (drop 5 ps)
