-- The expression of a query: columns by their places, no parentheses. Its depth.
use Rattle.std.specs.Prelude.{ℕ, ◌+◌, max, Bool, List, [], ◌∷◌, Option, Some, None, ℤ}
use Rattle.sql_lang.specs.Tokens.{Op, number_of}
use Rattle.sql_lang.specs.Grammar.{Collate, Unsaid, NoCase, Binary, Literal, a_text, a_number, Right, a_name, a_literal, Leaf, constant, is_null, compares, like, glob, regexp, one_of, between, Ors, last_and, and_or, Ands, last_not, not_and, Nots, not_not, a_test, enclosed}
use Rattle.event_schema.specs.declared.schema.Field.{Field}
use Rattle.sql_lang.specs.Names.{column_of}

pub data Operand : Type 0 where
  ColumnAt : ℕ → Operand
  Text : List ℕ → Operand
  Whole : ℤ → Operand

pub record Side : Type 0 where
  pub operand : Operand
  pub collate : Collate

-- The flag of IS NULL, LIKE, GLOB, REGEXP, IN and BETWEEN says that the test is written with NOT.
pub data SqlTest : Type 0 where
  Constant : Bool → SqlTest
  IsNull : (column : ℕ) → (negated : Bool) → SqlTest
  Compare : Side → Op → Side → SqlTest
  Like : (column : ℕ) → (negated : Bool) → (pattern : List ℕ) → (escape : Option ℕ) → SqlTest
  Glob : (column : ℕ) → (negated : Bool) → (pattern : List ℕ) → SqlTest
  Regexp : (column : ℕ) → (negated : Bool) → (pattern : List ℕ) → SqlTest
  OneOf : Side → (negated : Bool) → List Operand → SqlTest
  Between : Side → (negated : Bool) → (low : ℤ) → (high : ℤ) → SqlTest

mutual
  pub data Expr : Type 0 where
    Or : Exprs → Expr
    And : Exprs → Expr
    Not : Expr → Expr
    Test : SqlTest → Expr

  pub data Exprs : Type 0 where
    no_exprs : Exprs
    an_expr : Expr → Exprs → Exprs

-- ---- the expression of a query

abbrev pub or_zero : Option ℕ → ℕ
or_zero None = 0
or_zero (Some k) = k

-- an escape of another length than one character is refused
abbrev pub escape_of : Option (List ℕ) → Option ℕ
escape_of None = None
escape_of (Some []) = None
escape_of (Some (c ∷ [])) = Some c
escape_of (Some (c ∷ d ∷ cs)) = None

module _ (fields : List Field) where
  -- a name that is no column's is refused
  abbrev pub number_at : List ℕ → ℕ
  number_at name = or_zero (column_of fields name)

  abbrev pub literal_operand : Literal → Operand
  literal_operand (a_text t) = Text t
  literal_operand (a_number w) = Whole (number_of w)

  abbrev pub right_operand : Right → Operand
  right_operand (a_name n) = ColumnAt (number_at n)
  right_operand (a_literal l) = literal_operand l

  abbrev pub literal_operands : List Literal → Literal → List Operand
  literal_operands [] last = literal_operand last ∷ []
  literal_operands (l ∷ ls) last = literal_operand l ∷ literal_operands ls last

  abbrev pub named_side : List ℕ → Collate → Side
  named_side n c = record { operand = ColumnAt (number_at n); collate = c }

  abbrev pub test_of : Leaf → SqlTest
  test_of (constant b) = Constant b
  test_of (is_null n b) = IsNull (number_at n) b
  test_of (compares n c op x d) = Compare (named_side n c) op (record { operand = right_operand x; collate = d })
  test_of (like n b p e) = Like (number_at n) b p (escape_of e)
  test_of (glob n b p) = Glob (number_at n) b p
  test_of (regexp n b p) = Regexp (number_at n) b p
  test_of (one_of n c b before last) = OneOf (named_side n c) b (literal_operands before last)
  test_of (between n c b low high) = Between (named_side n c) b (number_of low) (number_of high)

  -- A chain of one word on one level is one list; a chain of one part is that part; parentheses make no node.
  abbrev mutual
    pub or_expr : Ors → Expr
    or_expr (last_and a) = and_expr a
    or_expr (and_or a o) = Or (an_expr (and_expr a) (or_exprs o))

    pub or_exprs : Ors → Exprs
    or_exprs (last_and a) = an_expr (and_expr a) no_exprs
    or_exprs (and_or a o) = an_expr (and_expr a) (or_exprs o)

    pub and_expr : Ands → Expr
    and_expr (last_not n) = not_expr n
    and_expr (not_and n a) = And (an_expr (not_expr n) (and_exprs a))

    pub and_exprs : Ands → Exprs
    and_exprs (last_not n) = an_expr (not_expr n) no_exprs
    and_exprs (not_and n a) = an_expr (not_expr n) (and_exprs a)

    pub not_expr : Nots → Expr
    not_expr (not_not n) = Not (not_expr n)
    not_expr (a_test t) = Test (test_of t)
    not_expr (enclosed o) = or_expr o

-- ---- depth

-- a name or a literal is 1 deep, and COLLATE adds 1
abbrev pub collated_depth : Collate → ℕ
collated_depth Unsaid = 1
collated_depth NoCase = 2
collated_depth Binary = 2

-- 0 and 1 are 1 deep, and every other test is 1 deeper than its deepest operand; a NOT inside a test adds nothing
abbrev pub test_depth : SqlTest → ℕ
test_depth (Constant b) = 1
test_depth (IsNull k b) = 2
test_depth (Compare x op y) = 1 + max (collated_depth x.collate) (collated_depth y.collate)
test_depth (Like k b p e) = 2
test_depth (Glob k b p) = 2
test_depth (Regexp k b p) = 2
test_depth (OneOf x b ys) = 1 + collated_depth x.collate
test_depth (Between x b low high) = 1 + collated_depth x.collate

-- x OR y and x AND y are 1 deeper than the deeper side, chains are read from the left, and NOT adds 1
abbrev mutual
  pub depth : Expr → ℕ
  depth (Or es) = first_depth es
  depth (And es) = first_depth es
  depth (Not e) = 1 + depth e
  depth (Test t) = test_depth t

  pub first_depth : Exprs → ℕ
  first_depth no_exprs = 0
  first_depth (an_expr e es) = chain_depth es (depth e)

  -- of a chain of which what stands before these parts is so deep
  pub chain_depth : Exprs → ℕ → ℕ
  chain_depth no_exprs d = d
  chain_depth (an_expr e es) d = chain_depth es (1 + max d (depth e))
