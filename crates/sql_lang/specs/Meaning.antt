-- What an expression says of a row: yes, no or unknown, as SQLite's pages on expressions and on NULL have it.
use Rattle.std.specs.Prelude.{ℕ, zero, suc, ◌≡◌, Bool, true, false, not, ◌||◌, ◌&&◌, ◌==◌, if◌then◌else◌, List, [], ◌∷◌, map, Option, None, Some, ℤ, int_lt, int_le}
use Rattle.std.specs.Fmt.{signed_decimal}
use Rattle.std.specs.Str.{bytes_eq}
use Rattle.sig_base.specs.Folding.{fold, folded}
use Rattle.query_lang.specs.Patterns.{finds}
use Rattle.event_schema.specs.declared.value.Value.{Value}
use Rattle.event_schema.specs.declared.value.Value.TheVariants as values
use Rattle.sql_lang.specs.Tokens.{Op, Eq, Ne, Lt, Lte, Gt, Gte}
use Rattle.sql_lang.specs.Grammar.{Collate, Unsaid, NoCase, Binary}
use Rattle.sql_lang.specs.Expression.{Operand, Side, SqlTest, Constant, IsNull, Compare, Like, Glob, Regexp, OneOf, Between, Expr, Or, And, Not, Test, Exprs, no_exprs, an_expr}
use Rattle.sql_lang.specs.Expression as expression

-- the value of column k in a row, which has one value or none for each column, in their order
abbrev pub value_at : List (Option Value) → ℕ → Option Value
value_at [] k = None
value_at (v ∷ vs) zero = v
value_at (v ∷ vs) (suc k) = value_at vs k

-- a text, or a number's decimal
abbrev pub text_of : Value → List ℕ
text_of (values.Text t) = t
text_of (values.Whole z) = signed_decimal z

-- ---- three values

pub data Truth : Type 0 where
  Yes : Truth
  No : Truth
  Unknown : Truth

abbrev pub truth : Bool → Truth
truth true = Yes
truth false = No

abbrev pub negation : Truth → Truth
negation Yes = No
negation No = Yes
negation Unknown = Unknown

-- AND: no if a side is no, else unknown if a side is unknown
abbrev pub both : Truth → Truth → Truth
both No b = No
both Yes b = b
both Unknown No = No
both Unknown Yes = Unknown
both Unknown Unknown = Unknown

-- OR: yes if a side is yes, else unknown if a side is unknown
abbrev pub either : Truth → Truth → Truth
either Yes b = Yes
either No b = b
either Unknown Yes = Yes
either Unknown No = Unknown
either Unknown Unknown = Unknown

abbrev pub negated_if : Bool → Truth → Truth
negated_if true v = negation v
negated_if false v = v

-- ---- the patterns of LIKE and GLOB

-- any run of characters, any one character, and a character itself
pub data Part : Type 0 where
  AnyRun : Part
  AnyOne : Part
  Exactly : ℕ → Part

abbrev pub is_escape : Option ℕ → ℕ → Bool
is_escape None c = false
is_escape (Some e) c = c == e

-- % and _
abbrev pub like_part : ℕ → Part
like_part c = if c == 37 then AnyRun else if c == 95 then AnyOne else Exactly c

-- The character behind an escape character is itself; the flag says that an escape character stands directly before.
unfoldable pub like_from : Option ℕ → Bool → List ℕ → List Part
like_from e escaped [] = []
like_from e true (c ∷ cs) = Exactly c ∷ like_from e false cs
like_from e false (c ∷ cs) = if is_escape e c then like_from e true cs else like_part c ∷ like_from e false cs

abbrev pub like_parts : Option ℕ → List ℕ → List Part
like_parts e pattern = like_from e false pattern

-- * and ?
abbrev pub glob_part : ℕ → Part
glob_part c = if c == 42 then AnyRun else if c == 63 then AnyOne else Exactly c

-- outside brackets, behind [, and before the ] of a character
pub data Bracket : Type 0 where
  Outside : Bracket
  Opened : Bracket
  Closing : ℕ → Bracket

-- a character in brackets is itself
unfoldable pub glob_from : Bracket → List ℕ → List Part
glob_from place [] = []
glob_from Outside (c ∷ cs) = if c == 91 then glob_from Opened cs else glob_part c ∷ glob_from Outside cs
glob_from Opened (c ∷ cs) = glob_from (Closing c) cs
glob_from (Closing d) (c ∷ cs) = Exactly d ∷ glob_from Outside cs

abbrev pub glob_parts : List ℕ → List Part
glob_parts pattern = glob_from Outside pattern

-- the text, or what is left of it behind some of its characters, is so
abbrev pub some_end : (List ℕ → Bool) → List ℕ → Bool
some_end fits [] = fits []
some_end fits (c ∷ cs) = fits (c ∷ cs) || some_end fits cs

-- the first character is so, and what is left is so
abbrev pub behind_one : (ℕ → Bool) → (List ℕ → Bool) → List ℕ → Bool
behind_one is_so fits [] = false
behind_one is_so fits (c ∷ cs) = is_so c && fits cs

abbrev pub is_nothing : List ℕ → Bool
is_nothing [] = true
is_nothing (c ∷ cs) = false

-- the whole text fits the parts in their order; `same` tells which characters are taken for equal
unfoldable pub fits_parts : (ℕ → ℕ → Bool) → List Part → List ℕ → Bool
fits_parts same [] = is_nothing
fits_parts same (AnyRun ∷ ps) = some_end (fits_parts same ps)
fits_parts same (AnyOne ∷ ps) = behind_one (λ c. true) (fits_parts same ps)
fits_parts same (Exactly d ∷ ps) = behind_one (same d) (fits_parts same ps)

abbrev pub same_folded : ℕ → ℕ → Bool
same_folded c d = fold c == fold d

-- LIKE folds, GLOB doesn't
abbrev pub like_fits : List ℕ → Option ℕ → List ℕ → Bool
like_fits pattern escape text = fits_parts same_folded (like_parts escape pattern) text

abbrev pub glob_fits : List ℕ → List ℕ → Bool
glob_fits pattern text = fits_parts (λ c d. c == d) (glob_parts pattern) text

-- ---- comparisons

-- the left side's COLLATE goes before the right's
abbrev pub chosen : Collate → Collate → Collate
chosen Unsaid right = right
chosen NoCase right = NoCase
chosen Binary right = Binary

-- as they are, and with NOCASE after folding
abbrev pub texts_equal : Collate → List ℕ → List ℕ → Bool
texts_equal NoCase a b = bytes_eq (folded a) (folded b)
texts_equal Unsaid a b = bytes_eq a b
texts_equal Binary a b = bytes_eq a b

abbrev pub int_eq : ℤ → ℤ → Bool
int_eq a b = int_le a b && int_le b a

abbrev pub wholes_are : Op → ℤ → ℤ → Bool
wholes_are Eq a b = int_eq a b
wholes_are Ne a b = not (int_eq a b)
wholes_are Lt a b = int_lt a b
wholes_are Lte a b = int_le a b
wholes_are Gt a b = int_lt b a
wholes_are Gte a b = int_le b a

-- only = and <> compare texts in a query, and none compares a text with a number: the other cases say no
abbrev pub texts_are : Collate → Op → List ℕ → List ℕ → Bool
texts_are c Eq a b = texts_equal c a b
texts_are c Ne a b = not (texts_equal c a b)
texts_are c op a b = false

abbrev pub values_are : Collate → Op → Value → Value → Bool
values_are c op (values.Text a) (values.Text b) = texts_are c op a b
values_are c op (values.Whole a) (values.Whole b) = wholes_are op a b
values_are c op (values.Text a) (values.Whole b) = false
values_are c op (values.Whole a) (values.Text b) = false

-- unknown where a side has no value
abbrev pub compared : Collate → Op → Option Value → Option Value → Truth
compared c op None b = Unknown
compared c op (Some a) None = Unknown
compared c op (Some a) (Some b) = truth (values_are c op a b)

-- the OR of the equalities
abbrev pub among : Collate → Option Value → List (Option Value) → Truth
among c v [] = No
among c v (w ∷ ws) = either (compared c Eq v w) (among c v ws)

-- the AND of >= and <=
abbrev pub within : Collate → Option Value → ℤ → ℤ → Truth
within c v low high = both (compared c Gte v (Some (values.Whole low))) (compared c Lte v (Some (values.Whole high)))

-- ---- tests and expressions

-- of the value's text, unknown where there is none
abbrev pub on_text : (List ℕ → Bool) → Option Value → Truth
on_text is_so None = Unknown
on_text is_so (Some v) = truth (is_so (text_of v))

abbrev pub is_absent : Option Value → Bool
is_absent None = true
is_absent (Some v) = false

abbrev pub operand_value : List (Option Value) → Operand → Option Value
operand_value row (expression.ColumnAt k) = value_at row k
operand_value row (expression.Text t) = Some (values.Text t)
operand_value row (expression.Whole z) = Some (values.Whole z)

abbrev pub test_value : SqlTest → List (Option Value) → Truth
test_value (Constant b) row = truth b
test_value (IsNull k b) row = negated_if b (truth (is_absent (value_at row k)))
test_value (Compare x op y) row =
    compared (chosen x.collate y.collate) op (operand_value row x.operand) (operand_value row y.operand)
test_value (Like k b pattern escape) row = negated_if b (on_text (like_fits pattern escape) (value_at row k))
test_value (Glob k b pattern) row = negated_if b (on_text (glob_fits pattern) (value_at row k))
test_value (Regexp k b pattern) row = negated_if b (on_text (finds pattern) (value_at row k))
test_value (OneOf x b ys) row = negated_if b (among x.collate (operand_value row x.operand) (map (operand_value row) ys))
test_value (Between x b low high) row = negated_if b (within x.collate (operand_value row x.operand) low high)

abbrev mutual
  pub sql_value : Expr → List (Option Value) → Truth
  sql_value (Or es) row = any_value es row
  sql_value (And es) row = all_value es row
  sql_value (Not e) row = negation (sql_value e row)
  sql_value (Test t) row = test_value t row

  pub any_value : Exprs → List (Option Value) → Truth
  any_value no_exprs row = No
  any_value (an_expr e es) row = either (sql_value e row) (any_value es row)

  pub all_value : Exprs → List (Option Value) → Truth
  all_value no_exprs row = Yes
  all_value (an_expr e es) row = both (sql_value e row) (all_value es row)

-- a row is selected where the expression's value is yes
abbrev pub SqlSelects : Expr → List (Option Value) → Type 0
SqlSelects e row = sql_value e row ≡ Yes
