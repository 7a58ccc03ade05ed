-- Texts with their verdicts, and expressions with their values, reckoned by hand: each shows what the definitions say.
use Rattle.std.proofs.Common.{ℕ, ◌≡◌, refl, true, false, List, [], ◌∷◌, ◌++◌, codes, subst, map}
use Rattle.std.specs.Prelude.{Option, Some, None, Result, Ok, Err, pos, negsuc}
use Rattle.event_schema.specs.declared.schema.Field.{Field}
use Rattle.event_schema.specs.declared.schema.FieldKind.{FieldKind}
use Rattle.event_schema.specs.declared.schema.FieldKind.TheVariants as kinds
use Rattle.event_schema.specs.declared.schema.Schema.{Schema}
use Rattle.event_schema.specs.declared.value.Value.{Value}
use Rattle.event_schema.specs.declared.value.Value.TheVariants as values
use Rattle.sql_lang.specs.Tokens.{Eq, Ne, Lt, Gte, scan, tokens, is_number, run_sort, text_sort}
use Rattle.sql_lang.specs.Grammar.{Collate, Unsaid, NoCase, Binary}
use Rattle.sql_lang.specs.Expression.{Operand, Side, ColumnAt, Text, Whole, Constant, Compare, Like, Glob, Regexp, OneOf, Between, Expr, Or, And, Not, Test, Exprs, no_exprs, an_expr}
use Rattle.query_tokens.specs.Places.{CodeAt}
use Rattle.sql_lang.specs.Faults.{is_bad_escape, is_bad_bracket}
use Rattle.sql_lang.specs.Reading.{opens_too_far, nots_too_many}
use Rattle.sql_lang.specs.Meaning.{Truth, Yes, No, Unknown, sql_value, like_from, glob_from, fits_parts}
use Rattle.sql_lang.specs.ColumnTests.{column_side, value_test, no_value_test, text_test, number_test, column_test, like_test, glob_test}
use Rattle.sql_lang.specs.Machine.{step, go_on}
use Rattle.sql_lang.specs.Verdict.{verdict, IsVerdict}
use Rattle.sql_lang.proofs.Judged.{verdict_is}

abbrev pub field : List ℕ → FieldKind → Field
field name kind = record { name = name; kind = kind; at = name ∷ []; search = false; cased = false; many = false }

abbrev pub schema : Schema
schema = record {
  table = codes "events";
  fields = field (codes "Image") kinds.Text ∷ field (codes "n") kinds.Whole ∷ field (codes "ip") kinds.Address ∷ [];
  time = None;
}

abbrev pub refused : ℕ → ℕ → ℕ → Result Expr CodeAt
refused code line column = Err (record { code = code; place = record { line = line; column = column } })

abbrev pub Cases : Type 0
Cases = List (List ℕ × Result Expr CodeAt)

-- behind WHERE, so from column 30 on
abbrev pub where_text : List ℕ → List ℕ
where_text text = codes "SELECT * FROM \"events\" WHERE " ++ text

-- ---- whole texts

abbrev texts : Cases
texts =
    (codes "", refused 120 1 1)
    ∷ (codes "SELECT FROM \"events\"", refused 120 1 8)
    ∷ (codes "SELECT * FROM events", refused 121 1 15)
    ∷ (codes "SELECT * FROM \"events\" WHERE ", refused 120 1 30)
    ∷ (codes "SELECT * FROM \"events\" WHERE", refused 120 1 29)
    ∷ (codes "SELECT\n*\nFROM \"events\"\nWHERE\n 7", refused 120 5 2)
    ∷ (codes "SELECT * FROM \"other\" WHERE \"zz\" IS NULL", refused 122 1 15)
    ∷ (codes "! SELECT", refused 121 1 1)
    ∷ (codes "select\t*\rfrom \"EVENTS\" Where \"IMAGE\" is Null ; ", Ok (no_value_test 0))
    ∷ (codes "SELECT \"", refused 120 1 8)
    ∷ (codes "SELECT\n", refused 120 2 1)
    ∷ (codes "SELECT\r\n\t", refused 120 2 2)
    ∷ (codes "REGEXP * FROM \"events\" WHERE 0", refused 120 1 1)
    ∷ (codes "SELECT * REGEXP \"events\" WHERE 0", refused 120 1 10)
    ∷ (codes "SELECT * FROM \"events\" REGEXP 0", refused 120 1 24)
    ∷ []

-- ---- texts behind WHERE

abbrev token_cases : Cases
token_cases =
    (codes "name = 'x'", refused 121 1 30)
    ∷ (codes "\"Image\" = " ++ 39 ∷ 0 ∷ 39 ∷ [], refused 121 1 40)
    ∷ (codes "\"n\" = 9223372036854775808", refused 121 1 36)
    ∷ (codes "\"n\" = -9223372036854775808", refused 121 1 36)
    ∷ (codes "\"n\" = -", refused 121 1 36)
    ∷ (codes "\"n\" = 1a", refused 121 1 36)
    ∷ (codes ") AND name", refused 121 1 36)
    ∷ []

abbrev stop_cases : Cases
stop_cases =
    (codes "\"Image", refused 120 1 30)
    ∷ (codes "\"Image\" = 'abc''", refused 120 1 40)
    ∷ (codes "7", refused 120 1 30)
    ∷ (codes "00", refused 120 1 30)
    ∷ (codes "'x' = \"Image\"", refused 120 1 30)
    ∷ (codes "\"Image\" = 'x' 'y'", refused 120 1 44)
    ∷ (codes "(0", refused 120 1 32)
    ∷ (codes "0)", refused 120 1 31)
    ∷ (codes "\"n\" BETWEEN 1 OR 2", refused 120 1 44)
    ∷ (codes "\"n\" = 5-3", refused 120 1 37)
    ∷ (codes "\"Image\" IN ()", refused 120 1 42)
    ∷ (codes "\"Image\" COLLATE NOCASE LIKE 'a'", refused 120 1 53)
    ∷ (codes "0;;", refused 120 1 32)
    ∷ []

abbrev fault_cases : Cases
fault_cases =
    (codes "\"zz\" IS NULL", refused 122 1 30)
    ∷ (codes "\"\" IS NULL", refused 122 1 30)
    ∷ (codes "\"Image\" = \"zz\"", refused 122 1 40)
    ∷ (codes "\"n\" = 'x'", refused 123 1 30)
    ∷ (codes "\"Image\" = 5", refused 123 1 30)
    ∷ (codes "\"ip\" = 5", refused 123 1 30)
    ∷ (codes "\"Image\" < 'x'", refused 123 1 30)
    ∷ (codes "\"Image\" BETWEEN 1 AND 2", refused 123 1 30)
    ∷ (codes "\"n\" COLLATE NOCASE = 5", refused 123 1 30)
    ∷ (codes "\"n\" = 5 COLLATE BINARY", refused 123 1 30)
    ∷ (codes "\"n\" = \"Image\"", refused 123 1 30)
    ∷ (codes "\"n\" IN (1, 'x')", refused 123 1 30)
    ∷ (codes "0 OR \"n\" = 'x'", refused 123 1 35)
    ∷ (codes "NOT (\"n\" = 'x' AND \"zz\" IS NULL)", refused 123 1 35)
    ∷ (codes "\"Image\" LIKE 'a!' ESCAPE '!'", refused 125 1 43)
    ∷ (codes "\"Image\" LIKE 'a!b' ESCAPE '!'", refused 125 1 43)
    ∷ (codes "\"Image\" NOT LIKE 'a!' ESCAPE 'ab'", refused 125 1 59)
    ∷ (codes "\"Image\" LIKE 'a' ESCAPE ''", refused 125 1 54)
    ∷ (codes "\"Image\" GLOB '[a]'", refused 125 1 43)
    ∷ (codes "\"zz\" GLOB '['", refused 122 1 30)
    ∷ []

abbrev pub side : Collate → Operand → Side
side c x = record { operand = x; collate = c }

abbrev query_cases : Cases
query_cases =
    (codes "0", Ok (Test (Constant false)))
    ∷ (codes "\"Image\" = 'O''Brien' COLLATE NOCASE", Ok (text_test 0 (codes "O'Brien") NoCase))
    ∷ (codes "\"n\" >= -9223372036854775807", Ok (number_test 1 Gte (negsuc 9223372036854775806)))
    ∷ (codes "\"n\"<>007", Ok (number_test 1 Ne (pos 7)))
    ∷ (codes "\"ip\" == \"image\" COLLATE NOCASE", Ok (column_test 2 0 NoCase))
    ∷ (codes "\"ip\" LIKE 'a!%' ESCAPE '!'", Ok (Test (Like 2 false (codes "a!%") (Some 33))))
    ∷ (codes "\"n\" NOT GLOB '[*]?'", Ok (Test (Glob 1 true (codes "[*]?"))))
    ∷ (codes "\"Image\" REGEXP 'a'", Ok (Test (Regexp 0 false (codes "a"))))
    ∷ (codes "\"n\" not regexp '^5'", Ok (Test (Regexp 1 true (codes "^5"))))
    ∷ (
      codes "0 OR 1 AND NOT \"n\" < 5",
      Ok (Or (an_expr (Test (Constant false)) (an_expr (And (an_expr (Test (Constant true)) (an_expr (Not (number_test 1 Lt (pos 5))) no_exprs))) no_exprs))),
    )
    ∷ (
      codes "(0 OR 1) OR \"n\" IS NOT NULL;",
      Ok (Or (an_expr (Or (an_expr (Test (Constant false)) (an_expr (Test (Constant true)) no_exprs))) (an_expr (value_test 1) no_exprs))),
    )
    ∷ (
      codes "\"n\" NOT BETWEEN -1 AND 2 AND 1",
      Ok (And (an_expr (Test (Between (column_side 1) true (negsuc 0) (pos 2))) (an_expr (Test (Constant true)) no_exprs))),
    )
    ∷ (
      codes "\"Image\" COLLATE BINARY NOT IN ('a' , 'b')",
      Ok (Test (OneOf (side Binary (ColumnAt 0)) true (Text (codes "a") ∷ Text (codes "b") ∷ []))),
    )
    ∷ []

-- under a limit of 2
abbrev depth_cases : Cases
depth_cases =
    (codes "((0))", Ok (Test (Constant false)))
    ∷ (codes "(((0)))", refused 124 1 1)
    ∷ (codes "(((", refused 124 1 1)
    ∷ (codes "NOT NOT NOT 0", refused 124 1 1)
    ∷ (codes "0 0 NOT NOT NOT", refused 124 1 1)
    ∷ (codes "0 OR 0", Ok (Or (an_expr (Test (Constant false)) (an_expr (Test (Constant false)) no_exprs))))
    ∷ (codes "0 OR 0 OR \"zz\" IS NULL", refused 124 1 1)
    ∷ (codes "\"Image\" = 'x' COLLATE NOCASE", refused 124 1 1)
    ∷ (codes "\"Image\" NOT LIKE 'x'", Ok (Test (Like 0 true (codes "x") None)))
    ∷ (codes "(0) (0) (0)", refused 120 1 34)
    ∷ (codes "(0) (((0", refused 124 1 1)
    ∷ (codes ")) ((((", refused 120 1 30)
    ∷ (codes ")) (((((", refused 124 1 1)
    ∷ (codes "NOT NOT 7", refused 120 1 38)
    ∷ (codes "0 NOT NOT 0 NOT NOT", refused 120 1 32)
    ∷ []

-- where these places are refused for their regular expressions
abbrev pub computed_under : List CodeAt → ℕ → (List ℕ → List ℕ) → Cases → List (Result Expr CodeAt)
computed_under places limit text cases = map (λ c. verdict limit schema places (text c.0)) cases

abbrev pub computed : ℕ → (List ℕ → List ℕ) → Cases → List (Result Expr CodeAt)
computed = computed_under []

abbrev pub told : Cases → List (Result Expr CodeAt)
told cases = map (λ c. c.1) cases

texts_verdicts : computed 1000 (λ text. text) texts ≡ told texts
unfolding verdict tokens scan is_number run_sort text_sort step go_on is_bad_escape is_bad_bracket opens_too_far nots_too_many
texts_verdicts = refl

where_verdicts : computed 1000 where_text (token_cases ++ (stop_cases ++ (fault_cases ++ query_cases))) ≡ told (token_cases ++ (stop_cases ++ (fault_cases ++ query_cases)))
unfolding verdict tokens scan is_number run_sort text_sort step go_on is_bad_escape is_bad_bracket opens_too_far nots_too_many
where_verdicts = refl

depth_verdicts : computed 2 where_text depth_cases ≡ told depth_cases
unfolding verdict tokens scan is_number run_sort text_sort step go_on is_bad_escape is_bad_bracket opens_too_far nots_too_many
depth_verdicts = refl

abbrev pub AreVerdictsUnder : List CodeAt → ℕ → (List ℕ → List ℕ) → Cases → Type 0
AreVerdictsUnder places limit text [] = Unit {0}
AreVerdictsUnder places limit text (c ∷ cases) = IsVerdict limit schema places (text c.0) c.1 × AreVerdictsUnder places limit text cases

abbrev pub AreVerdicts : ℕ → (List ℕ → List ℕ) → Cases → Type 0
AreVerdicts = AreVerdictsUnder []

-- what is computed is so by the definitions
pub are_so_under : (places : List CodeAt) (limit : ℕ) (text : List ℕ → List ℕ) (cases : Cases) → computed_under places limit text cases ≡ told cases
    → AreVerdictsUnder places limit text cases
are_so_under places limit text [] same = tt
are_so_under places limit text (c ∷ cases) same =
    let here : verdict limit schema places (text c.0) ≡ c.1 = cc in
    let more : computed_under places limit text cases ≡ told cases = cc in
    (subst (IsVerdict limit schema places (text c.0)) here (verdict_is limit schema places (text c.0)), are_so_under places limit text cases more)

pub are_so : (limit : ℕ) (text : List ℕ → List ℕ) (cases : Cases) → computed limit text cases ≡ told cases → AreVerdicts limit text cases
are_so = are_so_under []

pub example_texts : AreVerdicts 1000 (λ text. text) texts
example_texts = are_so 1000 (λ text. text) texts texts_verdicts

pub example_conditions : AreVerdicts 1000 where_text (token_cases ++ (stop_cases ++ (fault_cases ++ query_cases)))
example_conditions = are_so 1000 where_text (token_cases ++ (stop_cases ++ (fault_cases ++ query_cases))) where_verdicts

pub example_depths : AreVerdicts 2 where_text depth_cases
example_depths = are_so 2 where_text depth_cases depth_verdicts

-- ---- values

-- Image is CMD.exe, n is 5, and ip has no value
abbrev pub row : List (Option Value)
row = Some (values.Text (codes "CMD.exe")) ∷ Some (values.Whole (pos 5)) ∷ None ∷ []

abbrev pub pair : Expr → Expr → Exprs
pair e f = an_expr e (an_expr f no_exprs)

abbrev pub unknown : Expr
unknown = text_test 2 (codes "x") Unsaid

abbrev like_value : List ℕ → List ℕ → Truth
like_value pattern text = sql_value (like_test 0 pattern) (Some (values.Text text) ∷ [])

abbrev glob_value : List ℕ → List ℕ → Truth
glob_value pattern text = sql_value (glob_test 0 pattern) (Some (values.Text text) ∷ [])

abbrev value_cases : List (Truth × Truth)
value_cases =
    (sql_value (text_test 0 (codes "cmd.EXE") NoCase) row, Yes)
    ∷ (sql_value (text_test 0 (codes "cmd.EXE") Unsaid) row, No)
    ∷ (sql_value (text_test 0 (codes "CMD.exe") Binary) row, Yes)
    ∷ (sql_value (Test (Compare (side Binary (ColumnAt 0)) Eq (side NoCase (Text (codes "cmd.exe"))))) row, No)
    ∷ (sql_value unknown row, Unknown)
    ∷ (sql_value (Not unknown) row, Unknown)
    ∷ (sql_value (no_value_test 2) row, Yes)
    ∷ (sql_value (value_test 2) row, No)
    ∷ (sql_value (value_test 1) row, Yes)
    ∷ (sql_value (number_test 1 Gte (pos 5)) row, Yes)
    ∷ (sql_value (number_test 1 Lt (negsuc 0)) row, No)
    ∷ (sql_value (number_test 1 Ne (pos 5)) row, No)
    ∷ (sql_value (column_test 0 2 NoCase) row, Unknown)
    ∷ (sql_value (And (pair unknown (Test (Constant false)))) row, No)
    ∷ (sql_value (And (pair unknown (Test (Constant true)))) row, Unknown)
    ∷ (sql_value (Or (pair unknown (Test (Constant true)))) row, Yes)
    ∷ (sql_value (Or (pair (Test (Constant false)) unknown)) row, Unknown)
    ∷ (sql_value (Test (OneOf (side NoCase (ColumnAt 0)) false (Text (codes "a") ∷ Text (codes "cmd.exe") ∷ []))) row, Yes)
    ∷ (sql_value (Test (OneOf (column_side 1) true (Whole (pos 4) ∷ Whole (pos 6) ∷ []))) row, Yes)
    ∷ (sql_value (Test (OneOf (column_side 2) true (Text (codes "a") ∷ []))) row, Unknown)
    ∷ (sql_value (Test (Between (column_side 1) false (pos 5) (pos 7))) row, Yes)
    ∷ (sql_value (Test (Between (column_side 1) true (pos 6) (pos 7))) row, Yes)
    ∷ (sql_value (Test (Like 2 true (codes "%") None)) row, Unknown)
    ∷ (like_value (codes "%\\%\\_x%") (codes "a%_Xb"), Yes)
    ∷ (like_value (codes "%\\%\\_x%") (codes "a%yx"), No)
    ∷ (like_value (codes "_") (233 ∷ []), Yes)
    ∷ (like_value (codes "_") [], No)
    ∷ (like_value (201 ∷ []) (233 ∷ []), No)
    ∷ (like_value (codes "a%b%c") (codes "AxxBByC"), Yes)
    ∷ (like_value (codes "a%b%c") (codes "acb"), No)
    ∷ (glob_value (codes "CMD*") (codes "cmd.exe"), No)
    ∷ (glob_value (codes "*[*]?") (codes "a*b"), Yes)
    ∷ (glob_value (codes "*[*]?") (codes "a*"), No)
    ∷ (glob_value (codes "[[]%") (codes "[%"), Yes)
    ∷ []

example_values : map (λ c. c.0) value_cases ≡ map (λ c. c.1) value_cases
unfolding like_from glob_from fits_parts
example_values = refl
