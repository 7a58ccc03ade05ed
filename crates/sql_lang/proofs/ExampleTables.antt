-- Tables of texts with their verdicts, and of expressions with their depths and values, reckoned by hand from SQLite's pages on
-- expressions: a row for each line of the definitions.
use Rattle.std.proofs.Common.{ℕ, ◌≡◌, refl, true, false, List, [], ◌∷◌, ◌++◌, codes, map}
use Rattle.std.specs.Prelude.{Some, None, Ok, pos, negsuc}
use Rattle.event_schema.specs.declared.value.Value.TheVariants as values
use Rattle.sql_lang.specs.Tokens.{Eq, Ne, Lt, Lte, Gt, Gte, scan, tokens, is_number, run_sort, text_sort}
use Rattle.sql_lang.specs.Grammar.{Unsaid, NoCase, Binary}
use Rattle.sql_lang.specs.Expression.{ColumnAt, Text, Whole, Constant, IsNull, Compare, Like, Glob, OneOf, Between, Or, And, Not, Test, no_exprs, an_expr, depth}
use Rattle.sql_lang.specs.Faults.{is_bad_escape, is_bad_bracket}
use Rattle.sql_lang.specs.Reading.{opens_too_far, nots_too_many}
use Rattle.sql_lang.specs.Meaning.{Truth, Yes, No, Unknown, sql_value, like_from, glob_from, fits_parts}
use Rattle.sql_lang.specs.ColumnTests.{column_side, value_test, no_value_test, text_test, number_test, column_test, like_test, glob_test}
use Rattle.sql_lang.specs.Machine.{step, go_on}
use Rattle.sql_lang.specs.Verdict.{verdict}
use Rattle.std.specs.Fmt.{digits}
use Rattle.sql_lang.proofs.Examples.{refused, Cases, where_text, side, computed, told, AreVerdicts, are_so, row, pair, unknown}

-- texts behind WHERE that are queries: each sign, word, collation, kind of number, and the levels of the grammar
abbrev read_cases : Cases
read_cases =
    (codes "\"n\" = 5", Ok (number_test 1 Eq (pos 5)))
    ∷ (codes "\"n\" == 5", Ok (number_test 1 Eq (pos 5)))
    ∷ (codes "\"n\" <> 5", Ok (number_test 1 Ne (pos 5)))
    ∷ (codes "\"n\" != 5", Ok (number_test 1 Ne (pos 5)))
    ∷ (codes "\"n\" < 5", Ok (number_test 1 Lt (pos 5)))
    ∷ (codes "\"n\" <= 5", Ok (number_test 1 Lte (pos 5)))
    ∷ (codes "\"n\" > 5", Ok (number_test 1 Gt (pos 5)))
    ∷ (codes "\"n\" >= 5", Ok (number_test 1 Gte (pos 5)))
    ∷ (codes "\"N\"=-0", Ok (number_test 1 Eq (pos 0)))
    ∷ (codes "\"n\"=-12", Ok (number_test 1 Eq (negsuc 11)))
    ∷ (codes "\"n\" = 9223372036854775807", Ok (number_test 1 Eq (pos 9223372036854775807)))
    ∷ (codes "\u{c}0\r\n\t;\u{c}", Ok (Test (Constant false)))
    ∷ (codes "1", Ok (Test (Constant true)))
    ∷ (codes "\"Image\" COLLATE binary = 'a' collate Nocase", Ok (Test (Compare (side Binary (ColumnAt 0)) Eq (side NoCase (Text (codes "a"))))))
    ∷ (codes "\"Image\" collate nocase <> \"ip\" COLLATE BINARY", Ok (Test (Compare (side NoCase (ColumnAt 0)) Ne (side Binary (ColumnAt 2)))))
    ∷ (codes "\"n\" < \"N\"", Ok (Test (Compare (side Unsaid (ColumnAt 1)) Lt (side Unsaid (ColumnAt 1)))))
    ∷ (codes "\"image\" is not null", Ok (value_test 0))
    ∷ (codes "\"ip\" IS NULL", Ok (no_value_test 2))
    ∷ (codes "\"Image\" LIKE 'a\\'", Ok (Test (Like 0 false (codes "a\\") None)))
    ∷ (codes "\"Image\" LIKE '%%%_' ESCAPE '%'", Ok (Test (Like 0 false (codes "%%%_") (Some 37))))
    ∷ (codes "\"n\" like 'a__' escape '_'", Ok (Test (Like 1 false (codes "a__") (Some 95))))
    ∷ (codes "\"n\" glob ']a[?][[][*]'", Ok (Test (Glob 1 false (codes "]a[?][[][*]"))))
    ∷ (codes "\"n\" IN (1)", Ok (Test (OneOf (column_side 1) false (Whole (pos 1) ∷ []))))
    ∷ (codes "\"Image\" in('a','','b')", Ok (Test (OneOf (column_side 0) false (Text (codes "a") ∷ Text (codes "") ∷ Text (codes "b") ∷ []))))
    ∷ (codes "\"n\" between -2 and 3", Ok (Test (Between (column_side 1) false (negsuc 1) (pos 3))))
    ∷ (codes "NOT NOT 0", Ok (Not (Not (Test (Constant false)))))
    ∷ (codes "not (0 and 1)", Ok (Not (And (an_expr (Test (Constant false)) (an_expr (Test (Constant true)) no_exprs)))))
    ∷ (codes "0 AND 1 OR 0", Ok (Or (an_expr (And (an_expr (Test (Constant false)) (an_expr (Test (Constant true)) no_exprs))) (an_expr (Test (Constant false)) no_exprs))))
    ∷ (codes "0 AND (1 OR 0)", Ok (And (an_expr (Test (Constant false)) (an_expr (Or (an_expr (Test (Constant true)) (an_expr (Test (Constant false)) no_exprs))) no_exprs))))
    ∷ (codes "NOT 0 AND 1", Ok (And (an_expr (Not (Test (Constant false))) (an_expr (Test (Constant true)) no_exprs))))
    ∷ (codes "\"n\" NOT BETWEEN 1 AND 2 OR 0", Ok (Or (an_expr (Test (Between (column_side 1) true (pos 1) (pos 2))) (an_expr (Test (Constant false)) no_exprs))))
    ∷ (codes "\"Image\" = ''''", Ok (text_test 0 (codes "'") Unsaid))
    ∷ (codes "\"Image\" = " ++ 39 ∷ 1 ∷ 39 ∷ [], Ok (text_test 0 (1 ∷ []) Unsaid))
    ∷ (codes "0 OR 1 OR \"n\" = 5", Ok (Or (an_expr (Test (Constant false)) (an_expr (Test (Constant true)) (an_expr (number_test 1 Eq (pos 5)) no_exprs)))))
    ∷ (codes "0 AND 1 AND \"n\" = 5", Ok (And (an_expr (Test (Constant false)) (an_expr (Test (Constant true)) (an_expr (number_test 1 Eq (pos 5)) no_exprs)))))
    ∷ (codes "\"Image\" LIKE 'a!!b' ESCAPE '!'", Ok (Test (Like 0 false (codes "a!!b") (Some 33))))
    ∷ (codes "\"Image\" LIKE '!%!%' ESCAPE '!'", Ok (Test (Like 0 false (codes "!%!%") (Some 33))))
    ∷ (codes "\"Image\" LIKE 'abc' ESCAPE '!'", Ok (Test (Like 0 false (codes "abc") (Some 33))))
    ∷ []

read_cases_hold : computed 1000 where_text read_cases ≡ told read_cases
unfolding verdict tokens scan is_number run_sort text_sort step go_on is_bad_escape is_bad_bracket opens_too_far nots_too_many
read_cases_hold = refl

pub read_cases_are : AreVerdicts 1000 where_text read_cases
read_cases_are = are_so 1000 where_text read_cases read_cases_hold

-- texts with a token that is none of the language's
abbrev other_cases : Cases
other_cases =
    (codes "\"n\" = 5.0", refused 121 1 37)
    ∷ (codes "\"n\" = +5", refused 121 1 36)
    ∷ (codes "\"n\" = --5", refused 121 1 36)
    ∷ (codes "\"n\" = 0x1", refused 121 1 36)
    ∷ (codes "\"n\" ! 5", refused 121 1 34)
    ∷ (codes "\"n\" / 5", refused 121 1 34)
    ∷ (codes "[Image] = 5", refused 121 1 30)
    ∷ (codes "\"n\" = é", refused 121 1 36)
    ∷ (codes "0 {", refused 121 1 32)
    ∷ (codes "\"n\" = 5e3", refused 121 1 36)
    ∷ (codes "_ = 5", refused 121 1 30)
    ∷ (codes "\"n\" = 5 -- a", refused 121 1 38)
    ∷ (codes "0 || 1", refused 121 1 32)
    ∷ (codes "true", refused 121 1 30)
    ∷ (codes "\"n\" = 1_0", refused 121 1 36)
    ∷ (codes "\"n\" = 1`", refused 121 1 37)
    ∷ (codes "\"n\" = 5^", refused 121 1 37)
    ∷ (codes "\"n\" =! 5", refused 121 1 35)
    ∷ (codes "\"n\" !", refused 121 1 34)
    ∷ []

other_cases_hold : computed 1000 where_text other_cases ≡ told other_cases
unfolding verdict tokens scan is_number run_sort text_sort step go_on is_bad_escape is_bad_bracket opens_too_far nots_too_many
other_cases_hold = refl

pub other_cases_are : AreVerdicts 1000 where_text other_cases
other_cases_are = are_so 1000 where_text other_cases other_cases_hold

-- texts with the place where they stop being a query's
abbrev stop_cases : Cases
stop_cases =
    (codes "\"Image\"", refused 120 1 37)
    ∷ (codes "\"Image\" IS", refused 120 1 40)
    ∷ (codes "\"Image\" IS 5", refused 120 1 41)
    ∷ (codes "\"Image\" IS NOT 5", refused 120 1 45)
    ∷ (codes "\"Image\" IS NOT NOT NULL", refused 120 1 45)
    ∷ (codes "\"Image\" LIKE 5", refused 120 1 43)
    ∷ (codes "\"Image\" LIKE \"Image\"", refused 120 1 43)
    ∷ (codes "\"Image\" LIKE 'a' ESCAPE", refused 120 1 53)
    ∷ (codes "\"Image\" LIKE 'a' ESCAPE 5", refused 120 1 54)
    ∷ (codes "\"Image\" GLOB 'a' ESCAPE 'b'", refused 120 1 47)
    ∷ (codes "\"Image\" NOT = 'a'", refused 120 1 42)
    ∷ (codes "\"Image\" NOT NOT LIKE 'a'", refused 120 1 42)
    ∷ (codes "\"Image\" NOT NULL", refused 120 1 42)
    ∷ (codes "\"Image\" IN 'a'", refused 120 1 41)
    ∷ (codes "\"Image\" IN ('a',)", refused 120 1 46)
    ∷ (codes "\"Image\" IN ('a' 'b')", refused 120 1 46)
    ∷ (codes "\"Image\" IN ('a'", refused 120 1 45)
    ∷ (codes "\"Image\" IN (\"ip\")", refused 120 1 42)
    ∷ (codes "\"n\" BETWEEN 'a' AND 2", refused 120 1 42)
    ∷ (codes "\"n\" BETWEEN 1, 2", refused 120 1 43)
    ∷ (codes "\"n\" BETWEEN 1 AND", refused 120 1 47)
    ∷ (codes "\"n\" BETWEEN 1 AND \"n\"", refused 120 1 48)
    ∷ (codes "\"Image\" COLLATE = 5", refused 120 1 46)
    ∷ (codes "\"Image\" COLLATE 'x'", refused 120 1 46)
    ∷ (codes "\"Image\" COLLATE NOCASE COLLATE BINARY = 'a'", refused 120 1 53)
    ∷ (codes "\"Image\" COLLATE NOCASE IS NULL", refused 120 1 53)
    ∷ (codes "\"Image\" COLLATE BINARY GLOB 'a'", refused 120 1 53)
    ∷ (codes "\"n\" = 5 5", refused 120 1 38)
    ∷ (codes "\"n\" = 5 COLLATE", refused 120 1 45)
    ∷ (codes "\"n\" = (5)", refused 120 1 36)
    ∷ (codes "\"n\" = NULL", refused 120 1 36)
    ∷ (codes "\"n\" = = 5", refused 120 1 36)
    ∷ (codes "\"n\" =", refused 120 1 35)
    ∷ (codes "AND 0", refused 120 1 30)
    ∷ (codes "0 AND", refused 120 1 35)
    ∷ (codes "0 OR OR 0", refused 120 1 35)
    ∷ (codes "0 AND OR 0", refused 120 1 36)
    ∷ (codes "NOT", refused 120 1 33)
    ∷ (codes "()", refused 120 1 31)
    ∷ (codes "(0", refused 120 1 32)
    ∷ (codes "0 ; 0", refused 120 1 34)
    ∷ (codes "2", refused 120 1 30)
    ∷ (codes "01", refused 120 1 30)
    ∷ (codes "-1", refused 120 1 30)
    ∷ (codes "1 0", refused 120 1 32)
    ∷ (codes "(0))", refused 120 1 33)
    ∷ (codes "0 WHERE 1", refused 120 1 32)
    ∷ (codes "SELECT", refused 120 1 30)
    ∷ (codes "'a'", refused 120 1 30)
    ∷ (codes "*", refused 120 1 30)
    ∷ (codes ", 0", refused 120 1 30)
    ∷ (codes "; 0", refused 120 1 30)
    ∷ (codes "\"Image\" = 'a", refused 120 1 40)
    ∷ (codes "\"Image\" = \"a", refused 120 1 40)
    ∷ (codes "(= 5", refused 120 1 31)
    ∷ (codes "\"n\" => 5", refused 120 1 35)
    ∷ (codes "\"n\" >> 5", refused 120 1 35)
    ∷ (codes "\"n\" =< 5", refused 120 1 35)
    ∷ (codes "\"Image\"7", refused 120 1 37)
    ∷ (codes "\"n\" =NULL", refused 120 1 35)
    ∷ (codes "\"n\" <>NULL", refused 120 1 36)
    ∷ (codes "(0 'a", refused 120 1 33)
    ∷ (codes "\"Image\" IN ('a' 'b", refused 120 1 46)
    ∷ (codes "0 'a", refused 120 1 32)
    ∷ (codes "0 <", refused 120 1 32)
    ∷ (codes "\"n\" >", refused 120 1 35)
    ∷ (codes "0 REGEXP 1", refused 120 1 32)
    ∷ (codes "\"Image\" IS REGEXP", refused 120 1 41)
    ∷ (codes "\"Image\" LIKE 'a' REGEXP 'b'", refused 120 1 47)
    ∷ (codes "\"Image\" COLLATE REGEXP = 'a'", refused 120 1 46)
    ∷ []

stop_cases_hold : computed 1000 where_text stop_cases ≡ told stop_cases
unfolding verdict tokens scan is_number run_sort text_sort step go_on is_bad_escape is_bad_bracket opens_too_far nots_too_many
stop_cases_hold = refl

pub stop_cases_are : AreVerdicts 1000 where_text stop_cases
stop_cases_are = are_so 1000 where_text stop_cases stop_cases_hold

-- texts with a name, kind or pattern that isn't right, each at its place
abbrev fault_cases : Cases
fault_cases =
    (codes "\"zz\" = 5", refused 122 1 30)
    ∷ (codes "\"zz\" < \"yy\"", refused 122 1 30)
    ∷ (codes "\"n\" = \"zz\"", refused 122 1 36)
    ∷ (codes "\"n\" < \"zz\"", refused 122 1 36)
    ∷ (codes "\"Image\" < \"zz\"", refused 123 1 30)
    ∷ (codes "\"Im\"\"age\" IS NULL", refused 122 1 30)
    ∷ (codes "\"zz\" COLLATE NOCASE = 'a'", refused 122 1 30)
    ∷ (codes "\"Image\" COLLATE NOCASE = \"zz\" COLLATE NOCASE", refused 122 1 55)
    ∷ (codes "\"zz\" LIKE 'a'", refused 122 1 30)
    ∷ (codes "\"zz\" IN (1)", refused 122 1 30)
    ∷ (codes "\"zz\" BETWEEN 1 AND 2", refused 122 1 30)
    ∷ (codes "\"zz\" LIKE '\\' ESCAPE '\\'", refused 122 1 30)
    ∷ (codes "\"n\" COLLATE BINARY = 5", refused 123 1 30)
    ∷ (codes "\"n\" = 5 COLLATE NOCASE", refused 123 1 30)
    ∷ (codes "\"n\" COLLATE NOCASE = \"n\"", refused 123 1 30)
    ∷ (codes "\"n\" = \"n\" COLLATE NOCASE", refused 123 1 30)
    ∷ (codes "\"Image\" = \"n\"", refused 123 1 30)
    ∷ (codes "\"ip\" <> \"n\"", refused 123 1 30)
    ∷ (codes "\"n\" <> \"ip\"", refused 123 1 30)
    ∷ (codes "\"Image\" < \"ip\"", refused 123 1 30)
    ∷ (codes "\"Image\" <= 'x'", refused 123 1 30)
    ∷ (codes "\"Image\" > 'x'", refused 123 1 30)
    ∷ (codes "\"ip\" >= 'x'", refused 123 1 30)
    ∷ (codes "\"Image\" <> 5", refused 123 1 30)
    ∷ (codes "\"n\" <> 'x'", refused 123 1 30)
    ∷ (codes "\"n\" < 'x'", refused 123 1 30)
    ∷ (codes "\"Image\" < 5", refused 123 1 30)
    ∷ (codes "\"Image\" IN ('a', 1)", refused 123 1 30)
    ∷ (codes "\"ip\" IN (1, 'a')", refused 123 1 30)
    ∷ (codes "\"n\" IN ('x', 1)", refused 123 1 30)
    ∷ (codes "\"n\" COLLATE NOCASE IN (1)", refused 123 1 30)
    ∷ (codes "\"n\" COLLATE BINARY BETWEEN 1 AND 2", refused 123 1 30)
    ∷ (codes "\"ip\" BETWEEN 1 AND 2", refused 123 1 30)
    ∷ (codes "\"Image\" COLLATE NOCASE NOT BETWEEN 1 AND 2", refused 123 1 30)
    ∷ (codes "\"Image\" LIKE 'a%' ESCAPE '%'", refused 125 1 43)
    ∷ (codes "\"Image\" LIKE 'a_b' ESCAPE '_'", refused 125 1 43)
    ∷ (codes "\"Image\" LIKE '!!!' ESCAPE '!'", refused 125 1 43)
    ∷ (codes "\"n\" NOT LIKE 'a!' ESCAPE '!'", refused 125 1 43)
    ∷ (codes "\"n\" LIKE '!' ESCAPE '!!'", refused 125 1 50)
    ∷ (codes "\"Image\" GLOB '['", refused 125 1 43)
    ∷ (codes "\"Image\" GLOB '[*'", refused 125 1 43)
    ∷ (codes "\"Image\" GLOB '[*x'", refused 125 1 43)
    ∷ (codes "\"Image\" GLOB '[]'", refused 125 1 43)
    ∷ (codes "\"Image\" GLOB '[]]'", refused 125 1 43)
    ∷ (codes "\"Image\" GLOB 'a[?]['", refused 125 1 43)
    ∷ (codes "\"n\" NOT GLOB '[^a]'", refused 125 1 43)
    ∷ (codes "0 AND NOT (\"zz\" IS NULL OR \"yy\" IS NULL)", refused 122 1 41)
    ∷ (codes "\"n\" = 'x' AND \"zz\" IS NULL", refused 123 1 30)
    ∷ (codes "\"Image\" GLOB '[' AND \"zz\" IS NULL", refused 125 1 43)
    ∷ (codes "((\"n\" = 'x'))", refused 123 1 32)
    ∷ (codes "\"zz\" = 5 COLLATE NOCASE", refused 122 1 30)
    ∷ (codes "\"n\" COLLATE NOCASE = \"zz\"", refused 123 1 30)
    ∷ (codes "\"n\" = \"zz\" COLLATE NOCASE", refused 122 1 36)
    ∷ (codes "\"Image\" COLLATE NOCASE = \"zz\"", refused 122 1 55)
    ∷ (codes "\"Image\" = \"zz\" COLLATE NOCASE", refused 122 1 40)
    ∷ []

fault_cases_hold : computed 1000 where_text fault_cases ≡ told fault_cases
unfolding verdict tokens scan is_number run_sort text_sort step go_on is_bad_escape is_bad_bracket opens_too_far nots_too_many
fault_cases_hold = refl

pub fault_cases_are : AreVerdicts 1000 where_text fault_cases
fault_cases_are = are_so 1000 where_text fault_cases fault_cases_hold

-- expressions with their depths
abbrev depth_cases : List (ℕ × ℕ)
depth_cases =
    (depth (Test (Constant true)), 1)
    ∷ (depth (no_value_test 0), 2)
    ∷ (depth (value_test 0), 2)
    ∷ (depth (number_test 1 Lt (pos 5)), 2)
    ∷ (depth (text_test 0 (codes "x") Unsaid), 2)
    ∷ (depth (text_test 0 (codes "x") NoCase), 3)
    ∷ (depth (text_test 0 (codes "x") Binary), 3)
    ∷ (depth (Test (Compare (side NoCase (ColumnAt 0)) Eq (side Unsaid (ColumnAt 2)))), 3)
    ∷ (depth (Test (Compare (side Binary (ColumnAt 0)) Eq (side NoCase (ColumnAt 2)))), 3)
    ∷ (depth (like_test 0 (codes "x")), 2)
    ∷ (depth (Test (Like 0 true (codes "x") None)), 2)
    ∷ (depth (glob_test 0 (codes "x")), 2)
    ∷ (depth (Test (OneOf (column_side 0) true (Text (codes "x") ∷ []))), 2)
    ∷ (depth (Test (OneOf (side NoCase (ColumnAt 0)) false (Text (codes "x") ∷ []))), 3)
    ∷ (depth (Test (Between (column_side 1) false (pos 1) (pos 2))), 2)
    ∷ (depth (Test (Between (side Binary (ColumnAt 1)) true (pos 1) (pos 2))), 3)
    ∷ (depth (Not (Test (Constant true))), 2)
    ∷ (depth (Not (Not (no_value_test 0))), 4)
    ∷ (depth (Or (pair (Test (Constant true)) (no_value_test 0))), 3)
    ∷ (depth (And (pair (no_value_test 0) (Test (Constant true)))), 3)
    ∷ (depth (Or (an_expr (Test (Constant true)) (an_expr (Test (Constant true)) (an_expr (Test (Constant true)) no_exprs)))), 3)
    ∷ (depth (Or (an_expr (Test (Constant true)) (an_expr (Test (Constant true)) (an_expr (Not (Not (Test (Constant true)))) no_exprs)))), 4)
    ∷ (depth (And (an_expr (Not (Not (Test (Constant true)))) (an_expr (Test (Constant true)) (an_expr (Test (Constant true)) no_exprs)))), 5)
    ∷ []

depth_cases_hold : map (λ c. c.0) depth_cases ≡ map (λ c. c.1) depth_cases
depth_cases_hold = refl

-- Image is CMD.exe, n is 5, and ip has no value: the tables of NOT, AND and OR, and of the comparisons of numbers
abbrev truth_cases : List (Truth × Truth)
truth_cases =
    (sql_value (Not (Test (Constant true))) row, No)
    ∷ (sql_value (And (pair (Test (Constant true)) (Test (Constant true)))) row, Yes)
    ∷ (sql_value (Or (pair (Test (Constant true)) (Test (Constant true)))) row, Yes)
    ∷ (sql_value (And (pair (Test (Constant true)) (Test (Constant false)))) row, No)
    ∷ (sql_value (Or (pair (Test (Constant true)) (Test (Constant false)))) row, Yes)
    ∷ (sql_value (And (pair (Test (Constant true)) unknown)) row, Unknown)
    ∷ (sql_value (Or (pair (Test (Constant true)) unknown)) row, Yes)
    ∷ (sql_value (Not (Test (Constant false))) row, Yes)
    ∷ (sql_value (And (pair (Test (Constant false)) (Test (Constant true)))) row, No)
    ∷ (sql_value (Or (pair (Test (Constant false)) (Test (Constant true)))) row, Yes)
    ∷ (sql_value (And (pair (Test (Constant false)) (Test (Constant false)))) row, No)
    ∷ (sql_value (Or (pair (Test (Constant false)) (Test (Constant false)))) row, No)
    ∷ (sql_value (And (pair (Test (Constant false)) unknown)) row, No)
    ∷ (sql_value (Or (pair (Test (Constant false)) unknown)) row, Unknown)
    ∷ (sql_value (Not unknown) row, Unknown)
    ∷ (sql_value (And (pair unknown (Test (Constant true)))) row, Unknown)
    ∷ (sql_value (Or (pair unknown (Test (Constant true)))) row, Yes)
    ∷ (sql_value (And (pair unknown (Test (Constant false)))) row, No)
    ∷ (sql_value (Or (pair unknown (Test (Constant false)))) row, Unknown)
    ∷ (sql_value (And (pair unknown unknown)) row, Unknown)
    ∷ (sql_value (Or (pair unknown unknown)) row, Unknown)
    ∷ (sql_value (number_test 1 Eq (pos 4)) row, No)
    ∷ (sql_value (number_test 1 Eq (pos 5)) row, Yes)
    ∷ (sql_value (number_test 1 Eq (pos 6)) row, No)
    ∷ (sql_value (number_test 1 Eq (negsuc 4)) row, No)
    ∷ (sql_value (Test (Compare (column_side 1) Eq (column_side 9))) row, Unknown)
    ∷ (sql_value (number_test 1 Ne (pos 4)) row, Yes)
    ∷ (sql_value (number_test 1 Ne (pos 5)) row, No)
    ∷ (sql_value (number_test 1 Ne (pos 6)) row, Yes)
    ∷ (sql_value (number_test 1 Ne (negsuc 4)) row, Yes)
    ∷ (sql_value (Test (Compare (column_side 1) Ne (column_side 9))) row, Unknown)
    ∷ (sql_value (number_test 1 Lt (pos 4)) row, No)
    ∷ (sql_value (number_test 1 Lt (pos 5)) row, No)
    ∷ (sql_value (number_test 1 Lt (pos 6)) row, Yes)
    ∷ (sql_value (number_test 1 Lt (negsuc 4)) row, No)
    ∷ (sql_value (Test (Compare (column_side 1) Lt (column_side 9))) row, Unknown)
    ∷ (sql_value (number_test 1 Lte (pos 4)) row, No)
    ∷ (sql_value (number_test 1 Lte (pos 5)) row, Yes)
    ∷ (sql_value (number_test 1 Lte (pos 6)) row, Yes)
    ∷ (sql_value (number_test 1 Lte (negsuc 4)) row, No)
    ∷ (sql_value (Test (Compare (column_side 1) Lte (column_side 9))) row, Unknown)
    ∷ (sql_value (number_test 1 Gt (pos 4)) row, Yes)
    ∷ (sql_value (number_test 1 Gt (pos 5)) row, No)
    ∷ (sql_value (number_test 1 Gt (pos 6)) row, No)
    ∷ (sql_value (number_test 1 Gt (negsuc 4)) row, Yes)
    ∷ (sql_value (Test (Compare (column_side 1) Gt (column_side 9))) row, Unknown)
    ∷ (sql_value (number_test 1 Gte (pos 4)) row, Yes)
    ∷ (sql_value (number_test 1 Gte (pos 5)) row, Yes)
    ∷ (sql_value (number_test 1 Gte (pos 6)) row, No)
    ∷ (sql_value (number_test 1 Gte (negsuc 4)) row, Yes)
    ∷ (sql_value (Test (Compare (column_side 1) Gte (column_side 9))) row, Unknown)
    ∷ (sql_value (Or (an_expr (Test (Constant false)) (an_expr (Test (Constant true)) (an_expr (Test (Constant false)) no_exprs)))) row, Yes)
    ∷ (sql_value (Or (an_expr (Test (Constant false)) (an_expr (Test (Constant false)) (an_expr (Test (Constant true)) no_exprs)))) row, Yes)
    ∷ (sql_value (Or (an_expr (Test (Constant false)) (an_expr (Test (Constant false)) (an_expr (Test (Constant false)) no_exprs)))) row, No)
    ∷ (sql_value (And (an_expr (Test (Constant true)) (an_expr (Test (Constant false)) (an_expr (Test (Constant true)) no_exprs)))) row, No)
    ∷ (sql_value (And (an_expr (Test (Constant true)) (an_expr (Test (Constant true)) (an_expr (Test (Constant false)) no_exprs)))) row, No)
    ∷ (sql_value (And (an_expr (Test (Constant true)) (an_expr (Test (Constant true)) (an_expr (Test (Constant true)) no_exprs)))) row, Yes)
    ∷ (sql_value (Or (an_expr (Test (Constant false)) (an_expr unknown (an_expr (Test (Constant false)) no_exprs)))) row, Unknown)
    ∷ (sql_value (And (an_expr (Test (Constant true)) (an_expr unknown (an_expr (Test (Constant true)) no_exprs)))) row, Unknown)
    ∷ []

truth_cases_hold : map (λ c. c.0) truth_cases ≡ map (λ c. c.1) truth_cases
unfolding like_from glob_from fits_parts
truth_cases_hold = refl

-- collations chosen left and right, columns against columns, IS NULL, IN and BETWEEN
abbrev test_cases : List (Truth × Truth)
test_cases =
    (sql_value (Test (Compare (side Unsaid (ColumnAt 0)) Eq (side Unsaid (Text (codes "cmd.EXE"))))) row, No)
    ∷ (sql_value (Test (Compare (side Unsaid (ColumnAt 0)) Ne (side Unsaid (Text (codes "cmd.EXE"))))) row, Yes)
    ∷ (sql_value (Test (Compare (side Unsaid (ColumnAt 0)) Eq (side NoCase (Text (codes "cmd.EXE"))))) row, Yes)
    ∷ (sql_value (Test (Compare (side Unsaid (ColumnAt 0)) Ne (side NoCase (Text (codes "cmd.EXE"))))) row, No)
    ∷ (sql_value (Test (Compare (side Unsaid (ColumnAt 0)) Eq (side Binary (Text (codes "cmd.EXE"))))) row, No)
    ∷ (sql_value (Test (Compare (side Unsaid (ColumnAt 0)) Ne (side Binary (Text (codes "cmd.EXE"))))) row, Yes)
    ∷ (sql_value (Test (Compare (side NoCase (ColumnAt 0)) Eq (side Unsaid (Text (codes "cmd.EXE"))))) row, Yes)
    ∷ (sql_value (Test (Compare (side NoCase (ColumnAt 0)) Ne (side Unsaid (Text (codes "cmd.EXE"))))) row, No)
    ∷ (sql_value (Test (Compare (side NoCase (ColumnAt 0)) Eq (side NoCase (Text (codes "cmd.EXE"))))) row, Yes)
    ∷ (sql_value (Test (Compare (side NoCase (ColumnAt 0)) Ne (side NoCase (Text (codes "cmd.EXE"))))) row, No)
    ∷ (sql_value (Test (Compare (side NoCase (ColumnAt 0)) Eq (side Binary (Text (codes "cmd.EXE"))))) row, Yes)
    ∷ (sql_value (Test (Compare (side NoCase (ColumnAt 0)) Ne (side Binary (Text (codes "cmd.EXE"))))) row, No)
    ∷ (sql_value (Test (Compare (side Binary (ColumnAt 0)) Eq (side Unsaid (Text (codes "cmd.EXE"))))) row, No)
    ∷ (sql_value (Test (Compare (side Binary (ColumnAt 0)) Ne (side Unsaid (Text (codes "cmd.EXE"))))) row, Yes)
    ∷ (sql_value (Test (Compare (side Binary (ColumnAt 0)) Eq (side NoCase (Text (codes "cmd.EXE"))))) row, No)
    ∷ (sql_value (Test (Compare (side Binary (ColumnAt 0)) Ne (side NoCase (Text (codes "cmd.EXE"))))) row, Yes)
    ∷ (sql_value (Test (Compare (side Binary (ColumnAt 0)) Eq (side Binary (Text (codes "cmd.EXE"))))) row, No)
    ∷ (sql_value (Test (Compare (side Binary (ColumnAt 0)) Ne (side Binary (Text (codes "cmd.EXE"))))) row, Yes)
    ∷ (sql_value (Test (Compare (side Unsaid (ColumnAt 0)) Eq (side Unsaid (Text (codes "CMD.exe"))))) row, Yes)
    ∷ (sql_value (Test (Compare (side Unsaid (ColumnAt 0)) Eq (side NoCase (Text (codes "cmd"))))) row, No)
    ∷ (sql_value (text_test 0 (201 ∷ []) NoCase) (Some (values.Text (233 ∷ [])) ∷ []), No)
    ∷ (sql_value (column_test 0 0 Unsaid) row, Yes)
    ∷ (sql_value (column_test 2 0 NoCase) row, Unknown)
    ∷ (sql_value (column_test 2 2 Unsaid) row, Unknown)
    ∷ (sql_value (Test (IsNull 1 false)) row, No)
    ∷ (sql_value (Test (IsNull 9 false)) row, Yes)
    ∷ (sql_value (Test (IsNull 9 true)) row, No)
    ∷ (sql_value (Test (OneOf (column_side 0) false (Text (codes "cmd.exe") ∷ Text (codes "a") ∷ []))) row, No)
    ∷ (sql_value (Test (OneOf (side NoCase (ColumnAt 0)) true (Text (codes "a") ∷ Text (codes "cmd.exe") ∷ []))) row, No)
    ∷ (sql_value (Test (OneOf (side Binary (ColumnAt 0)) false (Text (codes "cmd.exe") ∷ []))) row, No)
    ∷ (sql_value (Test (OneOf (column_side 1) false (Whole (pos 5) ∷ Whole (pos 6) ∷ []))) row, Yes)
    ∷ (sql_value (Test (OneOf (column_side 2) false (Text (codes "a") ∷ Text (codes "b") ∷ []))) row, Unknown)
    ∷ (sql_value (Test (Between (column_side 1) false (pos 4) (pos 6))) row, Yes)
    ∷ (sql_value (Test (Between (column_side 1) true (pos 4) (pos 6))) row, No)
    ∷ (sql_value (Test (Between (column_side 1) false (pos 5) (pos 5))) row, Yes)
    ∷ (sql_value (Test (Between (column_side 1) true (pos 5) (pos 5))) row, No)
    ∷ (sql_value (Test (Between (column_side 1) false (pos 1) (pos 5))) row, Yes)
    ∷ (sql_value (Test (Between (column_side 1) true (pos 1) (pos 5))) row, No)
    ∷ (sql_value (Test (Between (column_side 1) false (pos 5) (pos 9))) row, Yes)
    ∷ (sql_value (Test (Between (column_side 1) true (pos 5) (pos 9))) row, No)
    ∷ (sql_value (Test (Between (column_side 1) false (pos 6) (pos 9))) row, No)
    ∷ (sql_value (Test (Between (column_side 1) true (pos 6) (pos 9))) row, Yes)
    ∷ (sql_value (Test (Between (column_side 1) false (pos 1) (pos 4))) row, No)
    ∷ (sql_value (Test (Between (column_side 1) true (pos 1) (pos 4))) row, Yes)
    ∷ (sql_value (Test (Between (column_side 1) false (pos 6) (pos 4))) row, No)
    ∷ (sql_value (Test (Between (column_side 1) true (pos 6) (pos 4))) row, Yes)
    ∷ (sql_value (Test (Between (column_side 2) true (pos 1) (pos 2))) row, Unknown)
    ∷ (sql_value (text_test 0 (codes "a") NoCase) (Some (values.Text (codes "A")) ∷ []), Yes)
    ∷ (sql_value (text_test 0 (codes "z") NoCase) (Some (values.Text (codes "Z")) ∷ []), Yes)
    ∷ (sql_value (text_test 0 (codes "`") NoCase) (Some (values.Text (codes "@")) ∷ []), No)
    ∷ (sql_value (text_test 0 (codes "{") NoCase) (Some (values.Text (codes "[")) ∷ []), No)
    ∷ (sql_value (number_test 0 Eq (pos 5)) row, No)
    ∷ (sql_value (text_test 1 (codes "5") Unsaid) row, No)
    ∷ (sql_value (Test (Compare (column_side 0) Lt (side Unsaid (Text (codes "A"))))) row, No)
    ∷ (sql_value (Test (Compare (column_side 0) Gt (side Unsaid (Text (codes "z"))))) row, No)
    ∷ []

test_cases_hold : map (λ c. c.0) test_cases ≡ map (λ c. c.1) test_cases
unfolding like_from glob_from fits_parts
test_cases_hold = refl

-- LIKE and GLOB: escape characters, % and _ as escape characters, numbers as their decimals
abbrev pattern_cases : List (Truth × Truth)
pattern_cases =
    (sql_value (Test (Like 0 false (codes "cmd%") None)) row, Yes)
    ∷ (sql_value (Test (Like 0 true (codes "cmd%") None)) row, No)
    ∷ (sql_value (Test (Like 0 false (codes "cmd") None)) row, No)
    ∷ (sql_value (Test (Like 0 true (codes "cmd") None)) row, Yes)
    ∷ (sql_value (Test (Like 2 true (codes "%") None)) row, Unknown)
    ∷ (sql_value (Test (Like 1 false (codes "5") None)) row, Yes)
    ∷ (sql_value (Test (Like 1 false (codes "_") None)) row, Yes)
    ∷ (sql_value (Test (Like 1 false (codes "5_") None)) row, No)
    ∷ (sql_value (Test (Like 1 false (codes "05") None)) row, No)
    ∷ (sql_value (Test (Glob 0 false (codes "CMD*"))) row, Yes)
    ∷ (sql_value (Test (Glob 0 true (codes "CMD*"))) row, No)
    ∷ (sql_value (Test (Glob 0 false (codes "cmd*"))) row, No)
    ∷ (sql_value (Test (Glob 0 true (codes "cmd*"))) row, Yes)
    ∷ (sql_value (Test (Glob 1 false (codes "?"))) row, Yes)
    ∷ (sql_value (Test (Glob 1 false (codes "5*"))) row, Yes)
    ∷ (sql_value (Test (Glob 2 false (codes "*"))) row, Unknown)
    ∷ (sql_value (Test (Like 0 false (codes "-12") None)) (Some (values.Whole (negsuc 11)) ∷ []), Yes)
    ∷ (sql_value (Test (Glob 0 false (codes "-?2"))) (Some (values.Whole (negsuc 11)) ∷ []), Yes)
    ∷ (sql_value (Test (Like 0 false (codes "a%%b") (Some 37))) (Some (values.Text (codes "a%b")) ∷ []), Yes)
    ∷ (sql_value (Test (Like 0 false (codes "a%%b") (Some 37))) (Some (values.Text (codes "axb")) ∷ []), No)
    ∷ (sql_value (Test (Like 0 false (codes "a%_b") (Some 37))) (Some (values.Text (codes "a_b")) ∷ []), Yes)
    ∷ (sql_value (Test (Like 0 false (codes "a%_b") (Some 37))) (Some (values.Text (codes "axb")) ∷ []), No)
    ∷ (sql_value (Test (Like 0 false (codes "a__b") (Some 95))) (Some (values.Text (codes "a_b")) ∷ []), Yes)
    ∷ (sql_value (Test (Like 0 false (codes "a__b") (Some 95))) (Some (values.Text (codes "axyb")) ∷ []), No)
    ∷ (sql_value (Test (Like 0 false (codes "a_%b") (Some 95))) (Some (values.Text (codes "a%b")) ∷ []), Yes)
    ∷ (sql_value (Test (Like 0 false (codes "a\\_") None)) (Some (values.Text (codes "a\\x")) ∷ []), Yes)
    ∷ (sql_value (Test (Like 0 false (codes "a\\_") None)) (Some (values.Text (codes "a_")) ∷ []), No)
    ∷ (sql_value (Test (Like 0 false (codes "a\\_") (Some 92))) (Some (values.Text (codes "a_")) ∷ []), Yes)
    ∷ (sql_value (Test (Like 0 false (codes "a\\\\") (Some 92))) (Some (values.Text (codes "a\\")) ∷ []), Yes)
    ∷ (sql_value (Test (Like 0 false (codes "%") None)) (Some (values.Text (codes "")) ∷ []), Yes)
    ∷ (sql_value (Test (Like 0 false (codes "") None)) (Some (values.Text (codes "")) ∷ []), Yes)
    ∷ (sql_value (Test (Like 0 false (codes "") None)) (Some (values.Text (codes "a")) ∷ []), No)
    ∷ (sql_value (Test (Like 0 false (codes "_%_") None)) (Some (values.Text (codes "ab")) ∷ []), Yes)
    ∷ (sql_value (Test (Like 0 false (codes "_%_") None)) (Some (values.Text (codes "a")) ∷ []), No)
    ∷ (sql_value (Test (Like 0 false (codes "%a%a%") None)) (Some (values.Text (codes "bab")) ∷ []), No)
    ∷ (sql_value (Test (Like 0 false (codes "%a%a%") None)) (Some (values.Text (codes "baba")) ∷ []), Yes)
    ∷ (sql_value (Test (Like 0 false (codes "*?") None)) (Some (values.Text (codes "*?")) ∷ []), Yes)
    ∷ (sql_value (Test (Like 0 false (codes "*") None)) (Some (values.Text (codes "a")) ∷ []), No)
    ∷ (sql_value (glob_test 0 (codes "a[?]b")) (Some (values.Text (codes "a?b")) ∷ []), Yes)
    ∷ (sql_value (glob_test 0 (codes "a[?]b")) (Some (values.Text (codes "axb")) ∷ []), No)
    ∷ (sql_value (glob_test 0 (codes "[[][*]")) (Some (values.Text (codes "[*")) ∷ []), Yes)
    ∷ (sql_value (glob_test 0 (codes "%_")) (Some (values.Text (codes "%_")) ∷ []), Yes)
    ∷ (sql_value (glob_test 0 (codes "%_")) (Some (values.Text (codes "ab")) ∷ []), No)
    ∷ (sql_value (glob_test 0 (codes "]")) (Some (values.Text (codes "]")) ∷ []), Yes)
    ∷ (sql_value (glob_test 0 (codes "*a")) (Some (values.Text (codes "bA")) ∷ []), No)
    ∷ (sql_value (glob_test 0 (codes "?")) (Some (values.Text (codes "é")) ∷ []), Yes)
    ∷ (sql_value (Test (Like 0 false (codes "A") None)) (Some (values.Text (codes "a")) ∷ []), Yes)
    ∷ (sql_value (Test (Like 0 false (codes "z") None)) (Some (values.Text (codes "Z")) ∷ []), Yes)
    ∷ (sql_value (Test (Like 0 false (codes "{") None)) (Some (values.Text (codes "[")) ∷ []), No)
    ∷ (sql_value (glob_test 0 (codes "a")) (Some (values.Text (codes "ab")) ∷ []), No)
    ∷ (sql_value (glob_test 0 (codes "[*]")) (Some (values.Text (codes "*b")) ∷ []), No)
    ∷ []

pattern_cases_hold : map (λ c. c.0) pattern_cases ≡ map (λ c. c.1) pattern_cases
unfolding like_from glob_from fits_parts digits
pattern_cases_hold = refl
