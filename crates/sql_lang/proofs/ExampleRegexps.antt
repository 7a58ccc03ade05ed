-- Texts with REGEXP, reckoned by hand: their verdicts without and with places that are refused, the regular expressions in them,
-- and what they say of rows.
use Rattle.std.proofs.Common.{ℕ, ◌≡◌, refl, true, false, List, [], ◌∷◌, codes, map}
use Rattle.std.specs.Prelude.{Some, None, Ok, negsuc}
use Rattle.std.specs.Fmt.{digits}
use Rattle.regex.proofs.OnLiterals.{regex_on_literals}
use Rattle.regex_hir.specs.Find.{first_from, find_str}
use Rattle.regex_hir.specs.Looks.{holds, holds_between}
use Rattle.regex_hir.specs.Re.{attempt, rounds}
use Rattle.regex_hir.specs.Text.{byte_before, has_bytes_at, is_boundary}
use Rattle.event_schema.specs.declared.value.Value.TheVariants as values
use Rattle.query_tokens.specs.Places.{At, CodeAt, code_at}
use Rattle.query_lang.specs.Patterns.{finds}
use Rattle.query_lang.specs.RefusedPlaces.{PatternAt}
use Rattle.sql_lang.specs.Tokens.{scan, tokens, is_number, run_sort, text_sort}
use Rattle.sql_lang.specs.Expression.{Constant, Like, Regexp, Or, And, Not, Test, depth}
use Rattle.sql_lang.specs.Faults.{is_bad_escape, is_bad_bracket, refused_at}
use Rattle.sql_lang.specs.Reading.{opens_too_far, nots_too_many}
use Rattle.sql_lang.specs.Meaning.{Truth, Yes, No, Unknown, sql_value}
use Rattle.sql_lang.specs.ColumnTests.{text_test}
use Rattle.sql_lang.specs.Grammar.{Unsaid}
use Rattle.sql_lang.specs.Machine.{step, go_on}
use Rattle.sql_lang.specs.Regexps.{regexps}
use Rattle.sql_lang.specs.Verdict.{verdict}
use Rattle.sql_lang.proofs.Examples.{refused, Cases, where_text, computed, computed_under, told, AreVerdicts, AreVerdictsUnder, are_so, are_so_under, row, pair}

abbrev at : ℕ → ℕ → At
at line column = record { line = line; column = column }

-- ---- without refused places

abbrev plain_cases : Cases
plain_cases =
    (codes "\"IMAGE\" regexp ''", Ok (Test (Regexp 0 false [])))
    ∷ (codes "\"ip\" NOT RegExp '(' ;", Ok (Test (Regexp 2 true (codes "("))))
    ∷ (codes "NOT \"Image\" REGEXP 'it''s'", Ok (Not (Test (Regexp 0 false (codes "it's")))))
    ∷ (codes "\"n\" REGEXP 'a' AND \"n\" NOT REGEXP 'b'", Ok (And (pair (Test (Regexp 1 false (codes "a"))) (Test (Regexp 1 true (codes "b"))))))
    ∷ (codes "(\"n\" REGEXP 'a' OR 0)", Ok (Or (pair (Test (Regexp 1 false (codes "a"))) (Test (Constant false)))))
    ∷ (codes "\"Image\" REGEXP", refused 120 1 44)
    ∷ (codes "\"Image\" REGEXP \"a\"", refused 120 1 45)
    ∷ (codes "\"Image\" REGEXP 5", refused 120 1 45)
    ∷ (codes "\"Image\" REGEXP NULL", refused 120 1 45)
    ∷ (codes "\"Image\" REGEXP 'a", refused 120 1 45)
    ∷ (codes "\"Image\" REGEXP ('a')", refused 120 1 45)
    ∷ (codes "\"Image\" REGEXP 'a' 'b'", refused 120 1 49)
    ∷ (codes "\"Image\" REGEXP 'a' ESCAPE 'b'", refused 120 1 49)
    ∷ (codes "\"Image\" REGEXP 'a' COLLATE NOCASE", refused 120 1 49)
    ∷ (codes "\"Image\" COLLATE NOCASE REGEXP 'a'", refused 120 1 53)
    ∷ (codes "\"Image\" NOT NOT REGEXP 'a'", refused 120 1 42)
    ∷ (codes "\"Image\" IS NOT REGEXP 'a'", refused 120 1 45)
    ∷ (codes "'a' REGEXP 'a'", refused 120 1 30)
    ∷ (codes "REGEXP 'a'", refused 120 1 30)
    ∷ (codes "\"Image\" REGEXPS 'a'", refused 121 1 38)
    ∷ (codes "\"zz\" REGEXP '('", refused 122 1 30)
    ∷ (codes "\"n\" REGEXP '(' AND \"n\" = 'x'", refused 123 1 49)
    ∷ []

plain_cases_hold : computed 1000 where_text plain_cases ≡ told plain_cases
unfolding verdict tokens scan is_number run_sort text_sort step go_on is_bad_escape is_bad_bracket opens_too_far nots_too_many
plain_cases_hold = refl

pub plain_cases_are : AreVerdicts 1000 where_text plain_cases
plain_cases_are = are_so 1000 where_text plain_cases plain_cases_hold

-- ---- with refused places

-- two places, one of them with both codes; places and codes beside these; and the place of a name
abbrev refused_places : List CodeAt
refused_places = code_at 48 (at 1 45) ∷ code_at 47 (at 1 49) ∷ code_at 48 (at 1 49) ∷ code_at 47 (at 1 30) ∷ code_at 46 (at 1 41) ∷ code_at 47 (at 2 41) ∷ code_at 48 (at 41 1) ∷ []

abbrev refused_cases : Cases
refused_cases =
    (codes "\"Image\" REGEXP '('", refused 48 1 45)
    ∷ (codes "\"Image\" NOT REGEXP 'a'", refused 47 1 49)
    ∷ (codes "\"n\" REGEXP 'a'", Ok (Test (Regexp 1 false (codes "a"))))
    ∷ (codes "\"n\"  REGEXP 'a'", Ok (Test (Regexp 1 false (codes "a"))))
    ∷ (codes "\"n\"     REGEXP 'a'", refused 48 1 45)
    ∷ (codes "\"Image\" REGEXP 'a' AND \"zz\" IS NULL", refused 48 1 45)
    ∷ (codes "\"zz\"    REGEXP 'a'", refused 122 1 30)
    ∷ (codes "\"zz\" IS NULL OR \"n\" REGEXP 'a'", refused 122 1 30)
    ∷ (codes "\"n\"='x' OR \"n\" REGEXP 'a'", refused 123 1 30)
    ∷ (codes "\"n\" GLOB '[' OR \"n\" REGEXP 'a'", refused 125 1 39)
    ∷ (codes "NOT NOT \"n\" REGEXP 'b' AND \"n\" = 'x'", refused 47 1 49)
    ∷ (codes "\"n\" REGEXP 'a' OR 0 OR (\"n\" REGEXP 'a' AND \"zz\" IS NULL)", refused 122 1 73)
    ∷ (codes "(((\"n\"  REGEXP 'a')))", refused 48 1 45)
    ∷ (codes "\"Image\" REGEXP 'a' AND", refused 120 1 52)
    ∷ (codes "\"Image\" REGEXP 'a' {", refused 121 1 49)
    ∷ (codes "\"Image\" = 'a'    ", Ok (text_test 0 (codes "a") Unsaid))
    ∷ (codes "\"Image\" LIKE   'a'", Ok (Test (Like 0 false (codes "a") None)))
    ∷ []

refused_cases_hold : computed_under refused_places 1000 where_text refused_cases ≡ told refused_cases
unfolding verdict tokens scan is_number run_sort text_sort step go_on is_bad_escape is_bad_bracket opens_too_far nots_too_many
refused_cases_hold = refl

pub refused_cases_are : AreVerdictsUnder refused_places 1000 where_text refused_cases
refused_cases_are = are_so_under refused_places 1000 where_text refused_cases refused_cases_hold

-- under a limit of 2, where the text's place is refused
abbrev deep_cases : Cases
deep_cases =
    (codes "\"Image\" REGEXP '('", refused 48 1 45)
    ∷ (codes "NOT \"n\" REGEXP '('", refused 124 1 1)
    ∷ (codes "\"n\" REGEXP 'a' AND \"n\" REGEXP 'b'", refused 124 1 1)
    ∷ (codes "(((\"n\"  REGEXP 'a')))", refused 124 1 1)
    ∷ []

deep_cases_hold : computed_under refused_places 2 where_text deep_cases ≡ told deep_cases
unfolding verdict tokens scan is_number run_sort text_sort step go_on is_bad_escape is_bad_bracket opens_too_far nots_too_many
deep_cases_hold = refl

pub deep_cases_are : AreVerdictsUnder refused_places 2 where_text deep_cases
deep_cases_are = are_so_under refused_places 2 where_text deep_cases deep_cases_hold

-- 47 before 48 in whatever order the list has them
both_codes : refused_at refused_places (at 1 49) ≡ code_at 47 (at 1 49) ∷ code_at 48 (at 1 49) ∷ []
both_codes = refl

-- ---- the regular expressions in a text

abbrev found : ℕ → ℕ → List ℕ → PatternAt
found line column pattern = record { place = at line column; pattern = pattern }

abbrev regexps_of : List (List ℕ × List PatternAt)
regexps_of =
    (codes "\"Image\" REGEXP 'a'", found 1 16 (codes "a") ∷ [])
    ∷ (codes "x regexp '(' REGEXP\n'b''' AND regexp", found 1 10 (codes "(") ∷ found 2 1 (codes "b'") ∷ [])
    ∷ (codes "REGEXP \"a\" 'b'", [])
    ∷ (codes "GLOB 'a' 'b' \"REGEXP\" 'c'", [])
    ∷ (codes "REGEXP REGEXP'a''b' 'c'", found 1 14 (codes "a'b") ∷ [])
    ∷ (codes "REGEXP 'a", [])
    ∷ []

regexps_are : map (λ c. regexps c.0) regexps_of ≡ map (λ c. c.1) regexps_of
unfolding tokens scan is_number run_sort text_sort
regexps_are = refl

-- ---- values and depths

abbrev value_cases : List (Truth × Truth)
value_cases =
    (sql_value (Test (Regexp 0 false (codes "MD"))) row, Yes)
    ∷ (sql_value (Test (Regexp 0 true (codes "MD"))) row, No)
    ∷ (sql_value (Test (Regexp 0 false (codes "md"))) row, No)
    ∷ (sql_value (Test (Regexp 0 true (codes "^MD"))) row, Yes)
    ∷ (sql_value (Test (Regexp 0 false [])) row, Yes)
    ∷ (sql_value (Test (Regexp 1 false (codes "^5$"))) row, Yes)
    ∷ (sql_value (Test (Regexp 1 false (codes "5"))) (None ∷ Some (values.Whole (negsuc 14)) ∷ []), Yes)
    ∷ (sql_value (Test (Regexp 1 false (codes "^15$"))) (None ∷ Some (values.Whole (negsuc 14)) ∷ []), No)
    ∷ (sql_value (Test (Regexp 1 false (codes "^-15$"))) (None ∷ Some (values.Whole (negsuc 14)) ∷ []), Yes)
    ∷ (sql_value (Test (Regexp 2 false (codes "a"))) row, Unknown)
    ∷ (sql_value (Test (Regexp 2 true (codes "a"))) row, Unknown)
    ∷ (sql_value (Test (Regexp 0 false (codes "("))) row, No)
    ∷ []

values_are_so : map (λ c. c.0) value_cases ≡ map (λ c. c.1) value_cases
unfolding finds regex_on_literals find_str first_from attempt rounds holds holds_between byte_before has_bytes_at is_boundary digits
values_are_so = refl

depths : depth (Test (Regexp 0 true (codes "a"))) ∷ depth (Not (Test (Regexp 0 false (codes "a")))) ∷ [] ≡ 2 ∷ 3 ∷ []
depths = refl
