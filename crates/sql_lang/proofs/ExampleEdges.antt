-- Examples at the edges of the definitions, reckoned by hand: what is a number, the collation that is chosen, sides that don't stand
-- beside a column, limits at the front of a text, values that are chosen, and bytes.
use Rattle.std.proofs.Common.{ℕ, ◌≡◌, ◌<◌, ◌≤◌, refl, Bool, true, false, List, [], ◌∷◌, ◌++◌, codes, subst, map, take, arith}
use Rattle.std.specs.Prelude.{Option, Some, None, Ok, pos}
use Rattle.std.specs.Str.{chars, is_utf8, IsUtf8, IsValidUpTo}
use Rattle.std.proofs.lemmas.List.{take_all}
use Rattle.std.proofs.lemmas.Str.{IsUtf8-from_is_utf8, is_utf8-from_IsUtf8}
use Rattle.sig_base.specs.Digits.{unsigned}
use Rattle.query_tokens.specs.Places.{At, code_at, IsText, IsBadAt, nth}
use Rattle.query_tokens.specs.Tokens.{places}
use Rattle.sql_lang.specs.Tokens.{Eq, Ne, Lt, scan, tokens, is_number, run_sort, text_sort, number_of}
use Rattle.sql_lang.specs.Grammar.{Collate, Unsaid, NoCase, Binary, a_name, a_literal, a_text, a_number, constant}
use Rattle.sql_lang.specs.Expression.{Or, no_exprs, or_zero, escape_of, depth}
use Rattle.sql_lang.specs.Names.{column_of}
use Rattle.sql_lang.specs.Faults.{is_bad_escape, is_bad_bracket, is_ill, is_ill_right}
use Rattle.sql_lang.specs.Reading.{opens_too_far, nots_too_many, Reads, ReadsWithin, BytesRead, BytesRefused, no_text, no_query}
use Rattle.sql_lang.specs.Meaning.{chosen}
use Rattle.sql_lang.specs.ColumnTests.{text_test}
use Rattle.sql_lang.specs.Machine.{step, go_on}
use Rattle.sql_lang.specs.Regexps.{byte_regexps}
use Rattle.sql_lang.specs.Verdict.{verdict, IsVerdict}
use Rattle.sql_lang.proofs.Judged.{verdict_is}
use Rattle.sql_lang.proofs.Examples.{schema, refused, Cases, where_text, computed, told, AreVerdicts, are_so}

-- which characters are a number
abbrev number_cases : List (Bool × Bool)
number_cases =
    (is_number (codes "0"), true)
    ∷ (is_number (codes "9"), true)
    ∷ (is_number (codes "-0"), true)
    ∷ (is_number (codes "007"), true)
    ∷ (is_number (codes "/"), false)
    ∷ (is_number (codes ":"), false)
    ∷ (is_number (codes ""), false)
    ∷ (is_number (codes "-"), false)
    ∷ (is_number (codes "--1"), false)
    ∷ (is_number (codes "1-"), false)
    ∷ (is_number (codes "9223372036854775807"), true)
    ∷ (is_number (codes "9223372036854775808"), false)
    ∷ (is_number (codes "-9223372036854775807"), true)
    ∷ (is_number (codes "-9223372036854775808"), false)
    ∷ []

number_cases_hold : map (λ c. c.0) number_cases ≡ map (λ c. c.1) number_cases
unfolding is_number
number_cases_hold = refl

-- the collation of a comparison
abbrev chosen_cases : List (Collate × Collate)
chosen_cases =
    (chosen Unsaid Unsaid, Unsaid)
    ∷ (chosen Unsaid NoCase, NoCase)
    ∷ (chosen Unsaid Binary, Binary)
    ∷ (chosen NoCase Unsaid, NoCase)
    ∷ (chosen NoCase Binary, NoCase)
    ∷ (chosen Binary Unsaid, Binary)
    ∷ (chosen Binary NoCase, Binary)
    ∷ []

chosen_cases_hold : map (λ c. c.0) chosen_cases ≡ map (λ c. c.1) chosen_cases
chosen_cases_hold = refl

-- right sides, also beside a name that is no column's
abbrev ill_cases : List (Bool × Bool)
ill_cases =
    (is_ill_right schema.fields (codes "zz") Lt (a_name (codes "Image")) Unsaid, true)
    ∷ (is_ill_right schema.fields (codes "zz") Ne (a_name (codes "Image")) Unsaid, false)
    ∷ (is_ill_right schema.fields (codes "zz") Eq (a_name (codes "n")) NoCase, true)
    ∷ (is_ill_right schema.fields (codes "zz") Eq (a_name (codes "n")) Unsaid, false)
    ∷ (is_ill_right schema.fields (codes "n") Eq (a_name (codes "zz")) NoCase, false)
    ∷ (is_ill_right schema.fields (codes "Image") Lt (a_name (codes "zz")) Unsaid, false)
    ∷ (is_ill_right schema.fields (codes "zz") Eq (a_literal (a_number (codes "5"))) NoCase, true)
    ∷ (is_ill_right schema.fields (codes "zz") Eq (a_literal (a_text (codes "5"))) NoCase, false)
    ∷ (is_ill schema.fields (constant true), false)
    ∷ []

ill_cases_hold : map (λ c. c.0) ill_cases ≡ map (λ c. c.1) ill_cases
ill_cases_hold = refl

-- names among the columns
abbrev column_cases : List (Option ℕ × Option ℕ)
column_cases =
    (column_of schema.fields (codes "IMAGE"), Some 0)
    ∷ (column_of schema.fields (codes "ip"), Some 2)
    ∷ (column_of schema.fields (codes "zz"), None)
    ∷ (column_of schema.fields (codes "Imag"), None)
    ∷ []

column_cases_hold : map (λ c. c.0) column_cases ≡ map (λ c. c.1) column_cases
column_cases_hold = refl

-- where tokens begin
token_places : places (tokens (codes "0 \n\t1")) ≡ record { line = 1; column = 1 } ∷ record { line = 2; column = 2 } ∷ []
unfolding tokens scan is_number run_sort
token_places = refl

-- whole texts under a limit of 2
abbrev front_cases : Cases
front_cases =
    (codes "NOT NOT", refused 120 1 1)
    ∷ (codes "NOT NOT NOT", refused 124 1 1)
    ∷ (codes "((", refused 120 1 1)
    ∷ (codes "(((", refused 124 1 1)
    ∷ []

front_cases_hold : computed 2 (λ text. text) front_cases ≡ told front_cases
unfolding verdict tokens scan is_number run_sort text_sort step go_on is_bad_escape is_bad_bracket opens_too_far nots_too_many
front_cases_hold = refl

pub front_cases_are : AreVerdicts 2 (λ text. text) front_cases
front_cases_are = are_so 2 (λ text. text) front_cases front_cases_hold

-- ---- values that are chosen, so that a definition has one where a query that isn't refused never asks for it

nothing_unsigned : unsigned [] ≡ []
nothing_unsigned = refl

number_of_nothing : number_of [] ≡ pos 0
number_of_nothing = refl

place_of_no_token : nth [] 3 ≡ record { line = 1; column = 1 }
place_of_no_token = refl

no_column : or_zero None ≡ 0
no_column = refl

empty_escape : escape_of (Some []) ≡ None
empty_escape = refl

long_escape : escape_of (Some (codes "!!")) ≡ None
long_escape = refl

empty_chain : depth (Or no_exprs) ≡ 0
empty_chain = refl

-- ---- bytes

-- a, a line feed, é, and a byte that begins no character
abbrev bad_bytes : List ℕ
bad_bytes = 97 ∷ 10 ∷ 195 ∷ 169 ∷ 255 ∷ []

no_longer : (m : ℕ) → 4 < m → IsUtf8 (take m bad_bytes) → ⊥
unfolding is_utf8 chars lib.Utf8.encode
no_longer m past text =
    let enough : 5 ≤ m = omega arith in
    let good : is_utf8 bad_bytes ≡ true = is_utf8-from_IsUtf8 bad_bytes (subst IsUtf8 (take_all m bad_bytes enough) text) in
    let bad : is_utf8 bad_bytes ≡ false = refl in
    absurd cc

valid_up_to : IsValidUpTo bad_bytes 4
unfolding is_utf8 chars lib.Utf8.encode
valid_up_to = record { short = omega arith; front = IsUtf8-from_is_utf8 (take 4 bad_bytes) refl; longest = no_longer }

pub bad_in_second_line : IsBadAt bad_bytes (record { line = 2; column = 2 })
unfolding chars
bad_in_second_line = record { count = 4; longest = valid_up_to; behind = refl }

pub bad_bytes_refused : BytesRefused 1000 schema [] bad_bytes (record { code = 1; place = record { line = 2; column = 2 } })
bad_bytes_refused = no_text (record { line = 2; column = 2 }) bad_in_second_line refl

-- é in a text is two bytes
abbrev characters : List ℕ
characters = where_text (codes "\"Image\" = '" ++ 233 ∷ 39 ∷ [])

abbrev bytes : List ℕ
bytes = where_text (codes "\"Image\" = '" ++ 195 ∷ 169 ∷ 39 ∷ [])

read_verdict : verdict 1000 schema [] characters ≡ Ok (text_test 0 (233 ∷ []) Unsaid)
unfolding verdict tokens scan is_number run_sort text_sort step go_on is_bad_escape is_bad_bracket opens_too_far nots_too_many
read_verdict = refl

is_text : IsText bytes characters
unfolding lib.Utf8.encode
is_text = record { scalars = refl; encoded = refl }

read_within : ReadsWithin 1000 schema characters (text_test 0 (233 ∷ []) Unsaid)
read_within = (subst (IsVerdict 1000 schema [] characters) read_verdict (verdict_is 1000 schema [] characters)).0

pub bytes_read : BytesRead 1000 schema bytes (text_test 0 (233 ∷ []) Unsaid)
bytes_read = record { characters = characters; text = is_text; reads = read_within }

pub also_read : Reads schema bytes (text_test 0 (233 ∷ []) Unsaid)
also_read = record { characters = characters; scalars = refl; encoded = is_text.encoded; reads = read_within.reads }

-- a name that is no column's, behind é: places count characters
abbrev refused_characters : List ℕ
refused_characters = where_text (codes "\"Image\" = '" ++ 233 ∷ codes "' AND \"zz\" IS NULL")

abbrev refused_bytes : List ℕ
refused_bytes = where_text (codes "\"Image\" = '" ++ 195 ∷ 169 ∷ codes "' AND \"zz\" IS NULL")

refusing_verdict : verdict 1000 schema [] refused_characters ≡ refused 122 1 48
unfolding verdict tokens scan is_number run_sort text_sort step go_on is_bad_escape is_bad_bracket opens_too_far nots_too_many
refusing_verdict = refl

refused_is_text : IsText refused_bytes refused_characters
unfolding lib.Utf8.encode
refused_is_text = record { scalars = refl; encoded = refl }

pub bytes_refused : BytesRefused 1000 schema [] refused_bytes (record { code = 122; place = record { line = 1; column = 48 } })
bytes_refused =
    no_query refused_characters refused_is_text
    (subst (IsVerdict 1000 schema [] refused_characters) refusing_verdict (verdict_is 1000 schema [] refused_characters))

-- ---- a regular expression behind é, without refused places, and where its place is refused

abbrev regexp_characters : List ℕ
regexp_characters = where_text (codes "\"Image\" = '" ++ 233 ∷ codes "' OR \"Image\" REGEXP '('")

abbrev regexp_bytes : List ℕ
regexp_bytes = where_text (codes "\"Image\" = '" ++ 195 ∷ 169 ∷ codes "' OR \"Image\" REGEXP '('")

abbrev regexp_place : At
regexp_place = record { line = 1; column = 62 }

regexp_verdict : verdict 1000 schema (code_at 48 regexp_place ∷ []) regexp_characters ≡ refused 48 1 62
unfolding verdict tokens scan is_number run_sort text_sort step go_on is_bad_escape is_bad_bracket opens_too_far nots_too_many
regexp_verdict = refl

regexp_is_text : IsText regexp_bytes regexp_characters
unfolding lib.Utf8.encode
regexp_is_text = record { scalars = refl; encoded = refl }

pub regexp_bytes_refused : BytesRefused 1000 schema (code_at 48 regexp_place ∷ []) regexp_bytes (code_at 48 regexp_place)
regexp_bytes_refused =
    no_query regexp_characters regexp_is_text
    (subst (IsVerdict 1000 schema (code_at 48 regexp_place ∷ []) regexp_characters) regexp_verdict (verdict_is 1000 schema (code_at 48 regexp_place ∷ []) regexp_characters))

regexps_of_bytes : byte_regexps regexp_bytes ≡ record { place = regexp_place; pattern = codes "(" } ∷ []
unfolding tokens scan is_number run_sort text_sort is_utf8 chars lib.Utf8.encode
regexps_of_bytes = refl

regexps_of_no_text : byte_regexps (bad_bytes ++ codes " REGEXP 'a'") ≡ []
unfolding is_utf8 chars lib.Utf8.encode
regexps_of_no_text = refl
