-- Examples at the edges of the definitions, reckoned by hand: decimals, tokens, names that are found, and bytes.
use Rattle.std.proofs.Common.{ℕ, ◌≡◌, ◌<◌, ◌≤◌, refl, Bool, true, false, List, [], ◌∷◌, ◌++◌, codes, subst, map, take, arith}
use Rattle.std.specs.Prelude.{Option, Some, None, Ok}
use Rattle.std.specs.Str.{chars, is_utf8, IsUtf8, IsValidUpTo}
use Rattle.std.proofs.lemmas.List.{take_all}
use Rattle.std.proofs.lemmas.Str.{IsUtf8-from_is_utf8, is_utf8-from_IsUtf8}
use Rattle.event_schema.specs.declared.schema.Field.{Field}
use Rattle.event_schema.specs.declared.schema.FieldKind.TheVariants as kinds
use Rattle.query_tokens.specs.Places.{IsText, IsBadAt}
use Rattle.lucene_lang.specs.declared.written.Written.TheVariants.{Bare, Escaped}
use Rattle.lucene_lang.specs.Tokens.{Sort, Joins, Not, Star, Wild, To, Decimal, Plain, Phrase, Opening, Closing, Opens, Closes, Colon, Unclosed, tokens, scan, run_sort, is_decimal}
use Rattle.lucene_lang.specs.declared.query.Word.TheVariants.{And, Or}
use Rattle.query_tokens.specs.Tokens.{sorts}
use Rattle.lucene_lang.specs.Query.{FieldName, named, found_in}
use Rattle.lucene_lang.specs.Faults.{is_number}
use Rattle.lucene_lang.specs.Reading.{opens_too_far, Reads, ReadsWithin, BytesRead, BytesRefused, no_text, no_query}
use Rattle.lucene_lang.specs.Machine.{step, go_on}
use Rattle.lucene_lang.specs.Verdict.{verdict, IsVerdict}
use Rattle.lucene_lang.proofs.Judged.{verdict_is}
use Rattle.lucene_lang.proofs.Examples.{field, schema, refused, only, text_at}

-- ---- decimals

abbrev decimal_cases : List (Bool × Bool)
decimal_cases =
    (is_decimal (codes "0"), true)
    ∷ (is_decimal (codes "9"), true)
    ∷ (is_decimal (codes "1"), true)
    ∷ (is_decimal (codes "10"), true)
    ∷ (is_decimal (codes "-1"), true)
    ∷ (is_decimal (codes "-907"), true)
    ∷ (is_decimal (codes "99999999999999999999"), true)
    ∷ (is_decimal [], false)
    ∷ (is_decimal (codes "-"), false)
    ∷ (is_decimal (codes "-0"), false)
    ∷ (is_decimal (codes "00"), false)
    ∷ (is_decimal (codes "01"), false)
    ∷ (is_decimal (codes "--1"), false)
    ∷ (is_decimal (codes "+1"), false)
    ∷ (is_decimal (codes "1-"), false)
    ∷ (is_decimal (codes "1/"), false)
    ∷ (is_decimal (codes "1:"), false)
    ∷ (is_decimal (codes "/"), false)
    ∷ (is_decimal (codes ":"), false)
    ∷ (is_decimal (codes "1 "), false)
    ∷ []

example_decimals : map (λ c. c.0) decimal_cases ≡ map (λ c. c.1) decimal_cases
unfolding is_decimal
example_decimals = refl

-- ---- tokens

abbrev token_cases : List (List Sort × List Sort)
token_cases =
    (sorts (tokens (codes "AND OR NOT")), Joins And ∷ Joins Or ∷ Not ∷ [])
    ∷ (sorts (tokens (codes "And ANDOR O\\R")), Plain (Bare 65 ∷ Bare 110 ∷ Bare 100 ∷ []) ∷ Plain (map (λ c. Bare c) (codes "ANDOR")) ∷ Plain (Bare 79 ∷ Escaped 82 ∷ []) ∷ [])
    ∷ (sorts (tokens (codes "*:* ** \\* ?")), Star ∷ Colon ∷ Star ∷ Wild (Bare 42 ∷ Bare 42 ∷ []) ∷ Plain (Escaped 42 ∷ []) ∷ Wild (Bare 63 ∷ []) ∷ [])
    ∷ (sorts (tokens (codes "[1TO{]TO}-5")), Opens true ∷ Plain (Bare 49 ∷ Bare 84 ∷ Bare 79 ∷ []) ∷ Opens false ∷ Closes true ∷ To ∷ Closes false ∷ Decimal (codes "-5") ∷ [])
    ∷ (sorts (tokens (codes "(\"a\\\"*\")")), Opening ∷ Phrase (Bare 97 ∷ Escaped 34 ∷ Bare 42 ∷ []) ∷ Closing ∷ [])
    ∷ (sorts (tokens (codes "x\\ \\:y\\")), Plain (Bare 120 ∷ Escaped 32 ∷ Escaped 58 ∷ Bare 121 ∷ []) ∷ Unclosed ∷ [])
    ∷ (sorts (tokens (codes "\\")), Unclosed ∷ [])
    ∷ (sorts (tokens (codes "x\"y")), Plain (Bare 120 ∷ []) ∷ Unclosed ∷ [])
    ∷ (sorts (tokens (codes "\"y\\")), Unclosed ∷ [])
    ∷ (sorts (tokens (codes "\\5 5")), Plain (Escaped 53 ∷ []) ∷ Decimal (codes "5") ∷ [])
    ∷ []

example_tokens : map (λ c. c.0) token_cases ≡ map (λ c. c.1) token_cases
unfolding tokens scan run_sort is_decimal
example_tokens = refl

-- ---- names

abbrev cased_field : List ℕ → Field
cased_field name = field name kinds.Text true

abbrev found_cases : List (Option FieldName × Option FieldName)
found_cases =
    (found_in (cased_field (codes "x") ∷ cased_field (codes "x") ∷ []) (codes "x"), Some (named 0 false))
    ∷ (found_in (cased_field (codes "y") ∷ cased_field (codes "x") ∷ []) (codes "x.cased"), Some (named 1 true))
    ∷ (found_in (cased_field (codes "x") ∷ cased_field (codes "x.cased") ∷ []) (codes "x.cased"), Some (named 0 true))
    ∷ (found_in (cased_field (codes "x.cased") ∷ cased_field (codes "x") ∷ []) (codes "x.cased"), Some (named 0 false))
    ∷ (found_in (field (codes "x") kinds.Text false ∷ []) (codes "x.cased"), None)
    ∷ (found_in [] (codes "x"), None)
    ∷ []

example_names : map (λ c. c.0) found_cases ≡ map (λ c. c.1) found_cases
example_names = refl

-- ---- bytes

-- a, a line feed, é, and a byte that begins no character
abbrev bad_bytes : List ℕ
bad_bytes = 97 ∷ 10 ∷ 195 ∷ 169 ∷ 255 ∷ []

no_longer : (m : ℕ) → 4 < m → IsUtf8 (take m bad_bytes) → ⊥
unfolding is_utf8 chars lib.Utf8.encode
no_longer m past text =
    let enough : 5 ≤ m = omega arith in
    let good : is_utf8 bad_bytes ≡ true = is_utf8-from_IsUtf8 bad_bytes (subst IsUtf8 (take_all m bad_bytes enough) text) in
    let bad : is_utf8 bad_bytes ≡ false = refl in
    absurd cc

valid_up_to : IsValidUpTo bad_bytes 4
unfolding is_utf8 chars lib.Utf8.encode
valid_up_to = record { short = omega arith; front = IsUtf8-from_is_utf8 (take 4 bad_bytes) refl; longest = no_longer }

pub bad_in_second_line : IsBadAt bad_bytes (record { line = 2; column = 2 })
unfolding chars
bad_in_second_line = record { count = 4; longest = valid_up_to; behind = refl }

pub bad_bytes_refused : BytesRefused 1000 schema bad_bytes (record { code = 1; place = record { line = 2; column = 2 } })
bad_bytes_refused = no_text (record { line = 2; column = 2 }) bad_in_second_line refl

-- é is two bytes
abbrev characters : List ℕ
characters = codes "a:" ++ 233 ∷ []

abbrev bytes : List ℕ
bytes = codes "a:" ++ 195 ∷ 169 ∷ []

read_verdict : verdict 1000 schema characters ≡ Ok (only (text_at 0 (233 ∷ [])))
unfolding verdict tokens scan run_sort is_decimal opens_too_far step go_on is_number
read_verdict = refl

is_text : IsText bytes characters
unfolding lib.Utf8.encode
is_text = record { scalars = refl; encoded = refl }

read_within : ReadsWithin 1000 schema characters (only (text_at 0 (233 ∷ [])))
read_within = subst (IsVerdict 1000 schema characters) read_verdict (verdict_is 1000 schema characters)

pub bytes_read : BytesRead 1000 schema bytes (only (text_at 0 (233 ∷ [])))
bytes_read = record { characters = characters; text = is_text; reads = read_within }

pub also_read : Reads schema bytes (only (text_at 0 (233 ∷ [])))
also_read = record { characters = characters; scalars = refl; encoded = is_text.encoded; reads = read_within.reads }

-- a name that is no field's, behind é: places count characters
abbrev refused_characters : List ℕ
refused_characters = codes "a:" ++ 233 ∷ codes " AND zz:x"

abbrev refused_bytes : List ℕ
refused_bytes = codes "a:" ++ 195 ∷ 169 ∷ codes " AND zz:x"

refusing_verdict : verdict 1000 schema refused_characters ≡ refused 132 1 9
unfolding verdict tokens scan run_sort is_decimal opens_too_far step go_on is_number
refusing_verdict = refl

refused_is_text : IsText refused_bytes refused_characters
unfolding lib.Utf8.encode
refused_is_text = record { scalars = refl; encoded = refl }

pub bytes_refused : BytesRefused 1000 schema refused_bytes (record { code = 132; place = record { line = 1; column = 9 } })
bytes_refused =
    no_query refused_characters refused_is_text
    (subst (IsVerdict 1000 schema refused_characters) refusing_verdict (verdict_is 1000 schema refused_characters))
