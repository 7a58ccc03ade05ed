-- Queries with the events that they select, reckoned by hand: 1 where the event is selected, 0 where it isn't, 2 for a refused text.
use Rattle.std.proofs.Common.{ℕ, ◌≡◌, refl, Bool, true, false, List, [], ◌∷◌, codes, map}
use Rattle.std.specs.Prelude.{Result, Ok, Err, pos, negsuc}
use Rattle.std.specs.Fmt.{digits}
use Rattle.event_schema.specs.declared.value.Value.{Value}
use Rattle.event_schema.specs.declared.value.Value.TheVariants as values
use Rattle.query_tokens.specs.Places.{CodeAt}
use Rattle.lucene_lang.specs.Query.{Group}
use Rattle.lucene_lang.specs.Meaning.{selects, term_fits}
use Rattle.lucene_lang.specs.Tokens.{tokens, scan, run_sort, is_decimal}
use Rattle.lucene_lang.specs.Faults.{is_number}
use Rattle.lucene_lang.specs.Reading.{opens_too_far}
use Rattle.lucene_lang.specs.Machine.{step, go_on}
use Rattle.lucene_lang.specs.Verdict.{verdict}
use Rattle.lucene_lang.proofs.Examples.{schema}

abbrev if_so : Bool → ℕ
if_so true = 1
if_so false = 0

abbrev selected_by : List (List Value) → Result Group CodeAt → ℕ
selected_by row (Ok g) = if_so (selects row g)
selected_by row (Err f) = 2

abbrev is_selected : List (List Value) → List ℕ → ℕ
is_selected row text = selected_by row (verdict 1000 schema text)

abbrev text : List ℕ → Value
text cs = values.Text cs

-- a is CMD.exe, b is Xy and z, n is 5 and 9, and the other fields have no value
abbrev row : List (List Value)
row =
    (text (codes "CMD.exe") ∷ []) ∷ (text (codes "Xy") ∷ text (codes "z") ∷ []) ∷ (values.Whole (pos 5) ∷ values.Whole (pos 9) ∷ [])
    ∷ [] ∷ [] ∷ [] ∷ [] ∷ [] ∷ []

abbrev no_values : List (List Value)
no_values = [] ∷ [] ∷ [] ∷ [] ∷ [] ∷ [] ∷ [] ∷ [] ∷ []

-- a has these values, and the other fields none
abbrev only_a : List Value → List (List Value)
only_a vs = vs ∷ [] ∷ [] ∷ [] ∷ [] ∷ [] ∷ [] ∷ [] ∷ []

abbrev pub event_cases : List (ℕ × ℕ)
event_cases =
    (is_selected row (codes "a:cmd.exe"), 1)
    ∷ (is_selected row (codes "a:CMD.EXE"), 1)
    ∷ (is_selected row (codes "a:cmd"), 0)
    ∷ (is_selected row (codes "a:md.exe"), 0)
    ∷ (is_selected row (codes "a:cmd*"), 1)
    ∷ (is_selected row (codes "a:*EXE"), 1)
    ∷ (is_selected row (codes "a:*d*e*"), 1)
    ∷ (is_selected row (codes "a:*d*x"), 0)
    ∷ (is_selected row (codes "a:c?d.exe"), 1)
    ∷ (is_selected row (codes "a:?md.exe?"), 0)
    ∷ (is_selected row (codes "a:?"), 0)
    ∷ (is_selected row (codes "a:*"), 1)
    ∷ (is_selected row (codes "ip:*"), 0)
    ∷ (is_selected row (codes "ip:\"x\""), 0)
    ∷ (is_selected row (codes "a:\"Cmd.exe\""), 1)
    ∷ (is_selected row (codes "a:\"cmd*\""), 0)
    ∷ (is_selected row (codes "a:\"cmd\""), 0)
    ∷ (is_selected row (codes "b.cased:Xy"), 1)
    ∷ (is_selected row (codes "b.cased:xy"), 0)
    ∷ (is_selected row (codes "b:xY"), 1)
    ∷ (is_selected row (codes "b.cased:X*"), 1)
    ∷ (is_selected row (codes "b.cased:x*"), 0)
    ∷ (is_selected row (codes "b.cased:\"Xy\""), 1)
    ∷ (is_selected row (codes "b.cased:\"xy\""), 0)
    ∷ (is_selected row (codes "b:\"xY\""), 1)
    ∷ (is_selected row (codes "b:z"), 1)
    ∷ (is_selected row (codes "b.cased:z"), 1)
    ∷ (is_selected row (codes "b:y"), 0)
    ∷ (is_selected row (codes "b:xy AND b:z"), 1)
    ∷ (is_selected row (codes "b:xyz"), 0)
    ∷ (is_selected row (codes "b.cased:*"), 1)
    ∷ (is_selected row (codes "n:5"), 1)
    ∷ (is_selected row (codes "n:9"), 1)
    ∷ (is_selected row (codes "n:6"), 0)
    ∷ (is_selected row (codes "n:*"), 1)
    ∷ (is_selected row (codes "n:[5 TO 5]"), 1)
    ∷ (is_selected row (codes "n:{5 TO 9}"), 0)
    ∷ (is_selected row (codes "n:{5 TO 9]"), 1)
    ∷ (is_selected row (codes "n:[5 TO 9}"), 1)
    ∷ (is_selected row (codes "n:[6 TO 8]"), 0)
    ∷ (is_selected row (codes "n:[* TO 4]"), 0)
    ∷ (is_selected row (codes "n:[* TO 5]"), 1)
    ∷ (is_selected row (codes "n:[* TO 5}"), 0)
    ∷ (is_selected row (codes "n:[10 TO *]"), 0)
    ∷ (is_selected row (codes "n:{8 TO *]"), 1)
    ∷ (is_selected row (codes "n:{9 TO *]"), 0)
    ∷ (is_selected row (codes "n:[9 TO *]"), 1)
    ∷ (is_selected row (codes "n:{* TO *}"), 1)
    ∷ (is_selected row (codes "n:[-7 TO -5]"), 0)
    ∷ (is_selected row (codes "n:[9 TO 5]"), 0)
    ∷ (is_selected row (codes "(NOT a:x)"), 0)
    ∷ (is_selected row (codes "NOT a:x"), 0)
    ∷ (is_selected row (codes "(*:* AND NOT a:x)"), 1)
    ∷ (is_selected row (codes "*:* AND NOT a:cmd.exe"), 0)
    ∷ (is_selected row (codes "*:*"), 1)
    ∷ (is_selected row (codes "*:* AND NOT *:*"), 0)
    ∷ (is_selected row (codes "NOT a:x AND NOT b:w"), 0)
    ∷ (is_selected row (codes "NOT a:x OR NOT b:w"), 0)
    ∷ (is_selected row (codes "a:x OR NOT b:w"), 0)
    ∷ (is_selected row (codes "a:x OR (*:* AND NOT b:w)"), 1)
    ∷ (is_selected row (codes "a:cmd.exe OR NOT b:z"), 0)
    ∷ (is_selected row (codes "a:cmd.exe OR NOT b:w"), 1)
    ∷ (is_selected row (codes "NOT b:w OR a:cmd.exe"), 1)
    ∷ (is_selected row (codes "a:x OR b:z"), 1)
    ∷ (is_selected row (codes "b:z OR a:x"), 1)
    ∷ (is_selected row (codes "a:x OR b:w"), 0)
    ∷ (is_selected row (codes "a:cmd.exe AND b:w"), 0)
    ∷ (is_selected row (codes "b:w AND a:cmd.exe"), 0)
    ∷ (is_selected row (codes "a:cmd.exe AND b:z AND n:5"), 1)
    ∷ (is_selected row (codes "a:cmd.exe AND NOT b:w"), 1)
    ∷ (is_selected row (codes "a:cmd.exe AND NOT b:z"), 0)
    ∷ (is_selected row (codes "NOT b:z AND a:cmd.exe"), 0)
    ∷ (is_selected row (codes "NOT (NOT a:x) OR a:cmd.exe"), 1)
    ∷ (is_selected row (codes "NOT (NOT a:x)"), 0)
    ∷ (is_selected row (codes "*:* AND NOT (NOT a:cmd.exe)"), 1)
    ∷ (is_selected row (codes "*:* AND NOT (a:x OR b:z)"), 0)
    ∷ (is_selected row (codes "(a:x OR b:z) AND n:5"), 1)
    ∷ (is_selected row (codes "a:x AND b:z OR n:5"), 2)
    ∷ []

abbrev pub no_value_cases : List (ℕ × ℕ)
no_value_cases =
    (is_selected no_values (codes "(NOT Image:x)"), 0)
    ∷ (is_selected no_values (codes "(*:* AND NOT Image:x)"), 1)
    ∷ (is_selected no_values (codes "*:* AND NOT Image:cmd.exe"), 1)
    ∷ (is_selected no_values (codes "(a:1 OR (*:* AND NOT b:2))"), 1)
    ∷ (is_selected no_values (codes "a:1 OR NOT b:2"), 0)
    ∷ (is_selected no_values (codes "(*:* AND NOT *:*)"), 0)
    ∷ (is_selected no_values (codes "a:*"), 0)
    ∷ (is_selected no_values (codes "a:* AND NOT a:?*"), 0)
    ∷ (is_selected no_values (codes "n:[* TO *]"), 0)
    ∷ (is_selected no_values (codes "*:*"), 1)
    ∷ []

-- n is -3
abbrev negative_row : List (List Value)
negative_row = [] ∷ [] ∷ (values.Whole (negsuc 2) ∷ []) ∷ [] ∷ [] ∷ [] ∷ [] ∷ [] ∷ [] ∷ []

-- src is an address
abbrev address_row : List (List Value)
address_row = [] ∷ [] ∷ [] ∷ [] ∷ [] ∷ [] ∷ [] ∷ [] ∷ (text (codes "FE80::1") ∷ []) ∷ []

-- numbers below 0, and the twin of a field of addresses
abbrev kind_cases : List (ℕ × ℕ)
kind_cases =
    (is_selected negative_row (codes "n:\\-3"), 1)
    ∷ (is_selected negative_row (codes "n:3"), 0)
    ∷ (is_selected negative_row (codes "n:[-5 TO 2]"), 1)
    ∷ (is_selected negative_row (codes "n:{-3 TO *]"), 0)
    ∷ (is_selected negative_row (codes "n:[* TO -3]"), 1)
    ∷ (is_selected negative_row (codes "n:[0 TO *]"), 0)
    ∷ (is_selected address_row (codes "src.cased:\"FE80::1\""), 1)
    ∷ (is_selected address_row (codes "src.cased:\"fe80::1\""), 0)
    ∷ (is_selected address_row (codes "src:\"fe80::1\""), 1)
    ∷ []

-- the empty text, letters that aren't folded, and numbers as texts
abbrev value_cases : List (ℕ × ℕ)
value_cases =
    (is_selected (only_a (text [] ∷ [])) (codes "a:* AND NOT a:?*"), 1)
    ∷ (is_selected (only_a (text [] ∷ text (codes "x") ∷ [])) (codes "a:* AND NOT a:?*"), 0)
    ∷ (is_selected (only_a (text (codes "x") ∷ [])) (codes "a:* AND NOT a:?*"), 0)
    ∷ (is_selected (only_a (text [] ∷ [])) (codes "a:\"\""), 1)
    ∷ (is_selected (only_a (text (201 ∷ []) ∷ [])) (97 ∷ 58 ∷ 201 ∷ []), 1)
    ∷ (is_selected (only_a (text (201 ∷ []) ∷ [])) (97 ∷ 58 ∷ 233 ∷ []), 0)
    ∷ (is_selected (only_a (text (201 ∷ []) ∷ [])) (codes "a:?"), 1)
    ∷ (is_selected (only_a (text (codes "*") ∷ [])) (codes "a:\\*"), 1)
    ∷ (is_selected (only_a (text (codes "x") ∷ [])) (codes "a:\\*"), 0)
    ∷ (is_selected (only_a (text (codes "?") ∷ [])) (codes "a:\\?"), 1)
    ∷ (is_selected (only_a (text (codes "x") ∷ [])) (codes "a:\\?"), 0)
    ∷ []

pub example_event_cases : map (λ c. c.0) event_cases ≡ map (λ c. c.1) event_cases
unfolding verdict tokens scan run_sort is_decimal opens_too_far step go_on is_number term_fits digits
example_event_cases = refl

pub example_no_value_cases : map (λ c. c.0) no_value_cases ≡ map (λ c. c.1) no_value_cases
unfolding verdict tokens scan run_sort is_decimal opens_too_far step go_on is_number term_fits digits
example_no_value_cases = refl

pub example_value_cases : map (λ c. c.0) value_cases ≡ map (λ c. c.1) value_cases
unfolding verdict tokens scan run_sort is_decimal opens_too_far step go_on is_number term_fits digits
example_value_cases = refl

pub example_kind_cases : map (λ c. c.0) kind_cases ≡ map (λ c. c.1) kind_cases
unfolding verdict tokens scan run_sort is_decimal opens_too_far step go_on is_number term_fits digits
example_kind_cases = refl
