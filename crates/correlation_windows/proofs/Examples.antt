-- Reports reckoned by hand from the words of the specification: the field 0 is a user, the field 1 is what is counted.
use Rattle.std.proofs.Common.{ℕ, ◌≡◌, refl, true, false, List, [], ◌∷◌, ◌++◌, codes, Bool}
use Rattle.std.specs.Prelude.{ℤ, Some, None, pos, negsuc}
use Rattle.event_schema.specs.declared.value.Value.{Value}
use Rattle.event_schema.specs.declared.value.Value.TheVariants as values
use Rattle.correlation_windows.specs.History.{Taken}
use Rattle.correlation_windows.specs.Kept.{kept}
use Rattle.correlation_windows.specs.Reports.{reports}
use Rattle.correlation_windows.specs.Windows.{compares}
use Rattle.correlation_windows.specs.declared.matches.Match.{Match}
use Rattle.correlation_windows.specs.declared.bound.Bound.{Bound}
use Rattle.correlation_windows.specs.declared.bound.CorrelationKind.{CorrelationKind}
use Rattle.correlation_windows.specs.declared.bound.CorrelationKind.TheVariants.{EventCount, ValueCount, Temporal, TemporalOrdered}
use Rattle.correlation_windows.specs.declared.bound.Op.{Op}
use Rattle.correlation_windows.specs.declared.bound.Op.TheVariants.{Lt, Lte, Gt, Gte, Eq}
use Rattle.correlation_windows.specs.declared.report.Report.{Report}

-- the reports of events, one after the other, behind others
abbrev each : List Bound → List Taken → List Taken → List Report
each bounds done [] = []
each bounds done (e ∷ es) = reports bounds done e ++ each bounds (done ++ e ∷ []) es

abbrev all_reports : Bound → List Taken → List Report
all_reports b events = each (b ∷ []) [] events

abbrev one : List ℕ → List Value
one text = values.Text text ∷ []

-- an event that matches the first rules of these, of a user and without a counted value
abbrev event : ℕ → ℤ → List Bool → List ℕ → Taken
event line moment hits user = record { line = line; moment = moment; hits = hits; values = one user ∷ [] ∷ [] }

-- an event of one user with a value that is counted
abbrev valued : ℕ → ℤ → List ℕ → Taken
valued line moment text = record { line = line; moment = moment; hits = true ∷ []; values = one (codes "a") ∷ one text ∷ [] }

-- an event without a user
abbrev unnamed : ℕ → ℤ → Taken
unnamed line moment = record { line = line; moment = moment; hits = true ∷ []; values = [] ∷ [] ∷ [] }

-- a correlation of one rule, grouped by the user, over a minute
abbrev counts : CorrelationKind → List (Op × ℕ) → Bound
counts kind condition = record { kind = kind; rules = 0 ∷ []; groups = (0 ∷ []) ∷ []; span = pos 60000000000; condition = condition; counted = Some 1 }

-- one of several rules, grouped by the user, over a minute
abbrev relates : CorrelationKind → List ℕ → List (List ℕ) → Bound
relates kind rules groups = record { kind = kind; rules = rules; groups = groups; span = pos 60000000000; condition = []; counted = None }

abbrev report : ℕ → ℕ → ℕ → List ℕ → Report
report line from count user = record { correlation = 0; line = line; from = from; count = count; group = user ∷ [] }

-- three of a user within a minute: the match at 0 isn't in the window of 60, and both matches at 60 are in that of the second
burst : all_reports (counts EventCount ((Gte, 3) ∷ [])) (event 1 (pos 0) (true ∷ []) (codes "a") ∷ event 2 (pos 10000000000) (true ∷ []) (codes "a") ∷ event 3 (pos 60000000000) (true ∷ []) (codes "a") ∷ event 4 (pos 60000000000) (true ∷ []) (codes "a") ∷ event 5 (pos 61000000000) (true ∷ []) (codes "a") ∷ []) ≡ (report 4 2 3 (codes "a") ∷ report 5 2 4 (codes "a") ∷ [])
burst = refl

-- a match at exactly a span before isn't counted, one a nanosecond later is, and so is the match itself
edges : all_reports (counts EventCount ((Gte, 1) ∷ [])) (event 1 (pos 0) (true ∷ []) (codes "a") ∷ event 2 (pos 1) (true ∷ []) (codes "a") ∷ event 3 (pos 60000000000) (true ∷ []) (codes "a") ∷ []) ≡ (report 1 1 1 (codes "a") ∷ report 2 1 2 (codes "a") ∷ report 3 2 2 (codes "a") ∷ [])
edges = refl

-- moments before 1970
before_1970 : all_reports (counts EventCount ((Eq, 2) ∷ [])) (event 1 (negsuc 60000000000) (true ∷ []) (codes "a") ∷ event 2 (negsuc 59999999999) (true ∷ []) (codes "a") ∷ event 3 (pos 0) (true ∷ []) (codes "a") ∷ []) ≡ (report 2 1 2 (codes "a") ∷ [])
before_1970 = refl

-- a match that is later than another isn't in its window
not_later : all_reports (counts EventCount ((Gte, 2) ∷ [])) (event 1 (pos 30000000000) (true ∷ []) (codes "a") ∷ event 2 (pos 20000000000) (true ∷ []) (codes "a") ∷ event 3 (pos 30000000000) (true ∷ []) (codes "a") ∷ []) ≡ (report 3 1 3 (codes "a") ∷ [])
not_later = refl

-- users are compared exactly, an event that doesn't match the rule makes no match, and one without a user is passed over
groups : all_reports (counts EventCount ((Gt, 1) ∷ [])) (event 1 (pos 0) (true ∷ []) (codes "a") ∷ event 2 (pos 1000000000) (true ∷ []) (codes "A") ∷ event 3 (pos 2000000000) (false ∷ []) (codes "a") ∷ unnamed 4 (pos 3000000000) ∷ event 5 (pos 4000000000) (true ∷ []) (codes "A") ∷ event 6 (pos 5000000000) (true ∷ []) (codes "a") ∷ event 7 (pos 6000000000) [] (codes "a") ∷ []) ≡ (report 5 2 2 (codes "A") ∷ report 6 1 2 (codes "a") ∷ [])
groups = refl

-- without group fields all matches are of one group, also those without a user
ungrouped : all_reports (record { kind = EventCount; rules = 0 ∷ []; groups = [] ∷ []; span = pos 60000000000; condition = (Gte, 2) ∷ []; counted = None }) (event 1 (pos 0) (true ∷ []) (codes "a") ∷ unnamed 2 (pos 0) ∷ []) ≡ (record { correlation = 0; line = 2; from = 1; count = 2; group = [] } ∷ [])
ungrouped = refl

-- the tests of a condition must all hold
several_tests : all_reports (counts EventCount ((Gt, 1) ∷ (Lt, 3) ∷ [])) (event 1 (pos 0) (true ∷ []) (codes "a") ∷ event 2 (pos 0) (true ∷ []) (codes "a") ∷ event 3 (pos 0) (true ∷ []) (codes "a") ∷ []) ≡ (report 2 1 2 (codes "a") ∷ [])
several_tests = refl

-- different texts are counted, and events without a value aren't
counted : all_reports (counts ValueCount ((Gte, 2) ∷ [])) (valued 1 (pos 0) (codes "x") ∷ valued 2 (pos 1000000000) (codes "x") ∷ event 3 (pos 2000000000) (true ∷ []) (codes "a") ∷ valued 4 (pos 3000000000) (codes "y") ∷ valued 5 (pos 4000000000) (codes "x") ∷ valued 6 (pos 62000000000) (codes "X") ∷ []) ≡ (report 4 1 2 (codes "a") ∷ report 5 1 2 (codes "a") ∷ report 6 4 3 (codes "a") ∷ [])
counted = refl

-- a window without a value counts none
no_values : all_reports (counts ValueCount ((Lt, 1) ∷ [])) (event 1 (pos 0) (true ∷ []) (codes "a") ∷ valued 2 (pos 1000000000) (codes "x") ∷ event 3 (pos 2000000000) (true ∷ []) (codes "a") ∷ event 4 (pos 61000000000) (true ∷ []) (codes "a") ∷ []) ≡ (report 1 1 0 (codes "a") ∷ report 4 3 0 (codes "a") ∷ [])
no_values = refl

-- an event that matches both rules, in their order, is reported once
both_rules : all_reports (relates TemporalOrdered (0 ∷ 1 ∷ []) ((0 ∷ []) ∷ (0 ∷ []) ∷ [])) (event 1 (pos 0) (true ∷ true ∷ []) (codes "a") ∷ []) ≡ (report 1 1 2 (codes "a") ∷ [])
both_rules = refl

-- `temporal` asks that each listed rule is met, in any order
any_order : all_reports (relates Temporal (0 ∷ 1 ∷ []) ((0 ∷ []) ∷ (0 ∷ []) ∷ [])) (event 1 (pos 0) (false ∷ true ∷ []) (codes "a") ∷ event 2 (pos 1000000000) (false ∷ true ∷ []) (codes "a") ∷ event 3 (pos 2000000000) (true ∷ false ∷ []) (codes "b") ∷ event 4 (pos 3000000000) (true ∷ false ∷ []) (codes "a") ∷ event 5 (pos 63000000000) (false ∷ true ∷ []) (codes "a") ∷ []) ≡ (report 4 1 3 (codes "a") ∷ [])
any_order = refl

-- `temporal_ordered` asks for their order, and that the last rule is met by the match itself; others may stand between
in_order : all_reports (relates TemporalOrdered (0 ∷ 1 ∷ []) ((0 ∷ []) ∷ (0 ∷ []) ∷ [])) (event 1 (pos 0) (false ∷ true ∷ []) (codes "a") ∷ event 2 (pos 1000000000) (true ∷ false ∷ []) (codes "a") ∷ event 3 (pos 2000000000) (true ∷ false ∷ []) (codes "a") ∷ event 4 (pos 3000000000) (false ∷ true ∷ []) (codes "a") ∷ event 5 (pos 4000000000) (true ∷ false ∷ []) (codes "a") ∷ event 6 (pos 5000000000) (false ∷ true ∷ []) (codes "a") ∷ event 7 (pos 64000000000) (false ∷ true ∷ []) (codes "a") ∷ []) ≡ (report 4 1 4 (codes "a") ∷ report 6 1 6 (codes "a") ∷ [])
in_order = refl

-- two listed texts that stand for the same rule are two listed rules: one event makes two matches, and meets both
listed_twice : all_reports (relates Temporal (0 ∷ 0 ∷ []) ((0 ∷ []) ∷ (0 ∷ []) ∷ [])) (event 1 (pos 0) (true ∷ []) (codes "a") ∷ event 2 (pos 1000000000) (true ∷ []) (codes "a") ∷ []) ≡ (report 1 1 2 (codes "a") ∷ report 2 1 3 (codes "a") ∷ report 2 1 4 (codes "a") ∷ [])
listed_twice = refl

-- a b a in order, where the first and the third text stand for the same rule
rules_repeat : all_reports (relates TemporalOrdered (0 ∷ 1 ∷ 0 ∷ []) ((0 ∷ []) ∷ (0 ∷ []) ∷ (0 ∷ []) ∷ [])) (event 1 (pos 0) (true ∷ false ∷ []) (codes "a") ∷ event 2 (pos 1000000000) (true ∷ false ∷ []) (codes "a") ∷ event 3 (pos 2000000000) (false ∷ true ∷ []) (codes "a") ∷ event 4 (pos 3000000000) (true ∷ false ∷ []) (codes "a") ∷ []) ≡ (report 4 1 7 (codes "a") ∷ [])
rules_repeat = refl

-- rules that group by fields of their own
other_group : all_reports (relates Temporal (0 ∷ 1 ∷ []) ((0 ∷ []) ∷ (1 ∷ []) ∷ [])) (record { line = 1; moment = pos 0; hits = true ∷ false ∷ []; values = one (codes "a") ∷ one (codes "b") ∷ [] } ∷ record { line = 2; moment = pos 0; hits = false ∷ true ∷ []; values = one (codes "b") ∷ one (codes "a") ∷ [] } ∷ record { line = 3; moment = pos 0; hits = false ∷ true ∷ []; values = one (codes "a") ∷ one (codes "c") ∷ [] } ∷ []) ≡ (report 2 1 2 (codes "a") ∷ [])
other_group = refl

-- of the burst's five matches four are kept after the fifth event, and none after one at 200 that matches nothing
abbrev lines : List (List (List ℕ) × Match) → List ℕ
lines [] = []
lines (m ∷ ms) = m.1.line ∷ lines ms

burst_keeps : lines (kept (counts EventCount ((Gte, 3) ∷ [])) (event 1 (pos 0) (true ∷ []) (codes "a") ∷ event 2 (pos 10000000000) (true ∷ []) (codes "a") ∷ event 3 (pos 60000000000) (true ∷ []) (codes "a") ∷ event 4 (pos 60000000000) (true ∷ []) (codes "a") ∷ event 5 (pos 61000000000) (true ∷ []) (codes "a") ∷ [])) ≡ (2 ∷ 3 ∷ 4 ∷ 5 ∷ [])
burst_keeps = refl

burst_drops : lines (kept (counts EventCount ((Gte, 3) ∷ [])) (event 1 (pos 0) (true ∷ []) (codes "a") ∷ event 2 (pos 10000000000) (true ∷ []) (codes "a") ∷ event 3 (pos 60000000000) (true ∷ []) (codes "a") ∷ event 4 (pos 60000000000) (true ∷ []) (codes "a") ∷ event 5 (pos 61000000000) (true ∷ []) (codes "a") ∷ event 6 (pos 200000000000) (false ∷ []) (codes "a") ∷ [])) ≡ []
burst_drops = refl

-- two correlations of one event: by correlation
by_correlation : reports (counts EventCount ((Gte, 1) ∷ []) ∷ counts ValueCount ((Eq, 0) ∷ []) ∷ []) [] (event 9 (pos 0) (true ∷ []) (codes "a"))
    ≡ (report 9 9 1 (codes "a") ∷ record { correlation = 1; line = 9; from = 9; count = 0; group = codes "a" ∷ [] } ∷ [])
by_correlation = refl

-- each test below, at and above its number
tests : (compares Gt 2 3 ∷ compares Gt 3 3 ∷ compares Gt 4 3 ∷ compares Gte 2 3 ∷ compares Gte 3 3 ∷ compares Gte 4 3 ∷ compares Lt 2 3 ∷ compares Lt 3 3 ∷ compares Lt 4 3
    ∷ compares Lte 2 3 ∷ compares Lte 3 3 ∷ compares Lte 4 3 ∷ compares Eq 2 3 ∷ compares Eq 3 3 ∷ compares Eq 4 3 ∷ [])
    ≡ (false ∷ false ∷ true ∷ false ∷ true ∷ true ∷ true ∷ false ∷ false ∷ true ∷ true ∷ false ∷ false ∷ true ∷ false ∷ [])
tests = refl
