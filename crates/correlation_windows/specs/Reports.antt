-- The reports of an event behind a history.
use Rattle.std.specs.Prelude.{ℕ, ◌+◌, if◌then◌else◌, List, [], ◌∷◌, ◌++◌}
use Rattle.correlation_windows.specs.History.{Taken, Grouped, event_matches, matches_of}
use Rattle.correlation_windows.specs.Windows.{window, fires, number_of}
use Rattle.correlation_windows.specs.declared.matches.Match.{Match}
use Rattle.correlation_windows.specs.declared.bound.Bound.{Bound}
use Rattle.correlation_windows.specs.declared.report.Report.{Report}

-- the line of a window's first match
abbrev pub first_line : List Match → ℕ
first_line [] = 0
first_line (m ∷ ms) = m.line

-- the report of a match with this window, if the correlation of this number fires in it
abbrev pub report_of : ℕ → Bound → List Match → Grouped → List Report
report_of number b w m =
    if fires b.kind b.rules b.condition w
    then record { correlation = number; line = m.1.line; from = first_line w; count = number_of b.kind w; group = m.0 } ∷ []
    else []

-- the reports of matches that come behind these, one match after the other
abbrev pub reports_after : ℕ → Bound → List Grouped → List Grouped → List Report
reports_after number b before [] = []
reports_after number b before (m ∷ ms) = report_of number b (window b.span before m) m ++ reports_after number b (before ++ m ∷ []) ms

-- the reports of the next event, by correlation, which are numbered from here, and then by match
abbrev pub reports_from : ℕ → List Bound → List Taken → Taken → List Report
reports_from number [] history next = []
reports_from number (b ∷ bs) history next = reports_after number b (matches_of b history) (event_matches b next) ++ reports_from (number + 1) bs history next

abbrev pub reports : List Bound → List Taken → Taken → List Report
reports bounds history next = reports_from 0 bounds history next
