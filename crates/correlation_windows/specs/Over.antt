-- Reports from queues: what the code has of a window.
use Rattle.std.specs.Prelude.{ℕ, List, [], ◌∷◌, ◌++◌}
use Rattle.std.specs.List.{filter}
use Rattle.correlation_windows.specs.History.{Grouped}
use Rattle.correlation_windows.specs.Windows.{of_group, is_within}
use Rattle.correlation_windows.specs.Reports.{report_of}
use Rattle.correlation_windows.specs.declared.matches.Match.{Match}
use Rattle.correlation_windows.specs.declared.bound.Bound.{Bound}
use Rattle.correlation_windows.specs.declared.report.Report.{Report}

-- the reports of these matches of one event, from the queue of each group and the event's matches before them
abbrev pub reports_over : ℕ → Bound → (List (List ℕ) → List Match) → List Grouped → List Grouped → List Report
reports_over number b queue done [] = []
reports_over number b queue done (m ∷ ms) =
    report_of number b (filter (is_within b.span m.1.moment) (queue m.0 ++ of_group m.0 (done ++ m ∷ []))) m ++ reports_over number b queue (done ++ m ∷ []) ms

-- the same where the queues have no match that the timespan doesn't reach: a queue is the window once the match has come
abbrev pub reports_on : ℕ → Bound → (List (List ℕ) → List Match) → List Grouped → List Grouped → List Report
reports_on number b queue done [] = []
reports_on number b queue done (m ∷ ms) = report_of number b (queue m.0 ++ of_group m.0 (done ++ m ∷ [])) m ++ reports_on number b queue (done ++ m ∷ []) ms
