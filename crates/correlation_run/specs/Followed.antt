-- What the lines of the events are answered where rules are correlated (Sigma correlations specification 2.0). The history is that of the
-- events that were taken.
use Rattle.std.specs.Prelude.{◌≡◌, ◌↔◌, ℕ, ℤ, ◌<ℤ◌, Bool, IsTrue, List, [], ◌∷◌, ◌++◌, Option, None, Some, Result, Ok, Err, encode_utf8_all, slice_index_or}
use Rattle.std.specs.Fmt.{signed_decimal}
use Rattle.std.specs.List.{AllZip}
use Rattle.answer_writer.specs.Each.{AllShares}
use Rattle.answer_writer.specs.EventLines.{line_refused, refused_as}
use Rattle.answer_writer.specs.FollowedLines.{ByHistory}
use Rattle.answer_writer.specs.Parts.{Share, diagnostic_share}
use Rattle.correlation_run.specs.Lines.{report_line}
use Rattle.correlation_windows.specs.History.{Taken, last_moment}
use Rattle.correlation_windows.specs.Laws.{IsBehind}
use Rattle.correlation_windows.specs.Reports.{reports}
use Rattle.correlation_windows.specs.declared.bound.Bound.{Bound}
use Rattle.correlation_windows.specs.declared.report.Report.{Report}
use Rattle.event_read.specs.EventOf.{event_of}
use Rattle.event_schema.specs.Occurrence.{Occurrence}
use Rattle.event_schema.specs.declared.schema.Field.{Field}
use Rattle.event_schema.specs.declared.schema.Schema.{Schema}
use Rattle.event_schema.specs.declared.value.Value.{Value}
use Rattle.rule_model.specs.Matching.{Matches}
use Rattle.rule_model.specs.Plain.{PlainRule}
use Rattle.answer_writer.specs.Selected.{line_share}
use Rattle.sig_base.specs.Codes.{code_name}

-- what is correlated: events of a schema, by rules, in bound correlations, whose reports go by these names
pub record Correlating : Type 0 where
  pub schema : Schema
  pub rules : List PlainRule
  pub bounds : List Bound
  pub names : List (List ℕ)

-- the line of a report, by the name of its correlation
abbrev pub report_share : List (List ℕ) → Report → Share
report_share names r = line_share (report_line (encode_utf8_all (slice_index_or names r.correlation [])) r)

-- whether each of the rules matches an event of these values
abbrev pub AreHits : List Field → List PlainRule → List (List Value) → List Bool → Type 0
AreHits fields rules row hits = AllZip (λ rule hit. IsTrue hit ↔ Matches fields row rule) rules hits

-- a cause's name, and both moments in nanoseconds, with a space before each
abbrev pub with_moments : List ℕ → ℤ → ℤ → List ℕ
with_moments name moment last = name ++ (32 ∷ (signed_decimal moment ++ (32 ∷ signed_decimal last)))

-- `events:LINE: 145 OutOfOrder`, and both moments
abbrev pub order_diagnostic : ℕ → ℤ → ℤ → List ℕ
order_diagnostic number moment last = refused_as number 145 (with_moments (code_name 145) moment last)

-- An event with a moment: it's refused where that is before the last moment that was taken, and else taken, with the reports that follow.
-- Behind the history there is then this event.
pub data MomentFollows (w : Correlating) (history : List Taken) (number : ℕ) (row : List (List Value)) (moment : ℤ) (share : Share) (after : List Taken) : Type 0 where
  early : (last : ℤ) → last_moment history ≡ Some last → moment <ℤ last → share ≡ diagnostic_share (order_diagnostic number moment last) → after ≡ history
      → MomentFollows w history number row moment share after
  taken : IsBehind (last_moment history) moment → (hits : List Bool) → AreHits w.schema.fields w.rules row hits → (next : Taken)
      → next ≡ record { line = number; moment = moment; hits = hits; values = row }
      → AllShares (λ r one. one ≡ report_share w.names r) (reports w.bounds history next) share → after ≡ history ++ next ∷ []
      → MomentFollows w history number row moment share after

-- an event without a moment is refused 29, and not taken
abbrev pub OccurrenceFollows : Correlating → List Taken → ℕ → List (List Value) → Option ℤ → Share → List Taken → Type 0
OccurrenceFollows w history number row None share after = (share ≡ line_refused number 29) × (after ≡ history)
OccurrenceFollows w history number row (Some moment) share after = MomentFollows w history number row moment share after

-- a line that is no event of the schema is refused, and nothing is taken
abbrev pub EventFollows : Correlating → List Taken → ℕ → Result Occurrence ℕ → Share → List Taken → Type 0
EventFollows w history number (Ok event) share after = OccurrenceFollows w history number event.values event.moment share after
EventFollows w history number (Err code) share after = (share ≡ line_refused number code) × (after ≡ history)

-- what a line is answered, and the history behind it
abbrev pub Follows : Correlating → ByHistory (List Taken)
Follows w history number line share after = EventFollows w history number (event_of w.schema line) share after
