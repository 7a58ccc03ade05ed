-- What answering a line leaves.
use Rattle.std.proofs.Common.{◌≡◌, ℕ, List, [], ◌∷◌, ◌++◌, refl, ap, sym, ◌∙◌, subst, Option, None, Some, Result, Ok, Err}
use Rattle.std.specs.Prelude.{ℤ, ◌<ℤ◌, Bool, OnOk}
use Rattle.answer_writer.proofs.Followed.{on_ok, follows_refused}
use Rattle.answer_writer.proofs.Wrote.{writes_as, writes_memory}
use Rattle.answer_writer.specs.Each.{AllShares}
use Rattle.answer_writer.specs.EventLines.{line_refused}
use Rattle.answer_writer.specs.Parts.{Share, diagnostic_share}
use Rattle.answer_writer.specs.Stands.{Writes}
use Rattle.answer_writer.specs.State.{State}
use Rattle.answer_writer.specs.declared.stop.Stop.{Stop}
use Rattle.answer_writer.specs.declared.stop.Stop.TheVariants.{Memory}
use Rattle.correlation_run.proofs.Followed.{takes}
use Rattle.correlation_run.specs.Followed.{Correlating, AreHits, MomentFollows, OccurrenceFollows, EventFollows, Follows, order_diagnostic, report_share, early, taken}
use Rattle.correlation_windows.specs.History.{Taken, last_moment}
use Rattle.correlation_windows.specs.Laws.{IsBehind}
use Rattle.correlation_windows.specs.Reports.{reports}
use Rattle.correlation_windows.specs.declared.report.Report.{Report}
use Rattle.event_read.specs.Answers.{Answers}
use Rattle.event_read.specs.EventOf.{event_of}
use Rattle.event_schema.specs.Occurrence.{Occurrence}
use Rattle.event_schema.specs.declared.value.Value.{Value}
use Rattle.sig_base.specs.declared.refusal.Fault.TheVariants.{Refused}
use Rattle.sig_base.specs.declared.refusal.Place.{Place}
use Rattle.sig_base.specs.declared.refusal.Refusal.{Refusal}

-- a reader's answer tells what the line is
event_answered : (place : Place) (t : Result Occurrence ℕ) (event : Occurrence) → Answers place t (Ok event) → t ≡ Ok event
event_answered place (Ok x) event a = ap (λ (y : Occurrence). Ok y) (sym a)
event_answered place (Err code) event a = absurd a

event_refused : (place : Place) (t : Result Occurrence ℕ) (r : Refusal) → Answers {X = Occurrence} place t (Err (Refused r)) → (code : ℕ) × (t ≡ Err code) × (r.code ≡ code)
event_refused place (Ok x) r a = absurd a
event_refused place (Err code) r a = (code, refl, ap (λ (x : Refusal). x.code) a)

-- ---- an event that is brought to an engine

module _ (w : Correlating) (history : List Taken) (number : ℕ) (row : List (List Value)) (moment : ℤ) (S : List Taken → Type 0) (result : Result Bool Stop) (old new : State) where
  abbrev pub Moment : Share → Type 0
  Moment share = (after : List Taken) × MomentFollows w history number row moment share after × OnOk result (S after)

  pub brought : (next : Taken) → next ≡ record { line = number; moment = moment; hits = next.hits; values = row } → IsBehind (last_moment history) moment
      → AreHits w.schema.fields w.rules row next.hits → (all : List Report) → all ≡ reports w.bounds history next → S (history ++ next ∷ [])
      → Writes (AllShares (λ r one. one ≡ report_share w.names r) all) result old new → Writes Moment result old new
  brought next is behind are all same stands wrote =
      writes_as (AllShares (λ r one. one ≡ report_share w.names r) all) Moment result old new
      (λ share lines. (
        history ++ next ∷ [],
        taken behind next.hits are next is (subst (λ (l : List Report). AllShares (λ (r : Report) (one : Share). one ≡ report_share w.names r) l share) same lines) refl,
        on_ok result (S (history ++ next ∷ [])) stands,
      )) wrote

  pub too_early : (at last : ℤ) → at ≡ moment → last_moment history ≡ Some last → moment <ℤ last → S history
      → Writes (λ share. share ≡ diagnostic_share (order_diagnostic number at last)) result old new → Writes Moment result old new
  too_early at last same is before stands wrote =
      writes_as (λ share. share ≡ diagnostic_share (order_diagnostic number at last)) Moment result old new
      (λ share told. (history, early last is before (told ∙ ap (λ (m : ℤ). diagnostic_share (order_diagnostic number m last)) same) refl, on_ok result (S history) stands)) wrote

-- where memory was missing, some answer is begun
pub untaken : (w : Correlating) (history : List Taken) (number : ℕ) (row : List (List Value)) (moment : ℤ) (S : List Taken → Type 0) (s : State) → IsBehind (last_moment history) moment
    → (hits : List Bool) → AreHits w.schema.fields w.rules row hits → Writes (Moment w history number row moment S (Err Memory) s s) (Err Memory) s s
untaken w history number row moment S s behind hits are =
    let some = takes w history number row moment behind hits are in
    writes_memory (Moment w history number row moment S (Err Memory) s s) s (some.0, (some.1, some.2, tt))

-- ---- a line

module _ (w : Correlating) (history : List Taken) (number : ℕ) (line : List ℕ) (place : Place) (S : List Taken → Type 0) (result : Result Bool Stop) (old new : State) where
  abbrev pub Answered : Share → Type 0
  Answered share = (after : List Taken) × Follows w history number line share after × OnOk result (S after)

  abbrev Event : Result Occurrence ℕ → Share → Type 0
  Event t share = (after : List Taken) × EventFollows w history number t share after × OnOk result (S after)

  abbrev Timed : List (List Value) → Option ℤ → Share → Type 0
  Timed row moment share = (after : List Taken) × OccurrenceFollows w history number row moment share after × OnOk result (S after)

  of_event : (event : Occurrence) → Answers place (event_of w.schema line) (Ok event) → (moment : Option ℤ) → event.moment ≡ moment → Writes (Timed event.values moment) result old new → Writes Answered result old new
  of_event event answers moment is wrote =
      subst (λ (t : Result Occurrence ℕ). Writes (Event t) result old new) (sym (event_answered place (event_of w.schema line) event answers))
      (subst (λ (m : Option ℤ). Writes (Timed event.values m) result old new) (sym is) wrote)

  pub event_brought : (event : Occurrence) (moment : ℤ) → Answers place (event_of w.schema line) (Ok event) → event.moment ≡ Some moment
      → Writes (Moment w history number event.values moment S result old new) result old new → Writes Answered result old new
  event_brought event moment answers is wrote = of_event event answers (Some moment) is wrote

  pub event_untimed : (event : Occurrence) → Answers place (event_of w.schema line) (Ok event) → event.moment ≡ None → S history
      → Writes (λ share. share ≡ line_refused number 29) result old new → Writes Answered result old new
  event_untimed event answers is stands wrote = of_event event answers None is (follows_refused S history number 29 result old new stands wrote)

  pub line_refuses : (r : Refusal) → Answers {X = Occurrence} place (event_of w.schema line) (Err (Refused r)) → S history → Writes (λ share. share ≡ line_refused number r.code) result old new
      → Writes Answered result old new
  line_refuses r answers stands wrote =
      let cause = event_refused place (event_of w.schema line) r answers in
      subst (λ (t : Result Occurrence ℕ). Writes (Event t) result old new) (sym cause.1)
      (follows_refused S history number cause.0 result old new stands (subst (λ (c : ℕ). Writes (λ share. share ≡ line_refused number c) result old new) cause.2 wrote))
