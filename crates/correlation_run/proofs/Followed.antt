-- That each line is answered behind each history, and in one way.
use Rattle.std.proofs.Common.{◌≡◌, ℕ, List, [], ◌∷◌, ◌++◌, refl, ap, sym, ◌∙◌, subst, Option, None, Some, Result, Ok, Err}
use Rattle.std.proofs.lemmas.Int.{by_lt_z}
use Rattle.std.specs.Int.Signed.{clash_ℤ}
use Rattle.std.specs.Prelude.{ℤ, pos, ◌<ℤ◌, ◌⊎◌, Bool}
use Rattle.answer_writer.proofs.Rows.{each_all, all_one}
use Rattle.answer_writer.specs.Each.{AllShares}
use Rattle.answer_writer.specs.EventLines.{line_refused}
use Rattle.answer_writer.specs.Parts.{Share, diagnostic_share}
use Rattle.correlation_run.proofs.Judged.{says_each, says_one}
use Rattle.correlation_run.specs.Followed.{Correlating, AreHits, MomentFollows, OccurrenceFollows, EventFollows, order_diagnostic, report_share, early, taken}
use Rattle.correlation_run.specs.Laws.{EachFollowed, OneFollowed}
use Rattle.correlation_windows.specs.History.{Taken, last_moment}
use Rattle.correlation_windows.specs.Laws.{IsBehind}
use Rattle.correlation_windows.specs.Reports.{reports}
use Rattle.correlation_windows.specs.declared.report.Report.{Report}
use Rattle.event_read.specs.EventOf.{event_of}
use Rattle.event_schema.specs.Occurrence.{Occurrence}
use Rattle.event_schema.specs.declared.schema.Field.{Field}
use Rattle.event_schema.specs.declared.value.Value.{Value}
use Rattle.rule_model.specs.Matching.{Matches}
use Rattle.rule_model.specs.Plain.{PlainRule}

-- a rule matches an event, or it doesn't
abbrev pub MatchesOrNot : Type 0
MatchesOrNot = (fields : List Field) (row : List (List Value)) (rule : PlainRule) → Matches fields row rule ⊎ (Matches fields row rule → ⊥)

-- the lines of reports
abbrev Lines : Correlating → List Report → Share → Type 0
Lines w all share = AllShares (λ r one. one ≡ report_share w.names r) all share

pub each_lines : (w : Correlating) (all : List Report) → (share : Share) × Lines w all share
each_lines w all = each_all (λ (r : Report) (one : Share). one ≡ report_share w.names r) (λ r. (report_share w.names r, refl)) all

one_lines : (w : Correlating) (all : List Report) (a b : Share) → Lines w all a → Lines w all b → a ≡ b
one_lines w all a b first second = all_one (λ (r : Report) (one : Share). one ≡ report_share w.names r) (λ r x y is too. is ∙ sym too) all a b first second

-- ---- some answer

module _ (w : Correlating) (history : List Taken) (number : ℕ) (row : List (List Value)) (moment : ℤ) where
  abbrev pub Answered : Type 0
  Answered = (share : Share) × (after : List Taken) × MomentFollows w history number row moment share after

  -- an event that isn't before the last moment is taken
  pub takes : IsBehind (last_moment history) moment → (hits : List Bool) → AreHits w.schema.fields w.rules row hits → Answered
  takes behind hits are =
      let next : Taken = record { line = number; moment = moment; hits = hits; values = row } in
      let s = each_lines w (reports w.bounds history next) in
      (s.0, history ++ next ∷ [], taken behind hits are next refl s.1 refl)

  each_moment : MatchesOrNot → Answered
  each_moment decided = by (last_moment history) refl
    where
      goes : IsBehind (last_moment history) moment → Answered
      goes behind =
          let h = says_each (λ rule. Matches w.schema.fields row rule) (decided w.schema.fields row) w.rules in
          takes behind h.0 h.1

      by : (last : Option ℤ) → last_moment history ≡ last → Answered
      by None is = goes (subst (λ (l : Option ℤ). IsBehind l moment) (sym is) tt)
      by (Some last) is =
          by_lt_z moment last
          (λ before. (diagnostic_share (order_diagnostic number moment last), history, early last is before refl refl))
          (λ later. goes (subst (λ (l : Option ℤ). IsBehind l moment) (sym is) later))

pub each_followed : MatchesOrNot → EachFollowed
each_followed decided w history number line = by (event_of w.schema line)
  where
    by_moment : (row : List (List Value)) (moment : Option ℤ) → (share : Share) × (after : List Taken) × OccurrenceFollows w history number row moment share after
    by_moment row None = (line_refused number 29, history, (refl, refl))
    by_moment row (Some moment) = each_moment w history number row moment decided

    by : (r : Result Occurrence ℕ) → (share : Share) × (after : List Taken) × EventFollows w history number r share after
    by (Ok event) = by_moment event.values event.moment
    by (Err code) = (line_refused number code, history, (refl, refl))

-- ---- one answer

abbrev known : Option ℤ → ℤ
known None = pos 0
known (Some moment) = moment

never_both : (last moment : ℤ) (history : List Taken) → last_moment history ≡ Some last → moment <ℤ last → IsBehind (last_moment history) moment → ⊥
never_both last moment history is before behind = clash_ℤ before (subst (λ (l : Option ℤ). IsBehind l moment) is behind)

module _ (w : Correlating) (history : List Taken) (number : ℕ) (row : List (List Value)) (moment : ℤ) (a b : Share) (x y : List Taken) where
  abbrev with_hits : List Bool → Taken
  with_hits hits = record { line = number; moment = moment; hits = hits; values = row }

  one_moment : MomentFollows w history number row moment a x → MomentFollows w history number row moment b y → (a ≡ b) × (x ≡ y)
  one_moment (early last is before share after) (early other is_too before_too share_too after_too) =
      let same : last ≡ other = ap known (sym is ∙ is_too) in
      (share ∙ (ap (λ (l : ℤ). diagnostic_share (order_diagnostic number moment l)) same ∙ sym share_too), after ∙ sym after_too)
  one_moment (early last is before share after) (taken behind hits are next is_next lines after_too) = absurd (never_both last moment history is before behind)
  one_moment (taken behind hits are next is_next lines after) (early last is before share after_too) = absurd (never_both last moment history is before behind)
  one_moment (taken behind hits are next is_next lines after) (taken behind_too others are_too other is_other lines_too after_too) =
      let same_hits : hits ≡ others = says_one (λ rule. Matches w.schema.fields row rule) w.rules hits others are are_too in
      let same : next ≡ other = is_next ∙ (ap with_hits same_hits ∙ sym is_other) in (
        one_lines w (reports w.bounds history other) a b (subst (λ (t : Taken). Lines w (reports w.bounds history t) a) same lines) lines_too,
        after ∙ (ap (λ (t : Taken). history ++ t ∷ []) same ∙ sym after_too),
      )

pub one_followed : OneFollowed
one_followed w history number line a b x y first second = by (event_of w.schema line) first second
  where
    by_moment : (row : List (List Value)) (moment : Option ℤ) → OccurrenceFollows w history number row moment a x → OccurrenceFollows w history number row moment b y → (a ≡ b) × (x ≡ y)
    by_moment row None first second = (first.0 ∙ sym second.0, first.1 ∙ sym second.1)
    by_moment row (Some moment) first second = one_moment w history number row moment a b x y first second

    by : (r : Result Occurrence ℕ) → EventFollows w history number r a x → EventFollows w history number r b y → (a ≡ b) × (x ≡ y)
    by (Ok event) first second = by_moment event.values event.moment first second
    by (Err code) first second = (first.0 ∙ sym second.0, first.1 ∙ sym second.1)
