use Rattle.std.proofs.Common.{rules, refl, ap, sym, subst, ◌∙◌, ◌≡◌, ◌++◌, [], List, ℕ, FitsSigned}
use Rattle.std.proofs.lemmas.Int.{to_z-of_z}
use Rattle.std.specs.Int.{w128}
use Rattle.std.specs.Prelude.{ℤ, ◌-ℤ◌}
use Rattle.correlation_windows.specs.History.{Grouped, event_matches}
use Rattle.correlation_windows.specs.Laws.{recent}
use Rattle.correlation_windows.specs.Over.{reports_over}
use Rattle.correlation_windows.specs.Queues.{Entries, held}
use Rattle.correlation_windows.specs.Ready.{HasRoom, grouped}
use Rattle.correlation_windows.specs.declared.found.Found.{Found}
use Rattle.correlation_windows.specs.Windows.{of_group}
use Rattle.correlation_windows.proofs.Following.{follows, until_advanced}
use Rattle.correlation_windows.proofs.Windowing.{goes}
use Rattle.correlation_engine.specs.Arrivals.{taken}
use Rattle.correlation_engine.proofs.Spanning.{behind, same_moment}
use Rattle.correlation_engine.proofs.Stepping.{found_at, until_later}
use Rattle.correlation_engine.proofs.Timely.{in_time_advanced}
use Rattle.correlation_engine.proofs.watch.advance.Goals as goal

held_matches : (a after : ℤ) (old new : Entries) (founds : List Found) (ms : List Grouped) → a ≡ after → grouped founds ≡ ms → ((g : List (List ℕ)) → held new g ≡ recent a (held old g ++ of_group g (grouped founds)))
    → (g : List (List ℕ)) → held new g ≡ recent after (held old g ++ of_group g ms)
held_matches a after old new founds ms is same holds g = subst (λ (b : ℤ). held new g ≡ recent b (held old g ++ of_group g ms)) is (subst (λ (l : List Grouped). held new g ≡ recent a (held old g ++ of_group g l)) same (holds g))

pub advance-requires-clause-next : goal.advance-requires-clause-next
advance-requires-clause-next c =
    follows c.args.watch.now.queues.entries c.args.founds.items c.args.arrival.now.moment c.args.arrival.now.moment
    (found_at c.args.watch.now.bound (taken c.args.arrival.now) c.args.founds.items c.requires.prepared.matches) c.requires.timely.until (same_moment c.args.arrival.now.moment)

pub advance-requires-clause-room : goal.advance-requires-clause-room
advance-requires-clause-room c =
    let fits : FitsSigned w128 c.reached_from-after.result = search rules in
    subst (λ (a : ℤ). HasRoom a c.args.watch.now.queues c.args.founds.items) (sym (to_z-of_z w128 c.reached_from-after.result fits ∙ c.reached_from-after.ensures)) c.requires.prepared.room

pub returns-clause-advanced : goal.returns-clause-advanced
returns-clause-advanced c =
    let fits : FitsSigned w128 c.reached_from-after.result = search rules in
    let is = to_z-of_z w128 c.reached_from-after.result fits ∙ c.reached_from-after.ensures in
    let at = found_at c.args.watch.now.bound (taken c.args.arrival.now) c.args.founds.items c.requires.prepared.matches in
    let holds = c.advance.ensures.held c.args.arrival.now.moment at (behind _ c.args.arrival.now.moment c.args.watch.now.bound.span is c.requires.timely.limits.positive) in
    record {
      bound = refl;
      fit = record { kind = c.advance.ensures.kind ∙ c.requires.timely.fit.kind; rules = c.advance.ensures.rules ∙ c.requires.timely.fit.rules };
      holds = λ history before so.
          goes c.args.watch.now.bound history (taken c.args.arrival.now) (held c.args.watch.now.queues.entries) (held c.advance.new.self.entries) before so
          (held_matches _ (c.args.arrival.now.moment -ℤ c.args.watch.now.bound.span) c.args.watch.now.queues.entries c.advance.new.self.entries c.args.founds.items (event_matches c.args.watch.now.bound (taken c.args.arrival.now)) is c.requires.prepared.matches holds);
      in_time = in_time_advanced c.args.arrival.now.moment _ c.args.watch.now.queues.entries c.advance.new.self.entries c.args.founds.items holds at c.requires.timely.until c.requires.timely.in_time;
      until = λ t le g.
          until_later c.args.arrival.now.moment t le (held c.advance.new.self.entries g)
          (until_advanced c.args.arrival.now.moment c.args.arrival.now.moment _ c.args.watch.now.queues.entries c.advance.new.self.entries c.args.founds.items holds at c.requires.timely.until (same_moment c.args.arrival.now.moment) g);
    }

pub returns-clause-reports : goal.returns-clause-reports
returns-clause-reports c =
    let fits : FitsSigned w128 c.reached_from-after.result = search rules in
    let is = to_z-of_z w128 c.reached_from-after.result fits ∙ c.reached_from-after.ensures in
    let at = found_at c.args.watch.now.bound (taken c.args.arrival.now) c.args.founds.items c.requires.prepared.matches in
    c.advance.ensures.reports c.args.arrival.now.moment at c.requires.timely.until is (behind _ c.args.arrival.now.moment c.args.watch.now.bound.span is c.requires.timely.limits.positive)
    ∙ ap (λ (ms : List Grouped). c.args.reports.now.items ++ reports_over c.args.number c.args.watch.now.bound (held c.args.watch.now.queues.entries) [] ms) c.requires.prepared.matches
