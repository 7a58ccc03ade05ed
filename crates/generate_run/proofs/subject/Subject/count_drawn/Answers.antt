use Rattle.std.proofs.Common.{arith, ◌≡◌, ◌∙◌, ◌≤◌, ◌<◌, ◌+◌, ◌-◌, ◌^◌, ℕ, List, Bool, ap, refl, sym, subst}
use Rattle.backend_core.specs.Holds.{TreeHolds}
use Rattle.backend_core.specs.View.{tree_view}
use Rattle.generate_run.specs.Draws.{after_events}
use Rattle.generate_run.specs.Events.{events_from}
use Rattle.generate_run.proofs.Alike.{nothing_counted, more_counted, below, each_at, counts_at}
use Rattle.generate_run.specs.Lines.{AreCounts}
use Rattle.generate_run.proofs.subject.Subject.count_drawn.Goals as goal

pub loop-left-init : goal.loop-left-init
loop-left-init c =
    let x = c.args.state in
    let none : c.args.count - c.args.count ≡ 0 = omega arith in
    record {
      few = omega arith;
      state = sym (ap (after_events x) none);
      counts = nothing_counted (λ row. TreeHolds row (tree_view c.args.self.now.tree.now)) x (c.args.count - c.args.count) _ none refl refl refl;
      judges = c.requires.judges;
    }

pub count_some-requires-clause-events : goal.count_some-requires-clause-events
count_some-requires-clause-events c =
    let at = c.loop-left in
    each_at c.args.self.now.schema.now c.as_slice.result.now (events_from at.state c.some_of-some.result) c.requires.schema (c.as_slice.ensures.value ∙ c.in_ok-events.ensures.ok)
    (c.generated_events.ensures.events at.state c.some_of-some.result)

pub plus-counts-requires-clause-rule : goal.plus-counts-requires-clause-rule
plus-counts-requires-clause-rule c =
    let at = c.loop-left in
    let t = tree_view c.args.self.now.tree.now in
    let own = below (λ row. TreeHolds row t) c.args.state (c.args.count - at.left) at.counts at.invariant.counts in
    let more = below (λ row. TreeHolds row t) at.state c.some_of-some.result c.in_ok-more.more
    (counts_at t t c.as_slice.result.now (events_from at.state c.some_of-some.result) c.in_ok-more.more refl (c.as_slice.ensures.value ∙ c.in_ok-events.ensures.ok) c.in_ok-more.ensures.counts) in
    let few = at.invariant.few in
    let within = c.some_of-some.ensures.within in
    let range = c.ranges.count.fits in
    omega (arith, own.0, more.0, few, within, range)

pub plus-counts-requires-clause-sqlite : goal.plus-counts-requires-clause-sqlite
plus-counts-requires-clause-sqlite c =
    let at = c.loop-left in
    let t = tree_view c.args.self.now.tree.now in
    let own = below (λ row. TreeHolds row t) c.args.state (c.args.count - at.left) at.counts at.invariant.counts in
    let more = below (λ row. TreeHolds row t) at.state c.some_of-some.result c.in_ok-more.more
    (counts_at t t c.as_slice.result.now (events_from at.state c.some_of-some.result) c.in_ok-more.more refl (c.as_slice.ensures.value ∙ c.in_ok-events.ensures.ok) c.in_ok-more.ensures.counts) in
    let few = at.invariant.few in
    let within = c.some_of-some.ensures.within in
    let range = c.ranges.count.fits in
    omega (arith, own.1, more.1, few, within, range)

pub plus-counts-requires-clause-lucene : goal.plus-counts-requires-clause-lucene
plus-counts-requires-clause-lucene c =
    let at = c.loop-left in
    let t = tree_view c.args.self.now.tree.now in
    let own = below (λ row. TreeHolds row t) c.args.state (c.args.count - at.left) at.counts at.invariant.counts in
    let more = below (λ row. TreeHolds row t) at.state c.some_of-some.result c.in_ok-more.more
    (counts_at t t c.as_slice.result.now (events_from at.state c.some_of-some.result) c.in_ok-more.more refl (c.as_slice.ensures.value ∙ c.in_ok-events.ensures.ok) c.in_ok-more.ensures.counts) in
    let few = at.invariant.few in
    let within = c.some_of-some.ensures.within in
    let range = c.ranges.count.fits in
    omega (arith, own.2, more.2, few, within, range)

pub loop-left-preserved : goal.loop-left-preserved
loop-left-preserved c =
    let at = c.loop-left in
    let inv = at.invariant in
    let x = c.args.state in
    let t = tree_view c.args.self.now.tree.now in
    let some = c.some_of-some.result in
    let few = inv.few in
    let within = c.some_of-some.ensures.within in
    let done = c.args.count - at.left in
    let all : c.args.count - (at.left - some) ≡ done + some = omega (arith, few, within) in
    let next : c.as_slice.result.now ≡ events_from (after_events x done) some =
    c.as_slice.ensures.value ∙ (c.in_ok-events.ensures.ok ∙ ap (λ (s : ℕ). events_from s some) inv.state) in
    record {
      few = omega (arith, few);
      state =
          c.after_events-state.ensures
          ∙ (ap (λ (s : ℕ). after_events s some) inv.state ∙ (sym (c.events_go_on.ensures.state x done some) ∙ ap (after_events x) (sym all)));
      counts = more_counted (λ row. TreeHolds row t) x done some (c.args.count - (at.left - some)) at.counts c.in_ok-more.more c.plus-counts.result all inv.counts
          (counts_at t t c.as_slice.result.now (events_from (after_events x done) some) c.in_ok-more.more refl next c.in_ok-more.ensures.counts)
          c.plus-counts.ensures.rule c.plus-counts.ensures.sqlite c.plus-counts.ensures.lucene;
      judges = c.in_ok-more.ensures.judges;
    }

pub returns-clause-counts : goal.returns-clause-counts
returns-clause-counts c =
    let at = c.loop-left in
    let done = c.loop-left-test.false in
    let all : c.args.count - at.left ≡ c.args.count = omega (arith, done) in
    subst (λ (n : ℕ). AreCounts (λ row. TreeHolds row (tree_view c.args.self.now.tree.now)) (events_from c.args.state n) at.counts) all at.invariant.counts
