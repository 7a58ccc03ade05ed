use Rattle.std.proofs.Common.{rules, arith, ◌≡◌, ◌<◌, ◌+◌, ◌++◌, ◌∷◌, [], ℕ, List, length, ap, sym, subst, ◌∙◌}
use Rattle.std.proofs.Math.ListN.{set}
use Rattle.std.specs.Prelude.{ℤ, get_or}
use Rattle.std.specs.List.{AllByRecursion}
use Rattle.correlation_engine.specs.Arrivals.{taken}
use Rattle.correlation_engine.specs.Steps.{IsTimely, IsGrown}
use Rattle.correlation_engine.specs.declared.watch.Watch.{Watch}
use Rattle.correlation_engine.proofs.Walking.{FirstTo, first_none, first_more, each_first, same_length, all_at, all_set, longer}
use Rattle.correlation_engine.proofs.Stepping.{grown_self, prepared_more}
use Rattle.correlation_engine.proofs.Timely.{timely_grown}
use Rattle.correlation_engine.proofs.steps.prepare_each.Goals as goal

grown_more : (n : ℕ) (xs ys : List Watch) (w new : Watch) → FirstTo IsGrown n xs ys → n < length xs → w ≡ get_or ys n w → IsGrown w new → FirstTo IsGrown (n + 1) xs (set ys n new)
grown_more n xs ys w new so lt value grown = first_more IsGrown n xs ys w new so lt (subst (λ (v : Watch). IsGrown v new) value grown)

timely_more : (t : ℤ) (n : ℕ) (ys : List Watch) (w new : Watch) → AllByRecursion (IsTimely t) ys → n < length ys → w ≡ get_or ys n w → IsGrown w new → AllByRecursion (IsTimely t) (set ys n new)
timely_more t n ys w new all lt value grown =
    all_set (IsTimely t) n ys new all (timely_grown t w new grown (subst (IsTimely t) (sym value) (all_at (IsTimely t) n ys w all lt)))

pub loop-place-init : goal.loop-place-init
loop-place-init c = (first_none IsGrown c.args.watches.now.items, c.requires.timely, search rules, search rules)

pub prepare-requires-clause-timely : goal.prepare-requires-clause-timely
prepare-requires-clause-timely c =
    let lt : c.loop-place.place < length c.args.watches.now.items = search (rules, arith, c.loop-place-test.true) in
    let len : length c.loop-place.watches.items ≡ length c.args.watches.now.items = same_length IsGrown c.loop-place.place c.args.watches.now.items c.loop-place.watches.items c.loop-place.invariant.0 in
    subst (IsTimely c.args.arrival.now.moment) (sym c.index_mut.ensures.value)
    (all_at (IsTimely c.args.arrival.now.moment) c.loop-place.place c.loop-place.watches.items c.index_mut.result.now c.loop-place.invariant.1 (omega (arith, lt, len)))

pub returns-in_err-founds-clause-grown : goal.returns-in_err-founds-clause-grown
returns-in_err-founds-clause-grown c =
    let lt : c.loop-place.place < length c.args.watches.now.items = search (rules, arith, c.loop-place-test.true) in
    each_first IsGrown (c.loop-place.place + 1) c.args.watches.now.items _ grown_self
    (grown_more c.loop-place.place c.args.watches.now.items c.loop-place.watches.items c.index_mut.result.now c.prepare.new.watch c.loop-place.invariant.0 lt c.index_mut.ensures.value c.prepare.ensures.grown)

pub returns-in_err-push-clause-grown : goal.returns-in_err-push-clause-grown
returns-in_err-push-clause-grown c =
    let lt : c.loop-place.place < length c.args.watches.now.items = search (rules, arith, c.loop-place-test.true) in
    each_first IsGrown (c.loop-place.place + 1) c.args.watches.now.items _ grown_self
    (grown_more c.loop-place.place c.args.watches.now.items c.loop-place.watches.items c.index_mut.result.now c.prepare.new.watch c.loop-place.invariant.0 lt c.index_mut.ensures.value c.prepare.ensures.grown)

pub loop-place-preserved : goal.loop-place-preserved
loop-place-preserved c =
    let lt : c.loop-place.place < length c.args.watches.now.items = search (rules, arith, c.loop-place-test.true) in
    let len : length c.loop-place.watches.items ≡ length c.args.watches.now.items = same_length IsGrown c.loop-place.place c.args.watches.now.items c.loop-place.watches.items c.loop-place.invariant.0 in
    let within : c.loop-place.place < length c.loop-place.watches.items = omega (arith, lt, len) in
    let pushed : c.push.new.self.items ≡ c.loop-place.all.items ++ c.in_ok-founds.founds ∷ [] = search rules in
    let more : length (c.loop-place.all.items ++ c.in_ok-founds.founds ∷ []) ≡ length c.loop-place.all.items + 1 = longer c.loop-place.all.items c.in_ok-founds.founds in (
      grown_more c.loop-place.place c.args.watches.now.items c.loop-place.watches.items c.index_mut.result.now c.prepare.new.watch c.loop-place.invariant.0 lt c.index_mut.ensures.value c.prepare.ensures.grown,
      timely_more c.args.arrival.now.moment c.loop-place.place c.loop-place.watches.items c.index_mut.result.now c.prepare.new.watch c.loop-place.invariant.1 within c.index_mut.ensures.value c.prepare.ensures.grown,
      prepared_more (taken c.args.arrival.now) c.loop-place.watches.items c.loop-place.place c.loop-place.all.items c.push.new.self.items c.prepare.new.watch c.in_ok-founds.founds c.loop-place.invariant.2 c.loop-place.invariant.3 within c.in_ok-founds.ensures.prepared pushed,
      ap length pushed ∙ (more ∙ ap (λ (k : ℕ). k + 1) c.loop-place.invariant.3),
    )

pub returns-clause-grown : goal.returns-clause-grown
returns-clause-grown c = each_first IsGrown c.loop-place.place c.args.watches.now.items c.loop-place.watches.items grown_self c.loop-place.invariant.0
