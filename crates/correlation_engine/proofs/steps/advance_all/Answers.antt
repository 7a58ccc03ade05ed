use Rattle.std.proofs.Common.{rules, arith, ◌≡◌, ◌<◌, ◌≤◌, ◌+◌, ◌∷◌, ℕ, List, length, refl, ap, sym, subst, ◌∙◌}
use Rattle.std.specs.Prelude.{get_or}
use Rattle.std.specs.Vec.{vec_len, vec_capacity}
use Rattle.std.specs.Vec.Iter.{into_iter_items}
use Rattle.std.specs.declared.alloc.Global.{Global}
use Rattle.std.specs.declared.vec.Vec.{Vec}
use Rattle.correlation_windows.specs.declared.found.Found.{Found}
use Rattle.correlation_engine.specs.Arrivals.{taken}
use Rattle.correlation_engine.specs.Steps.{IsTimely, IsPrepared, ArePrepared, IsAdvanced, reports_each, total_founds}
use Rattle.correlation_engine.specs.declared.watch.Watch.{Watch}
use Rattle.correlation_engine.proofs.Walking.{first_none, first_more, each_all, same_at, same_length, all_at}
use Rattle.correlation_engine.proofs.Stepping.{prepared_at, founds_first, founds_rest, each_reported, all_reported}
use Rattle.correlation_engine.proofs.steps.advance_all.Goals as goal

one_at_least : (n k : ℕ) (f : Vec Found Global) (before rest : List (Vec Found Global)) → before ≡ f ∷ rest → n + length before ≡ k → n < k
one_at_least n k f before rest e len = let same : length before ≡ length (f ∷ rest) = ap length e in
    let one : length (f ∷ rest) ≡ length rest + 1 = omega arith in omega (arith, same, one, len)

one_fewer : (n k : ℕ) (f : Vec Found Global) (before rest : List (Vec Found Global)) → before ≡ f ∷ rest → n + length before ≡ k → n + 1 + length rest ≡ k
one_fewer n k f before rest e len = let same : length before ≡ length (f ∷ rest) = ap length e in
    let one : length (f ∷ rest) ≡ length rest + 1 = omega arith in omega (arith, same, one, len)

none_more : (n k : ℕ) (rest : List (Vec Found Global)) → length rest ≡ 0 → n + length rest ≡ k → k ≤ n
none_more n k rest none len = omega (arith, none, len)

pub loop-founds-init : goal.loop-founds-init
loop-founds-init c =
    let given : into_iter_items c.into_iter-founds-iterator.result ≡ c.args.all.items = search rules in
    let len : length (into_iter_items c.into_iter-founds-iterator.result) ≡ length c.args.watches.now.items = ap length given ∙ c.requires.each in
    (tt, tt, first_none (IsAdvanced (taken c.args.arrival.now)) c.args.watches.now.items, subst (ArePrepared (taken c.args.arrival.now) c.args.watches.now.items) (sym given) c.requires.prepared, omega (arith, len), subst (λ (fs : List (Vec Found Global)). vec_len c.args.reports.now + total_founds fs ≤ vec_capacity c.args.reports.now) (sym given) c.requires.room, refl)

pub index_mut-requires : goal.index_mut-requires
index_mut-requires c =
    let lt : c.loop-founds.place < length c.args.watches.now.items = one_at_least c.loop-founds.place (length c.args.watches.now.items) c.in-Some.founds (into_iter_items c.loop-founds.founds-iterator) (into_iter_items c.next.new.self) c.in-Some.ensures.steps.0 c.loop-founds.invariant.4 in
    let same : length c.loop-founds.watches.items ≡ length c.args.watches.now.items = same_length (IsAdvanced (taken c.args.arrival.now)) c.loop-founds.place c.args.watches.now.items c.loop-founds.watches.items c.loop-founds.invariant.2 in
    let len : vec_len c.loop-founds.watches ≡ length c.loop-founds.watches.items = c.loop-founds.watches.ok.0 in
    omega (arith, lt, same, len)

pub advance-requires-clause-timely : goal.advance-requires-clause-timely
advance-requires-clause-timely c =
    let lt : c.loop-founds.place < length c.args.watches.now.items = one_at_least c.loop-founds.place (length c.args.watches.now.items) c.in-Some.founds (into_iter_items c.loop-founds.founds-iterator) (into_iter_items c.next.new.self) c.in-Some.ensures.steps.0 c.loop-founds.invariant.4 in
    let at : c.index_mut.result.now ≡ get_or c.args.watches.now.items c.loop-founds.place c.index_mut.result.now = c.index_mut.ensures.value ∙ same_at (IsAdvanced (taken c.args.arrival.now)) c.loop-founds.place c.args.watches.now.items c.loop-founds.watches.items c.index_mut.result.now c.loop-founds.invariant.2 in
    subst (IsTimely c.args.arrival.now.moment) (sym at) (all_at (IsTimely c.args.arrival.now.moment) c.loop-founds.place c.args.watches.now.items c.index_mut.result.now c.requires.timely lt)

pub advance-requires-clause-prepared : goal.advance-requires-clause-prepared
advance-requires-clause-prepared c =
    let lt : c.loop-founds.place < length c.args.watches.now.items = one_at_least c.loop-founds.place (length c.args.watches.now.items) c.in-Some.founds (into_iter_items c.loop-founds.founds-iterator) (into_iter_items c.next.new.self) c.in-Some.ensures.steps.0 c.loop-founds.invariant.4 in
    let at : c.index_mut.result.now ≡ get_or c.args.watches.now.items c.loop-founds.place c.index_mut.result.now = c.index_mut.ensures.value ∙ same_at (IsAdvanced (taken c.args.arrival.now)) c.loop-founds.place c.args.watches.now.items c.loop-founds.watches.items c.index_mut.result.now c.loop-founds.invariant.2 in
    subst (λ (w : Watch). IsPrepared (taken c.args.arrival.now) w c.in-Some.founds.items) (sym at)
    (prepared_at (taken c.args.arrival.now) c.loop-founds.place c.args.watches.now.items c.index_mut.result.now c.in-Some.founds (into_iter_items c.loop-founds.founds-iterator) (into_iter_items c.next.new.self) lt c.in-Some.ensures.steps.0 c.loop-founds.invariant.3).0

pub loop-founds-preserved : goal.loop-founds-preserved
loop-founds-preserved c =
    let lt : c.loop-founds.place < length c.args.watches.now.items = one_at_least c.loop-founds.place (length c.args.watches.now.items) c.in-Some.founds (into_iter_items c.loop-founds.founds-iterator) (into_iter_items c.next.new.self) c.in-Some.ensures.steps.0 c.loop-founds.invariant.4 in (
      tt,
      tt,
      first_more (IsAdvanced (taken c.args.arrival.now)) c.loop-founds.place c.args.watches.now.items c.loop-founds.watches.items c.index_mut.result.now c.advance.new.watch c.loop-founds.invariant.2 lt
          (subst (λ (w : Watch). IsAdvanced (taken c.args.arrival.now) w c.advance.new.watch) c.index_mut.ensures.value c.advance.ensures.advanced),
      (prepared_at (taken c.args.arrival.now) c.loop-founds.place c.args.watches.now.items c.index_mut.result.now c.in-Some.founds (into_iter_items c.loop-founds.founds-iterator) (into_iter_items c.next.new.self) lt c.in-Some.ensures.steps.0 c.loop-founds.invariant.3).1,
      one_fewer c.loop-founds.place (length c.args.watches.now.items) c.in-Some.founds (into_iter_items c.loop-founds.founds-iterator) (into_iter_items c.next.new.self) c.in-Some.ensures.steps.0 c.loop-founds.invariant.4,
      founds_rest c.in-Some.founds (into_iter_items c.loop-founds.founds-iterator) (into_iter_items c.next.new.self) (vec_len c.loop-founds.reports) (vec_len c.advance.new.reports) (vec_capacity c.loop-founds.reports) (vec_capacity c.advance.new.reports)
          c.in-Some.ensures.steps.0 c.loop-founds.invariant.5 c.advance.ensures.few c.advance.ensures.capacity,
      each_reported (taken c.args.arrival.now) c.args.watches.now.items c.loop-founds.place c.index_mut.result.now _ c.loop-founds.reports.items c.advance.new.reports.items lt
          (c.index_mut.ensures.value ∙ same_at (IsAdvanced (taken c.args.arrival.now)) c.loop-founds.place c.args.watches.now.items c.loop-founds.watches.items c.index_mut.result.now c.loop-founds.invariant.2) (search (rules, arith, lt, c.requires.few)) c.advance.ensures.reports
          ∙ c.loop-founds.invariant.6,
    )

pub advance-requires-clause-room : goal.advance-requires-clause-room
advance-requires-clause-room c = founds_first c.in-Some.founds (into_iter_items c.loop-founds.founds-iterator) (into_iter_items c.next.new.self) (vec_len c.loop-founds.reports) (vec_capacity c.loop-founds.reports) c.in-Some.ensures.steps.0 c.loop-founds.invariant.5

pub returns-clause-advanced : goal.returns-clause-advanced
returns-clause-advanced c =
    each_all (IsAdvanced (taken c.args.arrival.now)) c.loop-founds.place c.args.watches.now.items c.loop-founds.watches.items
    (none_more c.loop-founds.place (length c.args.watches.now.items) (into_iter_items c.loop-founds.founds-iterator) (sym c.loop-founds.founds-iterator.rest.ok.0 ∙ c.in-None.ensures.steps.0) c.loop-founds.invariant.4) c.loop-founds.invariant.2

pub returns-clause-reports : goal.returns-clause-reports
returns-clause-reports c =
    all_reported (taken c.args.arrival.now) c.args.watches.now.items c.loop-founds.place c.loop-founds.reports.items c.args.reports.now.items (reports_each (taken c.args.arrival.now) 0 c.args.watches.now.items)
    (none_more c.loop-founds.place (length c.args.watches.now.items) (into_iter_items c.loop-founds.founds-iterator) (sym c.loop-founds.founds-iterator.rest.ok.0 ∙ c.in-None.ensures.steps.0) c.loop-founds.invariant.4) c.loop-founds.invariant.6
