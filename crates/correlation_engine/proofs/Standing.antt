-- What an engine stands for.
use Rattle.std.proofs.Common.{◌≡◌, ℕ, ◌+◌, ◌-◌, ◌^◌, ◌≤◌, min, Bool, true, false, cond, List, [], ◌∷◌, ◌++◌, refl, ap, sym, subst, ◌∙◌, arith, length}
use Rattle.std.proofs.lemmas.List.{drop_more}
use Rattle.std.specs.Prelude.{ℤ, ◌<◌, Option, Some, None, if◌then◌else◌, drop, get_or}
use Rattle.std.specs.List.{AllByRecursion}
use Rattle.std.specs.Map.{lookup}
use Rattle.correlation_windows.specs.Groups.{same_group}
use Rattle.correlation_windows.specs.Heaps.{IsInTime, IsUntil}
use Rattle.correlation_windows.specs.History.{Taken, Grouped, event_matches, matches_of, last_moment}
use Rattle.correlation_windows.specs.Kept.{kept, Holds, HoldsEach, queue_of}
use Rattle.correlation_windows.specs.Laws.{IsBehind}
use Rattle.correlation_windows.specs.Queues.{Entries, held, items_of}
use Rattle.correlation_windows.specs.Reports.{reports_from, reports_after}
use Rattle.correlation_windows.specs.declared.bound.Bound.{Bound}
use Rattle.correlation_windows.proofs.Windowing.{suffices}
use Rattle.correlation_engine.specs.Engines.{plain, bounds_of, queues_of, IsNew, IsWatch, IsEngine, total_kept}
use Rattle.correlation_engine.specs.Limits.{IsWithinLimits}
use Rattle.correlation_engine.specs.Steps.{Each, IsTimely, IsGrown, IsAdvanced, reports_each}
use Rattle.correlation_engine.specs.declared.watch.Watch.{Watch}
use Rattle.correlation_engine.proofs.Timely.{fit_grown}

plain_queue : (es : Entries) (g : List (List ℕ)) → queue_of (plain es) g ≡ held es g
plain_queue [] g = refl
plain_queue (e ∷ es) g = by (same_group g e.0) (plain_queue es g)
  where
    by : (t : Bool) → queue_of (plain es) g ≡ held es g → (if t then e.1.items else queue_of (plain es) g) ≡ items_of (cond t (Some e.1) (lookup (same_group g) es))
    by true rest = refl
    by false rest = rest

holds_in : (es : Entries) (ms : List Grouped) → Holds (queue_of (plain es)) ms → Holds (held es) ms
holds_in es ms so g = sym (plain_queue es g) ∙ so g

holds_out : (es : Entries) (ms : List Grouped) → Holds (held es) ms → Holds (queue_of (plain es)) ms
holds_out es ms so g = plain_queue es g ∙ so g

-- without a match they stand for no event
pub new_holds : (ws : List Watch) → AllByRecursion IsNew ws → HoldsEach (queues_of ws) (bounds_of ws) []
new_holds [] all = tt
new_holds (w ∷ ws) all = (holds_out w.queues.entries (kept w.bound []) all.0.empty, new_holds ws all.1)

pub new_watches : (ws : List Watch) → AllByRecursion IsNew ws → AllByRecursion (IsWatch None) ws
new_watches [] all = tt
new_watches (w ∷ ws) all = (
  record { limits = all.0.limits; fit = all.0.fit; in_time = λ g. subst IsInTime (sym (all.0.empty g)) tt; until = λ t behind g. subst (IsUntil t) (sym (all.0.empty g)) tt },
  new_watches ws all.1,
)

-- growth changes nothing of it
pub grown_holds : (history : List Taken) (xs ys : List Watch) → Each IsGrown xs ys → HoldsEach (queues_of xs) (bounds_of xs) history → HoldsEach (queues_of ys) (bounds_of ys) history
grown_holds history [] [] each so = tt
grown_holds history [] (y ∷ ys) each so = absurd each
grown_holds history (x ∷ xs) [] each so = absurd each
grown_holds history (x ∷ xs) (y ∷ ys) each so = (
  holds_out y.queues.entries (kept y.bound history) (subst (λ (b : Bound). Holds (held y.queues.entries) (kept b history)) (sym each.0.bound) (λ g. each.0.same g ∙ holds_in x.queues.entries (kept x.bound history) so.0 g)),
  grown_holds history xs ys each.1 so.1,
)

pub grown_bounds : (xs ys : List Watch) → Each IsGrown xs ys → bounds_of ys ≡ bounds_of xs
grown_bounds [] [] each = refl
grown_bounds [] (y ∷ ys) each = absurd each
grown_bounds (x ∷ xs) [] each = absurd each
grown_bounds (x ∷ xs) (y ∷ ys) each = ap (λ (b : Bound). b ∷ bounds_of ys) each.0.bound ∙ ap (λ bs. x.bound ∷ bs) (grown_bounds xs ys each.1)

pub grown_watches : (last : Option ℤ) (xs ys : List Watch) → Each IsGrown xs ys → AllByRecursion (IsWatch last) xs → AllByRecursion (IsWatch last) ys
grown_watches last [] [] each all = tt
grown_watches last [] (y ∷ ys) each all = absurd each
grown_watches last (x ∷ xs) [] each all = absurd each
grown_watches last (x ∷ xs) (y ∷ ys) each all = (
  record {
    limits = subst IsWithinLimits (sym each.0.bound) all.0.limits;
    fit = fit_grown x y each.0 all.0.fit;
    in_time = λ g. subst IsInTime (sym (each.0.same g)) (all.0.in_time g);
    until = λ t behind g. subst (IsUntil t) (sym (each.0.same g)) (all.0.until t behind g);
  },
  grown_watches last xs ys each.1 all.1,
)

-- an event more
pub advanced_holds : (e : Taken) (history : List Taken) (xs ys : List Watch) → IsBehind (last_moment history) e.moment → Each (IsAdvanced e) xs ys → HoldsEach (queues_of xs) (bounds_of xs) history
    → HoldsEach (queues_of ys) (bounds_of ys) (history ++ e ∷ [])
advanced_holds e history [] [] behind each so = tt
advanced_holds e history [] (y ∷ ys) behind each so = absurd each
advanced_holds e history (x ∷ xs) [] behind each so = absurd each
advanced_holds e history (x ∷ xs) (y ∷ ys) behind each so = (
  holds_out y.queues.entries (kept y.bound (history ++ e ∷ []))
      (subst (λ (b : Bound). Holds (held y.queues.entries) (kept b (history ++ e ∷ []))) (sym each.0.bound) (each.0.holds history behind (holds_in x.queues.entries (kept x.bound history) so.0))),
  advanced_holds e history xs ys behind each.1 so.1,
)

pub advanced_bounds : (e : Taken) (xs ys : List Watch) → Each (IsAdvanced e) xs ys → bounds_of ys ≡ bounds_of xs
advanced_bounds e [] [] each = refl
advanced_bounds e [] (y ∷ ys) each = absurd each
advanced_bounds e (x ∷ xs) [] each = absurd each
advanced_bounds e (x ∷ xs) (y ∷ ys) each = ap (λ (b : Bound). b ∷ bounds_of ys) each.0.bound ∙ ap (λ bs. x.bound ∷ bs) (advanced_bounds e xs ys each.1)

pub advanced_watches : (e : Taken) (last : Option ℤ) (xs ys : List Watch) → Each (IsAdvanced e) xs ys → AllByRecursion (IsWatch last) xs → AllByRecursion (IsWatch (Some e.moment)) ys
advanced_watches e last [] [] each all = tt
advanced_watches e last [] (y ∷ ys) each all = absurd each
advanced_watches e last (x ∷ xs) [] each all = absurd each
advanced_watches e last (x ∷ xs) (y ∷ ys) each all =
    (record { limits = subst IsWithinLimits (sym each.0.bound) all.0.limits; fit = each.0.fit; in_time = each.0.in_time; until = each.0.until }, advanced_watches e last xs ys each.1 all.1)

pub last_more : (history : List Taken) (e : Taken) → last_moment (history ++ e ∷ []) ≡ Some e.moment
last_more [] e = refl
last_more (x ∷ []) e = refl
last_more (x ∷ y ∷ ys) e = last_more (y ∷ ys) e

-- the reports from the queues are those of the history
pub each_reports : (e : Taken) (history : List Taken) (n : ℕ) (ws : List Watch) → IsBehind (last_moment history) e.moment → HoldsEach (queues_of ws) (bounds_of ws) history → reports_each e n ws ≡ reports_from n (bounds_of ws) history e
each_reports e history n [] behind so = refl
each_reports e history n (w ∷ ws) behind so =
    ap (λ rs. rs ++ reports_each e (n + 1) ws) (suffices n w.bound history e (held w.queues.entries) behind (holds_in w.queues.entries (kept w.bound history) so.0))
    ∙ ap (λ rs. reports_after n w.bound (matches_of w.bound history) (event_matches w.bound e) ++ rs) (each_reports e history (n + 1) ws behind so.1)

-- each can take an event that isn't earlier
pub timely_all : (last : Option ℤ) (t : ℤ) (ws : List Watch) → IsBehind last t → AllByRecursion (IsWatch last) ws → AllByRecursion (IsTimely t) ws
timely_all last t [] behind all = tt
timely_all last t (w ∷ ws) behind all = (record { limits = all.0.limits; fit = all.0.fit; in_time = all.0.in_time; until = all.0.until t behind }, timely_all last t ws behind all.1)

pub each_length : (R : Watch → Watch → Type 0) (xs ys : List Watch) → Each R xs ys → length ys ≡ length xs
each_length R [] [] each = refl
each_length R [] (y ∷ ys) each = absurd each
each_length R (x ∷ xs) [] each = absurd each
each_length R (x ∷ xs) (y ∷ ys) each = let e : length ys ≡ length xs = each_length R xs ys each.1 in omega (arith, e)

-- a growth and then an event more
module _ (last : Option ℤ) (old mid : List Watch) (grown : Each IsGrown old mid) (engine : IsEngine last old) where
  pub engine_grown : IsEngine last mid
  engine_grown =
      let few : length old < 2 ^ 32 = engine.few in
      let len : length mid ≡ length old = each_length IsGrown old mid grown in
      record { watches = grown_watches last old mid grown engine.watches; few = omega (arith, few, len) }

  pub engine_advanced : (e : Taken) (new : List Watch) → Each (IsAdvanced e) mid new → IsEngine (Some e.moment) new
  engine_advanced e new advanced =
      let few : length mid < 2 ^ 32 = engine_grown.few in
      let len : length new ≡ length mid = each_length (IsAdvanced e) mid new advanced in
      record { watches = advanced_watches e last mid new advanced engine_grown.watches; few = omega (arith, few, len) }

-- one correlation more is counted
counted_more : (w : Watch) (ws : List Watch) (history : List Taken) (sum n next : ℕ) → sum ≤ 2 ^ 64 - 1 → HoldsEach (queues_of (w ∷ ws)) (bounds_of (w ∷ ws)) history
    → ((ms : List Grouped) → Holds (held w.queues.entries) ms → n ≡ min (length ms) (2 ^ 64 - 1)) → next ≡ min (sum + n) (2 ^ 64 - 1)
    → HoldsEach (queues_of ws) (bounds_of ws) history × (min (next + total_kept (bounds_of ws) history) (2 ^ 64 - 1) ≡ min (sum + total_kept (bounds_of (w ∷ ws)) history) (2 ^ 64 - 1))
counted_more w ws history sum n next le so counts is =
    let here : n ≡ min (length (kept w.bound history)) (2 ^ 64 - 1) = counts (kept w.bound history) (holds_in w.queues.entries (kept w.bound history) so.0) in
    (so.1, joined (length (kept w.bound history)) (total_kept (bounds_of ws) history) sum n next le here is)
  where
    joined : (k rest sum n next : ℕ) → sum ≤ 2 ^ 64 - 1 → n ≡ min k (2 ^ 64 - 1) → next ≡ min (sum + n) (2 ^ 64 - 1) → min (next + rest) (2 ^ 64 - 1) ≡ min (sum + (k + rest)) (2 ^ 64 - 1)
    joined k rest sum n next le here is = omega (arith, le, here, is)

pub count_step : (ws : List Watch) (i : ℕ) (w : Watch) (history : List Taken) (sum n next : ℕ) → i < length ws → w ≡ get_or ws i w → sum ≤ 2 ^ 64 - 1 → HoldsEach (queues_of (drop i ws)) (bounds_of (drop i ws)) history
    → ((ms : List Grouped) → Holds (held w.queues.entries) ms → n ≡ min (length ms) (2 ^ 64 - 1)) → next ≡ min (sum + n) (2 ^ 64 - 1)
    → HoldsEach (queues_of (drop (i + 1) ws)) (bounds_of (drop (i + 1) ws)) history × (min (next + total_kept (bounds_of (drop (i + 1) ws)) history) (2 ^ 64 - 1) ≡ min (sum + total_kept (bounds_of (drop i ws)) history) (2 ^ 64 - 1))
count_step ws i w history sum n next lt at le so counts is =
    let here : drop i ws ≡ w ∷ drop (i + 1) ws = drop_more ws i w lt ∙ ap (λ v. v ∷ drop (i + 1) ws) (sym at) in
    let both : HoldsEach (queues_of (drop (i + 1) ws)) (bounds_of (drop (i + 1) ws)) history × (min (next + total_kept (bounds_of (drop (i + 1) ws)) history) (2 ^ 64 - 1) ≡ min (sum + total_kept (bounds_of (w ∷ drop (i + 1) ws)) history) (2 ^ 64 - 1))
    = counted_more w (drop (i + 1) ws) history sum n next le (subst (λ (vs : List Watch). HoldsEach (queues_of vs) (bounds_of vs) history) here so) counts is in
    (both.0, both.1 ∙ ap (λ (vs : List Watch). min (sum + total_kept (bounds_of vs) history) (2 ^ 64 - 1)) (sym here))
