use Rattle.std.proofs.Common.{◌≡◌, ◌∷◌, ap, length, arith}
use Rattle.std.specs.Vec.Iter.{into_iter_items}
use Rattle.query_tokens.specs.Tokens.{sorts, places}
use Rattle.sql_scan.specs.View.{tokens_view}
use Rattle.sql_read.proofs.Wholes.{sorts_go, places_go, sorts_end, places_end}
use Rattle.sql_read.proofs.Going.{all_left}
use Rattle.sql_read.proofs.select.part.Goals as goal

pub loop-token-preserved : goal.loop-token-preserved
loop-token-preserved c =
    let at = c.loop-token in
    let whole = into_iter_items c.into_iter-token-iterator.result in
    let steps : into_iter_items at.token-iterator ≡ c.in-Some.token ∷ into_iter_items c.next.new.self = c.in-Some.ensures.steps.0 in
    record {
      kept = sorts_go at.sorts.items c.push_back.new.self.items (into_iter_items at.token-iterator) (into_iter_items c.next.new.self) c.in-Some.token (sorts (tokens_view whole)) at.invariant.kept steps
          c.in_ok-push_back.ensures.items;
      placed = places_go at.places.items c.push.new.self.items (into_iter_items at.token-iterator) (into_iter_items c.next.new.self) c.in-Some.token (places (tokens_view whole)) at.invariant.placed steps
          c.in_ok-push.ensures.items;
      left = let was = at.invariant.left in let gone = c.in-Some.ensures.steps.1 in let short = ap length steps in omega arith;
    }

pub returns-clause-sorts : goal.returns-clause-sorts
returns-clause-sorts c =
    let at = c.loop-token in
    sorts_end at.sorts.items (into_iter_items at.token-iterator) (into_iter_items c.into_iter-token-iterator.result) c.args.all.items at.invariant.kept
    (all_left (into_iter_items at.token-iterator) _ c.in-None.ensures.steps.0 at.invariant.left) c.into_iter-token-iterator.ensures.into_iter_gives.0

pub returns-clause-places : goal.returns-clause-places
returns-clause-places c =
    let at = c.loop-token in
    places_end at.places.items (into_iter_items at.token-iterator) (into_iter_items c.into_iter-token-iterator.result) c.args.all.items at.invariant.placed
    (all_left (into_iter_items at.token-iterator) _ c.in-None.ensures.steps.0 at.invariant.left) c.into_iter-token-iterator.ensures.into_iter_gives.0
