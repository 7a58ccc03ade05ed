use Rattle.std.proofs.Common.{rules, sym, ◌∙◌, arith}
use Rattle.correlation_engine.specs.Arrivals.{taken}
use Rattle.correlation_engine.proofs.Grouping.{matches_more, matches_end, zip_end_first, zip_end_second}
use Rattle.correlation_engine.proofs.event_matches.matches_in.Goals as goal
use Rattle.correlation_engine.proofs.event_matches.matches_in.Goals.{then-loop-place-test+else-place-groups, else-loop-place-test}

pub loop-place-preserved : goal.loop-place-preserved
loop-place-preserved c =
    matches_more c.args.bound.now.counted (taken c.args.arrival.now) c.as_slice-rules.result.now c.as_slice-groups.result.now c.loop-place.place c.loop-place.matches.items c.add_match.new.matches.items _ _ _
    c.in_ok-add_match.ensures.ok (search (rules, arith, c.loop-place-test.true)) (search (rules, arith, c.if-place-groups.true)) (search rules) (search rules) (search rules)
    ∙ c.loop-place.invariant

pub returns-clause-ok : goal.returns-clause-ok
returns-clause-ok c =
    sym (matches_end c.args.bound.now.counted (taken c.args.arrival.now) c.as_slice-rules.result.now c.as_slice-groups.result.now c.loop-place.place c.loop-place.matches.items
    (elim c.loop-place-test.branch [
      | then-loop-place-test+else-place-groups w ↦ zip_end_second c.as_slice-rules.result.now c.as_slice-groups.result.now c.loop-place.place (search (rules, arith, w.if-place-groups))
      | else-loop-place-test w ↦ zip_end_first c.as_slice-rules.result.now c.as_slice-groups.result.now c.loop-place.place (search (rules, arith, w.loop-place-test))
    ]))
    ∙ c.loop-place.invariant
