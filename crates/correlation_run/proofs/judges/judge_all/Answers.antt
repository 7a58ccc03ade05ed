use Rattle.std.proofs.Common.{rules, arith, ◌↔◌, ◌<◌, ◌≤◌, IsTrue, length, ◌∙◌}
use Rattle.correlation_run.proofs.Judged.{set_next, set_many, set_long, hits_all}
use Rattle.detection_eval.specs.Ready.{JudgesFor}
use Rattle.rule_model.specs.Matching.{Matches}
use Rattle.correlation_run.proofs.judges.judge_all.Goals as goal

pub loop-number-preserved : goal.loop-number-preserved
loop-number-preserved c =
    let within : c.loop-number.number < length c.loop-number.judges.items = search (rules, arith, c.loop-number-test.true, c.loop-number.invariant.2) in
    let row = c.args.event.now.values in (
      (λ fields rules are.
          let before = c.loop-number.invariant.0 fields rules are in
          set_next (λ rule judge. JudgesFor fields rule judge) (λ rule hit. IsTrue hit ↔ Matches fields row rule) c.index_mut.result.now c.matches.new.self c.matches.result
          (λ rule judges. (c.matches.ensures.same fields rule judges, c.matches.ensures.means fields rule judges))
          rules c.loop-number.judges.items c.loop-number.hits c.loop-number.number before.0 c.loop-number.invariant.1 within c.index_mut.ensures.value before.1),
      set_many c.loop-number.hits c.loop-number.judges.items c.loop-number.number c.matches.result c.matches.new.self c.loop-number.invariant.1,
      set_long c.loop-number.judges.items c.loop-number.number c.matches.new.self ∙ c.loop-number.invariant.2,
      set_long c.loop-number.hits c.loop-number.number c.matches.result ∙ c.loop-number.invariant.3,
    )

pub returns-clause-hits : goal.returns-clause-hits
returns-clause-hits c = λ fields rules are.
    let end : length c.loop-number.judges.items ≤ c.loop-number.number = search (rules, arith, c.loop-number-test.false, c.loop-number.invariant.2) in
    let before = c.loop-number.invariant.0 fields rules are in
    hits_all (λ rule judge. JudgesFor fields rule judge) (λ rule hit. IsTrue hit ↔ Matches fields c.args.event.now.values rule) rules c.loop-number.judges.items c.loop-number.hits c.loop-number.number
    before.0 c.loop-number.invariant.1 end before.1
