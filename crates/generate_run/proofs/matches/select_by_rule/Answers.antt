use Rattle.std.proofs.Common.{rules, refl}
use Rattle.generate_run.proofs.Turns.{turn}
use Rattle.rule_model.specs.Matching.{Matches}
use Rattle.generate_run.proofs.matches.select_by_rule.Goals as goal

pub loop-event-preserved : goal.loop-event-preserved
loop-event-preserved c = λ fields rule judges.
    let at = c.loop-event in
    let before = at.invariant fields rule judges in (
      c.matches-flag.ensures.same fields rule before.0,
      turn {Q = Unit {0}} (λ u row. Matches fields row rule) tt tt c.args.events.now at.flags.items at.event-index c.event-item.result c.matches-flag.result
          c.push.new.self.items (search rules) (search rules) c.event-item.is refl (c.matches-flag.ensures.means fields rule before.0) before.1,
    )
