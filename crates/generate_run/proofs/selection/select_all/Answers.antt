use Rattle.std.proofs.Common.{◌≡◌, ◌∙◌, ◌++◌, ◌∷◌, [], List, Bool, subst, sym, rules}
use Rattle.generate_run.proofs.Turns.{turn}
use Rattle.generate_run.proofs.selection.select_all.Goals as goal

pub loop-event-preserved : goal.loop-event-preserved
loop-event-preserved g c =
    let at = c.loop-event in (
      c.selects.ensures.same ∙ at.invariant.0,
      turn g.L.Language.picks (g.L.Language.plain at.query) (g.L.Language.plain c.args.query.now) c.args.events.now at.flags.items at.event-index c.event-item.result c.in_ok-selects.field-0
          c.push.new.self.items (search rules) (search rules) c.event-item.is at.invariant.0 c.in_ok-selects.ensures.picks at.invariant.1,
    )
