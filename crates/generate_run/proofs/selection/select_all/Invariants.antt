use Rattle.std.proofs.Common.{◌≡◌, take, length}
use Rattle.generate_run.specs.Compared.{Flags}
use Rattle.generate_run.proofs.selection.select_all.Given as goal

abbrev pub invariant-loop-event : goal.invariant-loop-event
invariant-loop-event g l =
    (g.L.Language.plain l.query ≡ g.L.Language.plain l.fn.query)
    × Flags (g.L.Language.picks (g.L.Language.plain l.fn.query)) (take l.event-index l.events) l.flags.items
