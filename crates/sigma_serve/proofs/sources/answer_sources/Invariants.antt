use Rattle.std.proofs.Common.{take, Ok, true, false}
use Rattle.answer_writer.specs.Stands.{Ends}
use Rattle.sigma_serve.proofs.Sourced.{Sources}
use Rattle.sigma_serve.specs.Sourced.{GrowsBy, IsFound}
use Rattle.sigma_serve.proofs.sources.answer_sources.Given as goal

abbrev pub invariant-loop-name : goal.invariant-loop-name
invariant-loop-name g l =
    Ends (record { names = l.names; events = false })
    (Sources l.limits l.pipelines l.schema (g.B.Builder.refused l.fn.builder) (g.B.Builder.refused l.builder) true (take l.name-index l.names) (λ fs. GrowsBy l.schema fs l.fn.found l.found)) (Ok l.refused)
    (g.W.Outside.state l.fn.outside) (g.W.Outside.state l.outside)
    × (IsFound l.schema l.fn.found → IsFound l.schema l.found)
