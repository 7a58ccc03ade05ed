use Rattle.std.proofs.Common.{take, Ok, true, false}
use Rattle.answer_writer.specs.Stands.{Ends}
use Rattle.sigma_serve.proofs.Filed.{Files}
use Rattle.sigma_serve.proofs.files.answer_files.Given as goal

abbrev pub invariant-loop-name : goal.invariant-loop-name
invariant-loop-name g l =
    Ends (record { names = l.names; events = false })
    (Files (g.T.TreeCommand.gives l.command l.limits) l.limits (g.T.TreeCommand.pipelines l.command) (g.B.Builder.refused l.fn.builder) (g.B.Builder.refused l.builder) true (take l.name-index l.names)) (Ok l.found)
    (g.W.Outside.state l.fn.outside) (g.W.Outside.state l.outside)
