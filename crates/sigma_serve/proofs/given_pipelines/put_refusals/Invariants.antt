use Rattle.std.proofs.Common.{take, Ok}
use Rattle.answer_writer.specs.Stands.{Writes}
use Rattle.sigma_serve.specs.UnderPipelines.{AreReported}
use Rattle.sigma_serve.proofs.given_pipelines.put_refusals.Given as goal

abbrev pub invariant-loop-cause : goal.invariant-loop-cause
invariant-loop-cause g l = Writes (AreReported l.name (take l.cause-index l.causes)) (Ok l.found) (g.W.Outside.state l.fn.outside) (g.W.Outside.state l.outside)
