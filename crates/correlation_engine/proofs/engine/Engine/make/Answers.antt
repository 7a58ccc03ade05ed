use Rattle.std.proofs.Common.{refl}
use Rattle.correlation_engine.proofs.Standing.{new_holds}
use Rattle.correlation_engine.proofs.engine.Engine.make.Goals as goal

pub returns-clause-stands : goal.returns-clause-stands
returns-clause-stands c = (refl, new_holds c.in_ok-watches.watches.items c.in_ok-watches.ensures.empty)
