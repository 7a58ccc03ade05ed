-- What asking a query gave, if there was memory to ask it.
use Rattle.std.specs.Prelude.{Bool, Result, Ok, Err}
use Rattle.answer_writer.specs.declared.stop.Stop.{Stop}
use Rattle.answer_writer.specs.declared.stop.Stop.TheVariants.{Memory}
use Rattle.sig_base.specs.declared.refusal.Fault.{Fault}

abbrev pub flat : Result (Result Bool Stop) Fault → Result Bool Stop
flat (Ok answer) = answer
flat (Err e) = Err Memory
