use Rattle.std.proofs.Common.{sym, subst, Ok, false}
use Rattle.answer_writer.proofs.Wrote.{writes_nothing}
use Rattle.answer_writer.specs.EventLines.{StepGives}
use Rattle.answer_writer.specs.Stands.{Writes}
use Rattle.sig_base.specs.declared.faults.LineStep.{LineStep}
use Rattle.answer_writer.proofs.events.answer_step.Goals as goal

pub returns-in-End-clause-writes : goal.returns-in-End-clause-writes
returns-in-End-clause-writes g c =
    let s = g.W.Outside.state c.args.outside.now in
    subst (λ (step : LineStep). Writes (StepGives (g.C.LineCommand.gives c.args.command.now) step) (Ok false) s s) (sym c.in-End.is) (writes_nothing s)
