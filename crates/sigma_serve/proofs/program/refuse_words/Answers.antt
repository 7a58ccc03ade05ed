use Rattle.std.proofs.Common.{refl}
use Rattle.sigma_serve.proofs.Running.{serves_usage, usage_unwritten, usage_memory}
use Rattle.sigma_serve.specs.Reports.{usage_diagnostic}
use Rattle.sigma_serve.proofs.program.refuse_words.Goals as goal

pub returns-in-Ok-clause-serves : goal.returns-in-Ok-clause-serves
returns-in-Ok-clause-serves g c limits unbuilt words other =
    serves_usage limits unbuilt words other (g.W.Outside.state c.args.outside.now) (g.W.Outside.state c.tell_diagnostic.new.outside) c.in-Ok.field-0 (c.in-Ok.ensures usage_diagnostic refl)

pub returns-in-Ok-clause-kept : goal.returns-in-Ok-clause-kept
returns-in-Ok-clause-kept g c = (c.tell_diagnostic.ensures usage_diagnostic refl).kept

pub returns-in-Err-Unwritten-clause-serves : goal.returns-in-Err-Unwritten-clause-serves
returns-in-Err-Unwritten-clause-serves g c limits unbuilt words other =
    let wrote = rw c.in-Err-Unwritten.field-0-is at c.in-Err-Unwritten.ensures usage_diagnostic refl in
    usage_unwritten limits unbuilt words other (g.W.Outside.state c.args.outside.now) (g.W.Outside.state c.tell_diagnostic.new.outside) wrote

pub returns-in-Err-Unwritten-clause-kept : goal.returns-in-Err-Unwritten-clause-kept
returns-in-Err-Unwritten-clause-kept g c = (c.tell_diagnostic.ensures usage_diagnostic refl).kept

pub returns-in-Err : goal.returns-in-Err
returns-in-Err g c = record {
  serves = λ limits unbuilt words other.
      usage_memory limits unbuilt words other (g.W.Outside.state c.args.outside.now) (g.W.Outside.state c.tell_diagnostic.new.outside) c.in-Err.field-0 (c.in-Err.ensures usage_diagnostic refl);
  kept = (c.tell_diagnostic.ensures usage_diagnostic refl).kept;
}
