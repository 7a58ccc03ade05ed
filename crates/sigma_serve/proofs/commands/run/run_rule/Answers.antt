use Rattle.sigma_serve.proofs.Ran.{run_ready, run_unbuilt, run_unready}
use Rattle.sigma_serve.proofs.commands.run.run_rule.Goals as goal

pub returns-in-Ok : goal.returns-in-Ok
returns-in-Ok g c ps given bytes before front fit made =
    run_ready c.args.limits.now c.args.file.now ps given before (g.B.Builder.refused c.args.builder.now) (g.B.Builder.refused c.make.new.builder) bytes (g.W.Outside.state c.args.outside.now) (g.W.Outside.state c.answer_events.new.outside) front
    c.args.rule.now fit c.args.schema.now c.answer_events.result c.in-Ok.ensures.answers.0 made c.answer_events.ensures

pub returns-in-Err-Refused : goal.returns-in-Err-Refused
returns-in-Err-Refused g c ps given bytes before front fit made =
    let built = rw c.in-Err-Refused.field-0-is at c.in-Err-Refused.ensures.answers in
    run_unbuilt c.args.limits.now c.args.file.now ps given before (g.B.Builder.refused c.args.builder.now) (g.B.Builder.refused c.make.new.builder) bytes (g.W.Outside.state c.args.outside.now) (g.W.Outside.state c.put_refusal.new.outside) front
    c.args.rule.now fit c.verdicts.ensures.never_both c.one_verdict.ensures.list c.in-Err-Refused.cause c.put_refusal.result built c.put_refusal.ensures

pub returns-in-Err-Memory : goal.returns-in-Err-Memory
returns-in-Err-Memory g c ps given bytes before front fit made =
    let built = rw c.in-Err-Memory.field-0-is at c.in-Err-Memory.ensures.answers in
    run_unready c.args.limits.now c.args.file.now ps given before (g.B.Builder.refused c.args.builder.now) (g.B.Builder.refused c.make.new.builder) bytes (g.W.Outside.state c.args.outside.now) (g.W.Outside.state c.args.outside.now) front
    c.args.rule.now fit c.each_answer.ensures.ran built
