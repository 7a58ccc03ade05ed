use Rattle.std.specs.Prelude.{None, true, false}
use Rattle.rule_regex.specs.Unbuilt.{of_values}
use Rattle.rule_run.specs.Answers.{ForValues, IsBare}
use Rattle.rule_run.specs.Runs.{IsFit}
use Rattle.sigma_serve.proofs.Ran.{run_unfit, run_memory, values_alone, values_follow}
use Rattle.sigma_serve.proofs.commands.run.run_alone.Goals as goal

pub returns-in-Ok : goal.returns-in-Ok
returns-in-Ok g c front =
    let found = c.in-Ok.ensures in
    let fit : ForValues c.args.limits.now c.args.bytes.now (g.B.Builder.refused c.args.builder.now) (g.B.Builder.refused c.rule_alone.new.builder) true
    (λ values. IsBare (IsFit values c.args.limits.now c.args.pipelines.now None c.args.bytes.now) c.in-Ok.found.rule) =
    record { values = found.values; refused = found.refused; follows = found.follows; are = found.are; says = found.says.0 } in
    c.run_rule.ensures c.args.pipelines.now None c.args.bytes.now (g.B.Builder.refused c.args.builder.now) front fit found.says.1

pub returns-in-Err-Refused : goal.returns-in-Err-Refused
returns-in-Err-Refused g c front =
    let found = rw c.in-Err-Refused.field-0-is at c.in-Err-Refused.ensures in
    let before = g.B.Builder.refused c.args.builder.now in
    let after = g.B.Builder.refused c.rule_alone.new.builder in
    run_unfit c.args.limits.now c.args.file.now c.args.pipelines.now None before after after c.args.bytes.now (g.W.Outside.state c.args.outside.now) (g.W.Outside.state c.put_refusal.new.outside) front
    c.in-Err-Refused.cause c.put_refusal.result found c.put_refusal.ensures

pub returns-in-Err-Memory : goal.returns-in-Err-Memory
returns-in-Err-Memory g c front =
    let found = rw c.in-Err-Memory.field-0-is at c.in-Err-Memory.ensures in
    let before = g.B.Builder.refused c.args.builder.now in
    let after = g.B.Builder.refused c.rule_alone.new.builder in
    run_memory c.args.limits.now c.args.file.now c.args.pipelines.now None c.each_answer.ensures.ran before after c.args.bytes.now (g.W.Outside.state c.args.outside.now) front (of_values found.values found.refused)
    (values_follow c.args.limits.now c.args.file.now c.args.pipelines.now None before after found.values found.refused found.follows) false (values_alone c.args.limits.now c.args.pipelines.now c.args.bytes.now false found.values found.refused found.are)
